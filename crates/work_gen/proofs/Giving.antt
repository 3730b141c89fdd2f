-- What a read gives of the line in hand and the lines after it.
use Rattle.std.proofs.Common.{◌≡◌, ℕ, ◌<◌, min, List, [], ◌++◌, length, take, drop, sym, ap, ◌∙◌, arith, append_assoc, take-append-drop}
use Rattle.std.proofs.lemmas.List.{nil_from_length}

-- the bytes given come first
pub given_first : (n : ℕ) (given line left rest all : List ℕ) → take n given ≡ take n line → left ≡ drop n line → line ++ rest ≡ all
    → all ≡ take n given ++ (left ++ rest)
given_first n given line left rest all same behind whole =
    sym whole ∙ ap (λ (t : List ℕ). t ++ rest) (sym (take-append-drop n line)) ∙ append_assoc (take n line) (drop n line) rest
    ∙ ap (λ (t : List ℕ). t ++ (drop n line ++ rest)) (sym same) ∙ ap (λ (t : List ℕ). take n given ++ (t ++ rest)) (sym behind)

-- where none was given although there is room, none was left
pub given_none : (n room : ℕ) (line left rest : List ℕ) → n ≡ min room (length line) → left ≡ drop n line → (line ≡ [] → rest ≡ []) → n ≡ 0 → 0 < room
    → left ++ rest ≡ []
given_none n room line left rest count behind end none some =
    let empty : line ≡ [] = nil_from_length line (omega arith) in
    ap (λ (t : List ℕ). t ++ rest) (behind ∙ ap (λ (k : ℕ). drop k line) none ∙ empty) ∙ end empty
