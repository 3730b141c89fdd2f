-- One byte more of a text, and the lines that are counted.
use Rattle.std.proofs.Common.{◌≡◌, ℕ, ◌+◌, ◌<◌, min, Bool, true, false, cond, eqb, List, [], ◌∷◌, ◌++◌, length, codes, take, get_or, append_assoc, subst, zero, suc, refl, sym, ap, ◌∙◌, arith}
use Rattle.std.proofs.lemmas.List.Sums.{sum_by_push}
use Rattle.std.proofs.lemmas.List.{take-take, take_more}
use Rattle.std.specs.Cmp.Lexicographic.{pointwise}
use Rattle.std.specs.List.{count_by}
use Rattle.sand_base.specs.Faults.{last_count}
use Rattle.script_lines.specs.Lines.{cut, onto}
use Rattle.work_gen.specs.RefusedLines.{begins_refused}
use Rattle.work_gen.specs.Tally.{TallyState, HasCounted, after_byte}

-- a byte in front of a cut text, where it is a line feed or not
abbrev in_front : Bool → ℕ → List (List ℕ) → List ℕ → List (List ℕ) × List ℕ
in_front feed b lines piece = cond feed ([] ∷ lines, piece) (onto b lines piece)

-- a byte behind one
abbrev behind : Bool → ℕ → List (List ℕ) → List ℕ → List (List ℕ) × List ℕ
behind feed b lines piece = cond feed (lines ++ piece ∷ [], []) (lines, piece ++ b ∷ [])

-- it makes no difference which of two bytes comes first
front-behind : (f g : Bool) (c b : ℕ) (lines : List (List ℕ)) (piece : List ℕ)
    → in_front f c (behind g b lines piece).0 (behind g b lines piece).1
    ≡ behind g b (in_front f c lines piece).0 (in_front f c lines piece).1
front-behind true true c b lines piece = refl
front-behind true false c b lines piece = refl
front-behind false true c b [] piece = refl
front-behind false true c b (line ∷ lines) piece = refl
front-behind false false c b [] piece = refl
front-behind false false c b (line ∷ lines) piece = refl

-- the lines of a text with one byte more
pub cut-byte : (text : List ℕ) (b : ℕ) → cut (text ++ b ∷ []) ≡ behind (eqb b 10) b (cut text).0 (cut text).1
cut-byte [] b = refl
cut-byte (c ∷ text) b =
    ap (λ (w : List (List ℕ) × List ℕ). in_front (eqb c 10) c w.0 w.1) (cut-byte text b) ∙ front-behind (eqb c 10) (eqb b 10) c b (cut text).0 (cut text).1

-- whether a line begins so is seen by its first seven bytes
begins_refused-take : (line : List ℕ) → begins_refused (take 7 line) ≡ begins_refused line
begins_refused-take line = ap (λ (front : List ℕ). pointwise eqb (codes "refused") front) (take-take 7 7 line (omega arith))

-- one line more
count-line : (lines : List (List ℕ)) (line : List ℕ) → count_by begins_refused (lines ++ line ∷ []) ≡ count_by begins_refused lines + cond (begins_refused line) 1 0
count-line lines line = sum_by_push (λ (l : List ℕ). cond (begins_refused l) 1 0) lines line

-- the first bytes of a line with one byte more
front-byte : (n : ℕ) (line : List ℕ) (b : ℕ) → take n (take n line ++ b ∷ []) ≡ take n (line ++ b ∷ [])
front-byte zero line b = refl
front-byte (suc n) [] b = refl
front-byte (suc n) (c ∷ line) b = ap (λ (t : List ℕ). c ∷ t) (front-byte n line b)

-- the tally after a byte, by whether it is a line feed
abbrev after : Bool → TallyState → ℕ → TallyState
after feed tally b = cond feed
    (record { refused = min (tally.refused + cond (begins_refused tally.begun) 1 0) last_count; begun = [] })
    (record tally { begun = take 7 (tally.begun ++ b ∷ []) })

-- the count of the lines of the text with one byte more
refused-after : (feed : Bool) (tally : TallyState) (b : ℕ) (lines : List (List ℕ)) (piece : List ℕ)
    → tally.refused ≡ min (count_by begins_refused lines) last_count → tally.begun ≡ take 7 piece
    → (after feed tally b).refused ≡ min (count_by begins_refused (behind feed b lines piece).0) last_count
refused-after true tally b lines piece refused begun =
    let same : begins_refused tally.begun ≡ begins_refused piece = ap begins_refused begun ∙ begins_refused-take piece in
    let one_more = count-line lines piece in
    let counted : min (tally.refused + cond (begins_refused piece) 1 0) last_count ≡ min (count_by begins_refused lines + cond (begins_refused piece) 1 0) last_count = omega arith in
    ap (λ (t : Bool). min (tally.refused + cond t 1 0) last_count) same ∙ counted ∙ ap (λ (n : ℕ). min n last_count) (sym one_more)
refused-after false tally b lines piece refused begun = refused

-- the line that isn't ended
begun-after : (feed : Bool) (tally : TallyState) (b : ℕ) (lines : List (List ℕ)) (piece : List ℕ) → tally.begun ≡ take 7 piece
    → (after feed tally b).begun ≡ take 7 (behind feed b lines piece).1
begun-after true tally b lines piece begun = refl
begun-after false tally b lines piece begun = ap (λ (t : List ℕ). take 7 (t ++ b ∷ [])) begun ∙ front-byte 7 piece b

-- one byte more
pub HasCounted-byte : (old new : TallyState) (text : List ℕ) (b : ℕ) → new ≡ after_byte old b → HasCounted old text → HasCounted new (text ++ b ∷ [])
HasCounted-byte old new text b step h = record {
  refused =
      ap (λ (t : TallyState). t.refused) step ∙ refused-after (eqb b 10) old b (cut text).0 (cut text).1 h.refused h.begun
      ∙ ap (λ (w : List (List ℕ) × List ℕ). min (count_by begins_refused w.0) last_count) (sym (cut-byte text b));
  begun =
      ap (λ (t : TallyState). t.begun) step ∙ begun-after (eqb b 10) old b (cut text).0 (cut text).1 h.begun
      ∙ ap (λ (w : List (List ℕ) × List ℕ). take 7 w.1) (sym (cut-byte text b));
}

-- the next byte of a piece
pub HasCounted-more : (old new : TallyState) (text piece : List ℕ) (i : ℕ) → i < length piece → new ≡ after_byte old (get_or piece i 0)
    → HasCounted old (text ++ take i piece) → HasCounted new (text ++ take (i + 1) piece)
HasCounted-more old new text piece i h step so_far =
    let same : (text ++ take i piece) ++ get_or piece i 0 ∷ [] ≡ text ++ take (i + 1) piece =
    append_assoc text (take i piece) (get_or piece i 0 ∷ []) ∙ ap (λ (t : List ℕ). text ++ t) (sym (take_more piece i 0 h)) in
    subst (HasCounted new) same (HasCounted-byte old new (text ++ take i piece) (get_or piece i 0) step so_far)
