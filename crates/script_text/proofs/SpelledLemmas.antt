-- A piece that is spelled, where it ends, is the next one.
use Rattle.std.proofs.Common.{◌≡◌, ℕ, suc, ◌+◌, ◌≤◌, Bool, true, false, cond, eqb, ltb, leb, List, [], ◌∷◌, ◌++◌, length, take, drop, Some, refl, sym, ap, ◌∙◌, arith}
use Rattle.std.proofs.Math.Numerals.{one-add}
use Rattle.std.proofs.Math.Seq.{take-append_seam, drop-append_seam}
use Rattle.std.proofs.lemmas.List.{drop-drop}
use Rattle.std.proofs.lemmas.Bool.{and_parts, cond-true, cond-false, le-leb, false≢true}
use Rattle.std.proofs.lemmas.Bool.Decides.{nat_tests}
use Rattle.std.specs.Char.{is_ascii_digit}
use Rattle.std.specs.List.{prefix_len, list_all}
use Rattle.script_text.specs.declared.TheConstants.{LONGEST_NAME}
use Rattle.script_text.specs.Lexical.{is_blank}
use Rattle.script_text.specs.Lexing.{Cut, first_cut, name_cut, number_cut, text_cut, begins_number, put, lex}
use Rattle.script_text.specs.Name.{starts_name, continues_name, IsName}
use Rattle.script_text.specs.Text.{IsTextInside, begins_quote}
use Rattle.script_text.specs.Token.{name, number, text, is_number, is_digits}
use Rattle.script_text.proofs.LexLemmas.{lex-cut}
use Rattle.script_text.proofs.TextRuns.{text-front}

-- a run of bytes that pass a test ends before bytes of which the first doesn't
run-seam : (p : ℕ → Bool) (xs more : List ℕ) → list_all p xs ≡ true → prefix_len p more ≡ 0 → prefix_len p (xs ++ more) ≡ length xs
run-seam p [] more h ends = ends
run-seam p (x ∷ xs) more h ends =
    let two = and_parts (p x) (list_all p xs) h in
    cond-true (p x) (1 + prefix_len p (xs ++ more)) 0 two.0 ∙ one-add (prefix_len p (xs ++ more)) ∙ ap suc (run-seam p xs more two.1 ends)

-- the front of this length
take-seam : (b : ℕ) (bytes more : List ℕ) → take (1 + length bytes) (b ∷ (bytes ++ more)) ≡ b ∷ bytes
take-seam b bytes more = rw one-add (ap (λ xs. b ∷ xs) (take-append_seam bytes more))

-- and what follows it
drop-seam : (b : ℕ) (bytes more : List ℕ) → drop (1 + length bytes) (b ∷ (bytes ++ more)) ≡ more
drop-seam b bytes more = rw one-add (drop-append_seam bytes more)

-- what begins a name is no blank
not_blank-name : (b : ℕ) → starts_name b ≡ true → is_blank b ≡ false
not_blank-name b h = grind (arith, nat_tests)

-- a name that is spelled, where it ends, is cut
pub first_cut-name : (b : ℕ) (bytes more : List ℕ) → IsName (b ∷ bytes) → prefix_len continues_name more ≡ 0
    → first_cut (b ∷ (bytes ++ more)) ≡ Some (record { piece = name (b ∷ bytes); len = 1 + length bytes })
first_cut-name b bytes more h ends =
    let two = and_parts (starts_name b) (list_all continues_name bytes) h.spelled in
    let short : 1 + length bytes ≤ LONGEST_NAME = omega (arith, h.short) in
    cond-true (starts_name b) _ _ two.0
    ∙ ap (λ n. name_cut (1 + n) (b ∷ (bytes ++ more))) (run-seam continues_name bytes more two.1 ends)
    ∙ cond-true (leb (1 + length bytes) LONGEST_NAME) _ _ (le-leb _ _ short)
    ∙ ap (λ xs. Some (record { piece = name xs; len = 1 + length bytes })) (take-seam b bytes more)

-- and is the next piece
pub lex-name : (bytes more : List ℕ) → IsName bytes → prefix_len continues_name more ≡ 0
    → lex (bytes ++ more) ≡ put (record { piece = name bytes; room = length (bytes ++ more) }) (lex more)
lex-name [] more h ends = absurd (false≢true h.spelled)
lex-name (b ∷ bytes) more h ends =
    let two = and_parts (starts_name b) (list_all continues_name bytes) h.spelled in
    let cut : Cut = record { piece = name (b ∷ bytes); len = 1 + length bytes } in
    lex-cut b (bytes ++ more) cut (not_blank-name b two.0) (first_cut-name b bytes more h ends) (omega arith)
    ∙ ap (λ xs. put (record { piece = name (b ∷ bytes); room = length (b ∷ (bytes ++ more)) }) (lex xs)) (drop-seam b bytes more)

-- what a number is made of
pub record IsNumberSplit (b : ℕ) (bytes : List ℕ) : Type 0 where
  pub digits : list_all is_ascii_digit bytes ≡ true
  pub begins : begins_number b (length bytes) ≡ true
  pub no_name : starts_name b ≡ false
  pub no_blank : is_blank b ≡ false

-- a number is made of these
pub number-split : (b : ℕ) (bytes : List ℕ) → is_number (b ∷ bytes) ≡ true → IsNumberSplit b bytes
number-split b bytes h =
    let go : (t : Bool) → eqb b 45 ≡ t → cond t (is_digits bytes) (is_digits (b ∷ bytes)) ≡ true → IsNumberSplit b bytes =
    elim [
      | true ↦ λ m d.
          let two = and_parts (ltb 0 (length bytes)) (list_all is_ascii_digit bytes) d in
          record { digits = two.1; begins = grind (arith, nat_tests); no_name = grind (arith, nat_tests); no_blank = grind (arith, nat_tests) }
      | false ↦ λ m d.
          let two = and_parts (ltb 0 (length (b ∷ bytes))) (list_all is_ascii_digit (b ∷ bytes)) d in
          let digit = and_parts (is_ascii_digit b) (list_all is_ascii_digit bytes) two.1 in
          record { digits = digit.1; begins = grind (arith, nat_tests); no_name = grind (arith, nat_tests); no_blank = grind (arith, nat_tests) }
    ] in
    go _ refl h

-- a number that is spelled, where it ends, is cut
pub first_cut-number : (b : ℕ) (bytes more : List ℕ) → is_number (b ∷ bytes) ≡ true → prefix_len is_ascii_digit more ≡ 0
    → first_cut (b ∷ (bytes ++ more)) ≡ Some (record { piece = number (b ∷ bytes); len = 1 + length bytes })
first_cut-number b bytes more h ends =
    let split = number-split b bytes h in
    let run = run-seam is_ascii_digit bytes more split.digits ends in
    cond-false (starts_name b) _ _ split.no_name
    ∙ cond-true (begins_number b (prefix_len is_ascii_digit (bytes ++ more))) _ _ (ap (begins_number b) run ∙ split.begins)
    ∙ ap (λ n. number_cut (1 + n) (b ∷ (bytes ++ more))) run
    ∙ ap (λ xs. Some (record { piece = number xs; len = 1 + length bytes })) (take-seam b bytes more)

-- and is the next piece
pub lex-number : (bytes more : List ℕ) → is_number bytes ≡ true → prefix_len is_ascii_digit more ≡ 0
    → lex (bytes ++ more) ≡ put (record { piece = number bytes; room = length (bytes ++ more) }) (lex more)
lex-number [] more h ends = absurd (false≢true h)
lex-number (b ∷ bytes) more h ends =
    let cut : Cut = record { piece = number (b ∷ bytes); len = 1 + length bytes } in
    lex-cut b (bytes ++ more) cut (number-split b bytes h).no_blank (first_cut-number b bytes more h ends) (omega arith)
    ∙ ap (λ xs. put (record { piece = number (b ∷ bytes); room = length (b ∷ (bytes ++ more)) }) (lex xs)) (drop-seam b bytes more)

-- a text that is spelled, and not followed by a quote, is cut
pub first_cut-text : (bytes left : List ℕ) → IsTextInside bytes → begins_quote left ≡ false
    → first_cut (34 ∷ (bytes ++ 34 ∷ left)) ≡ Some (record { piece = text bytes; len = length bytes + 2 })
first_cut-text bytes left inside ends =
    ap (λ n. text_cut n (bytes ++ 34 ∷ left)) (text-front bytes left inside ends)
    ∙ cond-true (begins_quote (drop (length bytes) (bytes ++ 34 ∷ left))) _ _ (ap begins_quote (drop-append_seam bytes (34 ∷ left)))
    ∙ ap (λ xs. Some (record { piece = text xs; len = length bytes + 2 })) (take-append_seam bytes (34 ∷ left))

-- and is the next piece
pub lex-text : (bytes left : List ℕ) → IsTextInside bytes → begins_quote left ≡ false
    → lex (34 ∷ (bytes ++ 34 ∷ left)) ≡ put (record { piece = text bytes; room = length (34 ∷ (bytes ++ 34 ∷ left)) }) (lex left)
lex-text bytes left inside ends =
    let cut : Cut = record { piece = text bytes; len = length bytes + 2 } in
    let rest : drop (length bytes + 2) (34 ∷ (bytes ++ 34 ∷ left)) ≡ left =
    (let e : length bytes + 2 ≡ suc (length bytes + 1) = omega arith in rw e (sym (drop-drop 1 (length bytes) (bytes ++ 34 ∷ left)) ∙ ap (drop 1) (drop-append_seam bytes (34 ∷ left)))) in
    lex-cut 34 (bytes ++ 34 ∷ left) cut refl (first_cut-text bytes left inside ends) (omega arith)
    ∙ ap (λ xs. put (record { piece = text bytes; room = length (34 ∷ (bytes ++ 34 ∷ left)) }) (lex xs)) rest
