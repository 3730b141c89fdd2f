-- A number that the machine's integers don't hold is out of every range of the language.
use Rattle.std.proofs.Common.{◌≡◌, ℕ, zero, suc, ◌-◌, ◌<◌, ◌≤◌, ◌^◌, Bool, true, false, not, ◌&&◌, ◌||◌, cond, eqb, ltb, leb, List, [], ◌∷◌, length, Some, None, Err}
use Rattle.std.proofs.Common.{refl, sym, ap, subst, ◌∙◌, arith, rules}
use Rattle.std.proofs.lemmas.Bool.{and_parts, and_from, le-leb, cond-true, cond-false, false_from_ne_true, leb-true, eqb-true, eqb-false, ltb-true, false≢true}
use Rattle.std.proofs.lemmas.Bool.Decides.{nat_tests}
use Rattle.std.proofs.lemmas.Str.Parse.{IsDigitsTest, IsNumeralModel, numerals_by_value, parse_signed_minus, parse_signed_plain}
use Rattle.std.specs.Prelude.{pos, neg_ℤ}
use Rattle.std.specs.Char.{is_ascii_digit}
use Rattle.std.specs.List.{list_all}
use Rattle.std.specs.Str.Parse.{ParsesSigned, digits_value}
use mir.Syntax.{w64}
use Rattle.script_text.specs.Number.{number_value}
use Rattle.script_text.specs.Number.{is_natural, magnitude, is_natural_between, natural, int}
use Rattle.script_text.specs.Token.{is_number, is_digits}

-- the language's digits are those of `parse`
tells_digits : IsDigitsTest (λ ds. list_all is_ascii_digit ds ≡ true)
tells_digits = search rules

-- and so is what they write
pub numerals : IsNumeralModel (λ ds. list_all is_ascii_digit ds ≡ true) (digits_value 10)
numerals = numerals_by_value _ tells_digits

-- a number in a range is at most its greatest
magnitude-le : (least most : ℕ) (text : List ℕ) → is_natural_between least most text ≡ true → magnitude text ≤ most
magnitude-le least most text h =
    let low = leb least (magnitude text) in
    let high = leb (magnitude text) most in
    leb-true _ _ (and_parts low high (and_parts (is_natural text) (low && high) h).1).1

-- where `parse` fails at a number, it is in no range
pub natural-none : {E : Type 0} (text : List ℕ) (e : E) (least most : ℕ) → is_number text ≡ true → most < 2 ^ 32
    → ParsesSigned {E = E} w64 10 text (Err e) → None ≡ natural least most text
natural-none {E} [] e least most h small fails = absurd (false≢true h)
natural-none {E} (b ∷ bytes) e least most h small fails =
    let go : (t : Bool) → eqb b 45 ≡ t → cond t (is_digits bytes) (is_digits (b ∷ bytes)) ≡ true → magnitude (b ∷ bytes) ≤ most → ⊥ =
    elim [
      | true ↦ λ m d le.
          let digits : magnitude (b ∷ bytes) ≡ digits_value 10 bytes = cond-true _ _ _ m in
          let two = and_parts (ltb 0 (length bytes)) (list_all is_ascii_digit bytes) d in
          parse_signed_minus numerals w64 (b ∷ bytes) (Err e) fails (eqb-true b 45 m) (two.1, ltb-true _ _ two.0, omega arith)
      | false ↦ λ m d le.
          let digits : magnitude (b ∷ bytes) ≡ digits_value 10 (b ∷ bytes) = cond-false _ _ _ m in
          let two = and_parts (ltb 0 (length (b ∷ bytes))) (list_all is_ascii_digit (b ∷ bytes)) d in
          let digit = (and_parts (is_ascii_digit b) (list_all is_ascii_digit bytes) two.1).0 in
          parse_signed_plain numerals w64 (b ∷ bytes) (Err e) fails (λ is. grind (arith, nat_tests)) (eqb-false b 45 m) (two.1, omega arith, omega arith)
    ] in
    sym (cond-false _ _ _ (false_from_ne_true _ (λ within. go _ refl h (magnitude-le least most (b ∷ bytes) within))))

-- a minus and then 0 are 0
neg-none : (m : ℕ) → eqb m 0 ≡ true → neg_ℤ (pos m) ≡ pos m
neg-none zero h = refl
neg-none (suc m) h = let e = eqb-true (suc m) 0 h in absurd (omega arith)

-- nothing else is natural after a minus
neg-natural : (m n : ℕ) → neg_ℤ (pos m) ≡ pos n → (eqb m 0 ≡ true) × (m ≡ n)
neg-natural zero n e = (refl, cc)
neg-natural (suc m) n e = absurd cc

-- the value of a natural number is what its digits write
pub value-natural : (text : List ℕ) → is_natural text ≡ true → number_value text ≡ pos (magnitude text)
value-natural [] h = refl
value-natural (b ∷ bytes) h =
    let go : (t : Bool) → (not t || eqb (cond t (digits_value 10 bytes) (digits_value 10 (b ∷ bytes))) 0) ≡ true
    → cond t (neg_ℤ (pos (digits_value 10 bytes))) (pos (digits_value 10 (b ∷ bytes))) ≡ pos (cond t (digits_value 10 bytes) (digits_value 10 (b ∷ bytes))) =
    elim [ true ↦ λ h. neg-none (digits_value 10 bytes) h | false ↦ λ h. refl ] in
    go (eqb b 45) h

-- a number of a natural value is natural
natural-value : (text : List ℕ) (n : ℕ) → number_value text ≡ pos n → (is_natural text ≡ true) × (magnitude text ≡ n)
natural-value [] n e = (refl, cc)
natural-value (b ∷ bytes) n e =
    let go : (t : Bool) → cond t (neg_ℤ (pos (digits_value 10 bytes))) (pos (digits_value 10 (b ∷ bytes))) ≡ pos n
    → ((not t || eqb (cond t (digits_value 10 bytes) (digits_value 10 (b ∷ bytes))) 0) ≡ true) × (cond t (digits_value 10 bytes) (digits_value 10 (b ∷ bytes)) ≡ n) =
    elim [ true ↦ λ e. neg-natural (digits_value 10 bytes) n e | false ↦ λ e. (refl, cc) ] in
    go (eqb b 45) e

-- a natural number of a range
abbrev pub IsWithin : ℕ → ℕ → ℕ → Type 0
IsWithin least most n = (least ≤ n) × (n ≤ most)

-- what is given for a number is its value, and in the range
pub natural-is : (least most : ℕ) (text : List ℕ) (n : ℕ) → natural least most text ≡ Some n → (number_value text ≡ pos n) × IsWithin least most n
natural-is least most text n e =
    let low = leb least (magnitude text) in
    let high = leb (magnitude text) most in
    let go : (t : Bool) → is_natural_between least most text ≡ t → cond t (Some (magnitude text)) None ≡ Some n → (number_value text ≡ pos n) × IsWithin least most n =
    elim [
      | true ↦ λ h e.
          let same : magnitude text ≡ n = cc in
          let one = and_parts (is_natural text) (low && high) h in
          let two = and_parts low high one.1 in
          subst (λ n. (number_value text ≡ pos n) × IsWithin least most n) same
          (value-natural text one.0, (leb-true least (magnitude text) two.0, leb-true (magnitude text) most two.1))
      | false ↦ λ h e. absurd cc
    ] in
    go _ refl e

-- a number whose value is in the range gives it
pub natural-from : (least most : ℕ) (text : List ℕ) (n : ℕ) → number_value text ≡ pos n → least ≤ n → n ≤ most → natural least most text ≡ Some n
natural-from least most text n e low high =
    let two = natural-value text n e in
    let within : is_natural_between least most text ≡ true =
    and_from (is_natural text) _ two.0 (rw two.1 (and_from _ _ (le-leb least n low) (le-leb n most high))) in
    cond-true _ _ _ within ∙ ap Some two.1

-- where `parse` fails at a number, 64 bits don't hold it
pub int-none : {E : Type 0} (text : List ℕ) (e : E) → is_number text ≡ true → ParsesSigned {E = E} w64 10 text (Err e) → None ≡ int text
int-none {E} [] e h fails = absurd (false≢true h)
int-none {E} (b ∷ bytes) e h fails =
    let go : (t : Bool) → eqb b 45 ≡ t → cond t (is_digits bytes) (is_digits (b ∷ bytes)) ≡ true → leb (magnitude (b ∷ bytes)) (cond t (2 ^ 63) (2 ^ 63 - 1)) ≡ true → ⊥ =
    elim [
      | true ↦ λ m d le.
          let digits : magnitude (b ∷ bytes) ≡ digits_value 10 bytes = cond-true _ _ _ m in
          let two = and_parts (ltb 0 (length bytes)) (list_all is_ascii_digit bytes) d in
          let most : magnitude (b ∷ bytes) ≤ 2 ^ 63 = leb-true _ _ le in
          parse_signed_minus numerals w64 (b ∷ bytes) (Err e) fails (eqb-true b 45 m) (two.1, ltb-true _ _ two.0, omega arith)
      | false ↦ λ m d le.
          let digits : magnitude (b ∷ bytes) ≡ digits_value 10 (b ∷ bytes) = cond-false _ _ _ m in
          let two = and_parts (ltb 0 (length (b ∷ bytes))) (list_all is_ascii_digit (b ∷ bytes)) d in
          let digit = (and_parts (is_ascii_digit b) (list_all is_ascii_digit bytes) two.1).0 in
          let most : magnitude (b ∷ bytes) ≤ 2 ^ 63 - 1 = leb-true _ _ le in
          parse_signed_plain numerals w64 (b ∷ bytes) (Err e) fails (λ is. grind (arith, nat_tests)) (eqb-false b 45 m) (two.1, omega arith, omega arith)
    ] in
    sym (cond-false _ _ _ (false_from_ne_true _ (λ within. go _ refl h within)))
