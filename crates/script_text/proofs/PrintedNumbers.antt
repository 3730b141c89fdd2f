-- A printed number is a number of the language, and writes what was printed.
use Rattle.std.proofs.Common.{◌≡◌, ℕ, suc, ◌-◌, ◌<◌, ◌≤◌, ◌^◌, Bool, true, false, cond, eqb, leb, List, [], ◌∷◌, length, Some, refl, ap, ◌∙◌, arith}
use Rattle.std.specs.Prelude.{ℤ, pos, negsuc, neg_ℤ}
use Rattle.std.proofs.Math.Dec.{T}
use Rattle.std.proofs.lemmas.Bool.{and_parts, and_from, lt-ltb, le-leb, leb-true, cond-true}
use Rattle.std.proofs.lemmas.Bool.Decides.{nat_tests}
use Rattle.std.proofs.lemmas.Fmt.{decimal_nonempty, digits_decimal, digits_value-decimal}
use Rattle.std.specs.Char.{is_ascii_digit}
use Rattle.std.specs.Fmt.{decimal, signed_decimal}
use Rattle.std.specs.List.{list_all}
use Rattle.std.specs.Str.Parse.{digits_value}
use Rattle.sand_base.specs.InRange.{IsIntInRange}
use Rattle.script_text.specs.Number.{magnitude, is_minus, is_natural, natural, is_int, int}
use Rattle.script_text.specs.Token.{is_number}
use Rattle.script_text.proofs.NumberLemmas.{numerals, value-natural, natural-from}

-- digits without a minus are a number, and what they write is its magnitude
record IsPlain (bytes : List ℕ) : Type 0 where
  spelled : is_number bytes ≡ true
  natural : is_natural bytes ≡ true
  plus : is_minus bytes ≡ false
  value : magnitude bytes ≡ digits_value 10 bytes

-- one digit or more are plain
plain-digits : (bytes : List ℕ) → 0 < length bytes → list_all is_ascii_digit bytes ≡ true → IsPlain bytes
plain-digits [] some h = absurd (omega arith)
plain-digits (b ∷ bytes) some h =
    let digit = and_parts (is_ascii_digit b) (list_all is_ascii_digit bytes) h in
    let plain : eqb b 45 ≡ false = grind (arith, nat_tests) in
    record {
      spelled = rw plain (and_from _ _ (lt-ltb 0 (length (b ∷ bytes)) some) h);
      natural = rw plain refl;
      plus = plain;
      value = rw plain refl;
    }

-- a decimal number is plain
plain-decimal : (n : ℕ) → n < 2 ^ 64 → IsPlain (decimal n)
plain-decimal n h = plain-digits (decimal n) (decimal_nonempty n h) (digits_decimal numerals n h)

-- its digits write it
magnitude-decimal : (n : ℕ) → n < 2 ^ 64 → magnitude (decimal n) ≡ n
magnitude-decimal n h = (plain-decimal n h).value ∙ digits_value-decimal numerals n h

-- a decimal number is a number
pub number-decimal : (n : ℕ) → n < 2 ^ 64 → is_number (decimal n) ≡ true
number-decimal n h = (plain-decimal n h).spelled

-- and is read as itself where it is in the range
pub natural-decimal : (l m n : ℕ) → n < 2 ^ 64 → l ≤ n → n ≤ m → natural l m (decimal n) ≡ Some n
natural-decimal l m n h low high =
    natural-from l m (decimal n) n (value-natural (decimal n) (plain-decimal n h).natural ∙ ap pos (magnitude-decimal n h)) low high

-- a minus and digits are a number
minus-digits : (bytes : List ℕ) → 0 < length bytes → list_all is_ascii_digit bytes ≡ true → is_number (45 ∷ bytes) ≡ true
minus-digits bytes some h = and_from _ _ (lt-ltb 0 (length bytes) some) h

-- what holds is true
held : (b : Bool) → T b → b ≡ true
held true h = refl
held false h = absurd h

-- a number of 64 bits, from 0 on and below
high-of : (n : ℕ) → IsIntInRange (pos n) → n ≤ 2 ^ 63 - 1
high-of n h = leb-true n (2 ^ 63 - 1) (held (leb n (2 ^ 63 - 1)) h.high.le)

low-of : (n : ℕ) → IsIntInRange (negsuc n) → n ≤ 2 ^ 63 - 1
low-of n h = leb-true n (2 ^ 63 - 1) (held (leb n (2 ^ 63 - 1)) h.low.le)

-- a number of 64 bits is printed as a number
pub number-int : (n : ℤ) → IsIntInRange n → is_number (signed_decimal n) ≡ true
number-int (pos n) h = number-decimal n (omega (arith, high-of n h))
number-int (negsuc n) h =
    let small : suc n < 2 ^ 64 = omega (arith, low-of n h) in
    minus-digits (decimal (suc n)) (decimal_nonempty (suc n) small) (digits_decimal numerals (suc n) small)

-- and read as itself
pub int-int : (n : ℤ) → IsIntInRange n → int (signed_decimal n) ≡ Some n
int-int (pos n) h =
    let small : n < 2 ^ 64 = omega (arith, high-of n h) in
    let plain = plain-decimal n small in
    let within : is_int (decimal n) ≡ true =
    ap (λ b. leb (magnitude (decimal n)) (cond b (2 ^ 63) (2 ^ 63 - 1))) plain.plus ∙ ap (λ m. leb m (2 ^ 63 - 1)) (magnitude-decimal n small) ∙ le-leb n (2 ^ 63 - 1) (high-of n h) in
    cond-true (is_int (decimal n)) _ _ within ∙ ap (λ z. Some z) (value-natural (decimal n) plain.natural ∙ ap pos (magnitude-decimal n small))
int-int (negsuc n) h =
    let small : suc n < 2 ^ 64 = omega (arith, low-of n h) in
    let value : digits_value 10 (decimal (suc n)) ≡ suc n = digits_value-decimal numerals (suc n) small in
    let within : is_int (signed_decimal (negsuc n)) ≡ true = ap (λ m. leb m (2 ^ 63)) value ∙ le-leb (suc n) (2 ^ 63) (omega (arith, low-of n h)) in
    cond-true (is_int (signed_decimal (negsuc n))) _ _ within ∙ ap (λ m. Some (neg_ℤ (pos m))) value
