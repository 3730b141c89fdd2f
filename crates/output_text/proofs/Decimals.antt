-- Numbers in decimal: their lengths, and their digits as they are written from the last one to the first.
use Rattle.std.proofs.Common.{◌≡◌, ℕ, zero, suc, ◌+◌, ◌-◌, ◌*◌, ◌^◌, ◌/◌, ◌%◌, ◌<◌, ◌≤◌, List, length, [], ◌∷◌, ◌++◌, drop, set, sym, ap, ◌∙◌, arith, append_assoc}
use Rattle.std.proofs.Common.{length-append, inl, inr, eq-zero-or-pos}
use Rattle.std.specs.Fmt.{decimal}
use Rattle.std.proofs.lemmas.Fmt.{decimal_step, decimal_digit, length-decimal-le}
use Rattle.std.proofs.lemmas.List.{drop-set}

-- a number from ten on has one digit more than its tenth
pub length-decimal-step : (n : ℕ) → 10 ≤ n → n < 2 ^ 64 → length (decimal n) ≡ length (decimal (n / 10)) + 1
length-decimal-step n low high =
    ap length (decimal_step n low high) ∙ length-append (decimal (n / 10)) ((48 + n % 10) ∷ [])

-- a digit is one byte
pub length-decimal-digit : (n : ℕ) → n < 10 → length (decimal n) ≡ 1
length-decimal-digit n small = ap length (decimal_digit n small)

-- no number is without a digit
pub length-decimal-least : (n : ℕ) → n < 2 ^ 64 → 1 ≤ length (decimal n)
length-decimal-least n high =
    elim (eq-zero-or-pos (10 - n)) [
      | inl z ↦ omega (arith, length-decimal-step n (omega arith) high)
      | inr p ↦ omega (arith, length-decimal-digit n (omega arith))
    ]

-- a number of 64 bits has twenty digits at most
pub length-decimal-most : (n : ℕ) → n < 2 ^ 64 → length (decimal n) ≤ 20
length-decimal-most n small = length-decimal-le 20 n (omega arith) (omega arith) (omega arith)

-- the last digit goes before what is written, and the tenth of the number is left
pub digit-written : (bytes : List ℕ) (at n : ℕ) → 10 ≤ n → n < 2 ^ 64 → 1 ≤ at → at ≤ length bytes
    → decimal (n / 10) ++ drop (at - 1) (set bytes (at - 1) (48 + n % 10)) ≡ decimal n ++ drop at bytes
digit-written bytes at n low high some within =
    let here : at - 1 < length bytes = omega arith in
    let next : at - 1 + 1 ≡ at = omega arith in
    rw (drop-set bytes (at - 1) (48 + n % 10) here, next, decimal_step n low (omega arith), append_assoc)

-- the first digit goes before all the others
first-written : (bytes : List ℕ) (at n : ℕ) → n < 10 → 1 ≤ at → at ≤ length bytes
    → drop (at - 1) (set bytes (at - 1) (48 + n)) ≡ decimal n ++ drop at bytes
first-written bytes at n low some within =
    let here : at - 1 < length bytes = omega arith in
    let next : at - 1 + 1 ≡ at = omega arith in
    rw (drop-set bytes (at - 1) (48 + n) here, next, decimal_digit n low)

-- with the first digit all of the number is written
pub all-written : (bytes : List ℕ) (at n number : ℕ) → n < 10 → at ≡ length (decimal n) → at ≤ length bytes
    → decimal n ++ drop at bytes ≡ decimal number → set bytes 0 (48 + n) ≡ decimal number
all-written bytes at n number low is within so_far =
    let one : at ≡ 1 = is ∙ length-decimal-digit n low in
    first-written bytes 1 n low (omega arith) (omega arith) ∙ ap (λ k. decimal n ++ drop k bytes) (sym one) ∙ so_far

-- a number between two powers of ten has as many digits as the lower one
pub length-decimal-between : (k n : ℕ) → 10 ^ k ≤ n → n < 10 * 10 ^ k → n < 2 ^ 64 → length (decimal n) ≡ k + 1
length-decimal-between zero n least most high = length-decimal-digit n (omega arith)
length-decimal-between (suc k) n least most high =
    let shorter = length-decimal-between k (n / 10) (omega arith) (omega arith) (omega arith) in
    length-decimal-step n (omega arith) high ∙ ap (λ m. m + 1) shorter ∙ omega arith
