-- The digits of a number, written from the last one to the first into a buffer that is filled from its end.
use Rattle.std.proofs.Common.{◌≡◌, ℕ, ◌+◌, ◌-◌, ◌/◌, ◌%◌, ◌^◌, ◌<◌, ◌≤◌, List, ◌++◌, length, drop, set, ap, ◌∙◌, arith, append_assoc, length-append, codes, inl, inr, eq-zero-or-pos}
use Rattle.std.proofs.lemmas.Fmt.{decimal_digit, decimal_step_wide, length-decimal-le_wide}
use Rattle.std.proofs.lemmas.List.{drop-set}
use Rattle.std.specs.Fmt.{decimal}
use Rattle.exact_frac.specs.declared.TheConstants.{MAX_NUM, MAX_DEN}

-- a number below ten has one digit
pub length-digit : (n : ℕ) → n < 10 → length (decimal n) ≡ 1
length-digit n h = ap length (decimal_digit n h)

-- any other number has one digit more than its tenth
pub length-step : (n : ℕ) → 10 ≤ n → n < 2 ^ 128 → length (decimal n) ≡ length (decimal (n / 10)) + 1
length-step n low high = ap length (decimal_step_wide n low (omega arith)) ∙ length-append _ _

-- no number is without a digit
pub length-positive : (n : ℕ) → n < 2 ^ 128 → 1 ≤ length (decimal n)
length-positive n high =
    elim (eq-zero-or-pos (10 - n)) [
      | inl z ↦ omega (arith, length-step n (omega arith) high)
      | inr p ↦ omega (arith, length-digit n (omega arith))
    ]

-- the last digit goes before what is written, and the tenth of the number is left
pub digit_written : (bytes : List ℕ) (at n : ℕ) → 10 ≤ n → n < 2 ^ 128 → 1 ≤ at → at ≤ length bytes
    → decimal (n / 10) ++ drop (at - 1) (set bytes (at - 1) (48 + n % 10)) ≡ decimal n ++ drop at bytes
digit_written bytes at n low high some within =
    let here : at - 1 < length bytes = omega arith in
    let next : at - 1 + 1 ≡ at = omega arith in
    rw (drop-set bytes (at - 1) (48 + n % 10) here, next, decimal_step_wide n low (omega arith), append_assoc)

-- the first digit goes before all the others
pub first_written : (bytes : List ℕ) (at n : ℕ) → n < 10 → 1 ≤ at → at ≤ length bytes
    → drop (at - 1) (set bytes (at - 1) (48 + n)) ≡ decimal n ++ drop at bytes
first_written bytes at n low some within =
    let here : at - 1 < length bytes = omega arith in
    let next : at - 1 + 1 ≡ at = omega arith in
    rw (drop-set bytes (at - 1) (48 + n) here, next, decimal_digit n low)

-- a numerator has at most 25 digits
pub length-num : (n : ℕ) → n ≤ MAX_NUM → length (decimal n) ≤ 25
length-num n h = length-decimal-le_wide 25 n (omega arith) (omega arith) (omega arith)

-- a denominator has at most 13 digits
pub length-den : (n : ℕ) → n ≤ MAX_DEN → length (decimal n) ≤ 13
length-den n h = length-decimal-le_wide 13 n (omega arith) (omega arith) (omega arith)

-- a slash before what is written, and after what comes next
pub slash_written : (bytes : List ℕ) (at : ℕ) (prefix rest : List ℕ) → 1 ≤ at → at ≤ length bytes → drop at bytes ≡ rest
    → prefix ++ drop (at - 1) (set bytes (at - 1) 47) ≡ prefix ++ codes "/" ++ rest
slash_written bytes at prefix rest some within e =
    let here : at - 1 < length bytes = omega arith in
    let next : at - 1 + 1 ≡ at = omega arith in
    rw (drop-set bytes (at - 1) 47 here, next, e, append_assoc)

-- a printed fraction has at most 39 bytes
pub length-ratio_text : (n d : ℕ) → n ≤ MAX_NUM → d ≤ MAX_DEN → length (decimal n ++ codes "/" ++ decimal d) ≤ 39
length-ratio_text n d n_small d_small =
    simp length-append (omega (arith, length-num n n_small, length-den d d_small))
