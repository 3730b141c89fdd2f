-- The digits of the numbers that are drawn, from the first to the last.
use Rattle.std.proofs.Common.{◌≡◌, ℕ, ◌+◌, ◌/◌, ◌%◌, ◌^◌, ◌<◌, ◌≤◌, [], ◌∷◌, ◌++◌, length, ap, ◌∙◌, arith, length-append, append_assoc}
use Rattle.std.proofs.lemmas.Fmt.{decimal_digit, decimal_step, length-decimal-le}
use Rattle.std.specs.Fmt.{decimal}

-- a number below ten has one digit
pub length-digit : (n : ℕ) → n < 10 → length (decimal n) ≡ 1
length-digit n h = ap length (decimal_digit n h)

-- any other number has one digit more than its tenth
pub length-step : (n : ℕ) → 10 ≤ n → n < 2 ^ 16 → length (decimal n) ≡ length (decimal (n / 10)) + 1
length-step n low high = ap length (decimal_step n low (omega arith)) ∙ length-append _ _

-- a number that is drawn has at most five digits
pub length-drawn : (n : ℕ) → n < 2 ^ 16 → length (decimal n) ≤ 5
length-drawn n h = length-decimal-le 5 n (omega arith) (omega arith) (omega arith)

-- the lengths and the digits
pub ruleset of_number = (length-digit, length-step, length-drawn, decimal_digit, decimal_step, append_assoc)
