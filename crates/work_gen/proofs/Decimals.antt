-- How many digits a number of 64 bits has.
use Rattle.std.proofs.Common.{◌≡◌, ℕ, ◌+◌, ◌/◌, ◌^◌, ◌<◌, ◌≤◌, length, ap, ◌∙◌, arith, length-append}
use Rattle.std.proofs.lemmas.Fmt.{decimal_digit, decimal_step, length-decimal-le}
use Rattle.std.specs.Fmt.{decimal}

-- one below ten
pub length-digit : (n : ℕ) → n < 10 → length (decimal n) ≡ 1
length-digit n h = ap length (decimal_digit n h)

-- else one more than its tenth
pub length-step : (n : ℕ) → 10 ≤ n → n < 2 ^ 64 → length (decimal n) ≡ length (decimal (n / 10)) + 1
length-step n low high = ap length (decimal_step n low high) ∙ length-append _ _

-- at most twenty
pub length-long : (n : ℕ) → n < 2 ^ 64 → length (decimal n) ≤ 20
length-long n h = length-decimal-le 20 n (omega arith) (omega arith) h
