-- A key fits a fraction.
use Rattle.std.specs.Prelude.{ℕ, ◌+◌, ◌*◌, ◌-◌, ◌^◌, ◌≤◌}
use Rattle.std.proofs.Common.{arith, lit≤}
use Rattle.std.proofs.Math.Nat.{mul-le-mul_left}
use Rattle.exact_frac.specs.declared.TheConstants.{MAX_NUM, MAX_DEN}
use Rattle.sand_base.specs.declared.TheConstants.{COORDINATE_BITS}

-- the diagonal times a denominator is a numerator that fits, and so is what is less
pub key_fits : (num den : ℕ) → den ≤ MAX_DEN → 2 ^ (2 * COORDINATE_BITS + 1) * den - num ≤ MAX_NUM
key_fits num den fits =
    through (2 ^ (2 * COORDINATE_BITS + 1) * den) num (2 ^ (2 * COORDINATE_BITS + 1) * MAX_DEN) MAX_NUM
    (mul-le-mul_left (2 ^ (2 * COORDINATE_BITS + 1)) fits) (lit≤ tt)
  where
    through : (a b c d : ℕ) → a ≤ c → c ≤ d → a - b ≤ d
    through a b c d h k = omega arith
