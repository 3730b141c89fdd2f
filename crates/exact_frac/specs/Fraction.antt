-- A fraction as contracts see it, and how it stands in two words.
use Rattle.std.specs.Prelude.{ℕ, ◌+◌, ◌*◌, ◌/◌, ◌%◌, ◌^◌, ◌≤◌}
use Rattle.exact_frac.specs.declared.TheConstants.{MAX_NUM, MAX_DEN}

-- a numerator and a denominator within their bounds
pub record Fraction : Type 0 where
  pub num : ℕ
  pub den : ℕ
  pub small : num ≤ MAX_NUM
  pub positive : 1 ≤ den
  pub fits : den ≤ MAX_DEN

-- the numerator: its upper bits stand in the first word below the denominator, its other 64 bits in the second
abbrev pub num_in : ℕ → ℕ → ℕ
num_in high low = high % 2 ^ 22 * 2 ^ 64 + low

-- the denominator stands in the first word above 22 bits
abbrev pub den_in : ℕ → ℕ
den_in high = high / 2 ^ 22
