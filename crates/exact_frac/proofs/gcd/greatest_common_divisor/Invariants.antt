-- What Euclid's algorithm keeps from step to step.
use Rattle.std.proofs.Common.{◌<◌, ℕ, ◌+◌}
use Rattle.std.specs.Int.{IsGcd}
use Rattle.exact_frac.proofs.gcd.greatest_common_divisor.Given as goal

-- what divides the two numbers at hand divides the two that came in, and they aren't both 0
abbrev pub invariant-remainders : goal.invariant-remainders
invariant-remainders l = record {
  divisors : (g : ℕ) → IsGcd l.x l.y g → IsGcd l.fn.a l.fn.b g;
  some : 0 < l.x + l.y;
}

-- a remainder is less than what it was divided by
abbrev pub decreases-remainders : goal.decreases-remainders
decreases-remainders l = l.y
