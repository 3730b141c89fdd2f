-- Why the algorithm ends with the greatest common divisor.
use Rattle.std.proofs.Common.{arith}
use Rattle.std.proofs.lemmas.Nat.Gcd.{IsGcd-from_zero, IsGcd-from_mod}
use Rattle.exact_frac.proofs.gcd.greatest_common_divisor.Goals as goal

-- a remainder in place of the greater number leaves the common divisors as they were
pub remainders-preserved : goal.remainders-preserved
remainders-preserved c = record {
  divisors = λ g h. c.remainders.invariant.divisors g (IsGcd-from_mod _ _ g h);
  some = omega arith;
}

-- the last number that isn't 0 divides itself and 0
pub returns-clause-divisor : goal.returns-clause-divisor
returns-clause-divisor c = c.remainders.invariant.divisors _ (IsGcd-from_zero _ _ (omega arith))
