-- Why the quotients are a fraction in lowest terms of the same value.
use Rattle.std.proofs.Common.{◌≤◌, subst, sym, ◌∙◌}
use Rattle.std.proofs.Math.Nat.{one-dvd}
use Rattle.std.specs.Int.{◌∣◌}
use Rattle.exact_frac.proofs.Quotients.{quotients_lowest, quotients_same, quotient_positive}
use Rattle.exact_frac.proofs.frac.Frac.lowest.Goals as goal

-- over the denominator 1 a fraction is in lowest terms
pub returns-then-den-eq1-clause-lowest : goal.returns-then-den-eq1-clause-lowest
returns-then-den-eq1-clause-lowest c =
    (one-dvd _, one-dvd _, λ d p q. subst (λ n. d ∣ n) (sym c.den-den.ensures ∙ c.if-den-eq1.true) q)

-- a quotient is no greater than what was divided, and that of the denominator isn't 0
pub new-requires-clause-positive : goal.new-requires-clause-positive
new-requires-clause-positive c =
    quotient_positive _ _ (subst (λ n. 1 ≤ n) (sym c.den-den.ensures) c.args.self.now.positive) c.greatest_common_divisor-common.ensures.divisor.1

-- both parts were divided by the same number
pub returns-clause-value : goal.returns-clause-value
returns-clause-value c =
    rw (c.new.ensures.num, c.new.ensures.den, sym c.num-num.ensures, sym c.den-den.ensures)
    (quotients_same _ _ _ c.greatest_common_divisor-common.ensures.divisor)

-- a common divisor of the quotients would make the greatest one greater
pub returns-clause-lowest : goal.returns-clause-lowest
returns-clause-lowest c =
    rw (c.new.ensures.num, c.new.ensures.den)
    (quotients_lowest _ _ _ c.greatest_common_divisor-common.ensures.positive c.greatest_common_divisor-common.ensures.divisor)
