-- Fractions in the order of their values.
use Rattle.std.specs.Cmp.{IsTotalOrder}
use Rattle.std.specs.declared.cmp.Ordering.{Ordering}
use Rattle.exact_frac.specs.TotalOrder.{by_value_total}
use Rattle.exact_frac.specs.Value.{by_value}
use Rattle.exact_frac.specs.declared.frac.Frac.{Frac}

-- the order of the values of two fractions
abbrev pub value_cmp : Frac → Frac → Ordering
value_cmp = by_value (λ f. f.num) (λ f. f.den)

-- the order is total, since no denominator is 0
pub value_cmp_total : IsTotalOrder value_cmp
value_cmp_total = by_value_total (λ f. f.num) (λ f. f.den) (λ f. f.positive)
