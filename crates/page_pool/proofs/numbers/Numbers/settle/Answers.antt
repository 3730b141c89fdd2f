use Rattle.std.proofs.Common.{nat_eq, subst, sym, arith}
use Rattle.std.specs.List.{IsDistinct}
use Rattle.page_pool.proofs.Spare.{distinct_take}
use Rattle.page_pool.proofs.numbers.Numbers.settle.Goals as goal

-- a front of distinct numbers is distinct
pub invariant_of-self : goal.invariant_of-self
invariant_of-self c = (omega (arith, c.truncate.ensures.len), subst (IsDistinct nat_eq) (sym c.truncate.ensures.items) (distinct_take c.self.inside.left c.self.inside.free.items c.self.invariant.1))
