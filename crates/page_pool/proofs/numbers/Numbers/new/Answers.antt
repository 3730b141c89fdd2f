use Rattle.std.proofs.Common.{nat_eq, subst, sym, arith}
use Rattle.std.specs.List.{IsDistinct}
use Rattle.page_pool.proofs.Spare.{distinct_none}
use Rattle.page_pool.proofs.numbers.Numbers.new.Goals as goal

pub invariant_of-result : goal.invariant_of-result
invariant_of-result c = (omega arith, subst (IsDistinct nat_eq) (sym c.new.ensures.items) distinct_none)
