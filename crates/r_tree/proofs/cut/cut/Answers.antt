-- three orders, one after the other
use Rattle.std.proofs.lemmas.List.Sorted.{IsPermutation-trans}
use Rattle.r_tree.proofs.cut.cut.Goals as goal

pub returns-clause-order : goal.returns-clause-order
returns-clause-order c = IsPermutation-trans _ _ _ c.order_along.ensures (IsPermutation-trans _ _ _ c.order_along-2.ensures c.order_along-3.ensures)
