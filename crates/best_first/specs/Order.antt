-- The order of the frontier: by gap, then nodes before rough objects before rows, then by node or by ids.
use Rattle.std.specs.Ordering.{on, then_cmp}
use Rattle.std.specs.Cmp.{IsTotalOrder, on_total, then_total}
use Rattle.std.specs.declared.cmp.Ordering.{Ordering}
use Rattle.exact_frac.specs.Frac.{value_cmp, value_cmp_total}
use Rattle.best_first.specs.declared.item.Item.{Item}
use Rattle.best_first.specs.Item.{gap_of}
use Rattle.best_first.specs.OrderLaws.{kind_cmp, kind_total}

-- the order of the frontier, where `cmp` orders the nodes
abbrev pub item_cmp : {N : Type 0} → (N → N → Ordering) → Item N → Item N → Ordering
item_cmp cmp = then_cmp (on gap_of value_cmp) (kind_cmp cmp)

-- it is a total order
pub item_total : {N : Type 0} {cmp : N → N → Ordering} → IsTotalOrder cmp → IsTotalOrder (item_cmp cmp)
item_total order = then_total (on_total gap_of value_cmp_total) (kind_total order)
