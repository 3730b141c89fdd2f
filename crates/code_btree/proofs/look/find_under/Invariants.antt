-- The pages told don't change, and what is still to be found is under the place that was reached.
use Rattle.std.proofs.Common.{◌≡◌, ◌-◌, ◌≤◌, Ok}
use Rattle.page_pool.specs.Pool.{IsTold}
use Rattle.code_btree.specs.Items.{find_item}
use Rattle.code_btree.specs.Tree.{pages_in, items}
use Rattle.code_btree.specs.Steps.{Subtree}
use Rattle.code_btree.specs.Calls.{Peeks}
use Rattle.code_btree.proofs.look.find_under.Given as goal

abbrev pub invariant-levels : goal.invariant-levels
invariant-levels g l = record {
  bound : l.left ≤ l.fn.level;
  peeks : Peeks {T = Unit {0}} (g.P.Pages.shown l.fn.pages) (g.P.Pages.shown l.pages) (l.fn.level - l.left) (Ok tt);
  tree : IsTold (g.P.Pages.shown l.fn.pages) → Subtree (pages_in (g.P.Pages.shown l.fn.pages)) l.left l.place;
  same : IsTold (g.P.Pages.shown l.fn.pages) → find_item l.fn.key (items (pages_in (g.P.Pages.shown l.fn.pages)) l.left l.place)
      ≡ find_item l.fn.key (items (pages_in (g.P.Pages.shown l.fn.pages)) l.fn.level l.fn.n);
}

abbrev pub decreases-levels : goal.decreases-levels
decreases-levels g l = l.left
