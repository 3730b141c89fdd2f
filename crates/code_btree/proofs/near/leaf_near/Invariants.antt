-- The pages told don't change, and what is found under the page that was reached is found for the whole.
use Rattle.std.proofs.Common.{◌-◌, ◌≤◌, Ok}
use Rattle.page_pool.specs.Pool.{IsTold}
use Rattle.code_btree.specs.Tree.{pages_in}
use Rattle.code_btree.specs.Calls.{Peeks}
use Rattle.code_btree.proofs.Nears.{NearLed}
use Rattle.code_btree.proofs.near.leaf_near.Given as goal

abbrev pub invariant-levels : goal.invariant-levels
invariant-levels g l = record {
  bound : l.left ≤ l.fn.level;
  peeks : Peeks {T = Unit {0}} (g.P.Pages.shown l.fn.pages) (g.P.Pages.shown l.pages) (l.fn.level - l.left) (Ok tt);
  led : IsTold (g.P.Pages.shown l.fn.pages) → NearLed (pages_in (g.P.Pages.shown l.fn.pages)) l.fn.level l.fn.n l.fn.key l.left l.near;
}

abbrev pub decreases-levels : goal.decreases-levels
decreases-levels g l = l.left
