-- What was found and what is still wanted make up what was wanted; no leaf is read twice.
use Rattle.std.proofs.Common.{◌-◌, ◌≤◌, List, Ok}
use Rattle.page_pool.specs.Pool.{IsTold}
use Rattle.code_btree.specs.Node.{Pair}
use Rattle.code_btree.specs.Tree.{pages_in}
use Rattle.code_btree.specs.Between.{IsRest, IsPartDone}
use Rattle.code_btree.specs.Calls.{Peeks}
use Rattle.code_btree.proofs.between.take_on.Given as goal

abbrev pub invariant-leaves : goal.invariant-leaves
invariant-leaves g l = record {
  bound : l.left ≤ l.fn.tree.entries;
  peeks : Peeks {T = Unit {0}} (g.P.Pages.shown l.fn.pages) (g.P.Pages.shown l.pages) (l.fn.tree.entries - l.left) (Ok tt);
  done : IsTold (g.P.Pages.shown l.fn.pages) → (want : List Pair) → IsRest (pages_in (g.P.Pages.shown l.fn.pages)) l.fn.tree l.low l.high l.first l.fn.tree.entries want
      → IsPartDone (pages_in (g.P.Pages.shown l.fn.pages)) l.fn.tree l.low l.high l.leaf l.left l.fn.found.items want l.found.items (g.P.Pages.shown l.fn.pages).gets (g.P.Pages.shown l.pages).gets;
}

abbrev pub decreases-leaves : goal.decreases-leaves
decreases-leaves g l = l.left
