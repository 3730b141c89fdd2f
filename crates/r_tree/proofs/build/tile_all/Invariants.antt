-- each level has fewer entries; those of the last one are a root's
use Rattle.std.proofs.Common.{◌≡◌, length}
use Rattle.page_pool.specs.Causes.{failures_of}
use Rattle.page_pool.specs.Steps.{InCommand}
use Rattle.code_btree.specs.Tree.{pages_in}
use Rattle.r_tree.specs.Steps.{IsTop}
use Rattle.r_tree.proofs.build.tile_all.Given as goal

abbrev pub invariant-levels : goal.invariant-levels
invariant-levels g l = record {
  within : InCommand l.initial.pool l.pool;
  failures : failures_of l.pool ≡ failures_of l.initial.pool;
  gets : l.pool.gets ≡ l.initial.pool.gets;
  top : IsTop (pages_in l.initial.pool) (pages_in l.pool) l.level l.entries.items l.list;
}

abbrev pub decreases-levels : goal.decreases-levels
decreases-levels g l = length l.entries.items
