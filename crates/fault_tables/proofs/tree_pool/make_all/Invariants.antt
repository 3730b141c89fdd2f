-- the command stays open while changes are made
use Rattle.std.proofs.Common.{◌≡◌, false}
use Rattle.page_pool.specs.Pool.{IsOpen}
use Rattle.fault_tables.proofs.tree_pool.make_all.Given as goal

abbrev pub invariant-changes : goal.invariant-changes
invariant-changes l = record {
  opened : IsOpen l.pool;
  untold : l.pool.disk.told ≡ false;
}
