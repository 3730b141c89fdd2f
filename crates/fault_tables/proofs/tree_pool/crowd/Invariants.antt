-- no command opens
use Rattle.std.proofs.Common.{◌≡◌, false}
use Rattle.page_pool.specs.Pool.{IsClosed}
use Rattle.fault_tables.proofs.tree_pool.crowd.Given as goal

abbrev pub invariant-pages : goal.invariant-pages
invariant-pages l = record {
  closed : IsClosed l.pool;
  untold : l.pool.disk.told ≡ false;
}
