-- each change ends its command
use Rattle.std.proofs.Common.{◌≡◌, false}
use Rattle.page_pool.specs.Pool.{IsClosed}
use Rattle.benches.proofs.tree_trial.change_all.Given as goal

abbrev pub invariant-changes : goal.invariant-changes
invariant-changes l = record {
  closed : IsClosed l.trial.pool;
  untold : l.trial.pool.disk.told ≡ false;
}
