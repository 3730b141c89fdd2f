-- the command stays open, and the same stamps are held
use Rattle.std.proofs.Common.{◌≡◌}
use Rattle.page_pool.specs.Pool.{IsOpen}
use Rattle.fault_tables.proofs.pool_trial.allocate_many.Given as goal

abbrev pub invariant-pages : goal.invariant-pages
invariant-pages l = IsOpen l.run.pool × (l.run.pool.stamps ≡ l.fn.run.pool.stamps)
