-- no command is open between two, and each stamp is held still
use Rattle.page_pool.specs.Pool.{IsClosed}
use Rattle.fault_tables.specs.Holding.{HoldsStill}
use Rattle.fault_tables.proofs.pool_faults.change.Given as goal

abbrev pub invariant-commands : goal.invariant-commands
invariant-commands l = IsClosed l.run.pool × HoldsStill l.fn.run.pool l.run.pool
