-- no command is open between two rounds, and two stamps are held
use Rattle.page_pool.specs.Pool.{IsClosed}
use Rattle.fault_tables.specs.Holding.{HoldsBoth}
use Rattle.fault_tables.proofs.pool_rounds.make_rounds.Given as goal

abbrev pub invariant-rounds : goal.invariant-rounds
invariant-rounds l = IsClosed l.run.pool × HoldsBoth l.run.pool l.held.older.stamp l.held.younger.stamp
