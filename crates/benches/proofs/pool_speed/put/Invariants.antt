-- each command ends
use Rattle.page_pool.specs.Pool.{IsClosed}
use Rattle.benches.proofs.pool_speed.put.Given as goal

abbrev pub invariant-commands : goal.invariant-commands
invariant-commands l = IsClosed l.pool
