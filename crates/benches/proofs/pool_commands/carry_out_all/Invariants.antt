-- no command is open between two
use Rattle.page_pool.specs.Pool.{IsClosed}
use Rattle.benches.proofs.pool_commands.carry_out_all.Given as goal

abbrev pub invariant-commands : goal.invariant-commands
invariant-commands l = IsClosed l.run.pool
