-- the command stays open through its steps
use Rattle.page_pool.specs.Pool.{IsOpen}
use Rattle.benches.proofs.pool_commands.carry_out.Given as goal

abbrev pub invariant-steps : goal.invariant-steps
invariant-steps l = IsOpen l.run.pool
