-- the command stays open
use Rattle.page_pool.specs.Pool.{IsOpen}
use Rattle.benches.proofs.pool_commands.allocate_many.Given as goal

abbrev pub invariant-pages : goal.invariant-pages
invariant-pages l = IsOpen l.run.pool
