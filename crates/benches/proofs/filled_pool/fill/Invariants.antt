-- the command stays open while its pages are put
use Rattle.page_pool.specs.Pool.{IsOpen}
use Rattle.benches.proofs.filled_pool.fill.Given as goal

abbrev pub invariant-pages : goal.invariant-pages
invariant-pages g l = IsOpen l.pool
