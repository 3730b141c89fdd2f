-- the command stays open while its pages are put
use Rattle.page_pool.specs.Pool.{IsOpen}
use Rattle.unit_tests.proofs.untold.fill.Given as goal

abbrev pub invariant-pages : goal.invariant-pages
invariant-pages l = IsOpen l.pool
