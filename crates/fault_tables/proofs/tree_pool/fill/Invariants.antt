-- the command stays open while its pages are put
use Rattle.page_pool.specs.Pool.{IsOpen}
use Rattle.fault_tables.proofs.tree_pool.fill.Given as goal

abbrev pub invariant-pages : goal.invariant-pages
invariant-pages l = IsOpen l.pool
