-- the pages so far were read, and nothing else was done
use Rattle.page_pool.specs.Reads.{IsRead}
use Rattle.fault_tables.proofs.pool_maps.read_all.Given as goal

abbrev pub invariant-numbers : goal.invariant-numbers
invariant-numbers l = IsRead l.fn.desk.pool l.desk.pool
