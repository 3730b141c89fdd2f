-- those rows that entered, and the rest, make the whole; the pool is in the command still, and no call was refused
use Rattle.sand_store.proofs.Loads.{Loading}
use Rattle.sand_store.proofs.load.enter_all.Given as goal

abbrev pub invariant-rows : goal.invariant-rows
invariant-rows g l = Loading l.initial.pool l.pool l.limits l.initial.relation l.relation l.rows l.row-index
