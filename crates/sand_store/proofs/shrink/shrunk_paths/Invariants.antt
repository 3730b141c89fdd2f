-- those done have lost the row, and the rest has it; the pool is in the command still, and no call was refused
use Rattle.sand_store.proofs.PathSteps.{Losing}
use Rattle.sand_store.proofs.shrink.shrunk_paths.Given as goal

abbrev pub invariant-paths : goal.invariant-paths
invariant-paths g l = Losing l.initial.pool l.pool l.id l.row l.paths l.shrunk.items l.at
