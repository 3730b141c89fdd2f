-- those done have grown, and the rest has what it had; the pool is in the command still, and no call was refused
use Rattle.sand_store.proofs.Midway.{Between}
use Rattle.sand_store.proofs.grow.grown_paths.Given as goal

abbrev pub invariant-paths : goal.invariant-paths
invariant-paths g l = Between l.initial.pool l.pool l.limits l.schema l.file l.id l.row l.paths l.grown.items l.at
