-- those done have changed, and the rest hasn't; the pool is in the command still, and no call was refused
use Rattle.sand_store.proofs.TreeSteps.{Turning}
use Rattle.sand_store.proofs.trees.changed_trees.Given as goal

abbrev pub invariant-trees : goal.invariant-trees
invariant-trees g l = Turning l.initial.pool l.pool l.change l.id l.row l.trees l.changed.items l.at
