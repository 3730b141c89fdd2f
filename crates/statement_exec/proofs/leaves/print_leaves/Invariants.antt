-- What the loop over leaves keeps.
use Rattle.std.proofs.Common.{◌-◌}
use Rattle.page_pool.specs.Pool.{IsTold}
use Rattle.pmr_tree.specs.Quadtree.{tree_at}
use Rattle.sand_model.specs.Tree.{leaves, root_block}
use Rattle.statement_exec.proofs.LeafLoop.{Walking}
use Rattle.statement_exec.specs.LeafWalk.{code_end}
use Rattle.statement_exec.proofs.leaves.print_leaves.Given as goal

abbrev pub invariant-leaves : goal.invariant-leaves
invariant-leaves g l =
    Walking (IsTold l.initial.desk.pool) (leaves root_block (tree_at l.initial.desk.pool.pages l.tree)) l.code l.initial.desk.pool l.desk.pool
    (g.K.Sink.took l.initial.out) (g.K.Sink.took l.out) (g.K.Sink.faults l.initial.out) (g.K.Sink.faults l.out)

abbrev pub decreases-leaves : goal.decreases-leaves
decreases-leaves g l = code_end - l.code
