-- each R-tree can change, and after the last one all have
use Rattle.std.proofs.Common.{ℕ, ◌+◌, sym, ◌∙◌, subst, slice_index_or, arith}
use Rattle.std.specs.Prelude.{None}
use Rattle.r_tree.specs.declared.tree.RTree.{RTree}
use Rattle.sand_store.proofs.PathSteps.{here_any}
use Rattle.sand_store.proofs.TreeSteps.{Trees, Turning, turning_can, turning_next, turning_end, turning_columns}
use Rattle.sand_store.proofs.trees.changed_trees.Goals as goal

-- what is read past the end
abbrev nothing : ℕ × RTree
nothing = let tree : RTree = record { root = 0; height = 0; bound = None; number = 0 } in (0, tree)

pub changed_tree-requires-clause-can : goal.changed_tree-requires-clause-can
changed_tree-requires-clause-can g c = λ told.
    let t : ℕ × RTree = slice_index_or c.args.trees.now c.trees.at nothing in
    let first = sym c.trees.invariant.within.told ∙ told in
    let can = c.requires.can first in (
      can.0,
      (
        turning_can c.args.pool.now c.trees.pool c.args.change c.args.id c.args.row.now c.args.trees.now c.trees.changed.items c.trees.at t
            c.trees.invariant c.trees-test.true (here_any c.args.trees.now c.trees.at nothing c.trees-test.true) first can.0 can.1.0 can.1.1,
        can.1.1,
      ),
    )

pub trees-preserved : goal.trees-preserved
trees-preserved g c =
    let t : ℕ × RTree = slice_index_or c.args.trees.now c.trees.at nothing in
    let P : Trees → Type 0 = λ done. Turning c.args.pool.now c.changed_tree.new.pool c.args.change c.args.id c.args.row.now c.args.trees.now done (c.trees.at + 1) in
    subst P (sym c.in_ok-push-in-Ok.ensures.items)
    (turning_next c.args.pool.now c.trees.pool c.changed_tree.new.pool c.args.change c.args.id c.args.row.now c.args.trees.now c.trees.changed.items c.trees.at t c.in-Ok.tree
    c.trees.invariant c.trees-test.true (here_any c.args.trees.now c.trees.at nothing c.trees-test.true) c.in-Ok.ensures.within c.in-Ok.ensures.cause.counted c.in-Ok.ensures.changed)

pub returns-clause-changed : goal.returns-clause-changed
returns-clause-changed g c = λ told rows h can.
    turning_end c.args.pool.now c.trees.pool c.args.change c.args.id c.args.row.now c.args.trees.now c.trees.changed.items c.trees.at
    c.trees.invariant (omega (arith, c.trees-test.false)) told rows h can

pub returns-clause-columns : goal.returns-clause-columns
returns-clause-columns g c =
    turning_columns c.args.pool.now c.trees.pool c.args.change c.args.id c.args.row.now c.args.trees.now c.trees.changed.items c.trees.at c.trees.invariant (omega (arith, c.trees-test.false))
