-- the row has a shape in the column, with which its id enters or leaves
use Rattle.sand_store.proofs.TreeTurns.{enters_can, leaves_can, tree_entered, tree_left}
use Rattle.sand_store.proofs.trees.changed_tree.Goals as goal

pub with_shape-requires-clause-lists : goal.with_shape-requires-clause-lists
with_shape-requires-clause-lists g c = λ told.
    let h = c.requires.can told in
    enters_can c.args.pool.now.pages h.0 c.args.column c.args.tree c.args.change c.args.id c.args.row.now c.in-Enters.is h.1.0 h.1.1

pub without_shape-requires-clause-lists : goal.without_shape-requires-clause-lists
without_shape-requires-clause-lists g c = λ told.
    let h = c.requires.can told in
    leaves_can c.args.pool.now.pages h.0 c.args.column c.args.tree c.args.change c.args.id c.args.row.now c.in-Some.shape.now c.in-Leaves.is h.1.0 h.1.1 c.in-Some.ensures.shape

pub returns-in-Ok-clause-changed : goal.returns-in-Ok-clause-changed
returns-in-Ok-clause-changed g c = λ told rows stands can.
    tree_entered c.args.pool.now.pages c.with_shape.new.pool.pages rows c.args.column c.args.tree c.in-Ok.grown c.args.change c.args.id c.args.row.now c.in-Some.shape.now
    c.in-Enters.is stands c.in-Some.ensures.shape (c.in-Ok.ensures.relists told)

pub returns-in-Ok-without_shape-clause-changed : goal.returns-in-Ok-without_shape-clause-changed
returns-in-Ok-without_shape-clause-changed g c = λ told rows stands can.
    tree_left c.args.pool.now.pages c.without_shape.new.pool.pages rows c.args.column c.args.tree c.in-Ok-without_shape.shrunk c.args.change c.args.id c.args.row.now c.in-Some.shape.now
    c.in-Leaves.is stands can c.in-Some.ensures.shape (c.in-Ok-without_shape.ensures.relists told)
