-- the id is listed with the row's shape, and the tree has shrunk by it
use Rattle.sand_store.proofs.PathLoss.{listed_where_met, tree_lost}
use Rattle.sand_store.proofs.shrink.shrunk_tree.Goals as goal

pub delete-requires-clause-listed : goal.delete-requires-clause-listed
delete-requires-clause-listed g c = λ told.
    let can = c.requires.can told in
    listed_where_met c.growth_laws.ensures.listed c.args.pool.now.pages can.0 c.args.id c.args.column c.args.row.now c.args.tree c.in-Some.shape.now can.1 c.in-Some.ensures.shape

pub returns-in-Ok-clause-lost : goal.returns-in-Ok-clause-lost
returns-in-Ok-clause-lost g c = λ told held can.
    tree_lost c.growth_laws.ensures.shrunk_fits c.growth_laws.ensures.fit c.args.pool.now.pages c.delete.new.pool.pages held c.args.id c.args.column c.args.row.now c.args.tree c.delete.new.self
    can (c.in-Ok.ensures.shrunk told)
