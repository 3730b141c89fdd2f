-- the access path is of this kind
use Rattle.sand_store.specs.declared.path.AccessPath.TheVariants as path
use Rattle.sand_store.proofs.Filling.{took_as, full_as}
use Rattle.sand_store.proofs.path.AccessPath.with_row_of.Goals as goal

pub returns-in-Ok-clause-took : goal.returns-in-Ok-clause-took
returns-in-Ok-clause-took g c = λ told.
    took_as c.args.pool.now.pages c.tree_with.new.pool.pages c.args.limits c.args.shapes.now.schema.now c.args.shapes.now.file c.args.id c.args.row.now c.args.shapes.now.column c.args.self.now
    (path.Quadtree c.in-Quadtree.tree) (path.Quadtree c.in-Ok.grown) c.in-Quadtree.is (c.in-Ok.ensures.took told)

pub returns-in-Err-clause-full : goal.returns-in-Err-clause-full
returns-in-Err-clause-full g c = λ e told.
    full_as c.args.pool.now.pages c.args.limits c.args.shapes.now.schema.now c.args.shapes.now.file c.args.id c.args.row.now c.args.shapes.now.column c.args.self.now
    (path.Quadtree c.in-Quadtree.tree) c.in-Quadtree.is (c.in-Err.ensures.full e told)

pub returns-in-Ok-index_with_row-clause-took : goal.returns-in-Ok-index_with_row-clause-took
returns-in-Ok-index_with_row-clause-took g c = λ told.
    took_as c.args.pool.now.pages c.index_with_row.new.pool.pages c.args.limits c.args.shapes.now.schema.now c.args.shapes.now.file c.args.id c.args.row.now c.args.shapes.now.column c.args.self.now
    (path.Attribute c.in-Attribute.index) (path.Attribute c.in-Ok-index_with_row.grown) c.in-Attribute.is (c.in-Ok-index_with_row.ensures.took told)
