-- the id is listed with its rough shape, and without it the tree lists the others
use Rattle.r_tree.proofs.Listings.{listed, left}
use Rattle.r_tree.proofs.rows.without_shape.Goals as goal

pub remove-requires-clause-listed : goal.remove-requires-clause-listed
remove-requires-clause-listed g c = λ told.
    let h = c.requires.lists told in
    listed c.args.pool.now.pages c.args.tree h.0 c.args.id c.args.shape.now c.rough_shape.result c.rough_shape.ensures h.1.0 h.1.1

pub returns-clause-relists : goal.returns-clause-relists
returns-clause-relists g c = λ told rows h e.
    left c.args.pool.now.pages c.remove.new.pool.pages c.args.tree c.remove.new.self rows c.args.id c.args.shape.now c.rough_shape.result c.rough_shape.ensures h e (c.in_ok-remove.ensures.value told)
