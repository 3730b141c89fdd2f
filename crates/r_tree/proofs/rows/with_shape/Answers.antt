-- the id is new, and with it the tree lists the row
use Rattle.r_tree.proofs.Listings.{unlisted, entered}
use Rattle.r_tree.proofs.rows.with_shape.Goals as goal

pub insert-requires-clause-unlisted : goal.insert-requires-clause-unlisted
insert-requires-clause-unlisted g c = λ told.
    let h = c.requires.lists told in
    unlisted c.args.pool.now.pages c.args.tree h.0 c.args.id h.1.0 h.1.1

pub returns-clause-relists : goal.returns-clause-relists
returns-clause-relists g c = λ told rows h.
    entered c.args.pool.now.pages c.insert.new.pool.pages c.args.tree c.insert.new.self rows c.args.id c.args.shape.now c.rough_shape.result c.rough_shape.ensures h (c.in_ok-insert.ensures.value told)
