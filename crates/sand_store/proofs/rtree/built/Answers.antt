-- the rows of a file have ids of their own, so their members have
use Rattle.std.proofs.Common.{sym, ◌∙◌}
use Rattle.sand_store.proofs.Gathering.{gathered_asks}
use Rattle.sand_store.proofs.rtree.built.Goals as goal

pub tree_of_rows-requires-clause-once : goal.tree_of_rows-requires-clause-once
tree_of_rows-requires-clause-once g c = λ after.
    let told = sym c.in-Ok.ensures.read.told ∙ after in
    gathered_asks c.args.pool.now.pages (c.requires.stands told).0 _ c.args.relation.now c.args.column c.deref.result.now c.in-Ok.members.items c.relation.view_is c.deref.ensures.value
    (c.requires.stands told).1 (c.in-Ok.ensures.members told)
