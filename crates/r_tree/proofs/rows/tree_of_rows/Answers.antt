-- members of rows with ids of their own, built into a tree
use Rattle.r_tree.proofs.Listings.{members_once, built}
use Rattle.r_tree.proofs.rows.tree_of_rows.Goals as goal

pub build-requires-clause-once : goal.build-requires-clause-once
build-requires-clause-once g c = λ told.
    let h = c.requires.once told in
    members_once c.args.members.now h.0 h.1.0 h.1.1

pub returns-clause-planted : goal.returns-clause-planted
returns-clause-planted g c = λ told rows e.
    built c.args.pool.now.pages c.build.new.pool.pages c.in_ok-tree.tree c.args.number c.args.members.now rows e (c.in_ok-tree.ensures.value told)
