-- the members are those of the relation's rows, and the tree is the column's new index, or would be too full
use Rattle.std.proofs.Common.{sym, ◌∙◌, arith}
use Rattle.sand_store.proofs.Refusals.{tree_is_full}
use Rattle.sand_store.proofs.WholeTree.{whole_stands, whole_members, whole_rows, whole_got, whole_full}
use Rattle.sand_store.proofs.whole_tree.quadtree_of.Goals as goal

pub build-requires-clause-stands : goal.build-requires-clause-stands
build-requires-clause-stands g c = whole_stands c.args.pool.now c.members.new.pool c.args.limits _ c.args.relation.now c.relation.view_is c.in-Ok.ensures.read c.requires.stands

pub build-requires-clause-members : goal.build-requires-clause-members
build-requires-clause-members g c =
    whole_members c.args.pool.now c.members.new.pool _ c.args.relation.now c.args.column c.deref.result.now c.in-Ok.members.items c.relation.view_is c.deref.ensures.value c.in-Ok.ensures.read c.in-Ok.ensures.members

pub build-requires-clause-rows : goal.build-requires-clause-rows
build-requires-clause-rows g c = whole_rows c.args.pool.now c.members.new.pool c.args.limits _ c.args.relation.now c.args.column c.relation.view_is (omega arith) c.in-Ok.ensures.read c.requires.stands

pub returns-in-Ok-build-clause-builds : goal.returns-in-Ok-build-clause-builds
returns-in-Ok-build-clause-builds g c = λ told.
    let after = c.in-Ok.ensures.read.told ∙ told in
    whole_got c.args.pool.now c.members.new.pool c.build.new.pool.pages c.args.limits _ c.args.relation.now c.args.column c.args.threshold c.in-Ok-build.tree c.relation.view_is c.requires.least
    c.requires.most c.in-Ok-build.ensures.threshold c.in-Ok.ensures.read (c.in-Ok-build.ensures.built after) (c.in-Ok-build.ensures.few after)
