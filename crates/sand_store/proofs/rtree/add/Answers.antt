-- the relation has the R-tree that was built since the command began
use Rattle.std.proofs.Common.{ap}
use Rattle.sand_store.proofs.RtreeCall.{tree_command, stands_begun}
use Rattle.sand_store.proofs.rtree.add.Goals as goal

pub built-requires-clause-stands : goal.built-requires-clause-stands
built-requires-clause-stands g c = λ told. (
  c.args.limits,
  stands_begun c.args.pool.now c.begin.new.self c.args.limits c.args.relation.now c.in-Ok.ensures.writes.writes.pages c.in-Ok.ensures.writes.writes.told c.requires.stands told,
)

pub returns-in-Ok-take_tree-clause-became : goal.returns-in-Ok-take_tree-clause-became
returns-in-Ok-take_tree-clause-became g c =
    tree_command c.args.pool.now c.begin.new.self c.built.new.pool c.commit.new.self c.args.limits c.args.relation.now c.take_tree.new.self c.args.column c.args.number c.in-Ok-built.tree
    c.in-Ok.ensures.writes.writes.pages c.in-Ok.ensures.writes.writes.told
    (ap (λ s. s.pages) c.commit.ensures) c.requires.stands c.requires.owns c.in-Ok-built.ensures.plants c.in-Ok-take_tree.ensures.added

pub returns-in-Ok-take_tree-clause-added : goal.returns-in-Ok-take_tree-clause-added
returns-in-Ok-take_tree-clause-added g c = record { tree = c.in-Ok-built.tree; added = c.in-Ok-take_tree.ensures.added }
