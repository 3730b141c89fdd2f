-- the file loses the tuple, then each index can lose the row, and all have
use Rattle.std.proofs.Common.{◌∙◌, sym, subst}
use Rattle.sand_store.specs.Catalog.{RelationView}
use Rattle.sand_store.specs.Standing.{RelationStands}
use Rattle.sand_store.proofs.RowLoss.{loss_asks, loss_tree_asks, loss_got, loss_places, loss_columns}
use Rattle.sand_store.proofs.delete.without_row.Goals as goal

pub take-requires-clause-file : goal.take-requires-clause-file
take-requires-clause-file g c = λ told.
    let H : RelationView → Type 0 = λ y. RelationStands c.args.pool.now.pages (c.requires.can told).0 y in
    (subst H (sym c.relation.view_is) (c.requires.can told).1.stands).table.file

pub shrunk_paths-requires-clause-can : goal.shrunk_paths-requires-clause-can
shrunk_paths-requires-clause-can g c = λ after.
    let told = sym c.in-Ok.ensures.within.told ∙ after in (
      _,
      loss_asks c.args.pool.now.pages c.take.new.pool.pages
          (c.requires.can told).0 _ c.args.relation.now c.take.new.self c.args.id c.args.row.now _ c.deref.result.now c.relation.view_is c.deref.ensures.value
          (c.requires.can told).1 (c.in-Ok.ensures.value told),
    )

pub changed_trees-requires-clause-can : goal.changed_trees-requires-clause-can
changed_trees-requires-clause-can g c = λ last.
    let after = sym c.in-Ok-shrunk_paths.ensures.within.told ∙ last in
    let told = sym c.in-Ok.ensures.within.told ∙ after in (
      _,
      loss_tree_asks c.args.pool.now.pages c.take.new.pool.pages c.shrunk_paths.new.pool.pages (c.requires.can told).0 _ c.args.relation.now c.take.new.self c.args.id c.args.row.now _
          c.deref.result.now c.in-Ok-shrunk_paths.paths.items c.deref-2.result.now c.relation.view_is c.deref.ensures.value c.deref-2.ensures.value (c.requires.can told).1 (c.in-Ok.ensures.value told)
          (c.in-Ok-shrunk_paths.ensures.lost after),
    )

pub returns-in-Ok-changed_trees-clause-shrank : goal.returns-in-Ok-changed_trees-clause-shrank
returns-in-Ok-changed_trees-clause-shrank g c = λ told bounds can.
    let after = c.in-Ok.ensures.within.told ∙ told in
    loss_got c.args.pool.now.pages c.take.new.pool.pages c.shrunk_paths.new.pool.pages c.changed_trees.new.pool.pages bounds _ c.args.relation.now c.take.new.self c.args.id c.args.row.now _
    c.deref.result.now c.in-Ok-shrunk_paths.paths.items c.deref-2.result.now c.in-Ok-changed_trees.trees.items
    c.relation.view_is c.deref.ensures.value c.deref-2.ensures.value can (c.in-Ok.ensures.value told) (c.in-Ok-shrunk_paths.ensures.lost after)
    (c.in-Ok-changed_trees.ensures.changed (c.in-Ok-shrunk_paths.ensures.within.told ∙ after)) c.in-Ok-changed_trees.ensures.columns

pub returns-in-Ok-changed_trees-clause-places : goal.returns-in-Ok-changed_trees-clause-places
returns-in-Ok-changed_trees-clause-places g c = λ of.
    loss_places _ c.args.relation.now c.deref.result.now c.in-Ok-shrunk_paths.paths.items c.relation.view_is c.deref.ensures.value c.in-Ok-shrunk_paths.ensures.places of

pub returns-in-Ok-changed_trees-clause-columns : goal.returns-in-Ok-changed_trees-clause-columns
returns-in-Ok-changed_trees-clause-columns g c =
    loss_columns _ c.args.relation.now c.deref-2.result.now c.in-Ok-changed_trees.trees.items c.relation.view_is c.deref-2.ensures.value c.in-Ok-changed_trees.ensures.columns
