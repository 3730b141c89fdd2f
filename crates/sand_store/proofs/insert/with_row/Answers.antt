-- the file holds no row of the next id; each index can grow by it, and all have, or one would be too full
use Rattle.std.proofs.Common.{◌∙◌, sym, subst}
use Rattle.sand_store.specs.Catalog.{RelationView}
use Rattle.sand_store.specs.Standing.{RelationStands}
use Rattle.sand_store.proofs.RowGrowth.{next_is_fresh, asks, tree_asks, got, too_full}
use Rattle.sand_store.proofs.insert.with_row.Goals as goal

pub put_placed-requires-clause-file : goal.put_placed-requires-clause-file
put_placed-requires-clause-file g c = λ told.
    let H : RelationView → Type 0 = λ y. RelationStands c.args.pool.now.pages c.args.limits y in
    (subst H (sym c.relation.view_is) (c.requires.stands told)).table.file

pub put_placed-requires-clause-fresh : goal.put_placed-requires-clause-fresh
put_placed-requires-clause-fresh g c = λ told.
    let H : RelationView → Type 0 = λ y. RelationStands c.args.pool.now.pages c.args.limits y in
    next_is_fresh c.args.pool.now.pages c.args.limits _ (subst H (sym c.relation.view_is) (c.requires.stands told))

pub grown_paths-requires-clause-can : goal.grown_paths-requires-clause-can
grown_paths-requires-clause-can g c = λ after.
    let told = sym c.in-Ok.ensures.within.told ∙ after in
    asks c.args.pool.now.pages c.put_placed.new.pool.pages c.args.limits _ c.args.relation.now c.put_placed.new.self c.args.row.now c.args.bytes.now c.deref.result.now c.relation.view_is c.requires.bytes c.deref.ensures.value
    (c.requires.stands told) c.requires.row (c.requires.owns told) (c.in-Ok.ensures.value told)

pub changed_trees-requires-clause-can : goal.changed_trees-requires-clause-can
changed_trees-requires-clause-can g c = λ last.
    let after = sym c.in-Ok-grown_paths.ensures.within.told ∙ last in
    let told = sym c.in-Ok.ensures.within.told ∙ after in
    tree_asks c.args.pool.now.pages c.put_placed.new.pool.pages c.grown_paths.new.pool.pages c.args.limits _ c.args.relation.now c.put_placed.new.self c.args.row.now c.args.bytes.now
    c.deref.result.now c.in-Ok-grown_paths.paths.items c.deref-2.result.now c.in-Ok.span c.relation.view_is c.requires.bytes c.deref.ensures.value c.deref-2.ensures.value
    (c.requires.stands told) c.requires.row c.requires.size c.requires.described.begun (c.requires.owns told) (c.in-Ok.ensures.value told) (c.in-Ok-grown_paths.ensures.grew after)
    (c.in-Ok.ensures.placed told)

pub returns-in-Ok-changed_trees-clause-grew : goal.returns-in-Ok-changed_trees-clause-grew
returns-in-Ok-changed_trees-clause-grew g c = λ told.
    let after = c.in-Ok.ensures.within.told ∙ told in
    let last = c.in-Ok-grown_paths.ensures.within.told ∙ after in
    got c.args.pool.now.pages c.put_placed.new.pool.pages c.grown_paths.new.pool.pages c.changed_trees.new.pool.pages c.args.limits _ c.args.relation.now c.put_placed.new.self c.args.row.now c.args.bytes.now
    c.deref.result.now c.in-Ok-grown_paths.paths.items c.deref-2.result.now c.in-Ok-changed_trees.trees.items c.in-Ok.span
    c.relation.view_is c.requires.bytes c.deref.ensures.value c.deref-2.ensures.value
    (c.requires.stands told) c.requires.row c.requires.size c.requires.described.begun (c.requires.owns told) (c.in-Ok.ensures.value told) (c.in-Ok-grown_paths.ensures.grew after)
    (c.in-Ok.ensures.placed told) (c.in-Ok-changed_trees.ensures.changed last) c.in-Ok-changed_trees.ensures.columns

pub returns-in-Err-grown_paths-clause-full : goal.returns-in-Err-grown_paths-clause-full
returns-in-Err-grown_paths-clause-full g c = λ e told gap measure.
    too_full c.args.pool.now.pages c.put_placed.new.pool.pages c.args.limits _ c.args.relation.now c.put_placed.new.self c.args.row.now c.args.bytes.now c.deref.result.now gap
    c.relation.view_is c.requires.bytes c.deref.ensures.value
    (c.requires.stands told) c.requires.row (c.requires.owns told) (c.in-Ok.ensures.value told) (c.in-Err-grown_paths.ensures.full e (c.in-Ok.ensures.within.told ∙ told) gap measure)
