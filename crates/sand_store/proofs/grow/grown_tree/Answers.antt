-- the tree fits the rows before, has grown by the last one, or would be too full
use Rattle.std.proofs.Common.{◌≡◌, sym, ◌∙◌, ap, Some, Bor}
use Rattle.std.specs.Option.{option_map}
use Rattle.sand_base.specs.declared.shape.Shape.{Shape}
use Rattle.sand_model.specs.Database.{shape_in}
use Rattle.sand_store.proofs.Refusals.{tree_is_full}
use Rattle.sand_store.proofs.TreeGrowth.{fits_others, tree_grew, tree_full}
use Rattle.sand_store.proofs.grow.grown_tree.Goals as goal

pub insert-requires-clause-fits : goal.insert-requires-clause-fits
insert-requires-clause-fits g c = λ told.
    let is : shape_in c.args.shapes.now.column c.args.row.now ≡ Some c.in-Some.shape.now = sym c.shape_at.ensures ∙ ap (λ o. option_map (λ (s : Bor Shape). s.now) o) c.in-Some.is in
    fits_others c.args.pool.now.pages c.args.limits c.args.shapes.now.schema.now c.args.shapes.now.file c.args.id c.args.shapes.now.column c.args.row.now c.args.tree c.in-Some.shape.now
    (c.requires.can told) is

pub returns-in-Ok-clause-grew : goal.returns-in-Ok-clause-grew
returns-in-Ok-clause-grew g c = λ told.
    let is : shape_in c.args.shapes.now.column c.args.row.now ≡ Some c.in-Some.shape.now = sym c.shape_at.ensures ∙ ap (λ o. option_map (λ (s : Bor Shape). s.now) o) c.in-Some.is in
    tree_grew c.growth_laws.ensures.grown_fits c.args.pool.now.pages c.insert.new.pool.pages c.args.limits c.args.shapes.now.schema.now c.args.shapes.now.file c.args.id c.args.shapes.now.column c.args.row.now
    c.args.tree c.insert.new.self c.in-Some.shape.now (c.requires.can told) is (c.in-Ok.ensures.grown told) (c.in-Ok.ensures.few told)

pub returns-in-Err-clause-full : goal.returns-in-Err-clause-full
returns-in-Err-clause-full g c = λ e told gap measure.
    let is : shape_in c.args.shapes.now.column c.args.row.now ≡ Some c.in-Some.shape.now = sym c.shape_at.ensures ∙ ap (λ o. option_map (λ (s : Bor Shape). s.now) o) c.in-Some.is in
    tree_full gap c.args.pool.now.pages c.args.limits c.args.shapes.now.schema.now c.args.shapes.now.file c.args.id c.args.shapes.now.column c.args.row.now c.args.tree c.in-Some.shape.now
    (c.requires.can told) is (c.in-Err.ensures.full (tree_is_full c.in-Err.why (sym c.refusal_of_tree.ensures ∙ e)) told gap measure)
