-- the value is no shape, and the index has its entry
use Rattle.std.proofs.Common.{◌≡◌, ◌<◌, ◌^◌, sym, ◌∙◌, ap, Some, Bor, arith}
use Rattle.std.specs.Option.{option_map}
use Rattle.sand_base.specs.declared.value.Value.{Value}
use Rattle.sand_model.specs.Database.{element}
use Rattle.sand_store.proofs.IndexGrowth.{attribute_at, index_grew}
use Rattle.sand_store.proofs.grow.grown_index.Goals as goal

pub add-requires-clause-attribute : goal.add-requires-clause-attribute
add-requires-clause-attribute g c =
    let is : element c.args.row.now c.args.shapes.now.column ≡ Some c.in-Some.value.now = sym c.value_at.ensures ∙ ap (λ o. option_map (λ (v : Bor Value). v.now) o) c.in-Some.is in
    attribute_at c.args.shapes.now.schema.now c.args.row.now c.args.shapes.now.column c.in-Some.value.now c.requires.row is c.requires.column

pub returns-in-Ok-clause-grew : goal.returns-in-Ok-clause-grew
returns-in-Ok-clause-grew g c = λ told.
    let is : element c.args.row.now c.args.shapes.now.column ≡ Some c.in-Some.value.now = sym c.value_at.ensures ∙ ap (λ o. option_map (λ (v : Bor Value). v.now) o) c.in-Some.is in
    let small : c.args.id < 2 ^ 32 = omega (arith, c.ranges.id.fits) in
    index_grew c.args.pool.now.pages c.add.new.pool.pages c.args.limits c.args.shapes.now.schema.now c.args.shapes.now.file c.args.id c.args.shapes.now.column c.args.row.now
    c.args.index c.add.new.self c.in-Some.value.now small c.requires.row (c.requires.can told) is (c.in-Ok.ensures.value told)
