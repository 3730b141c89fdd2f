-- the index has the entry of the row
use Rattle.std.proofs.Common.{◌≡◌, ◌<◌, ◌^◌, sym, ◌∙◌, ap, Some, Bor, arith}
use Rattle.std.specs.Option.{option_map}
use Rattle.sand_base.specs.declared.value.Value.{Value}
use Rattle.sand_model.specs.Database.{element}
use Rattle.sand_store.proofs.IndexFill.{index_took}
use Rattle.sand_store.proofs.index.index_with_row.Goals as goal

pub returns-in-Ok-clause-took : goal.returns-in-Ok-clause-took
returns-in-Ok-clause-took g c = λ told h.
    let is : element c.args.row.now c.args.shapes.now.column ≡ Some c.in-Some.value.now = sym c.value_at.ensures ∙ ap (λ o. option_map (λ (v : Bor Value). v.now) o) c.in-Some.is in
    let small : c.args.id < 2 ^ 32 = omega (arith, c.ranges.id.fits) in
    index_took c.args.pool.now.pages c.add.new.pool.pages c.args.limits c.args.shapes.now.schema.now c.args.shapes.now.file c.args.id c.args.shapes.now.column c.args.row.now
    c.args.index c.add.new.self c.in-Some.value.now small h is (c.in-Ok.ensures.value told)
