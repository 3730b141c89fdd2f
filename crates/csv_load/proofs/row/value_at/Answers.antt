-- A field that is there has its value.
use Rattle.std.proofs.Common.{◌≡◌, Some, ap, sym, ◌∙◌}
use Rattle.std.proofs.lemmas.Result.{IfOk-weaker}
use Rattle.std.specs.Option.{option_map}
use Rattle.csv.specs.Records.{fields_of, field_at}
use Rattle.csv_load.specs.FieldValue.{field_value_in}
use Rattle.csv_load.proofs.FieldValues.{reads-value}
use Rattle.csv_load.proofs.row.value_at.Goals as goal

pub returns-in-Some : goal.returns-in-Some
returns-in-Some c =
    let there : Some c.in-Some.field.now ≡ field_at (fields_of c.args.fields.now) c.args.at =
    ap (option_map (λ s. s.now)) (sym c.in-Some.is) ∙ c.get.ensures.value in
    IfOk-weaker c.read_field.result _ _
    (λ found told. reads-value c.args.kind c.in-Some.field.now found told ∙ ap (field_value_in c.args.kind) there) c.read_field.ensures
