-- Which column is bad, or that each has its value.
use Rattle.std.proofs.Common.{◌≡◌, ◌+◌, length, Some, None, Err, refl, sym, ap, ◌∙◌, arith}
use Rattle.csv.specs.Records.{fields_of, field_at}
use Rattle.csv_load.specs.FieldValue.{field_value_in}
use Rattle.csv_load.proofs.RowByRow.{none-read, more-read, bad-column, surplus-there, whole-there, length-push}
use Rattle.csv_load.proofs.row.row_of.Goals as goal

-- no column was read yet
pub columns-init : goal.columns-init
columns-init c = record {
  counted = ap length (sym c.in_ok-values.ensures.items);
  read = rw c.in_ok-values.ensures.items (none-read c.args.columns.now (fields_of c.args.fields.now));
}

-- one more was read
pub columns-preserved : goal.columns-preserved
columns-preserved c =
    let at : c.len.result ≡ length c.columns.values.items = omega (arith, c.len.ensures, c.columns.values.ok.0) in
    let is : Some c.in-Some.value ≡ field_value_in c.columns-item.result.1 (field_at (fields_of c.args.fields.now) (length c.columns.values.items)) =
    sym c.in-Some.is ∙ c.in_ok-value.ensures ∙ ap (λ n. field_value_in c.columns-item.result.1 (field_at (fields_of c.args.fields.now) n)) at in
    record {
      counted =
          omega (arith, c.columns.invariant.counted, ap length c.in_ok-push.ensures.items, length-push c.columns.values.items c.in-Some.value);
      read =
          rw c.in_ok-push.ensures.items
          (more-read c.args.columns.now (fields_of c.args.fields.now) c.columns.values.items c.columns.kind-index c.columns-item.result c.in-Some.value
          c.columns.invariant.counted c.columns-test.true c.columns-item.is c.columns.invariant.read is);
    }

-- the next one is bad
pub returns-in_default-clause-bad : goal.returns-in_default-clause-bad
returns-in_default-clause-bad c =
    let at : c.len.result ≡ length c.columns.values.items = omega (arith, c.len.ensures, c.columns.values.ok.0) in
    let again : c.len-in_default.result ≡ length c.columns.values.items = omega (arith, c.len-in_default.ensures, c.columns.values.ok.0) in
    let is : None ≡ field_value_in c.columns-item.result.1 (field_at (fields_of c.args.fields.now) (length c.columns.values.items)) =
    sym c.in_default.is ∙ c.in_ok-value.ensures ∙ ap (λ n. field_value_in c.columns-item.result.1 (field_at (fields_of c.args.fields.now) n)) at in
    rw c.bad_after.ensures (
      refl,
      bad-column c.args.columns.now (fields_of c.args.fields.now) c.columns.values.items c.columns.kind-index c.columns-item.result
          c.columns.invariant.counted c.columns-test.true c.columns-item.is c.columns.invariant.read is
          ∙ ap (λ n. Err (n + 1)) (sym again),
    )

-- a field is left behind the last
pub returns-then-is_some-clause-bad : goal.returns-then-is_some-clause-bad
returns-then-is_some-clause-bad c =
    rw c.bad_after-then-is_some.ensures (
      refl,
      surplus-there c.args.columns.now (fields_of c.args.fields.now) c.columns.values.items c.columns.kind-index c.columns.invariant.counted c.columns-test.false
          c.columns.invariant.read c.get.result c.get.ensures.value (sym c.is_some.ensures ∙ c.if-is_some.true),
    )

-- none is
pub returns-clause-row : goal.returns-clause-row
returns-clause-row c =
    rw c.new.ensures
    (whole-there c.args.columns.now (fields_of c.args.fields.now) c.columns.values.items c.columns.kind-index c.columns.invariant.counted c.columns-test.false
    c.columns.invariant.read c.get.result c.get.ensures.value (sym c.is_some.ensures ∙ c.if-is_some.false))
