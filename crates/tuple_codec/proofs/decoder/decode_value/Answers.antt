-- Why the value that is found is the one of the column.
use Rattle.std.proofs.Common.{◌+◌, ap, sym, ◌∙◌, drop}
use Rattle.std.proofs.lemmas.Bool.{false≢true}
use Rattle.tuple_codec.specs.Encoding.{encoding}
use Rattle.tuple_codec.proofs.Passes.{value_before, value_in_column, at_column, found_there}
use Rattle.tuple_codec.proofs.decoder.decode_value.Goals as goal

-- a value before it is passed over where the bytes are those of a row
pub returns-then-not-pass_value-clause-value : goal.returns-then-not-pass_value-clause-value
returns-then-not-pass_value-clause-value c = λ row enc.
    let at = c.columns.before-index in
    let v = value_before c.columns-columns.result.now c.args.schema.now c.args.column at c.columns-item.result c.args.bytes.now c.columns-columns.ensures
    c.columns-test.true c.columns-item.is row enc in
    let passed = c.pass_value.ensures v.0 (encoding (drop (at + 1) row)) v.1.is (c.columns.invariant row enc ∙ v.1.ahead) in
    absurd (false≢true (sym c.if-not-pass_value.true ∙ passed.0))

-- one more was passed over
pub columns-preserved : goal.columns-preserved
columns-preserved c = λ row enc.
    let at = c.columns.before-index in
    let v = value_before c.columns-columns.result.now c.args.schema.now c.args.column at c.columns-item.result c.args.bytes.now c.columns-columns.ensures
    c.columns-test.true c.columns-item.is row enc in
    (c.pass_value.ensures v.0 (encoding (drop (at + 1) row)) v.1.is (c.columns.invariant row enc ∙ v.1.ahead)).1

-- the value in front is that of the column
pub returns-clause-value : goal.returns-clause-value
returns-clause-value c = λ row enc.
    let columns = c.columns-columns.result.now in
    let column = c.args.column in
    let look = c.in-Some.ensures.lookup in
    let v = value_in_column columns c.args.schema.now column c.in-Some.field-0.now c.args.bytes.now c.columns-columns.ensures look.3.0 look.1
    row enc in
    let at = at_column columns column c.columns.before-index look.3.0 c.columns-test.false c.columns.auto.before-index-end in
    found_there c.in-Some.field-0.now.1 v.0 c.columns.reader.left.now c.read_value.new.reader.left.now (encoding (drop (column + 1) row)) c.in_ok-value.value v.1.is
    (c.columns.invariant row enc ∙ ap (λ n. encoding (drop n row)) at ∙ v.1.ahead) c.in_ok-value.ensures
    ∙ sym v.1.here
