-- Why there is no other row.
use Rattle.std.proofs.Common.{◌≡◌, true, ◌∙◌}
use Rattle.tuple_codec.proofs.Rows.{none_whole, whole_row}
use Rattle.tuple_codec.proofs.decoder.decode.Goals as goal

-- no row stands in front
pub returns-in_default-clause-whole : goal.returns-in_default-clause-whole
returns-in_default-clause-whole c =
    let none = rw c.in_default.is at c.in_ok-values.ensures in
    λ row enc.
    absurd (none_whole c.columns.result.now c.args.schema.now c.over-reader.result.left.now c.args.bytes.now c.columns.ensures c.over-reader.ensures none row enc)

-- something stands behind the row
pub returns-then-not-is_empty-clause-whole : goal.returns-then-not-is_empty-clause-whole
returns-then-not-is_empty-clause-whole c =
    let found = rw c.in-Some.is at c.in_ok-values.ensures in
    λ row enc.
    let empty : c.is_empty.result ≡ true = c.is_empty.ensures.1
    (whole_row c.columns.result.now c.args.schema.now c.over-reader.result.left.now c.args.bytes.now c.read_values.new.reader.left.now
    c.in-Some.values.items c.columns.ensures c.over-reader.ensures found.0 found.1 row enc).1 in
    cc

-- the row in front is the one
pub returns-clause-whole : goal.returns-clause-whole
returns-clause-whole c =
    let found = rw c.in-Some.is at c.in_ok-values.ensures in
    λ row enc.
    let same : c.new.result ≡ row = c.new.ensures
    ∙ (whole_row c.columns.result.now c.args.schema.now c.over-reader.result.left.now c.args.bytes.now c.read_values.new.reader.left.now
    c.in-Some.values.items c.columns.ensures c.over-reader.ensures found.0 found.1 row enc).0 in
    cc
