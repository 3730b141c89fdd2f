use Rattle.sand_store.proofs.RowKinds.{row_told}
use Rattle.journal_replay.proofs.KeptRows.{fails_test, row_encoded}
use Rattle.journal_replay.proofs.encoding.encode_row.Goals as goal

-- a row that fails the test is not of the schema
pub returns-then-not-is_of_columns : goal.returns-then-not-is_of_columns
returns-then-not-is_of_columns c =
    fails_test c.columns.result.now c.args.schema.now c.values.result.now c.args.row.now c.is_of_columns.result c.is_of_columns.ensures c.if-not-is_of_columns.true c.columns.ensures c.values.ensures

-- one that passes it is
pub encode-requires-clause-of_schema : goal.encode-requires-clause-of_schema
encode-requires-clause-of_schema c =
    row_told c.columns.result.now c.args.schema.now c.values.result.now c.args.row.now c.is_of_columns.result c.is_of_columns.ensures c.if-not-is_of_columns.false c.columns.ensures c.values.ensures

-- the bytes are its encoding
pub returns-in-Ok : goal.returns-in-Ok
returns-in-Ok c =
    row_encoded c.args.schema.now c.args.row.now c.in-Ok.bytes.items
    (row_told c.columns.result.now c.args.schema.now c.values.result.now c.args.row.now c.is_of_columns.result c.is_of_columns.ensures c.if-not-is_of_columns.false c.columns.ensures c.values.ensures)
    c.requires c.in-Ok.ensures.encoded c.in-Ok.ensures.long c.in-Ok.ensures.fits
