-- What the rows are, and which record is bad.
use Rattle.std.proofs.Common.{arith}
use Rattle.std.proofs.lemmas.Result.{err_from_is_err_and}
use Rattle.csv.specs.Records.{fields_of}
use Rattle.csv_load.proofs.RecordByRecord.{none-entered, header-given, row-entered, all-entered, bad-told, given-within}
use Rattle.csv_load.proofs.rows.rows_of.Goals as goal

-- no record was given yet
pub records-init : goal.records-init
records-init c =
    rw (c.into_iter-read-iterator.ensures.into_iter_gives, c.new-rows.ensures.items)
    (none-entered c.args.bytes.now c.args.schema.now c.first_row-first.result c.records_of-read-items.result c.records_of-read-items.ensures)

-- there are fewer records than 32 bits count
pub overflow_add-number : goal.overflow_add-number
overflow_add-number c =
    let few = given-within c.args.bytes.now c.records.invariant.given c.records.read-iterator c.records.invariant.state in
    omega (arith, few, c.records.invariant.counted, c.requires.short)

-- a header was left out
pub records-preserved-then-number-first : goal.records-preserved-then-number-first
records-preserved-then-number-first c =
    let inv = c.records.invariant in
    let s = rw (c.in-Some.is, c.in-Ok.is) at ((c.next.ensures.steps inv.state.goes_on inv.state.plain).0 inv.state.ready) in
    header-given c.args.bytes.now c.args.schema.now c.first_row-first.result c.records.number c.records.rows.items c.records.read-iterator c.next.new.self
    (fields_of c.in-Ok.fields) inv s.0 s.1 s.2 c.if-number-first.true

-- a record was entered as a row
pub records-preserved : goal.records-preserved
records-preserved c =
    let inv = c.records.invariant in
    let s = rw (c.in-Some.is, c.in-Ok.is) at ((c.next.ensures.steps inv.state.goes_on inv.state.plain).0 inv.state.ready) in
    rw c.in_ok-push.ensures.items
    (row-entered c.args.bytes.now c.args.schema.now c.first_row-first.result c.records.number c.records.rows.items c.records.read-iterator c.next.new.self
    (fields_of c.in-Ok.fields) c.in_ok-row_of.field-0 inv s.0 s.1 s.2 c.if-number-first.false (rw c.columns.ensures at c.in_ok-row_of.ensures.row))

-- a record is no row
pub returns-in_err-row_of-clause-bad : goal.returns-in_err-row_of-clause-bad
returns-in_err-row_of-clause-bad c =
    let inv = c.records.invariant in
    let s = rw (c.in-Some.is, c.in-Ok.is) at ((c.next.ensures.steps inv.state.goes_on inv.state.plain).0 inv.state.ready) in
    let p = err_from_is_err_and c.from_residual.result c.from_residual.ensures.1 in
    rw (p.1, p.2)
    (bad-told c.args.bytes.now c.args.schema.now c.args.header c.first_row-first.result c.records.number c.records.rows.items c.records.read-iterator c.next.new.self
    (fields_of c.in-Ok.fields) c.in_err-row_of.field-0.0 c.first_row-first.ensures inv s.0 s.1 s.2 c.if-number-first.false (rw c.columns.ensures at c.in_err-row_of.ensures.bad))

-- all records were entered
pub returns-clause-rows : goal.returns-clause-rows
returns-clause-rows c =
    let inv = c.records.invariant in
    let s = rw c.in-None.is at ((c.next.ensures.steps inv.state.goes_on inv.state.plain).0 inv.state.ready) in
    all-entered c.args.bytes.now c.args.schema.now c.args.header c.first_row-first.result c.records.number c.records.rows.items c.records.read-iterator c.next.new.self
    c.first_row-first.ensures inv s
