-- the file can't be read whole; or its rows are of the schema
use Rattle.std.proofs.Common.{subst, sym}
use Rattle.std.proofs.lemmas.Result.{err_from_is_err_and}
use Rattle.std.specs.Prelude.{IfErr}
use Rattle.csv_load.specs.FileRows.{rows_of_file, TellsBad}
use Rattle.csv_load.specs.declared.fault.LoadFault.{LoadFault}
use Rattle.sand_model.specs.StatementChecks.{AreRows}
use Rattle.statement_exec.proofs.FileFaults.{bad_record, found_records, gives_none}
use Rattle.statement_exec.specs.FileReading.{DataFile, GivesNone}
use Rattle.statement_exec.proofs.file_rows.read_rows.Goals as goal

pub returns-in-Err-clause-none : goal.returns-in-Err-clause-none
returns-in-Err-clause-none g c =
    let file : DataFile = record { name = c.args.file.now; schema = c.args.schema.now; header = c.args.header } in
    gives_none (g.H.Shelf.files c.args.shelf.now) file (g.H.Shelf.left c.read_file.new.shelf) (g.H.Shelf.faults c.args.shelf.now) (g.H.Shelf.faults c.read_file.new.shelf)
    c.in-Err.why c.in-Err.ensures.cause (rw c.as_str.ensures at c.in-Err.ensures.long)

pub returns-clause-in_range : goal.returns-clause-in_range
returns-clause-in_range g c = λ k d l.
    (c.rows_of_a_file_fit_its_schema.ensures c.deref.result.now c.args.schema.now c.args.header c.in_ok-rows.rows.items c.in_ok-rows.ensures.rows k d l).1

-- a record that is no row
pub returns-in_err-rows-clause-none : goal.returns-in_err-rows-clause-none
returns-in_err-rows-clause-none g c =
    let file : DataFile = record { name = c.args.file.now; schema = c.args.schema.now; header = c.args.header } in
    let p = err_from_is_err_and c.from_residual.result c.from_residual.ensures.1 in
    let bad : TellsBad (rows_of_file c.in-Ok.bytes.items c.args.schema.now c.args.header) c.in_err-rows.field-0.0 = rw c.deref.ensures.value at c.in_err-rows.ensures.bad in
    let none : GivesNone (g.H.Shelf.files c.args.shelf.now) file p.0 =
    subst (λ (w : LoadFault). GivesNone (g.H.Shelf.files c.args.shelf.now) file w) (sym p.2)
    (bad_record (g.H.Shelf.files c.args.shelf.now) file c.in-Ok.bytes.items c.in_err-rows.field-0.0 (rw c.as_str.ensures at c.in-Ok.ensures.whole) c.in-Ok.ensures.short bad) in
    subst (λ r. IfErr r (GivesNone (g.H.Shelf.files c.args.shelf.now) file)) (sym p.1) none

pub returns-clause-rows : goal.returns-clause-rows
returns-clause-rows g c =
    let file : DataFile = record { name = c.args.file.now; schema = c.args.schema.now; header = c.args.header } in
    found_records (g.H.Shelf.files c.args.shelf.now) file c.in-Ok.bytes.items (AreRows c.in_ok-rows.rows.items) (rw c.as_str.ensures at c.in-Ok.ensures.whole) c.in-Ok.ensures.short
    (rw c.deref.ensures.value at c.in_ok-rows.ensures.rows)
