use Rattle.std.proofs.Common.{List, ap, subst, sym}
use Rattle.sand_base.specs.declared.value.Value.{Value}
use Rattle.sand_journal.specs.ChangeBody.{Rows}
use Rattle.sand_store.specs.Catalog.{CatalogView}
use Rattle.journal_replay.specs.EncodedRows.{HasRowsFor}
use Rattle.journal_replay.specs.Declined.{replay_fault}
use Rattle.journal_replay.specs.Replayed.{IsDeclined}
use Rattle.journal_replay.proofs.Declined.{passed_on, row_declined, rows_declined, lacking_declined}
use Rattle.journal_replay.proofs.Entered.{led_by_rows}
use Rattle.journal_replay.proofs.RowChanges.{led_by_row}
use Rattle.journal_replay.proofs.changes.carry_rows.Goals as goal

-- encodings of which there are no rows
pub returns-in_err-rows-clause-declined : goal.returns-in_err-rows-clause-declined
returns-in_err-rows-clause-declined g c =
    passed_on c.from_residual.result c.in_err-rows.field-0.0 (IsDeclined c.args.store.now (Rows c.args.relation.now c.args.encodings.now)) c.from_residual.ensures.1
    (lacking_declined c.args.store.now c.catalog.result.now c.args.relation.now c.args.encodings.now c.in_err-rows.field-0.0 c.catalog.ensures.catalog c.in_err-rows.ensures.none)

-- a row that the store refuses
pub returns-in_err-insert-in-Ok-clause-declined : goal.returns-in_err-insert-in-Ok-clause-declined
returns-in_err-insert-in-Ok-clause-declined g c =
    passed_on c.from_residual-in_err-insert-in-Ok.result (replay_fault c.in_err-insert-in-Ok.field-0.0) (IsDeclined c.args.store.now (Rows c.args.relation.now c.args.encodings.now))
    c.from_residual-in_err-insert-in-Ok.ensures.1
    (row_declined c.args.store.now c.args.relation.now c.args.encodings.now c.in-Ok.row
    (subst (λ (vs : List (List Value)). HasRowsFor c.args.store.now.catalog c.args.relation.now c.args.encodings.now vs) c.in-Ok.ensures.one
    (subst (λ (k : CatalogView). HasRowsFor k c.args.relation.now c.args.encodings.now c.in_ok-rows.rows.items) c.catalog.ensures.catalog c.in_ok-rows.ensures.rows))
    c.in_err-insert-in-Ok.field-0.0 c.in_err-insert-in-Ok.ensures.refused)

-- rows that the store refuses
pub returns-in_err-load_rows-in-Err-clause-declined : goal.returns-in_err-load_rows-in-Err-clause-declined
returns-in_err-load_rows-in-Err-clause-declined g c =
    passed_on c.from_residual-in_err-load_rows-in-Err.result (replay_fault c.in_err-load_rows-in-Err.field-0.0) (IsDeclined c.args.store.now (Rows c.args.relation.now c.args.encodings.now))
    c.from_residual-in_err-load_rows-in-Err.ensures.1
    (rows_declined c.args.store.now c.args.relation.now c.args.encodings.now c.in-Err.rows.items
    (subst (λ (vs : List (List Value)). HasRowsFor c.args.store.now.catalog c.args.relation.now c.args.encodings.now vs) (sym (ap (λ v. v.items) c.in-Err.ensures.others))
    (subst (λ (k : CatalogView). HasRowsFor k c.args.relation.now c.args.encodings.now c.in_ok-rows.rows.items) c.catalog.ensures.catalog c.in_ok-rows.ensures.rows))
    c.in_err-load_rows-in-Err.field-0.0 c.in_err-load_rows-in-Err.ensures.refused c.in_err-load_rows-in-Err.ensures.plain)

-- a row that the store took in
pub returns-in_ok-insert-in-Ok-clause-led : goal.returns-in_ok-insert-in-Ok-clause-led
returns-in_ok-insert-in-Ok-clause-led g c =
    led_by_row c.args.store.now c.args.relation.now c.args.encodings.now c.in-Ok.row
    (subst (λ (vs : List (List Value)). HasRowsFor c.args.store.now.catalog c.args.relation.now c.args.encodings.now vs) c.in-Ok.ensures.one
    (subst (λ (k : CatalogView). HasRowsFor k c.args.relation.now c.args.encodings.now c.in_ok-rows.rows.items) c.catalog.ensures.catalog c.in_ok-rows.ensures.rows))
    c.insert.new.self c.in_ok-insert-in-Ok.field-0 c.in_ok-insert-in-Ok.ensures.inserted c.insert.ensures.carries

-- rows that the store took in
pub returns-in_ok-load_rows-in-Err-clause-led : goal.returns-in_ok-load_rows-in-Err-clause-led
returns-in_ok-load_rows-in-Err-clause-led g c =
    led_by_rows c.args.store.now c.args.relation.now c.args.encodings.now c.in-Err.rows.items
    (subst (λ (vs : List (List Value)). HasRowsFor c.args.store.now.catalog c.args.relation.now c.args.encodings.now vs) (sym (ap (λ v. v.items) c.in-Err.ensures.others))
    (subst (λ (k : CatalogView). HasRowsFor k c.args.relation.now c.args.encodings.now c.in_ok-rows.rows.items) c.catalog.ensures.catalog c.in_ok-rows.ensures.rows))
    c.load_rows.new.self c.in_ok-load_rows-in-Err.field-0 c.in_ok-load_rows-in-Err.ensures.loaded c.load_rows.ensures.carries
