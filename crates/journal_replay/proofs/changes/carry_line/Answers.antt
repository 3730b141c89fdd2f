use Rattle.std.proofs.Common.{List, ℕ, sym, subst}
use Rattle.sand_journal.specs.ChangeBody.{Line, line_value}
use Rattle.statements.specs.Statement as model
use Rattle.sand_store.specs.Calls.{Created, Deleted, Indexed, Treed, IsStatementRefused, is_none, is_missing, is_index_full}
use Rattle.script_text.specs.InRange.{IsInRange}
use Rattle.statements.specs.Statement.{Statement, Create, Delete, Index, Rtree}
use Rattle.journal_replay.specs.LedBy.{LedByOne}
use Rattle.journal_replay.specs.Declined.{replay_fault}
use Rattle.journal_replay.specs.Replayed.{IsDeclined}
use Rattle.journal_replay.proofs.Declined.{passed_on, line_declined}
use Rattle.journal_replay.proofs.Leading.{led_by_create, led_by_delete, led_by_index, led_by_rtree}
use Rattle.journal_replay.proofs.Lines.{create_is, delete_is, index_is, rtree_is, threshold_fits, kept_ones}
use Rattle.journal_replay.proofs.changes.carry_line.Goals as goal

-- a statement in range has a schema in range
pub create-requires : goal.create-requires
create-requires g c = (subst IsInRange (create_is c.args.statement c.in-Create.relation c.in-Create.columns c.in-Create.is) c.requires.in_range).1

-- a relation that is refused
pub returns-in_err-create-in-Create-clause-declined : goal.returns-in_err-create-in-Create-clause-declined
returns-in_err-create-in-Create-clause-declined g c =
    passed_on c.from_residual.result (replay_fault c.in_err-create-in-Create.field-0.0) (IsDeclined c.args.store.now (Line (line_value c.args.statement))) c.from_residual.ensures.1
    (line_declined c.args.store.now c.args.statement (Create c.in-Create.relation c.in-Create.columns)
    (model.Create c.in-Create.relation c.in-Create.columns) is_none c.in_err-create-in-Create.field-0.0
    (create_is c.args.statement c.in-Create.relation c.in-Create.columns c.in-Create.is) (λ setting takes. takes) (λ check. check)
    (subst (λ (n : List ℕ). IsStatementRefused is_none c.args.store.now
    (model.Create n c.in-Create.columns) c.in_err-create-in-Create.field-0.0) c.as_str.ensures c.in_err-create-in-Create.ensures.refused))

-- a removal that is refused
pub returns-in_err-delete-in-Delete-clause-declined : goal.returns-in_err-delete-in-Delete-clause-declined
returns-in_err-delete-in-Delete-clause-declined g c =
    passed_on c.from_residual-in_err-delete-in-Delete.result (replay_fault c.in_err-delete-in-Delete.field-0.0)
    (IsDeclined c.args.store.now (Line (line_value c.args.statement))) c.from_residual-in_err-delete-in-Delete.ensures.1
    (line_declined c.args.store.now c.args.statement (Delete c.in-Delete.relation c.in-Delete.id) (model.Delete c.in-Delete.relation c.in-Delete.id) is_missing c.in_err-delete-in-Delete.field-0.0
    (delete_is c.args.statement c.in-Delete.relation c.in-Delete.id c.in-Delete.is) (λ setting takes. takes) (λ check. check)
    (subst (λ (n : List ℕ). IsStatementRefused is_missing c.args.store.now
    (model.Delete n c.in-Delete.id) c.in_err-delete-in-Delete.field-0.0) c.as_str-in-Delete.ensures c.in_err-delete-in-Delete.ensures.refused))

-- a threshold in range is from 1 to 64
pub index-requires : goal.index-requires
index-requires g c = threshold_fits c.in-Index.threshold (subst IsInRange (index_is c.args.statement c.in-Index.column c.in-Index.threshold c.in-Index.is) c.requires.in_range).1

-- an index that is refused
pub returns-in_err-index-in-Index-clause-declined : goal.returns-in_err-index-in-Index-clause-declined
returns-in_err-index-in-Index-clause-declined g c =
    passed_on c.from_residual-in_err-index-in-Index.result (replay_fault c.in_err-index-in-Index.field-0.0)
    (IsDeclined c.args.store.now (Line (line_value c.args.statement))) c.from_residual-in_err-index-in-Index.ensures.1
    (line_declined c.args.store.now c.args.statement (Index c.in-Index.column c.in-Index.threshold)
    (model.Index (record { relation = c.in-Index.column.relation; column = c.in-Index.column.column }) c.in-Index.threshold) is_index_full c.in_err-index-in-Index.field-0.0
    (index_is c.args.statement c.in-Index.column c.in-Index.threshold c.in-Index.is) (λ setting takes. takes) (λ check. check)
    (subst (λ (n : List ℕ). IsStatementRefused is_index_full c.args.store.now
    (model.Index (record { relation = n; column = c.in-Index.column.column }) c.in-Index.threshold) c.in_err-index-in-Index.field-0.0) c.as_str-in-Index.ensures
    (subst (λ (n : List ℕ). IsStatementRefused is_index_full c.args.store.now
    (model.Index (record { relation = c.as_str-in-Index.result.now; column = n }) c.in-Index.threshold) c.in_err-index-in-Index.field-0.0) c.as_str-in-Index-2.ensures
    c.in_err-index-in-Index.ensures.refused)))

-- a relation that was made
pub returns-in_ok-create-in-Create-clause-led : goal.returns-in_ok-create-in-Create-clause-led
returns-in_ok-create-in-Create-clause-led g c =
    subst (λ (v : Statement). LedByOne (Line v) c.args.store.now c.create.new.self) (sym (create_is c.args.statement c.in-Create.relation c.in-Create.columns c.in-Create.is))
    (led_by_create c.args.store.now c.create.new.self c.in-Create.relation c.in-Create.columns
    (subst (λ (n : List ℕ). Created c.args.store.now c.create.new.self n c.in-Create.columns) c.as_str.ensures c.in_ok-create-in-Create.ensures.created) c.create.ensures.carries)

-- a row that was removed
pub returns-in_ok-delete-in-Delete-clause-led : goal.returns-in_ok-delete-in-Delete-clause-led
returns-in_ok-delete-in-Delete-clause-led g c =
    subst (λ (v : Statement). LedByOne (Line v) c.args.store.now c.delete.new.self) (sym (delete_is c.args.statement c.in-Delete.relation c.in-Delete.id c.in-Delete.is))
    (led_by_delete c.args.store.now c.delete.new.self c.in-Delete.relation c.in-Delete.id
    (subst (λ (n : List ℕ). Deleted c.args.store.now c.delete.new.self n c.in-Delete.id) c.as_str-in-Delete.ensures c.in_ok-delete-in-Delete.ensures.deleted) c.delete.ensures.carries)

-- an index that was made
pub returns-in_ok-index-in-Index-clause-led : goal.returns-in_ok-index-in-Index-clause-led
returns-in_ok-index-in-Index-clause-led g c =
    subst (λ (v : Statement). LedByOne (Line v) c.args.store.now c.index.new.self) (sym (index_is c.args.statement c.in-Index.column c.in-Index.threshold c.in-Index.is))
    (led_by_index c.args.store.now c.index.new.self c.in-Index.column c.in-Index.threshold
    (subst (λ (n : List ℕ). Indexed c.args.store.now c.index.new.self (record { relation = n; column = c.in-Index.column.column }) c.in-Index.threshold) c.as_str-in-Index.ensures
    (subst (λ (n : List ℕ). Indexed c.args.store.now c.index.new.self
    (record { relation = c.as_str-in-Index.result.now; column = n }) c.in-Index.threshold) c.as_str-in-Index-2.ensures c.in_ok-index-in-Index.ensures.indexed))
    c.index.ensures.carries)

-- a journal keeps no other statement
pub returns-in_default : goal.returns-in_default
returns-in_default g c = absurd (kept_ones c.args.statement c.requires.kept c.in_default.not-Create c.in_default.not-Delete c.in_default.not-Index c.in_default.not-Rtree)

-- an R-tree that is refused
pub returns-in_err-rtree-in-Rtree-clause-declined : goal.returns-in_err-rtree-in-Rtree-clause-declined
returns-in_err-rtree-in-Rtree-clause-declined g c =
    passed_on c.from_residual-in_err-rtree-in-Rtree.result (replay_fault c.in_err-rtree-in-Rtree.field-0.0)
    (IsDeclined c.args.store.now (Line (line_value c.args.statement))) c.from_residual-in_err-rtree-in-Rtree.ensures.1
    (line_declined c.args.store.now c.args.statement (Rtree c.in-Rtree.column)
    (model.Rtree (record { relation = c.in-Rtree.column.relation; column = c.in-Rtree.column.column })) is_none c.in_err-rtree-in-Rtree.field-0.0
    (rtree_is c.args.statement c.in-Rtree.column c.in-Rtree.is) (λ setting takes. takes) (λ check. check)
    (subst (λ (n : List ℕ). IsStatementRefused is_none c.args.store.now
    (model.Rtree (record { relation = n; column = c.in-Rtree.column.column })) c.in_err-rtree-in-Rtree.field-0.0) c.as_str-in-Rtree.ensures
    (subst (λ (n : List ℕ). IsStatementRefused is_none c.args.store.now
    (model.Rtree (record { relation = c.as_str-in-Rtree.result.now; column = n })) c.in_err-rtree-in-Rtree.field-0.0) c.as_str-in-Rtree-2.ensures
    c.in_err-rtree-in-Rtree.ensures.refused)))

-- an R-tree that was made
pub returns-in_ok-rtree-in-Rtree-clause-led : goal.returns-in_ok-rtree-in-Rtree-clause-led
returns-in_ok-rtree-in-Rtree-clause-led g c =
    subst (λ (v : Statement). LedByOne (Line v) c.args.store.now c.rtree.new.self) (sym (rtree_is c.args.statement c.in-Rtree.column c.in-Rtree.is))
    (led_by_rtree c.args.store.now c.rtree.new.self c.in-Rtree.column
    (subst (λ (n : List ℕ). Treed c.args.store.now c.rtree.new.self (record { relation = n; column = c.in-Rtree.column.column })) c.as_str-in-Rtree.ensures
    (subst (λ (n : List ℕ). Treed c.args.store.now c.rtree.new.self (record { relation = c.as_str-in-Rtree.result.now; column = n })) c.as_str-in-Rtree-2.ensures c.in_ok-rtree-in-Rtree.ensures.treed))
    c.rtree.ensures.carries)
