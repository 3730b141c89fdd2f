-- Why a store doesn't take a change: a check refuses it, or it has no rows.
use Rattle.std.specs.Prelude.{◌≡◌, ◌⊎◌, ℕ, List, [], ◌∷◌}
use Rattle.page_pool.specs.Pool.{IsTold}
use Rattle.sand_base.specs.declared.refusal.Refusal.{Refusal}
use Rattle.sand_base.specs.declared.refusal.Refusal.TheVariants as why
use Rattle.sand_base.specs.declared.value.Value.{Value}
use Rattle.sand_journal.specs.ChangeBody.{ChangeValue, Line, Rows}
use Rattle.statements.specs.Statement as model
use Rattle.sand_store.specs.Calls.{Within, IsStatementRefused, LoadIsRefusedBy, IsRefusedPlainly, is_none, is_missing, is_index_full}
use Rattle.sand_store.specs.Catalog.{StoreState}
use Rattle.sand_store.specs.Contents.{database}
use Rattle.statements.specs.Statement.{Create, Delete, Index, Rtree}
use Rattle.journal_replay.specs.ChangedDatabase.{TakesChange}
use Rattle.journal_replay.specs.EncodedRows.{HasRowsFor, LacksRowsFor}
use Rattle.journal_replay.specs.declared.fault.ReplayFault.{ReplayFault}
use Rattle.journal_replay.specs.declared.fault.ReplayFault.TheVariants as fault

-- the fault of a replay whose change is refused so
abbrev pub replay_fault : Refusal → ReplayFault
replay_fault why.Memory = fault.Memory
replay_fault why.Device = fault.Device
replay_fault (why.Damaged page kept read) = fault.Damaged
replay_fault _ = fault.Bad

-- a check refuses, and this holds of its refusal
abbrev pub OfCheck : (Refusal → Type 0) → Type 0
OfCheck P = (refusal : Refusal) × (replay_fault refusal ≡ fault.Bad) × P refusal

-- a check of the store's load refuses rows, or one of its insert the only row
abbrev pub AreRefused : StoreState → List ℕ → List (List Value) → Refusal → Type 0
AreRefused store name rows refusal =
    (LoadIsRefusedBy store name rows refusal × IsRefusedPlainly store name rows refusal)
    ⊎ ((row : List Value) × (rows ≡ row ∷ []) × IsStatementRefused is_index_full store (model.Insert name row) refusal)

-- a check of the store refuses the rows that have these encodings
abbrev pub RefusesEncoded : StoreState → List ℕ → List (List ℕ) → Type 0
RefusesEncoded store name encodings =
    (rows : List (List Value)) × HasRowsFor store.catalog name encodings rows × OfCheck (AreRefused store name rows)

-- a check of the store refuses the change, or it has no rows of its relation, as far as a store tells over any disk
abbrev pub RefusesChange : StoreState → ChangeValue → Type 0
RefusesChange store (Line (Create relation columns)) = OfCheck (IsStatementRefused is_none store (model.Create relation columns))
RefusesChange store (Line (Delete relation id)) = OfCheck (IsStatementRefused is_missing store (model.Delete relation id))
RefusesChange store (Line (Index column threshold)) =
    OfCheck (IsStatementRefused is_index_full store (model.Index (record { relation = column.relation; column = column.column }) threshold))
RefusesChange store (Line (Rtree column)) =
    OfCheck (IsStatementRefused is_none store (model.Rtree (record { relation = column.relation; column = column.column })))
RefusesChange store (Line _) = ⊥
RefusesChange store (Rows relation encodings) = LacksRowsFor store.catalog relation encodings ⊎ RefusesEncoded store relation encodings

-- A store declines a change: it refuses it, and where its disk tells, the database doesn't take it.
pub record Declines (store : StoreState) (change : ChangeValue) : Type 0 where
  pub refused : RefusesChange store change
  pub not_taken : IsTold store.pool → Within store (λ setting. TakesChange setting change (database store) → ⊥)
