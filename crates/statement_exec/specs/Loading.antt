-- What the checks of a load before any page is touched give: its rows, or its refusal.
use Rattle.std.specs.Prelude.{◌≡◌, ⊤, ℕ, List, Option, Some, None, Bool, Result, Ok, Err}
use Rattle.sand_base.specs.Faults.{next_count}
use Rattle.sand_base.specs.Shelf.{Files}
use Rattle.sand_base.specs.declared.refusal.Refusal.{Refusal}
use Rattle.sand_base.specs.declared.refusal.Refusal.TheVariants as why
use Rattle.sand_base.specs.declared.value.Value.{Value}
use Rattle.page_pool.specs.Pool.{PoolState}
use Rattle.sand_model.specs.Cursor.{Cursor, State}
use Rattle.sand_model.specs.Database.{Relation, relation_named}
use Rattle.statements.specs.Statement.{Load}
use Rattle.sand_model.specs.StatementChecks.{Setting, early, check_load, file_rows}
use Rattle.sand_base.specs.InRange.{IsRowOf}
use Rattle.std.specs.List.{All}
use Rattle.sand_store.specs.Catalog.{CatalogView}
use Rattle.statement_exec.specs.FileReading.{OfFound}
use Rattle.statement_exec.specs.Moment.{beside, IsSettingOf}

-- a load: its relation, its file, and whether a header stands before the rows
pub record LoadOf : Type 0 where
  pub relation : List ℕ
  pub file : List ℕ
  pub header : Bool

-- the early checks of the load pass, and these are its rows
pub record Yields (setting : Setting) (state : State) (load : LoadOf) (rows : List (List Value)) : Type 0 where
  pub passes : early setting state (Load load.relation load.file load.header) ≡ None
  pub relation : Relation
  pub named : relation_named state.database load.relation ≡ Some relation
  pub rows_are : file_rows setting load.file load.header relation ≡ rows
  pub of_schema : All (IsRowOf relation.schema) rows

-- the load is refused: out of memory, by the shelf once its file is reached, or by the first early check that fails
abbrev pub IsRefusedEarly : Setting → State → LoadOf → Refusal → Type 0
IsRefusedEarly setting state load why.Memory = ⊤
IsRefusedEarly setting state load why.File = check_load state load.relation ≡ None
IsRefusedEarly setting state load refusal = early setting state (Load load.relation load.file load.header) ≡ Some refusal

-- in every setting of a moment, beside any open cursors and over any pages, with the data files that were found
abbrev pub InSettings : CatalogView → Option Files → (Setting → State → Type 0) → Type 0
InSettings catalog files P = OfFound files (λ found. (cs : List Cursor) (pool : PoolState) (shelf : ℕ) (setting : Setting) → IsSettingOf (beside cs catalog pool files shelf) setting
    → P (record setting { files = found }) (beside cs catalog pool files shelf).state)

-- the shelf's count after this refusal: one more where the shelf failed
abbrev pub shelf_at : ℕ → Refusal → ℕ
shelf_at before why.File = next_count before
shelf_at before _ = before

-- the shelf's count after a load: the same at Ok
abbrev pub shelf_after : {A : Type 0} → ℕ → Result A Refusal → ℕ
shelf_after before (Ok a) = before
shelf_after before (Err refusal) = shelf_at before refusal

-- the refusal comes before any page is touched
abbrev pub IsOfNoPage : Refusal → Type 0
IsOfNoPage why.Device = ⊥
IsOfNoPage (why.Damaged n kept read) = ⊥
IsOfNoPage _ = ⊤
