-- What statements are carried out on, as contracts see it, and the settings in which that is told.
use Rattle.std.specs.Prelude.{◌≡◌, ℕ, ◌-◌, ◌≤◌, Bool, List, [], Option, Some}
use Rattle.csv_load.specs.FileRows.{rows_of_file}
use Rattle.page_pool.specs.Pool.{PoolState}
use Rattle.sand_base.specs.declared.limits.Limits.{Limits}
use Rattle.sand_base.specs.Shelf.{Files}
use Rattle.sand_model.specs.Cursor.{State, Cursor}
use Rattle.sand_model.specs.Database.{Database}
use Rattle.sand_model.specs.Outcome.{Rises}
use Rattle.sand_model.specs.StatementChecks.{Setting, IsSetting}
use Rattle.sand_store.specs.Catalog.{CatalogView, StoreState}
use Rattle.sand_store.specs.Contents.{database_in}

-- The relations and open cursors, the limits, whether the disk tells its pages, its count of faults, the files that the shelf tells, and the shelf's count.
pub record Moment : Type 0 where
  pub state : State
  pub limits : Limits
  pub told : Bool
  pub disk : ℕ
  pub files : Option Files
  pub shelf : ℕ

-- a database, while these cursors are open
abbrev pub state_with : List Cursor → Database → State
state_with cursors d = record { database = d; cursors = cursors }

-- these cursors are open over a catalog and the pages of a pool
abbrev pub beside : List Cursor → CatalogView → PoolState → Option Files → ℕ → Moment
beside cursors catalog pool files shelf = record {
  state = state_with cursors (database_in pool.pages catalog.relations);
  limits = catalog.limits;
  told = pool.disk.told;
  disk = pool.disk.faults;
  files = files;
  shelf = shelf;
}

-- the moment of a store and a shelf, while these cursors are open
abbrev pub while_open : StoreState → Option Files → ℕ → List Cursor → Moment
while_open store files shelf cs = beside cs store.catalog store.pool files shelf

-- no cursor is open over a store
abbrev pub moment_of : StoreState → Option Files → ℕ → Moment
moment_of store files shelf = while_open store files shelf []

-- by how much the counts rose
abbrev pub rises_between : Moment → Moment → Rises
rises_between old new = record { disk = new.disk - old.disk; shelf = new.shelf - old.shelf }

-- these data files are those that the shelf tells; where it tells none they may be any
abbrev pub AreTold : Option Files → Files → Type 0
AreTold files found = (told : Files) → files ≡ Some told → found ≡ told

-- The setting is one of this moment: its limits are the store's, its files the shelf's where it tells them, a file's rows are those of its records, and it knows whether the disk tells.
pub record IsSettingOf (at : Moment) (setting : Setting) : Type 0 where
  pub is : IsSetting setting
  pub limits : setting.limits ≡ at.limits
  pub files : AreTold at.files setting.files
  pub rows_of : setting.rows_of ≡ rows_of_file
  pub tells : setting.tells ≡ at.told

-- what no statement changes: the limits, whether the disk tells, and the files; no count falls
pub record KeepsMoment (old new : Moment) : Type 0 where
  pub limits : new.limits ≡ old.limits
  pub told : new.told ≡ old.told
  pub files : new.files ≡ old.files
  pub disk : old.disk ≤ new.disk
  pub shelf : old.shelf ≤ new.shelf
