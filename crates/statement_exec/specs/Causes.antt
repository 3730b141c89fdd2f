-- The causes of lines that blame the outside: the disk, a page of it, or a data file. They are asked over every disk and shelf, also such as tell nothing.
use Rattle.std.specs.Prelude.{◌≡◌, ◌≢◌, ⊤, ℕ, ◌-◌, ◌<◌, ◌≤◌, Bool, true, false, List, All, Option, Some}
use Rattle.std.specs.List.{count_by}
use Rattle.page_pool.specs.Pool.{PoolState}
use Rattle.sand_base.specs.Faults.{last_count}
use Rattle.sand_base.specs.Shelf.{Files}
use Rattle.sand_base.specs.declared.refusal.Refusal.{Refusal}
use Rattle.sand_base.specs.declared.refusal.Refusal.TheVariants as why
use Rattle.sand_model.specs.Cursor.{Cursor, OutputLine, Refused}
use Rattle.sand_store.specs.Catalog.{CatalogView}
use Rattle.statement_exec.specs.Moment.{Moment, beside}

-- the line says that the disk failed
abbrev pub is_of_device : OutputLine → Bool
is_of_device (Refused why.Device) = true
is_of_device _ = false

-- the line says that a data file could not be read
abbrev pub is_of_file : OutputLine → Bool
is_of_file (Refused why.File) = true
is_of_file _ = false

-- how many lines say that the disk failed
abbrev pub device_lines : List OutputLine → ℕ
device_lines lines = count_by is_of_device lines

-- how many lines say that a data file could not be read
abbrev pub file_lines : List OutputLine → ℕ
file_lines lines = count_by is_of_file lines

-- a line that blames a page stands over a disk that doesn't tell its pages, and names two digests that differ
abbrev pub IsCausedDamage : Bool → OutputLine → Type 0
IsCausedDamage told (Refused (why.Damaged page kept read)) = (told ≡ false) × (kept ≢ read)
IsCausedDamage told _ = ⊤

-- From one moment to another no more lines blame the disk than its count of faults rose, and so of the shelf, where the count isn't at its end; and each line that blames a page has its cause.
pub record AreCaused (old new : Moment) (lines : List OutputLine) : Type 0 where
  pub device : new.disk < last_count → device_lines lines ≤ new.disk - old.disk
  pub file : new.shelf < last_count → file_lines lines ≤ new.shelf - old.shelf
  pub damage : All (IsCausedDamage old.told) lines

-- the same of lines that left a data file alone, over one pool and another, whatever else the moments are
abbrev pub AreCausedIn : PoolState → PoolState → List OutputLine → Type 0
AreCausedIn old new lines =
    (files : Option Files) (shelf : ℕ) (cs cs' : List Cursor) (catalog : CatalogView) → AreCaused (beside cs catalog old files shelf) (beside cs' catalog new files shelf) lines

-- the refusal blames nothing outside
abbrev pub BlamesNone : Refusal → Type 0
BlamesNone why.Device = ⊥
BlamesNone (why.Damaged page kept read) = ⊥
BlamesNone why.File = ⊥
BlamesNone _ = ⊤

-- the refusal, where there is one, blames no data file
abbrev pub BlamesNoFile : Option Refusal → Type 0
BlamesNoFile (Some why.File) = ⊥
BlamesNoFile _ = ⊤
