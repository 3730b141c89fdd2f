-- What reading the rows of a data file tells of the shelf's files, or of the file that was found where the shelf doesn't tell its own.
use Rattle.std.specs.Prelude.{◌≡◌, ⊤, ℕ, ◌<◌, ◌≤◌, Bool, List, length, Option, Some, Result, Ok, Err}
use Rattle.csv_load.specs.FileRows.{rows_of_file}
use Rattle.csv_load.specs.declared.fault.LoadFault.{LoadFault}
use Rattle.csv_load.specs.declared.fault.LoadFault.TheVariants as fault
use Rattle.sand_base.specs.declared.kind.Kind.{Kind}
use Rattle.sand_base.specs.declared.refusal.Refusal.{Refusal}
use Rattle.sand_base.specs.declared.refusal.Refusal.TheVariants as why
use Rattle.sand_base.specs.Faults.{next_count}
use Rattle.sand_base.specs.Shelf.{Files}
use Rattle.sand_model.specs.StatementChecks.{FileRows, HasBad, longest_file}
use Rattle.statement_exec.specs.Moment.{AreTold}

-- a data file, by its name, the columns of its rows, and whether a header stands before them
pub record DataFile : Type 0 where
  pub name : List ℕ
  pub schema : List (List ℕ × Kind)
  pub header : Bool

-- the file is there, isn't too long, and its records are these
pub record HasRecords (file : DataFile) (rows : FileRows) (files : Files) : Type 0 where
  pub bytes : List ℕ
  pub there : files file.name ≡ Some bytes
  pub short : length bytes ≤ longest_file
  pub records : rows_of_file bytes file.schema file.header ≡ rows

-- the file is there, and too long
pub record IsFileTooLong (file : DataFile) (files : Files) : Type 0 where
  pub bytes : List ℕ
  pub there : files file.name ≡ Some bytes
  pub long : longest_file < length bytes

-- of the data files that were found: those that the shelf tells, and some where it tells none
abbrev pub OfFound : Option Files → (Files → Type 0) → Type 0
OfFound files P = (found : Files) × AreTold files found × P found

-- why a file gives no rows: a fault of the shelf or of memory says nothing of it
abbrev pub GivesNone : Option Files → DataFile → LoadFault → Type 0
GivesNone files file fault.Memory = ⊤
GivesNone files file fault.File = ⊤
GivesNone files file fault.FileTooLong = OfFound files (IsFileTooLong file)
GivesNone files file (fault.BadRecord row column) = OfFound files (HasRecords file (HasBad row column))

-- the shelf's count after this fault: one more where the shelf failed
abbrev pub shelf_at : ℕ → LoadFault → ℕ
shelf_at before fault.File = next_count before
shelf_at before _ = before

-- the shelf's count after a file was read: the same at Ok
abbrev pub shelf_after : {A : Type 0} → ℕ → Result A LoadFault → ℕ
shelf_after before (Ok a) = before
shelf_after before (Err fault) = shelf_at before fault

-- a fault of a file, as a statement is refused by it
abbrev pub file_refusal : LoadFault → Refusal
file_refusal fault.Memory = why.Memory
file_refusal fault.File = why.File
file_refusal fault.FileTooLong = why.FileTooLong
file_refusal (fault.BadRecord row column) = why.BadRecord row column
