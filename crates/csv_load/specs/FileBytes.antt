-- How a data file is read whole from a shelf.
use Rattle.std.specs.Prelude.{◌≡◌, ⊤, ◌+◌, ◌<◌, ◌≤◌, ℕ, List, ◌++◌, length, drop, Option, Some, Result, Ok, Err}
use Rattle.std.specs.Io.KnownBytes.{Consumes, IsAtEnd}
use Rattle.sand_base.specs.Faults.{next_count}
use Rattle.sand_base.specs.Shelf.{Files}
use Rattle.sand_model.specs.StatementChecks.{longest_file}
use Rattle.csv_load.specs.declared.fault.LoadFault.{LoadFault}
use Rattle.csv_load.specs.declared.fault.LoadFault.TheVariants as fault

-- where the shelf tells its files, the one of the name has these bytes
abbrev pub IsWholeFile : Option Files → List ℕ → List ℕ → Type 0
IsWholeFile files name bytes = (told : Files) → files ≡ Some told → told name ≡ Some bytes

-- the file of the name has more bytes than a data file may have, and all but one too many are left
pub record IsLongFile (files : Files) (name : List ℕ) (left : Option (List ℕ)) : Type 0 where
  pub bytes : List ℕ
  pub there : files name ≡ Some bytes
  pub long : longest_file < length bytes
  pub taken : left ≡ Some (drop (longest_file + 1) bytes)

-- where the shelf tells its files, the one of the name is too long
abbrev pub IsTooLong : Option Files → List ℕ → Option (List ℕ) → Type 0
IsTooLong files name left = (told : Files) → files ≡ Some told → IsLongFile told name left

-- the file of the name is there, and so many of its bytes at most were taken
pub record IsTakenTo (most : ℕ) (files : Files) (name : List ℕ) (left : Option (List ℕ)) : Type 0 where
  pub bytes : List ℕ
  pub there : files name ≡ Some bytes
  pub taken : ℕ
  pub few : taken ≤ most
  pub rest : left ≡ Some (drop taken bytes)

-- where the shelf tells its files, no more than one byte too many was taken of the one of the name
abbrev pub TakesFew : Option Files → List ℕ → Option (List ℕ) → Type 0
TakesFew files name left = (told : Files) → files ≡ Some told → IsTakenTo (longest_file + 1) told name left

-- A fault of the shelf comes exactly where its count rose, by one. Otherwise the count stayed, and a fault is one of
-- memory or of a file that is too long.
abbrev pub IsLoadCaused : {A : Type 0} → ℕ → ℕ → Result A LoadFault → Type 0
IsLoadCaused before now (Ok a) = now ≡ before
IsLoadCaused before now (Err fault.Memory) = now ≡ before
IsLoadCaused before now (Err fault.File) = now ≡ next_count before
IsLoadCaused before now (Err fault.FileTooLong) = now ≡ before
IsLoadCaused before now (Err (fault.BadRecord row column)) = ⊥

-- the fault is of memory or of the shelf
abbrev pub IsOfTheOutside : LoadFault → Type 0
IsOfTheOutside fault.Memory = ⊤
IsOfTheOutside fault.File = ⊤
IsOfTheOutside fault.FileTooLong = ⊥
IsOfTheOutside (fault.BadRecord row column) = ⊥

-- with those that were taken there are no more bytes than one too many
pub record TakesOn (old new : Option (List ℕ)) (before : List ℕ) : Type 0 where
  pub taken : List ℕ
  pub consumed : Consumes old new taken
  pub few : length before + length taken ≤ longest_file + 1

-- so many bytes were taken from those that were left, behind the others; none only at the file's end
pub record TakesBytes (old new : Option (List ℕ)) (before now : List ℕ) (count : ℕ) : Type 0 where
  pub taken : List ℕ
  pub counted : length taken ≡ count
  pub behind : now ≡ before ++ taken
  pub consumed : Consumes old new taken
  pub end : count ≡ 0 → IsAtEnd new
  pub few : length now ≤ longest_file + 1
