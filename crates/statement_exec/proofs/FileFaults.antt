-- Why a data file gives no rows, and the data files that are found over a shelf that doesn't tell its own.
use Rattle.std.proofs.Common.{◌≡◌, ℕ, zero, suc, ◌<◌, ◌≤◌, List, [], ◌∷◌, length, Option, Some, None, refl, sym, ap, arith, true≢false}
use Rattle.std.specs.Prelude.{Result, Err, is_some}
use Rattle.csv_load.specs.FileBytes.{IsLoadCaused, IsTooLong, IsWholeFile}
use Rattle.csv_load.specs.FileRows.{rows_of_file, TellsBad}
use Rattle.csv_load.specs.declared.fault.LoadFault.{LoadFault}
use Rattle.csv_load.specs.declared.fault.LoadFault.TheVariants as fault
use Rattle.sand_base.specs.Shelf.{Files}
use Rattle.sand_base.specs.declared.refusal.Refusal.{Refusal}
use Rattle.sand_base.specs.declared.refusal.Refusal.TheVariants as why
use Rattle.page_pool.specs.Pool.{PoolState}
use Rattle.sand_model.specs.StatementChecks.{FileRows, HasBad, longest_file}
use Rattle.sand_store.specs.Calls.{HasStoreCause}
use Rattle.statement_exec.specs.FileReading.{DataFile, HasRecords, IsFileTooLong, OfFound, GivesNone, file_refusal}
use Rattle.statement_exec.specs.Loading.{IsOfNoPage}
use Rattle.statement_exec.specs.Moment.{AreTold}

-- what is told is one thing
told_same : (one other : Files) → Some one ≡ Some other → one ≡ other
told_same one other e = ap of_some e where
  of_some : Option Files → Files
  of_some None = one
  of_some (Some files) = files

-- nothing is told
none_told : (found : Files) → AreTold None found
none_told found told e = absurd (true≢false (sym (ap is_some e)))

-- data files that are the shelf's, where it tells them
pub some_files : (files : Option Files) → (found : Files) × AreTold files found
some_files None = (λ name. None, none_told (λ name. None))
some_files (Some files) = (files, told_same files)

-- of what is told, or of one file that was found under any name
found_so : (files : Option Files) (P : Files → Type 0) (bytes : List ℕ) → ((told : Files) → files ≡ Some told → P told) → (files ≡ None → P (λ name. Some bytes)) → OfFound files P
found_so None P bytes told none = (λ name. Some bytes, none_told (λ name. Some bytes), none refl)
found_so (Some files) P bytes told none = (files, told_same files, told files refl)

-- a file that was read whole has its records
pub found_records : (files : Option Files) (file : DataFile) (bytes : List ℕ) (rows : FileRows) → IsWholeFile files file.name bytes → length bytes ≤ longest_file
    → rows_of_file bytes file.schema file.header ≡ rows → OfFound files (HasRecords file rows)
found_records files file bytes rows whole short records =
    found_so files (HasRecords file rows) bytes (λ told e. record { bytes = bytes; there = whole told e; short = short; records = records })
    (λ e. record { bytes = bytes; there = refl; short = short; records = records })

-- more bytes than so many
longer : (n : ℕ) → (bytes : List ℕ) × (n < length bytes)
longer zero = (0 ∷ [], omega arith)
longer (suc n) = let l = longer n in (0 ∷ l.0, omega (arith, l.1))

-- a record of a file that was read whole is no row
pub bad_record : (files : Option Files) (file : DataFile) (bytes : List ℕ) (why : LoadFault) → IsWholeFile files file.name bytes → length bytes ≤ longest_file
    → TellsBad (rows_of_file bytes file.schema file.header) why → GivesNone files file why
bad_record files file bytes fault.Memory whole short h = tt
bad_record files file bytes fault.File whole short h = tt
bad_record files file bytes fault.FileTooLong whole short h = absurd h
bad_record files file bytes (fault.BadRecord row column) whole short h = found_records files file bytes (HasBad row column) whole short h

-- a file that can't be read whole
pub gives_none : {A : Type 0} (files : Option Files) (file : DataFile) (left : Option (List ℕ)) (before now : ℕ) (why : LoadFault)
    → IsLoadCaused {A = A} before now (Err why) → (◌≡◌ {A = Result A LoadFault} (Err why) (Err fault.FileTooLong) → IsTooLong files file.name left) → GivesNone files file why
gives_none files file left before now fault.Memory c h = tt
gives_none files file left before now fault.File c h = tt
gives_none files file left before now fault.FileTooLong c h =
    let long = longer longest_file in
    found_so files (IsFileTooLong file) long.0 (λ told e. let l = h refl told e in record { bytes = l.bytes; there = l.there; long = l.long })
    (λ e. record { bytes = long.0; there = refl; long = long.1 })
gives_none files file left before now (fault.BadRecord row column) c h = absurd c

-- a file's fault is none of a page
pub of_no_page : (fault : LoadFault) → IsOfNoPage (file_refusal fault)
of_no_page fault.Memory = tt
of_no_page fault.File = tt
of_no_page fault.FileTooLong = tt
of_no_page (fault.BadRecord row column) = tt

-- a refusal before any page is touched leaves the pool
pub untouched : {T : Type 0} (s : PoolState) (w : Refusal) → IsOfNoPage w → HasStoreCause {T = T} s s (Err w)
untouched s why.Device h = absurd h
untouched s (why.Damaged n kept read) h = absurd h
untouched s _ h = record { counted = refl; damaged = tt }
