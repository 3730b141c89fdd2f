-- Data files in memory: their names and bytes, and what is left of the chosen one.
use Rattle.std.specs.Prelude.{◌≡◌, ℕ, ◌||◌, not, Bool, nat_eq, min, List, [], length, drop, find, option_map, Option, Some, None, Result, Ok, IsOk, IsErr, MatchBool}
use Rattle.std.specs.Cmp.Lexicographic.{pointwise}
use Rattle.std.specs.List.{slice_get}
use Rattle.std.specs.Option.{is_some}
use Rattle.sand_base.specs.Calls.{CallsState, one_more, one_fault, is_next_named}
use Rattle.sand_base.specs.Faults.{next_count}

-- The names with their bytes, and what is left of the chosen file, if one is chosen.
pub record FilesState : Type 0 where
  pub files : List (List ℕ × List ℕ)
  pub left : Option (List ℕ)

-- the bytes of the first file of the name
abbrev pub file_named : List (List ℕ × List ℕ) → List ℕ → Option (List ℕ)
file_named files name = option_map (λ file. file.1) (find (λ file. pointwise nat_eq file.0 name) files)

-- the bytes behind so many of the file at a place of the list
abbrev pub bytes_from : List (List ℕ × List ℕ) → ℕ → ℕ → List ℕ
bytes_from files place count = behind (slice_get files place) where
  behind : Option (List ℕ × List ℕ) → List ℕ
  behind None = []
  behind (Some file) = drop count file.1

-- the bytes that are left, none where no file is chosen
abbrev pub left_bytes : FilesState → List ℕ
left_bytes files = bytes_left files.left where
  bytes_left : Option (List ℕ) → List ℕ
  bytes_left None = []
  bytes_left (Some bytes) = bytes

-- the name is that of a file
abbrev pub has_file : FilesState → List ℕ → Bool
has_file files name = is_some (file_named files.files name)

-- the files once the one of the name is chosen, or none where there is none
abbrev pub opened : FilesState → List ℕ → FilesState
opened files name = record files { left = file_named files.files name }

-- the files with none chosen
abbrev pub none_chosen : FilesState → FilesState
none_chosen files = record files { left = None }

-- the files once so many bytes more were read
abbrev pub read_on : FilesState → ℕ → FilesState
read_on files count = record files { left = option_map (drop count) files.left }

-- how many bytes a read into a piece of this length gives
abbrev pub read_count : FilesState → ℕ → ℕ
read_count files room = min room (length (left_bytes files))

-- The files, and the calls so far.
pub record ShelfState : Type 0 where
  pub files : FilesState
  pub calls : CallsState

-- A choice is a fault where the list names its call or no file has the name, and then none is chosen. Any other chooses the first file of the name.
abbrev pub Chooses : {T E : Type 0} → ShelfState → ShelfState → Result T E → List ℕ → Type 0
Chooses old new result name = MatchBool (is_next_named old.calls || not (has_file old.files name))
    (IsErr result × (new ≡ record { files = none_chosen old.files; calls = one_fault (one_more old.calls) }))
    (IsOk result × (new ≡ record { files = opened old.files name; calls = one_more old.calls }))

-- A read takes nothing where the list names its call, and is a fault. Any other gives all that it may.
abbrev pub ReadsFile : {E : Type 0} → ShelfState → ShelfState → Result ℕ E → ℕ → Type 0
ReadsFile old new result room = MatchBool (is_next_named old.calls)
    (IsErr result × (new ≡ record old { calls = one_fault (one_more old.calls) }))
    (let n = read_count old.files room in
    (result ≡ Ok n) × (new ≡ record { files = read_on old.files n; calls = one_more old.calls }))

-- Files that fail only at names that they don't have, and how often that happened.
pub record SureShelfState : Type 0 where
  pub files : FilesState
  pub faults : ℕ

-- A choice is a fault where no file has the name, and then none is chosen.
abbrev pub SureChooses : {T E : Type 0} → SureShelfState → SureShelfState → Result T E → List ℕ → Type 0
SureChooses old new result name = MatchBool (has_file old.files name)
    (IsOk result × (new ≡ record old { files = opened old.files name }))
    (IsErr result × (new ≡ record { files = none_chosen old.files; faults = next_count old.faults }))
