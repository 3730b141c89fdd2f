-- How a run that keeps its changes in a journal may end: it begins with the world of the journal's changes.
use Rattle.std.specs.Prelude.{◌≡◌, ◌≢◌, ◌⊎◌, ⊤, ℕ, ◌^◌, ◌≤◌, length, Bool, IsTrue, List, [], ◌∷◌, ◌++◌, Option, Some, codes, map, option_map}
use Rattle.std.specs.List.{AllByRecursion}
use Rattle.clap.specs.Words.{Text, fault_of}
use Rattle.run_words.specs.Asked.{number, value_in}
use Rattle.run_words.specs.Command.{kept_app}
use Rattle.run_words.specs.Journal.{journal_beside}
use Rattle.sand_base.specs.Faults.{next_count}
use Rattle.sand_base.specs.declared.limits.Limits.{Limits}
use Rattle.page_pool.specs.Pool.{new_pool}
use Rattle.sand_journal.specs.ChangeBody.{ChangeValue, IsChange, body_of}
use Rattle.sand_journal.specs.Changes.{HasChanges}
use Rattle.sand_journal.specs.Images.{records}
use Rattle.sand_journal.specs.Journal.{IsBadBehind}
use Rattle.sand_journal.specs.Tape.{BeginsWith, TapeView}
use Rattle.sand_model.specs.Cursor.{State}
use Rattle.sand_model.specs.StatementChecks.{Setting, IsSetting}
use Rattle.journal_replay.specs.Declined.{Declines}
use Rattle.journal_replay.specs.ChangedDatabase.{TakesAll}
use Rattle.journal_replay.specs.LedBy.{LedBy}
use Rattle.sand_store.specs.Catalog.{StoreState, new_catalog}
use Rattle.journal_replay.specs.declared.fault.ReplayFault.{ReplayFault}
use Rattle.journal_replay.specs.declared.fault.ReplayFault.TheVariants as replayed
use Rattle.session.specs.Outside.{Outside}
use Rattle.session.specs.Ends.{EndsBetween, IsUntouched, first_moment, last_moment}
use Rattle.session.specs.KeptLines.{IsInHand, RunsKept}
use Rattle.session.specs.KeptTape.{HasWorldOf, KeepsTape, LosesNothing, read_opened}
use Rattle.session.specs.declared.status.Status.{Status}
use Rattle.session.specs.declared.status.Status.TheVariants as status

-- the status of a run whose replay stopped
abbrev pub status_of_replay : ReplayFault → Status
status_of_replay replayed.Memory = status.NoMemory
status_of_replay replayed.Tape = status.JournalFault
status_of_replay replayed.Bad = status.JournalBad
status_of_replay replayed.Device = status.ReplayFault
status_of_replay replayed.Damaged = status.ReplayDamaged

-- the workload that the words ask for in place of the script, where they may name a journal
abbrev pub kept_workload : List Text → Option ℕ
kept_workload words = option_map number (value_in kept_app (codes "workload") words)

-- the journal of the script that the words name
abbrev pub journal_of : List Text → Option Text
journal_of words = journal_beside (kept_workload words) (value_in kept_app (codes "journal") words)

-- Where the tape tells, these are all changes of this image of it, and the gate behind their records stands at byte 2 ^ 62 or below.
pub record HasAll (told : Bool) (image : List ℕ) (changes : List ChangeValue) : Type 0 where
  pub all : AllByRecursion IsChange changes
  pub read : IsTrue told → HasChanges changes image
  pub near : IsTrue told → length (records (map body_of changes)) ≤ 2 ^ 62

-- where the tape tells, these are all changes of the image that it reads once it is opened
abbrev pub StartsWith : TapeView → List ChangeValue → Type 0
StartsWith tape = HasAll tape.told (read_opened tape.bytes)

-- Where the tape tells, its image begins with the records of these changes.
abbrev pub BeginsWithAll : Bool → List ℕ → List ChangeValue → Type 0
BeginsWithAll told image changes = IsTrue told → BeginsWith (records (map body_of changes)) image

-- Behind the records of these changes, which led a store to this one, stands that of a change which it doesn't take.
pub record IsDeclinedNext (told : Bool) (image : List ℕ) (changes : List ChangeValue) (store : StoreState) : Type 0 where
  pub change : ChangeValue
  pub is : IsChange change
  pub read : BeginsWithAll told image (changes ++ change ∷ [])
  pub declines : Declines store change

-- Behind the records of some changes, which led a store of no relations on, stands an open one that is bad, or that of a change which the
-- store doesn't take. The first mark says whether the disk tells, the second whether the tape does.
pub record HasBadRecord (limits : Limits) (disk told : Bool) (image : List ℕ) : Type 0 where
  pub changes : List ChangeValue
  pub all : AllByRecursion IsChange changes
  pub begun : StoreState
  pub empty : begun ≡ record { catalog = new_catalog limits; pool = new_pool begun.pool.disk begun.pool.frames }
  pub known : begun.pool.disk.told ≡ disk
  pub reached : StoreState
  pub led : LedBy changes begun reached
  pub next : (IsTrue told → IsBadBehind image (map body_of changes)) ⊎ IsDeclinedNext told image changes reached

-- No cursor is open in the state, and it has the world of these changes. Where the disk tells, a database of no relations takes them all, one
-- after the other.
pub record IsWorldOf (limits : Limits) (told : Bool) (changes : List ChangeValue) (state : State) : Type 0 where
  pub none_open : state.cursors ≡ []
  pub takes : IsTrue told → (setting : Setting) → IsSetting setting → setting.limits ≡ limits → TakesAll setting changes []
  pub has : HasWorldOf limits told changes state

-- The promise of a run that began to read in one state and ended in another, whose lines made the changes that are named first; the others
-- are those of a line in hand.
abbrev pub EndsKeeping : State → State → Option (List ChangeValue) → Option (List ChangeValue) → Status → Limits → Outside → Outside → Type 0
EndsKeeping start last kept untold ended limits old new =
    EndsBetween ended (RunsKept kept (record (first_moment limits old new) { state = start }) (last_moment limits old new last))
    (IsInHand untold (last_moment limits old new last)) old.source new.source old.sink new.sink

-- what is said of the changes that a run began with, of those of its lines that it told, and of those of a line in hand
abbrev pub OfChanges : Type 1
OfChanges = List ChangeValue → List ChangeValue → List ChangeValue → Type 0

-- The run began to read with the world of some changes, of which the first holds. It ended with their world and that of the changes which its
-- lines made and told, and of all these the second holds.
pub record EndsBehind (ended : Status) (limits : Limits) (old new : Outside) (Starts : List ChangeValue → Type 0) (Keeps : OfChanges) : Type 0 where
  pub changes : List ChangeValue
  pub starts : Starts changes
  pub state : State
  pub world : IsWorldOf limits new.disk.told changes state
  pub shown : List ChangeValue
  pub untold : List ChangeValue
  pub last : State
  pub ends : EndsKeeping state last (Some shown) (Some untold) ended limits old new
  pub reached : HasWorldOf limits new.disk.told (changes ++ shown) last
  pub keeps : Keeps changes shown untold

-- nothing was read or written, and the disk's count stays
abbrev pub IsUnbegun : Outside → Outside → Type 0
IsUnbegun old new = IsUntouched old new × (new.disk.faults ≡ old.disk.faults)

-- The whole promise of a run with a journal, by the status, where the first holds of the changes that it begins with, the second of them and
-- of its own, the third where a record is bad, and the last of a run that ends before its first line. `JournalFault` comes before the first
-- line is read, or behind an accepted change.
abbrev pub EndsKept : Status → Limits → Outside → Outside → (List ChangeValue → Type 0) → OfChanges → Type 0 → Type 0 → Type 0
EndsKept status.Usage limits old new Starts Keeps Bad Unread = IsUnbegun old new × Unread
EndsKept status.NoMemory limits old new Starts Keeps Bad Unread = IsUnbegun old new × Unread
EndsKept status.DiskNotStarted limits old new Starts Keeps Bad Unread = IsUntouched old new × (new.disk.faults ≡ next_count old.disk.faults) × Unread
EndsKept status.JournalFault limits old new Starts Keeps Bad Unread = (IsUnbegun old new × Unread) ⊎ EndsBehind status.JournalFault limits old new Starts Keeps
EndsKept status.JournalBad limits old new Starts Keeps Bad Unread = IsUnbegun old new × Bad × Unread
EndsKept status.ReplayFault limits old new Starts Keeps Bad Unread = IsUntouched old new × (new.disk.faults ≡ next_count old.disk.faults) × Unread
EndsKept status.ReplayDamaged limits old new Starts Keeps Bad Unread = IsUnbegun old new × (IsTrue new.disk.told → ⊥) × Unread
EndsKept ended limits old new Starts Keeps Bad Unread = EndsBehind ended limits old new Starts Keeps

-- The whole promise of a run with a journal on this tape, which is handed back as the other, by the status. A run that ends before its first
-- line opened the tape and read it, or did less.
abbrev pub EndsWithTape : {T : Type 0} → (T → TapeView) → Status → Limits → Outside → Outside → T → T → Type 0
EndsWithTape seen ended limits old new before after =
    EndsKept ended limits old new (StartsWith (seen before)) (KeepsTape seen ended before after)
    (HasBadRecord limits new.disk.told (seen before).told (read_opened (seen before).bytes)) (LosesNothing (seen before) (seen after))

-- the command that may name a journal took the words
abbrev pub IsTakenKept : Status → Type 0
IsTakenKept status.Usage = ⊥
IsTakenKept _ = ⊤

-- the command that may name a journal takes the words, or `Usage` says that it doesn't; with `NoMemory` nothing is said
abbrev pub AreJudgedKept : Status → List Text → Type 0
AreJudgedKept status.Usage words = fault_of kept_app words ≢ []
AreJudgedKept status.NoMemory words = ⊤
AreJudgedKept _ words = fault_of kept_app words ≡ []
