-- Where a journal stands, and what its calls answer.
use Rattle.std.specs.Prelude.{◌≡◌, ◌≢◌, ℕ, ◌+◌, ◌-◌, ◌^◌, ◌≤◌, min, List, [], ◌∷◌, ◌++◌, length, IsTrue, Option, Some, None, Result, Ok, Err, ⊤}
use Rattle.std.specs.List.{AllByRecursion}
use Rattle.sand_base.specs.Faults.{next_count}
use Rattle.sand_journal.specs.declared.change.Change.{Change}
use Rattle.sand_journal.specs.declared.fault.JournalFault.{JournalFault}
use Rattle.sand_journal.specs.declared.fault.JournalFault.TheVariants.{Memory, Failed, Bad}
use Rattle.sand_journal.specs.declared.journal.Journal.{Journal}
use Rattle.sand_journal.specs.ChangeBody.{ChangeValue, IsChange, body_of, change_value}
use Rattle.sand_journal.specs.Tape.{TapeView, Only}
use Rattle.sand_journal.specs.Images.{IsShort, framed, records, HasBodies, HasNext, IsOpenBehind}

-- The tape is started, and this place is behind the records of these bodies; where the tape tells, a gate stands there, and all is durable.
pub record StandsBehind (tape : TapeView) (end : ℕ) (bodies : List (List ℕ)) : Type 0 where
  pub started : IsTrue tape.started
  pub short : AllByRecursion IsShort bodies
  pub place : end ≡ length (records bodies)
  pub gate : IsTrue tape.told → (tail : List ℕ) × (tail ≢ []) × (tape.bytes ≡ records bodies ++ tail)
  pub durable : IsTrue tape.told → Only tape.bytes tape.leaves

-- This place is behind the records of these bodies, and where the tape tells, the gate there isn't open.
pub record IsAtRest (tape : TapeView) (end : ℕ) (bodies : List (List ℕ)) : Type 0 where
  pub stands : StandsBehind tape end bodies
  pub ended : IsTrue tape.told → HasBodies bodies tape.bytes

-- Behind the gate at this place, which isn't open, one more body stands in its frame with a shut gate behind it, all of it durable.
pub record IsStaged (tape : TapeView) (end : ℕ) (bodies : List (List ℕ)) (body : List ℕ) : Type 0 where
  pub rest : IsAtRest tape end bodies
  pub short : IsShort body
  pub behind : IsTrue tape.told → (gate : ℕ) × (junk : List ℕ) × (gate ≢ 1) × (tape.bytes ≡ records bodies ++ gate ∷ (framed body ++ 0 ∷ junk))

-- the greatest number of a record
abbrev pub last_number : ℕ
last_number = 2 ^ 32 - 1

-- The journal has passed the records of these bodies, and no others.
pub record HasPassed {T : Type 0} (seen : T → TapeView) (journal : Journal T) (bodies : List (List ℕ)) : Type 0 where
  pub stands : StandsBehind (seen journal.tape) journal.end bodies
  pub count : journal.count ≡ min (length bodies) last_number

-- The journal has passed the records of these bodies, and they are all.
pub record IsAtEnd {T : Type 0} (seen : T → TapeView) (journal : Journal T) (bodies : List (List ℕ)) : Type 0 where
  pub rest : IsAtRest (seen journal.tape) journal.end bodies
  pub count : journal.count ≡ min (length bodies) last_number

-- The journal has passed some records of its tape, from the first on.
abbrev pub IsReading : {T : Type 0} → (T → TapeView) → Journal T → Type 0
IsReading seen journal = (bodies : List (List ℕ)) × HasPassed seen journal bodies

-- The journal has passed all records of its tape.
abbrev pub IsReady : {T : Type 0} → (T → TapeView) → Journal T → Type 0
IsReady seen journal = (bodies : List (List ℕ)) × IsAtEnd seen journal bodies

-- A tape was read and synced and not written: a crash since any earlier moment leaves no image that it might not have left before.
pub record IsOnlyRead (old new : TapeView) : Type 0 where
  pub told : new.told ≡ old.told
  pub started : new.started ≡ old.started
  pub later : old.clock ≤ new.clock
  pub bytes : new.bytes ≡ old.bytes
  pub fewer : (image : List ℕ) → new.leaves image → old.leaves image
  pub earlier : IsTrue old.told → (t : ℕ) (image : List ℕ) → t ≤ old.clock → new.since t image → old.since t image

-- A tape was opened: where it tells and isn't empty it was only read.
pub record WasOpened (old new : TapeView) : Type 0 where
  pub told : new.told ≡ old.told
  pub read : IsTrue old.told → old.bytes ≢ [] → IsOnlyRead old new

-- Where the tape tells, a journal that was opened has a file of the old bytes, or of one shut gate where it was empty.
pub record HasOpened (old new : TapeView) : Type 0 where
  pub opened : WasOpened old new
  pub empty : IsTrue old.told → old.bytes ≡ [] → new.bytes ≡ 0 ∷ []
  pub durable : IsTrue old.told → Only new.bytes new.leaves
  pub started : IsTrue new.started

-- A call's answer has its cause in the tape's count of faults, which rises at `Failed` alone.
abbrev pub HasFaultCause : {T : Type 0} → ℕ → ℕ → Result T JournalFault → Type 0
HasFaultCause before now (Ok _) = now ≡ before
HasFaultCause before now (Err Memory) = now ≡ before
HasFaultCause before now (Err Failed) = now ≡ next_count before
HasFaultCause before now (Err (Bad _)) = now ≡ before

-- Behind the records of these bodies a gate is open, and no whole record stands there.
pub record IsCutBehind (bytes : List ℕ) (bodies : List (List ℕ)) : Type 0 where
  pub is_open : IsOpenBehind bytes bodies
  pub none : (body : List ℕ) → HasNext bytes bodies body → ⊥

-- Behind the records of these bodies a gate is open, and no whole record of a change stands there.
pub record IsBadBehind (bytes : List ℕ) (bodies : List (List ℕ)) : Type 0 where
  pub is_open : IsOpenBehind bytes bodies
  pub none : (change : ChangeValue) → IsChange change → HasNext bytes bodies (body_of change) → ⊥

-- What a journal that had passed these bodies gives next: that they are all, or the change whose body it has passed now too.
abbrev pub GivesNextChange : {T : Type 0} → (T → TapeView) → Journal T → List (List ℕ) → Option Change → Type 0
GivesNextChange seen journal bodies None = IsAtEnd seen journal bodies
GivesNextChange seen journal bodies (Some change) = HasPassed seen journal (bodies ++ body_of (change_value change) ∷ [])

-- Why a journal that had passed these bodies gives none: at `Bad` the record of that number is open and is that of no change.
abbrev pub IsWhy : JournalFault → List ℕ → List (List ℕ) → Type 0
IsWhy Memory bytes bodies = ⊤
IsWhy Failed bytes bodies = ⊤
IsWhy (Bad number) bytes bodies = (number ≡ min (length bodies + 1) last_number) × IsBadBehind bytes bodies
