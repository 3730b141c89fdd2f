-- How a replay ends: its changes are carried out, or it stops, for a cause.
use Rattle.std.specs.Prelude.{◌≡◌, ◌⊎◌, ℕ, List, [], ◌∷◌, ◌++◌, map, IsTrue, Result, Ok, Err, ⊤}
use Rattle.std.specs.List.{AllByRecursion}
use Rattle.page_pool.specs.Causes.{IsDamage, failures_of}
use Rattle.page_pool.specs.Pool.{PoolState}
use Rattle.sand_base.specs.Faults.{next_count}
use Rattle.sand_journal.specs.ChangeBody.{ChangeValue, IsChange, body_of}
use Rattle.sand_journal.specs.Journal.{HasPassed, IsAtEnd, IsBadBehind}
use Rattle.sand_journal.specs.Tape.{TapeView}
use Rattle.sand_journal.specs.declared.fault.JournalFault.{JournalFault}
use Rattle.sand_journal.specs.declared.fault.JournalFault.TheVariants as of_journal
use Rattle.sand_journal.specs.declared.journal.Journal.{Journal}
use Rattle.sand_store.specs.Catalog.{CatalogView, StoreState}
use Rattle.journal_replay.specs.EncodedRows.{LacksRowsFor}
use Rattle.journal_replay.specs.LedBy.{LedBy}
use Rattle.journal_replay.specs.Declined.{Declines}
use Rattle.journal_replay.specs.declared.fault.ReplayFault.{ReplayFault}
use Rattle.journal_replay.specs.declared.fault.ReplayFault.TheVariants as fault

-- the fault of a replay whose journal fails so
abbrev pub fault_of_journal : JournalFault → ReplayFault
fault_of_journal of_journal.Memory = fault.Memory
fault_of_journal of_journal.Failed = fault.Tape
fault_of_journal (of_journal.Bad number) = fault.Bad

-- a page of these is damaged
abbrev pub SomeDamage : PoolState → Type 0
SomeDamage s = (page : ℕ) × (kept read : List ℕ) × IsDamage s page kept read

-- at Bad, a store doesn't take the change
abbrev pub IsDeclined : StoreState → ChangeValue → ReplayFault → Type 0
IsDeclined store change fault.Bad = Declines store change
IsDeclined store change _ = ⊤

-- at Bad, no rows have these encodings; and nothing else but memory is blamed
abbrev pub IsLacking : CatalogView → List ℕ → List (List ℕ) → ReplayFault → Type 0
IsLacking catalog name encodings fault.Memory = ⊤
IsLacking catalog name encodings fault.Bad = LacksRowsFor catalog name encodings
IsLacking catalog name encodings _ = ⊥

-- A change's answer has its cause: the disk's count rises by one at Device, that of damaged pages by one at Damaged, and neither else; a page is damaged at Damaged; the tape isn't blamed.
abbrev pub HasChangeCause : {T : Type 0} → PoolState → PoolState → Result T ReplayFault → Type 0
HasChangeCause old new (Ok _) = failures_of new ≡ failures_of old
HasChangeCause old new (Err fault.Memory) = failures_of new ≡ failures_of old
HasChangeCause old new (Err fault.Tape) = ⊥
HasChangeCause old new (Err fault.Bad) = failures_of new ≡ failures_of old
HasChangeCause old new (Err fault.Device) = failures_of new ≡ (next_count old.disk.faults, old.damages)
HasChangeCause old new (Err fault.Damaged) = (failures_of new ≡ (old.disk.faults, next_count old.damages)) × SomeDamage new

-- A replay's answer has its cause: the tape's count rises by one at Tape, the disk's at Device, and that of damaged pages at Damaged, where a page is damaged; none of them rises else.
abbrev pub HasReplayCause : {T : Type 0} → TapeView → TapeView → PoolState → PoolState → Result T ReplayFault → Type 0
HasReplayCause tape tape' old new (Ok _) = (tape'.faults ≡ tape.faults) × (failures_of new ≡ failures_of old)
HasReplayCause tape tape' old new (Err fault.Memory) = (tape'.faults ≡ tape.faults) × (failures_of new ≡ failures_of old)
HasReplayCause tape tape' old new (Err fault.Tape) = (tape'.faults ≡ next_count tape.faults) × (failures_of new ≡ failures_of old)
HasReplayCause tape tape' old new (Err fault.Bad) = (tape'.faults ≡ tape.faults) × (failures_of new ≡ failures_of old)
HasReplayCause tape tape' old new (Err fault.Device) = (tape'.faults ≡ tape.faults) × (failures_of new ≡ (next_count old.disk.faults, old.damages))
HasReplayCause tape tape' old new (Err fault.Damaged) = (tape'.faults ≡ tape.faults) × (failures_of new ≡ (old.disk.faults, next_count old.damages)) × SomeDamage new

-- A replay carried out the changes of all records that a journal hadn't passed, and the journal has passed them now.
pub record IsReplayed {T : Type 0} (seen : T → TapeView) (journal journal' : Journal T) (store store' : StoreState) : Type 0 where
  pub changes : List ChangeValue
  pub all : AllByRecursion IsChange changes
  pub led : LedBy changes store store'
  pub ended : (bodies : List (List ℕ)) → HasPassed seen journal bodies → IsAtEnd seen journal' (bodies ++ map body_of changes)

-- Behind the records of these changes stands an open one that is bad.
abbrev pub EndsBadly : {T : Type 0} → (T → TapeView) → Journal T → List ChangeValue → Type 0
EndsBadly seen journal changes = (bodies : List (List ℕ)) → HasPassed seen journal bodies → IsTrue (seen journal.tape).told
    → IsBadBehind (seen journal.tape).bytes (bodies ++ map body_of changes)

-- Behind the records of some changes stands that of a change which the store that they led on doesn't take.
pub record EndsDeclined {T : Type 0} (seen : T → TapeView) (journal journal' : Journal T) (changes : List ChangeValue) (store : StoreState) : Type 0 where
  pub change : ChangeValue
  pub is : IsChange change
  pub passed : (bodies : List (List ℕ)) → HasPassed seen journal bodies → HasPassed seen journal' (bodies ++ map body_of (changes ++ change ∷ []))
  pub declines : Declines store change

-- A replay carried out the changes of some records, and the next one is bad, or the store doesn't take its change.
pub record IsStoppedByBad {T : Type 0} (seen : T → TapeView) (journal journal' : Journal T) (store : StoreState) : Type 0 where
  pub changes : List ChangeValue
  pub all : AllByRecursion IsChange changes
  pub reached : StoreState
  pub led : LedBy changes store reached
  pub next : EndsBadly seen journal changes ⊎ EndsDeclined seen journal journal' changes reached

-- at Bad, a replay has its cause
abbrev pub IsBadForCause : {T : Type 0} → (T → TapeView) → Journal T → Journal T → StoreState → ReplayFault → Type 0
IsBadForCause seen journal journal' store fault.Bad = IsStoppedByBad seen journal journal' store
IsBadForCause seen journal journal' store _ = ⊤
