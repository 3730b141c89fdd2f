-- Why a call that is lent pages is refused: memory, which is free; the disk failed; a page is not what was written.
use Rattle.std.specs.Prelude.{◌≡◌, ◌≢◌, ℕ, List, ⊤, false, Some, Result, Ok, Err, IfErr}
use Rattle.std.specs.FinMap as map
use Rattle.sand_base.specs.Faults.{next_count}
use Rattle.sha2.specs.Sha256.{sha256}
use Rattle.page_pool.specs.declared.disk.DiskFault.{DiskFault}
use Rattle.page_pool.specs.declared.disk.DiskFault.TheVariants as of_disk
use Rattle.page_pool.specs.declared.fault.PageFault.{PageFault}
use Rattle.page_pool.specs.declared.fault.PageFault.TheVariants.{Memory, Device, Damaged}
use Rattle.page_pool.specs.Pool.{PoolState}

-- a disk's fault, as the pages above it name it
abbrev pub page_fault : DiskFault → PageFault
page_fault of_disk.Memory = Memory
page_fault of_disk.Failed = Device

-- the count of the disk's faults after this refusal: one more at Device
abbrev pub faults_at : ℕ → PageFault → ℕ
faults_at before Memory = before
faults_at before Device = next_count before
faults_at before (Damaged page kept read) = before

-- the count of the disk's faults after a call: the same at Ok
abbrev pub faults_after : {T : Type 0} → ℕ → Result T PageFault → ℕ
faults_after before (Ok _) = before
faults_after before (Err fault) = faults_at before fault

-- the count of damaged pages after a reading: one more where it found one
abbrev pub damages_after : {T : Type 0} → ℕ → Result T PageFault → ℕ
damages_after before (Ok _) = before
damages_after before (Err Memory) = before
damages_after before (Err Device) = before
damages_after before (Err (Damaged page kept read)) = next_count before

-- what a pool counts of failures: those of its disk, and the damaged pages among those that were asked for
abbrev pub failures_of : PoolState → ℕ × ℕ
failures_of s = (s.disk.faults, s.damages)

-- these counts after this refusal: one more failure of the disk at Device, and one more damaged page at Damaged
abbrev pub failures_at : ℕ × ℕ → PageFault → ℕ × ℕ
failures_at before Memory = before
failures_at before Device = (next_count before.0, before.1)
failures_at before (Damaged page kept read) = (before.0, next_count before.1)

-- these counts after a call: the same at Ok
abbrev pub failures_after : {T : Type 0} → ℕ × ℕ → Result T PageFault → ℕ × ℕ
failures_after before (Ok _) = before
failures_after before (Err fault) = failures_at before fault

-- a page is damaged only where the digest kept for it differs from that of the page that the disk gave last, and the disk doesn't tell
pub record IsDamage (s : PoolState) (page : ℕ) (kept read : List ℕ) : Type 0 where
  pub kept_is : map.get s.kept page ≡ Some kept
  pub read_is : read ≡ sha256 s.disk.given
  pub differ : kept ≢ read
  pub untold : s.disk.told ≡ false

-- the fault is no damage, or a page of these is damaged
abbrev pub IsDamageIfDamaged : PoolState → PageFault → Type 0
IsDamageIfDamaged s Memory = ⊤
IsDamageIfDamaged s Device = ⊤
IsDamageIfDamaged s (Damaged page kept read) = IsDamage s page kept read

-- A call that was lent pages has its cause: the disk's count rose by one at Device, that of damaged pages by one at Damaged, and neither at any
-- other answer; and a page is damaged where the answer says so.
pub record HasPageCause {T : Type 0} (old new : PoolState) (result : Result T PageFault) : Type 0 where
  pub counted : failures_of new ≡ failures_after (failures_of old) result
  pub damaged : IfErr result (IsDamageIfDamaged new)

-- a fault that is damage names this page
abbrev pub Names : ℕ → PageFault → Type 0
Names n Memory = ⊤
Names n Device = ⊤
Names n (Damaged page kept read) = page ≡ n

-- memory was refused, or the disk failed
abbrev pub IsNoDamage : PageFault → Type 0
IsNoDamage Memory = ⊤
IsNoDamage Device = ⊤
IsNoDamage (Damaged page kept read) = ⊥

-- memory was refused
abbrev pub IsMemory : PageFault → Type 0
IsMemory fault = fault ≡ Memory
