-- The disks in memory.
use Rattle.std.specs.Prelude.{◌≡◌, ℕ, List, true, Result, Err, IfErr, MatchBool}
use Rattle.sand_base.specs.Calls.{CallsState, one_more, one_fault, is_next_named}
use Rattle.page_pool.specs.Disk.{PageMap, DiskView}
use Rattle.page_pool.specs.declared.disk.DiskFault.{DiskFault}
use Rattle.page_pool.specs.declared.disk.DiskFault.TheVariants.{Memory, Failed}

-- the pages of a disk that never fails, and the page that it last gave
pub record SureDiskState : Type 0 where
  pub pages : PageMap
  pub given : List ℕ

-- such a disk, and the calls so far
pub record MemDiskState : Type 0 where
  pub disk : SureDiskState
  pub calls : CallsState

-- how a disk is seen that tells its pages and never fails
abbrev pub sure_view : SureDiskState → DiskView
sure_view s = record { told = true; pages = s.pages; given = s.given; faults = 0 }

-- how a disk is seen that tells its pages and counts its faults
abbrev pub mem_view : MemDiskState → DiskView
mem_view s = record { told = true; pages = s.disk.pages; given = s.disk.given; faults = s.calls.faults }

-- One more call began. It fails, and does nothing else, where the list names it; there alone it is `Failed`.
abbrev pub Numbers : {T : Type 0} → MemDiskState → MemDiskState → Result T DiskFault → Type 0
Numbers old new result = MatchBool (is_next_named old.calls)
    ((result ≡ Err Failed) × (new ≡ record old { calls = one_fault (one_more old.calls) }))
    ((new.calls ≡ one_more old.calls) × IfErr result (λ fault. fault ≡ Memory))
