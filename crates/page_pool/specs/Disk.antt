-- A disk of pages as contracts see it, and what its calls do to it.
use Rattle.std.specs.Prelude.{◌≡◌, ◌≢◌, ℕ, List, Bool, IsTrue, Some, Result, Ok, Err, OnOk}
use Rattle.std.specs.Ordering.{nat_cmp}
use Rattle.std.specs.FinMap as map
use Rattle.std.specs.FinSet as set
use Rattle.sand_base.specs.Faults.{next_count}
use Rattle.page_pool.specs.declared.disk.DiskFault.{DiskFault}
use Rattle.page_pool.specs.declared.disk.DiskFault.TheVariants.{Memory, Failed}

-- pages by their numbers, each a list of 4,096 bytes
abbrev pub PageMap : Type 0
PageMap = map.FinMap nat_cmp (List ℕ)

-- digests by the numbers of pages, each a list of 32 bytes
abbrev pub DigestMap : Type 0
DigestMap = map.FinMap nat_cmp (List ℕ)

-- a set of page numbers
abbrev pub NumberSet : Type 0
NumberSet = set.FinSet nat_cmp

-- Whether the disk tells its pages; the pages, which mean something where it tells; the page that its last accepted reading gave, on any disk; how often a call failed.
pub record DiskView : Type 0 where
  pub told : Bool
  pub pages : PageMap
  pub given : List ℕ
  pub faults : ℕ

-- the count of faults after this one: one more where the disk failed
abbrev pub faults_at : ℕ → DiskFault → ℕ
faults_at before Memory = before
faults_at before Failed = next_count before

-- the count of faults after a call: the same at Ok
abbrev pub faults_after : {T : Type 0} → ℕ → Result T DiskFault → ℕ
faults_after before (Ok _) = before
faults_after before (Err why) = faults_at before why

-- the page last given after a reading into this page: that page at Ok, and else the one before
abbrev pub page_given_after : {T : Type 0} → List ℕ → List ℕ → Result T DiskFault → List ℕ
page_given_after before page (Ok _) = page
page_given_after before page (Err _) = before

-- A start settles whether the disk tells. Where it tells and Ok came, no page is there.
pub record Starts {T : Type 0} (old new : DiskView) (result : Result T DiskFault) : Type 0 where
  pub empty : OnOk result (IsTrue new.told → new.pages ≡ map.empty)
  pub counted : new.faults ≡ faults_after old.faults result

-- A reading of page n into this page: where the disk tells and Ok came, it is the map's. Nothing that is seen changes but the page last given and the count.
pub record ReadsPage {T : Type 0} (old new : DiskView) (n : ℕ) (page : List ℕ) (result : Result T DiskFault) : Type 0 where
  pub value : OnOk result (IsTrue old.told → map.get old.pages n ≡ Some page)
  pub after : new ≡ record old { given = page_given_after old.given page result; faults = faults_after old.faults result }

-- A writing of page n, where the disk tells: Ok puts the page in its place, and no other page changes, whatever the answer. Whether it tells and the page last given stay.
pub record WritesPage {T : Type 0} (old new : DiskView) (n : ℕ) (page : List ℕ) (result : Result T DiskFault) : Type 0 where
  pub written : OnOk result (IsTrue old.told → map.get new.pages n ≡ Some page)
  pub others : IsTrue old.told → (q : ℕ) → q ≢ n → map.get new.pages q ≡ map.get old.pages q
  pub told : new.told ≡ old.told
  pub given : new.given ≡ old.given
  pub counted : new.faults ≡ faults_after old.faults result
