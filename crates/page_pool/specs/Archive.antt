-- An archive: the written images of pages by their numbers, as they are now and as each held stamp sees them.
use Rattle.std.specs.Prelude.{◌≡◌, ◌≢◌, ℕ, suc, zero, ⊤, ◌+◌, ◌≤◌, ◌<◌, List, Bool, false, cond, IsTrue, nat_lt, Option, None, Some, Result, OnOk, OnErr, IfOk, IfErr}
use Rattle.std.specs.Option.{option_map}
use Rattle.std.specs.Ordering.{nat_cmp}
use Rattle.std.specs.FinMap as map
use Rattle.std.specs.FinSet as set
use Rattle.sha2.specs.Sha256.{sha256}
use Rattle.page_pool.specs.declared.fault.PageFault.{PageFault}
use Rattle.page_pool.specs.declared.fault.PageFault.TheVariants.{Memory, Device, Damaged}
use Rattle.page_pool.specs.Disk.{PageMap, DigestMap, NumberSet, DiskView}
use Rattle.page_pool.specs.Causes.{faults_after, IsMemory, IsNoDamage}

-- places on the disk by the numbers of pages
abbrev pub PlaceMap : Type 0
PlaceMap = map.FinMap nat_cmp ℕ

-- The written images that a stamp sees, by the numbers of their pages: the number of the last command that had begun as the stamp was taken, their bytes, their digests, their places.
-- Over a disk that doesn't tell, the digests stand in place of the bytes.
pub record ImageMap : Type 0 where
  pub at : ℕ
  pub pages : PageMap
  pub kept : DigestMap
  pub places : PlaceMap

-- The disk, and the newest written image of each page: its bytes, or its digest where the disk doesn't tell, its digest, its place.
-- The images that each held stamp sees, by the stamps' slots. How many commands began, and how many had begun at the last change.
-- How many replaced images some held stamp sees, and the pages whose newest image a stamp of an earlier command sees.
pub record ArchiveState : Type 0 where
  pub disk : DiskView
  pub pages : PageMap
  pub kept : DigestMap
  pub places : PlaceMap
  pub stamps : map.FinMap nat_cmp ImageMap
  pub begun : ℕ
  pub changed : ℕ
  pub seen : ℕ
  pub shared : NumberSet

-- an archive with no image, over this disk
abbrev pub new_archive : DiskView → ArchiveState
new_archive disk = record {
  disk = disk;
  pages = map.empty;
  kept = map.empty;
  places = map.empty;
  stamps = map.empty;
  begun = 0;
  changed = 0;
  seen = 0;
  shared = set.empty;
}

-- the newest written images, as a stamp sees them that is taken now
abbrev pub newest_images : ArchiveState → ImageMap
newest_images s = record { at = s.begun; pages = s.pages; kept = s.kept; places = s.places }

-- Page n of these images, where it is there, has its digest, and stands on the disk with it where the disk tells.
abbrev pub StandsWritten : Bool → PageMap → DigestMap → ℕ → Type 0
StandsWritten told pages kept n = (digest : List ℕ) → map.get kept n ≡ Some digest → IsTrue told → (page : List ℕ) × ((map.get pages n ≡ Some page) × (digest ≡ sha256 page))

-- the slot holds a stamp of an earlier command, which sees these images
abbrev pub IsFrozen : ArchiveState → ℕ → ImageMap → Type 0
IsFrozen s id f = (map.get s.stamps id ≡ Some f) × (f.at < s.begun)

-- how many pages the stamp in a slot sees, where one of an earlier command is there
abbrev pub slot_size : ℕ → Option ImageMap → ℕ
slot_size begun None = 0
slot_size begun (Some f) = cond (nat_lt f.at begun) (map.len f.places) 0

-- how many pages the stamps of earlier commands in the first slots see, all together
abbrev pub slot_sizes : ArchiveState → ℕ → ℕ
slot_sizes s zero = 0
slot_sizes s (suc id) = slot_sizes s id + slot_size s.begun (map.get s.stamps id)

-- how many pages the held stamps of earlier commands see, all together
unfoldable pub frozen_sizes : ArchiveState → ℕ
frozen_sizes s = slot_sizes s 16

-- The images that a stamp sees, or the newest. Each has a place and a digest, and over a disk that doesn't tell the digests stand for the bytes.
pub record IsImageMap (s : ArchiveState) (f : ImageMap) : Type 0 where
  pub keys : (n : ℕ) → map.contains_key f.kept n ≡ map.contains_key f.places n
  pub untold : s.disk.told ≡ false → f.pages ≡ f.kept
  pub stored : IsTrue s.disk.told → (n place : ℕ) → map.get f.places n ≡ Some place → map.get f.pages n ≡ map.get s.disk.pages place
  pub paged : (n : ℕ) → IsTrue (map.contains_key f.pages n) → IsTrue (map.contains_key f.kept n)
  pub apart : (n q place : ℕ) → map.get f.places n ≡ Some place → map.get s.places q ≡ Some place → n ≡ q

-- What lies at one place is one image, whoever sees it.
abbrev pub AreAlike : ImageMap → ImageMap → Type 0
AreAlike f g = (n q place : ℕ) → map.get f.places n ≡ Some place → map.get g.places q ≡ Some place
    → (n ≡ q) × ((map.get f.kept n ≡ map.get g.kept q) × (map.get f.pages n ≡ map.get g.pages q))

-- What holds of every archive. A stamp of the last command sees the newest images, and so does one since which nothing changed.
-- What a stamp of an earlier command sees stands on the disk with its digests.
-- Sixteen stamps are held at most. The images that are kept for stamps alone are no more than those that the stamps see.
pub record IsArchive (s : ArchiveState) : Type 0 where
  pub live : IsImageMap s (newest_images s)
  pub maps : (id : ℕ) (f : ImageMap) → map.get s.stamps id ≡ Some f → IsImageMap s f
  pub early : (id : ℕ) (f : ImageMap) → map.get s.stamps id ≡ Some f → (id < 16) × (f.at ≤ s.begun)
  pub latest : (id : ℕ) (f : ImageMap) → map.get s.stamps id ≡ Some f → f.at ≡ s.begun → f ≡ newest_images s
  pub unchanged : (id : ℕ) (f : ImageMap) → map.get s.stamps id ≡ Some f → s.changed ≤ f.at → f ≡ record (newest_images s) { at = f.at }
  pub stands : (id : ℕ) (f : ImageMap) → IsFrozen s id f → (n : ℕ) → StandsWritten s.disk.told f.pages f.kept n
  pub alike : (id other : ℕ) (f g : ImageMap) → map.get s.stamps id ≡ Some f → map.get s.stamps other ≡ Some g → AreAlike f g
  pub newest : (id : ℕ) (f : ImageMap) → map.get s.stamps id ≡ Some f → AreAlike f (newest_images s)
  pub shared : (n : ℕ) → IsTrue (set.contains s.shared n) → IsTrue (map.contains_key s.places n)
  pub few : s.seen + set.len s.shared ≤ frozen_sizes s

-- A change of page n leaves each stamp of an earlier command what it sees, and every other page its newest image. The stamps and the numbers of commands stay.
pub record ChangesPage (old new : ArchiveState) (n : ℕ) : Type 0 where
  pub stamps : (id : ℕ) (f : ImageMap) → IsFrozen old id f → map.get new.stamps id ≡ Some f
  pub held : (id : ℕ) → option_map (λ f. f.at) (map.get new.stamps id) ≡ option_map (λ f. f.at) (map.get old.stamps id)
  pub pages : (q : ℕ) → q ≢ n → map.get new.pages q ≡ map.get old.pages q
  pub kept : (q : ℕ) → q ≢ n → map.get new.kept q ≡ map.get old.kept q
  pub places : (q : ℕ) → q ≢ n → map.get new.places q ≡ map.get old.places q
  pub begun : new.begun ≡ old.begun
  pub told : new.disk.told ≡ old.disk.told
  pub given : new.disk.given ≡ old.disk.given

-- The newest image of page n is replaced. It is kept where a stamp of an earlier command sees it, and its successor is seen by none.
pub record ReplacesImage (old new : ArchiveState) (n : ℕ) : Type 0 where
  pub seen : new.seen ≡ old.seen + cond (set.contains old.shared n) 1 0
  pub shared : new.shared ≡ set.remove old.shared n

-- the images that are kept for stamps are as they were
pub record KeepsCounts (old new : ArchiveState) : Type 0 where
  pub seen : new.seen ≡ old.seen
  pub shared : new.shared ≡ old.shared

-- Page n has these bytes as its newest image, at this place, with their digest.
pub record HasImage (s : ArchiveState) (n : ℕ) (bytes : List ℕ) (spot : ℕ) : Type 0 where
  pub place : map.get s.places n ≡ Some spot
  pub kept : map.get s.kept n ≡ Some (sha256 bytes)
  pub page : IsTrue s.disk.told → map.get s.pages n ≡ Some bytes

-- A writing of page n: at most its own newest image changes, whatever the answer.
-- After Ok it has these bytes, at the place that was answered; after a refusal it lies where it lay, and may be spoiled.
pub record WritesImage (old new : ArchiveState) (n : ℕ) (page : List ℕ) (result : Result ℕ PageFault) : Type 0 where
  pub change : ChangesPage old new n
  pub written : IfOk result (HasImage new n page)
  pub replaced : OnOk result (ReplacesImage old new n)
  pub kept_place : OnErr result (map.get new.places n ≡ map.get old.places n)
  pub counts : OnErr result (KeepsCounts old new)
  pub counted : new.disk.faults ≡ faults_after old.disk.faults result
  pub undamaged : IfErr result IsNoDamage

-- Page n is no more.
pub record LeavesPage (old new : ArchiveState) (n : ℕ) : Type 0 where
  pub change : ChangesPage old new n
  pub replaced : ReplacesImage old new n
  pub disk : new.disk ≡ old.disk
  pub places : map.get new.places n ≡ None

-- Nothing changes but the page that the disk last gave and its count of faults.
pub record IsReadArchive (old new : ArchiveState) : Type 0 where
  pub same : new ≡ record old { disk = new.disk }
  pub told : new.disk.told ≡ old.disk.told
  pub stored : new.disk.pages ≡ old.disk.pages

-- A page is damaged where its kept digest and that of the page that the disk gave last differ, over a disk that doesn't tell. Any other refusal says nothing of the page.
abbrev pub IsImageDamage : DiskView → DigestMap → ℕ → PageFault → Type 0
IsImageDamage disk kept n Memory = ⊤
IsImageDamage disk kept n Device = ⊤
IsImageDamage disk kept n (Damaged page digest read) =
    (page ≡ n) × ((map.get kept n ≡ Some digest) × ((read ≡ sha256 disk.given) × ((digest ≢ read) × (disk.told ≡ false))))

-- Page n of these images, where it is there, was read, and has its digest; where the disk tells, it has its bytes. One that isn't there is refused as out of memory.
pub record ReadsImage (old new : ArchiveState) (pages : PageMap) (kept : DigestMap) (n : ℕ) (result : Result (List ℕ) PageFault) : Type 0 where
  pub read : IsReadArchive old new
  pub there : OnOk result (IsTrue (map.contains_key kept n))
  pub missing : map.contains_key kept n ≡ false → IfErr result IsMemory
  pub digested : IfOk result (λ page. map.get kept n ≡ Some (sha256 page))
  pub value : IfOk result (λ page. IsTrue old.disk.told → map.get pages n ≡ Some page)
  pub counted : new.disk.faults ≡ faults_after old.disk.faults result
  pub damaged : IfErr result (IsImageDamage new.disk kept n)

-- One more command begins: each stamp sees what it saw.
pub record Advances (old new : ArchiveState) : Type 0 where
  pub disk : new.disk ≡ old.disk
  pub pages : new.pages ≡ old.pages
  pub kept : new.kept ≡ old.kept
  pub places : new.places ≡ old.places
  pub stamps : new.stamps ≡ old.stamps
  pub begun : new.begun ≡ old.begun + 1
  pub changed : new.changed ≡ old.changed
  pub seen : new.seen ≡ old.seen

-- The stamp is held no more; the others see what they saw.
pub record Releases (old new : ArchiveState) (id : ℕ) : Type 0 where
  pub disk : new.disk ≡ old.disk
  pub pages : new.pages ≡ old.pages
  pub kept : new.kept ≡ old.kept
  pub places : new.places ≡ old.places
  pub stamps : new.stamps ≡ map.remove old.stamps id
  pub begun : new.begun ≡ old.begun
  pub changed : new.changed ≡ old.changed
  pub seen : new.seen ≤ old.seen
  pub shared : (n : ℕ) → IsTrue (set.contains new.shared n) → IsTrue (set.contains old.shared n)
