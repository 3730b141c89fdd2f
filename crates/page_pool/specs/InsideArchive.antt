-- How an archive's parts make up what contracts see of it. (For proofs; no clause above speaks of it.)
use Rattle.std.specs.Prelude.{◌≡◌, ℕ, ◌<◌, List, [], ◌∷◌, ◌++◌, map as each, cond, false, ◌≢◌, ⊤, IsTrue, Option, None, Some, Result, IfOk, IfErr, OnOk}
use Rattle.std.specs.Option.{option_map, option_and_then}
use Rattle.std.specs.Ordering.{nat_cmp}
use Rattle.std.specs.FinMap as map
use Rattle.std.specs.FinSet as set
use Rattle.sha2.specs.Sha256.{sha256}
use Rattle.page_pool.specs.Disk.{DigestMap, DiskView}
use Rattle.page_pool.specs.declared.fault.PageFault.{PageFault}
use Rattle.page_pool.specs.declared.fault.PageFault.TheVariants.{Memory, Device, Damaged}
use Rattle.page_pool.specs.Causes.{IsMemory, IsNoDamage, faults_after}
use Rattle.page_pool.specs.Images.{ImagesState, newest_place, seen_place, seen_past, seen_homes}
use Rattle.page_pool.specs.Archive.{ImageMap, ArchiveState}

-- the map with this item at the number, or with none
abbrev pub set_at : {X : Type 0} → map.FinMap nat_cmp X → ℕ → Option X → map.FinMap nat_cmp X
set_at m n None = map.remove m n
set_at m n (Some item) = map.insert m n item

-- the finite map of a function at these numbers
abbrev pub collected : {X : Type 0} → (ℕ → Option X) → List ℕ → map.FinMap nat_cmp X
collected f [] = map.empty
collected f (n ∷ ns) = set_at (collected f ns) n (f n)

-- the pages that have or had an image
abbrev pub imaged : ImagesState → List ℕ
imaged s = map.keys s.homes ++ each (λ past. past.number) (map.values s.past)

-- what lies at the places of the newest images, by the numbers of their pages
unfoldable pub newest_of : {X : Type 0} → (ℕ → Option X) → ImagesState → map.FinMap nat_cmp X
newest_of at_place s = collected (λ n. option_and_then at_place (newest_place s n)) (imaged s)

-- what lies at the places that a stamp sees
unfoldable pub seen_of : {X : Type 0} → (ℕ → Option X) → ImagesState → ℕ → map.FinMap nat_cmp X
seen_of at_place s at = collected (λ n. option_and_then at_place (seen_place at s n)) (imaged s)

-- what the disk has at a place with a digest: the bytes, or the digest where it doesn't tell
abbrev pub stored_at : DiskView → DigestMap → ℕ → Option (List ℕ)
stored_at disk kept place = cond disk.told (cond (map.contains_key kept place) (map.get disk.pages place) None) (map.get kept place)

-- the images that a stamp sees
abbrev pub images_at : DiskView → DigestMap → ImagesState → ℕ → ImageMap
images_at disk kept s at = record {
  at = at;
  pages = seen_of (stored_at disk kept) s at;
  kept = seen_of (map.get kept) s at;
  places = seen_of Some s at;
}

-- the images that each held stamp sees
unfoldable pub stamps_of : DiskView → DigestMap → ImagesState → map.FinMap nat_cmp ImageMap
stamps_of disk kept s = collected (λ slot. option_map (images_at disk kept s) (map.get s.held slot)) (map.keys s.held)

-- what contracts see of an archive's parts, the digests by their places
abbrev pub archive_of : DiskView → DigestMap → ImagesState → ArchiveState
archive_of disk kept s = record {
  disk = disk;
  pages = newest_of (stored_at disk kept) s;
  kept = newest_of (map.get kept) s;
  places = newest_of Some s;
  stamps = stamps_of disk kept s;
  begun = s.begun;
  changed = s.changed;
  seen = set.len (seen_past s);
  shared = seen_homes s;
}

-- the image at this place stands on the disk with its digest
abbrev pub ImageStandsAt : DiskView → DigestMap → ℕ → Type 0
ImageStandsAt disk kept place = (digest : List ℕ) × ((map.get kept place ≡ Some digest)
    × (IsTrue disk.told → (page : List ℕ) × ((map.get disk.pages place ≡ Some page) × (digest ≡ sha256 page))))

-- What holds of an archive's parts. Each newest image has a digest, and each image that a stamp of an earlier command sees stands on the disk with its own.
pub record IsArchived (disk : DiskView) (kept : DigestMap) (s : ImagesState) : Type 0 where
  pub digested : (n place : ℕ) → newest_place s n ≡ Some place → IsTrue (map.contains_key kept place)
  pub stands : (slot at n place : ℕ) → map.get s.held slot ≡ Some at → at < s.begun → seen_place at s n ≡ Some place → ImageStandsAt disk kept place

-- the image at this place, where it has a digest and the disk tells, stands with it
abbrev pub StandsStored : DiskView → DigestMap → ℕ → Type 0
StandsStored disk kept place = (digest : List ℕ) → map.get kept place ≡ Some digest → IsTrue disk.told
    → (page : List ℕ) × ((map.get disk.pages place ≡ Some page) × (digest ≡ sha256 page))

-- a page is damaged where the digest kept of its place and that of the page that the disk gave last differ, over a disk that doesn't tell
abbrev pub IsPlaceDamage : DiskView → DigestMap → ℕ → ℕ → PageFault → Type 0
IsPlaceDamage disk kept n place Memory = ⊤
IsPlaceDamage disk kept n place Device = ⊤
IsPlaceDamage disk kept n place (Damaged page digest read) =
    (page ≡ n) × ((map.get kept place ≡ Some digest) × ((read ≡ sha256 disk.given) × ((digest ≢ read) × (disk.told ≡ false))))

-- The image at this place was read, as page n, and has its digest; where the disk tells, it has its bytes. Nothing of the disk changes but the page last given and the count.
pub record ReadsPlace (old new : DiskView) (kept : DigestMap) (n place : ℕ) (result : Result (List ℕ) PageFault) : Type 0 where
  pub told : new.told ≡ old.told
  pub stored : new.pages ≡ old.pages
  pub digested : IfOk result (λ page. map.get kept place ≡ Some (sha256 page))
  pub value : IfOk result (λ page. IsTrue old.told → map.get old.pages place ≡ Some page)
  pub missing : map.contains_key kept place ≡ false → IfErr result IsMemory
  pub counted : new.faults ≡ faults_after old.faults result
  pub damaged : IfErr result (IsPlaceDamage new kept n place)

-- At most what lies at this place changes, on the disk and among the digests.
pub record Spoils (disk disk' : DiskView) (kept kept' : DigestMap) (place : ℕ) : Type 0 where
  pub told : disk'.told ≡ disk.told
  pub given : disk'.given ≡ disk.given
  pub pages : IsTrue disk.told → (q : ℕ) → q ≢ place → map.get disk'.pages q ≡ map.get disk.pages q
  pub kept_rest : (q : ℕ) → q ≢ place → map.get kept' q ≡ map.get kept q
  pub has : IsTrue (map.contains_key kept place) → IsTrue (map.contains_key kept' place)

-- The page was stored at the place with its digest, whatever the answer: nothing else is spoiled.
pub record StoresAt {T : Type 0} (disk disk' : DiskView) (kept kept' : DigestMap) (place : ℕ) (page : List ℕ) (result : Result T PageFault) : Type 0 where
  pub spoils : Spoils disk disk' kept kept' place
  pub digest : OnOk result (map.get kept' place ≡ Some (sha256 page))
  pub stored : OnOk result (IsTrue disk'.told → map.get disk'.pages place ≡ Some page)
  pub counted : disk'.faults ≡ faults_after disk.faults result
  pub undamaged : IfErr result IsNoDamage
