-- What the calls of a command do to a pool.
use Rattle.std.specs.Prelude.{◌≡◌, ◌≢◌, ℕ, ◌≤◌, ◌<◌, ◌+◌, ◌⊎◌, List, Bool, None, Some, IsTrue, IsNone, false, Result, OnOk, IfErr, IfSome}
use Rattle.std.specs.FinMap as map
use Rattle.std.specs.FinSet as set
use Rattle.sha2.specs.Sha256.{sha256}
use Rattle.page_pool.specs.declared.fault.PageFault.{PageFault}
use Rattle.page_pool.specs.Disk.{PageMap, NumberSet}
use Rattle.page_pool.specs.Pool.{PoolState, Shown, IsLive, IsDirty, IsTold, zero_page}
use Rattle.page_pool.specs.Causes.{HasPageCause, IsNoDamage}

-- what no call of a command changes: the disk, the kept digests, the frames, the numbers of gets and of damaged pages, the maps of the held stamps, and which map is shown
pub record KeepsDisk (old new : PoolState) : Type 0 where
  pub disk : new.disk ≡ old.disk
  pub kept : new.kept ≡ old.kept
  pub frames : new.frames ≡ old.frames
  pub gets : new.gets ≡ old.gets
  pub damages : new.damages ≡ old.damages
  pub stamps : new.stamps ≡ old.stamps
  pub live : new.live ≡ old.live

-- The open command changed the live pages to these, with these of them dirty, and did nothing else. The images that are kept become more by at most one for each page that became dirty.
pub record ChangesLive (old new : PoolState) (live : PageMap) (unwritten : NumberSet) : Type 0 where
  pub pages : new.pages ≡ live
  pub dirty : new.dirty ≡ unwritten
  pub beginning : new.beginning ≡ old.beginning
  pub keeps : KeepsDisk old new
  pub places : new.places + set.len old.dirty ≤ old.places + set.len unwritten

-- page n has these bytes, and all else is as it was
pub record Puts (old new : PoolState) (n : ℕ) (bytes : List ℕ) : Type 0 where
  pub changes : ChangesLive old new (map.insert old.pages n bytes) (set.insert old.dirty n)
  pub freed : new.freed ≡ old.freed
  pub top : new.top ≡ old.top
  pub spare : new.spare ≡ old.spare

-- Page n is new, with zeros. The number isn't 0, nor that of a page that is live or was so at the command's beginning. A number above all that were given comes only where no freed one waits.
pub record Allocates (old new : PoolState) (n : ℕ) : Type 0 where
  pub positive : 1 ≤ n
  pub fresh : map.get old.pages n ≡ None
  pub unknown : IfSome old.beginning (λ m. map.get m n ≡ None)
  pub changes : ChangesLive old new (map.insert old.pages n zero_page) (set.insert old.dirty n)
  pub freed : new.freed ≡ old.freed
  pub again : ((n ≡ old.top + 1) × (new.top ≡ n) × (old.spare ≡ set.empty) × (new.spare ≡ set.empty)) ⊎ (IsTrue (set.contains old.spare n) × (new.spare ≡ set.remove old.spare n) × (new.top ≡ old.top))

-- page n is no more, and its number waits for the next writing
pub record Frees (old new : PoolState) (n : ℕ) : Type 0 where
  pub changes : ChangesLive old new (map.remove old.pages n) (set.remove old.dirty n)
  pub freed : new.freed ≡ set.insert old.freed n
  pub top : new.top ≡ old.top
  pub spare : new.spare ≡ old.spare

-- The command ended, and its pages are the pool's, which are shown.
abbrev pub Commits : PoolState → PoolState → Type 0
Commits old new = new ≡ record old { beginning = None; live = None }

-- The command ended, and the pages are those of its beginning, none of them dirty.
pub record Aborts (old new : PoolState) : Type 0 where
  pub pages : IfSome old.beginning (λ m. new.pages ≡ m)
  pub closed : new.beginning ≡ None
  pub dirty : new.dirty ≡ set.empty
  pub freed : new.freed ≡ set.empty
  pub keeps : KeepsDisk old new
  pub shown : IsNone new.live

-- A map after a writing of dirty pages, whatever its answer: the same pages are in it, with the same bytes where the disk tells.
-- One that is dirty no more has the digest of its bytes; one that still waits keeps its bytes; each other one keeps its digest and what is seen of it.
pub record Settles (told : Bool) (old new : Shown) : Type 0 where
  pub pages : IsTrue told → new.pages ≡ old.pages
  pub lives : (n : ℕ) → map.contains_key new.pages n ≡ map.contains_key old.pages n
  pub dirty : (n : ℕ) → IsTrue (set.contains new.dirty n) → IsTrue (set.contains old.dirty n)
  pub written : (n : ℕ) (page : List ℕ) → map.get old.pages n ≡ Some page → IsTrue (set.contains old.dirty n) → set.contains new.dirty n ≡ false → map.get new.kept n ≡ Some (sha256 page)
  pub waiting : (n : ℕ) → IsTrue (set.contains new.dirty n) → map.get new.pages n ≡ map.get old.pages n
  pub clean : (n : ℕ) → IsTrue (map.contains_key old.pages n) → set.contains old.dirty n ≡ false → (map.get new.pages n ≡ map.get old.pages n) × (map.get new.kept n ≡ map.get old.kept n)

-- The maps of the held stamps after a writing: the same stamps are held, and in the map of each no page changes, but for some of its dirty pages that are written.
pub record SettlesStamps (old new : PoolState) : Type 0 where
  pub held : (id : ℕ) → map.contains_key new.stamps id ≡ map.contains_key old.stamps id
  pub settles : (id : ℕ) (a b : Shown) → map.get old.stamps id ≡ Some a → map.get new.stamps id ≡ Some b → Settles old.disk.told a b

-- The writing of dirty pages, whatever its answer. The same pages are live, with the same bytes where the disk tells.
-- A page that is dirty no more was written and has the digest of its bytes; each other live page keeps its digest.
pub record WritesPages (old new : PoolState) : Type 0 where
  pub lives : (n : ℕ) → map.contains_key new.pages n ≡ map.contains_key old.pages n
  pub pages : IsTold old → new.pages ≡ old.pages
  pub dirty : (n : ℕ) → IsDirty new n → IsDirty old n
  pub written : (n : ℕ) (page : List ℕ) → map.get old.pages n ≡ Some page → IsDirty old n → set.contains new.dirty n ≡ false → map.get new.kept n ≡ Some (sha256 page)
  pub waiting : (n : ℕ) → IsDirty new n → map.get new.pages n ≡ map.get old.pages n
  pub clean : (n : ℕ) → IsLive old n → set.contains old.dirty n ≡ false → map.get new.kept n ≡ map.get old.kept n
  pub told : new.disk.told ≡ old.disk.told
  pub given : new.disk.given ≡ old.disk.given
  pub top : new.top ≡ old.top
  pub frames : new.frames ≡ old.frames
  pub gets : new.gets ≡ old.gets
  pub damages : new.damages ≡ old.damages
  pub stamps : SettlesStamps old new
  pub shown : IsNone new.live
  pub places : new.places ≤ old.places

-- Pages were written in ascending order: each that is dirty no more has a smaller number than each that still is.
abbrev pub WritesInOrder : PoolState → PoolState → Type 0
WritesInOrder old new = (n later : ℕ) → IsDirty old n → set.contains new.dirty n ≡ false → IsDirty new later → n < later

-- After an accepted writing no page is dirty, and no freed number waits.
pub record IsWritten (s : PoolState) : Type 0 where
  pub dirty : s.dirty ≡ set.empty
  pub freed : s.freed ≡ set.empty

-- The writing that opens a command, or only writes, in ascending order: no damage is found by it, and a refusal leaves the pool closed.
pub record WritesAll {T : Type 0} (old new : PoolState) (result : Result T PageFault) : Type 0 where
  pub writes : WritesPages old new
  pub ascending : WritesInOrder old new
  pub accepted : OnOk result (IsWritten new)
  pub cause : HasPageCause old new result
  pub undamaged : IfErr result IsNoDamage

-- how many pages and freed numbers wait to be written
abbrev pub waiting_count : PoolState → ℕ
waiting_count s = set.len s.dirty + set.len s.freed

-- Waiting page n was written, or the freed number n let go: where that was accepted, fewer wait, and each other page that was dirty still is.
pub record WritesOne {T : Type 0} (old new : PoolState) (n : ℕ) (result : Result T PageFault) : Type 0 where
  pub writes : WritesPages old new
  pub others : (q : ℕ) → q ≢ n → IsDirty old q → IsDirty new q
  pub closed : new.beginning ≡ None
  pub cause : HasPageCause old new result
  pub undamaged : IfErr result IsNoDamage
  pub fewer : OnOk result (waiting_count new < waiting_count old)
