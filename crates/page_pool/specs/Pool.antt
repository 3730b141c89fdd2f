-- A pool of pages as contracts see it: the live pages, those at the beginning of the open command, what the disk has of them.
use Rattle.std.specs.Prelude.{◌≡◌, ℕ, zero, suc, ◌+◌, ◌≤◌, ◌<◌, List, IsTrue, false, Option, None, Some, IsSome, IsNone, replicate, ◌⊎◌}
use Rattle.std.specs.Ordering.{nat_cmp}
use Rattle.std.specs.Option.{option_map_or}
use Rattle.std.specs.FinMap as map
use Rattle.std.specs.FinSet as set
use Rattle.sha2.specs.Sha256.{sha256}
use Rattle.page_pool.specs.Disk.{PageMap, DigestMap, NumberSet, DiskView}

-- one map of a pool, as it is shown: its pages, those of them that are dirty, and the kept digests of the images that it has
pub record Shown : Type 0 where
  pub pages : PageMap
  pub dirty : NumberSet
  pub kept : DigestMap

-- the maps of the held stamps, each by the number of its stamp
abbrev pub StampMap : Type 0
StampMap = map.FinMap nat_cmp Shown

-- a pool, seen through the map that it shows: the live one, or that of a held stamp
pub record PoolState : Type 0 where
  -- The pages of the map that is shown. Over a disk that doesn't tell, a page that isn't dirty is seen as its kept digest, since it may hold any bytes.
  pub pages : PageMap
  -- while a command is open, the live pages at its beginning
  pub beginning : Option PageMap
  -- the pages shown that were put or allocated and not written since
  pub dirty : NumberSet
  -- the numbers freed since the last writing
  pub freed : NumberSet
  -- the digest of what was last written of each page that is shown
  pub kept : DigestMap
  -- the greatest number given so far
  pub top : ℕ
  -- the freed numbers that are given again
  pub spare : NumberSet
  -- the disk below
  pub disk : DiskView
  -- how many clean pages are kept in memory at most
  pub frames : ℕ
  -- how many pages are kept in memory
  pub held : ℕ
  -- how often a page was asked for
  pub gets : ℕ
  -- how often a page that was asked for was damaged
  pub damages : ℕ
  -- the maps of the held stamps
  pub stamps : StampMap
  -- the live map, while another is shown
  pub live : Option Shown
  -- how many images are kept, those of the live map counted
  pub places : ℕ

-- the map that is shown
abbrev pub shown_of : PoolState → Shown
shown_of s = record { pages = s.pages; dirty = s.dirty; kept = s.kept }

-- the pool with this map shown, and the live one kept beside it
abbrev pub showing : PoolState → Shown → PoolState
showing s shown = record s { pages = shown.pages; dirty = shown.dirty; kept = shown.kept; live = Some (shown_of s) }

-- the pool with the map of this stamp shown, where it is held
abbrev pub seen_at : PoolState → ℕ → PoolState
seen_at s stamp = option_map_or (showing s) (map.get s.stamps stamp) s

-- the pool with this map as its live one, which is shown
abbrev pub live_again : PoolState → Shown → PoolState
live_again s live = record s { pages = live.pages; dirty = live.dirty; kept = live.kept; live = None }

-- the pool with its live map shown
abbrev pub back : PoolState → PoolState
back s = option_map_or (live_again s) s.live s

-- the page has this number
abbrev pub IsLive : PoolState → ℕ → Type 0
IsLive s n = IsTrue (map.contains_key s.pages n)

-- the page was put or allocated since it was last written
abbrev pub IsDirty : PoolState → ℕ → Type 0
IsDirty s n = IsTrue (set.contains s.dirty n)

-- a command is open
abbrev pub IsOpen : PoolState → Type 0
IsOpen s = IsSome s.beginning

-- no command is open, and the live map is shown
abbrev pub IsClosed : PoolState → Type 0
IsClosed s = IsNone s.beginning × IsNone s.live

-- the disk tells its pages
abbrev pub IsTold : PoolState → Type 0
IsTold s = IsTrue s.disk.told

-- a page of zeros
unfoldable pub zero_page : List ℕ
zero_page = replicate 4096 0

-- These bytes are page n: those of the map where the disk tells or the page is dirty, and else, as they come from the disk, bytes that have the kept digest.
pub record IsPage (s : PoolState) (n : ℕ) (bytes : List ℕ) : Type 0 where
  pub told : IsTold s → map.get s.pages n ≡ Some bytes
  pub dirty : IsDirty s n → map.get s.pages n ≡ Some bytes
  pub clean : set.contains s.dirty n ≡ false → map.get s.kept n ≡ Some (sha256 bytes)

-- What holds of a map that a pool shows or holds. Its dirty pages are in it. Each other page has a digest, and where the disk tells that of its bytes, which stand in the disk's map.
pub record IsMap (disk : DiskView) (m : Shown) : Type 0 where
  pub lives : (n : ℕ) → IsTrue (set.contains m.dirty n) → IsTrue (map.contains_key m.pages n)
  pub digested : (n : ℕ) → IsTrue (map.contains_key m.pages n) → set.contains m.dirty n ≡ false → IsTrue (map.contains_key m.kept n)
  pub same : IsTrue disk.told → (n : ℕ) (page : List ℕ) → map.get m.pages n ≡ Some page → set.contains m.dirty n ≡ false → map.get m.kept n ≡ Some (sha256 page)
  pub stands : IsTrue disk.told → (n : ℕ) (page : List ℕ) → map.get m.pages n ≡ Some page → set.contains m.dirty n ≡ false → (place : ℕ) × (map.get disk.pages place ≡ Some page)

-- how many pages a map has, where one is there
abbrev pub map_size : Option Shown → ℕ
map_size None = 0
map_size (Some m) = map.len m.pages

-- how many pages the maps of the first so many stamps have, all together
abbrev pub map_sizes : StampMap → ℕ → ℕ
map_sizes stamps zero = 0
map_sizes stamps (suc id) = map_sizes stamps id + map_size (map.get stamps id)

-- What holds of every pool: the live map and those of the held stamps, sixteen at most, are maps over its disk.
-- The images that are kept are at least the live pages, and at most those and the pages of the held stamps' maps together.
-- The pages kept in memory are at most the frames and the dirty pages together.
pub record IsPool (s : PoolState) : Type 0 where
  pub slots : (id : ℕ) → IsTrue (map.contains_key s.stamps id) → id < 16
  pub least : map.len s.pages ≤ s.places
  pub most : s.places ≤ map.len s.pages + map_sizes s.stamps 16
  pub shown : IsMap s.disk (shown_of s)
  pub stamps : (id : ℕ) (m : Shown) → map.get s.stamps id ≡ Some m → IsMap s.disk m
  pub few : s.held ≤ s.frames + set.len s.dirty

-- No number is lost: each one that was given is live, was freed since the last writing, or is given again.
pub record LosesNoNumber (s : PoolState) : Type 0 where
  pub used : (n : ℕ) → 1 ≤ n → n ≤ s.top → IsLive s n ⊎ (IsTrue (set.contains s.freed n) ⊎ IsTrue (set.contains s.spare n))

-- a pool at its start, over this disk
abbrev pub new_pool : DiskView → ℕ → PoolState
new_pool disk frames = record {
  pages = map.empty;
  beginning = None;
  dirty = set.empty;
  freed = set.empty;
  kept = map.empty;
  top = 0;
  spare = set.empty;
  disk = disk;
  frames = frames;
  held = 0;
  gets = 0;
  damages = 0;
  stamps = map.empty;
  live = None;
  places = 0;
}
