-- How a pool's parts make up what contracts see of it. (For proofs; no clause above speaks of it.)
use Rattle.std.specs.Prelude.{◌≡◌, ℕ, zero, suc, ◌+◌, ◌-◌, ◌^◌, ◌≤◌, ◌<◌, List, [], ◌∷◌, length, slice_get, Bool, true, false, cond, ◌||◌, nat_eq, nat_lt, IsTrue, Option}
use Rattle.std.specs.Prelude.{None, Some, is_some, Result, IfErr, ◌⊎◌, ⊤, refl}
use Rattle.std.specs.FinMap as map
use Rattle.std.specs.FinSet as set
use Rattle.std.specs.BTreeSet as tree
use Rattle.std.specs.BTreeSet.{BTreeSet}
use Rattle.std.specs.Option.{option_map}
use Rattle.std.specs.Ordering.{nat_cmp}
use Rattle.std.specs.Coded.{Coded, code_by, coded×, coded_ℕ, coded_list, coded_option, coded_bool}
use Rattle.sha2.specs.Sha256.{sha256}
use Rattle.lru.specs.LruCache.{LruCache}
use Rattle.page_pool.specs.Disk.{PageMap, DigestMap, NumberSet, DiskView}
use Rattle.page_pool.specs.declared.fault.PageFault.{PageFault}
use Rattle.page_pool.specs.Pool.{PoolState, Shown, StampMap}
use Rattle.page_pool.specs.Causes.{HasPageCause, IsDamageIfDamaged, Names, damages_after, faults_after}
use Rattle.page_pool.specs.Reads.{IsRead}
use Rattle.page_pool.specs.Archive.{ImageMap, ArchiveState, IsArchive, IsFrozen, StandsWritten}
use Rattle.page_pool.specs.InsideArchive.{collected}

-- what the open command, or those since the last writing, did to each page: its bytes, or None where it was freed
abbrev pub ChangeMap : Type 0
ChangeMap = map.FinMap nat_cmp (Option (List ℕ))

-- the staged changes, and how many of them are pages
pub record StagedState : Type 0 where
  pub changes : ChangeMap
  pub count : ℕ

-- the change is a page
abbrev pub is_page : Option (Option (List ℕ)) → Bool
is_page None = false
is_page (Some change) = is_some change

-- the items in a table, with their numbers, of which the first place has this one
abbrev pub entries_from : {X : Type 0} → ℕ → List (Option X) → List (ℕ × X)
entries_from n [] = []
entries_from n (None ∷ places) = entries_from (suc n) places
entries_from n (Some item ∷ places) = (n, item) ∷ entries_from (suc n) places

-- the items in a table, each in the place of its number
unfoldable pub items_in : {X : Type 0} → List (Option X) → map.FinMap nat_cmp X
items_in places = map.from_entries (entries_from 0 places)

-- the clean pages, how many they are, and how many they may be
pub record FramesState : Type 0 where
  pub pages : PageMap
  pub count : ℕ
  pub most : ℕ

-- the newest images that are in frames by the numbers of their pages, the replaced ones by their places, how many they are, and how many they may be
pub record CacheState : Type 0 where
  pub newest : PageMap
  pub past : PageMap
  pub count : ℕ
  pub most : ℕ

-- the frames of newest images and those of replaced ones, together
abbrev pub cache_of : FramesState → FramesState → CacheState
cache_of newest past = record { newest = newest.pages; past = past.pages; count = newest.count + past.count; most = newest.most }

-- together they are no more than there may be, which is a number of 32 bits
abbrev pub FitTogether : FramesState → FramesState → Type 0
FitTogether newest past = (newest.count + past.count ≤ newest.most) × (newest.most < 2 ^ 32)

-- the places in a queue
abbrev pub queued : LruCache ℕ ⊤ → map.FinMap nat_cmp ⊤
queued queue = map.from_entries queue.entries

-- the queue has the places of these pages, and no others
abbrev pub IsQueueOf : PageMap → LruCache ℕ ⊤ → Type 0
IsQueueOf pages queue = (place : ℕ) → map.contains_key (queued queue) place ≡ map.contains_key pages place

-- the number that is given next, if any is left; the greatest given and the freed ones that are given again, now and at the command's beginning
pub record NumbersState : Type 0 where
  pub next : Option ℕ
  pub top : ℕ
  pub spare : NumberSet
  pub past_top : ℕ
  pub past_spare : NumberSet

-- pages, by their numbers
abbrev pub page_map_code : Coded PageMap
page_map_code = map.code coded_ℕ (coded_list coded_ℕ)

-- a set of numbers, by its list
abbrev pub number_set_code : Coded NumberSet
number_set_code = set.code coded_ℕ

-- a disk, by whether it tells, its pages, the page that it gave last and its count of faults
abbrev pub disk_code : Coded DiskView
disk_code = code_by (Bool × (PageMap × (List ℕ × ℕ))) (coded× coded_bool (coded× page_map_code (coded× (coded_list coded_ℕ) coded_ℕ)))
    (λ d. (d.told, (d.pages, (d.given, d.faults)))) (λ p. record { told = p.0; pages = p.1.0; given = p.1.1.0; faults = p.1.1.1 }) (λ _. refl)

-- changes, by the numbers of their pages
abbrev pub change_map_code : Coded ChangeMap
change_map_code = map.code coded_ℕ (coded_option (coded_list coded_ℕ))

-- staged changes, and how many are pages
abbrev pub staged_code : Coded StagedState
staged_code = code_by (ChangeMap × ℕ) (coded× change_map_code coded_ℕ) (λ s. (s.changes, s.count)) (λ p. record { changes = p.0; count = p.1 }) (λ _. refl)

-- pages in frames, how many they are and may be
abbrev pub frames_code : Coded FramesState
frames_code = code_by (PageMap × (ℕ × ℕ)) (coded× page_map_code (coded× coded_ℕ coded_ℕ)) (λ s. (s.pages, (s.count, s.most))) (λ p. record { pages = p.0; count = p.1.0; most = p.1.1 }) (λ _. refl)

-- newest images and replaced ones in frames, how many they are and may be
abbrev pub cache_code : Coded CacheState
cache_code = code_by (PageMap × (PageMap × (ℕ × ℕ))) (coded× page_map_code (coded× page_map_code (coded× coded_ℕ coded_ℕ)))
    (λ s. (s.newest, (s.past, (s.count, s.most)))) (λ p. record { newest = p.0; past = p.1.0; count = p.1.1.0; most = p.1.1.1 }) (λ _. refl)

-- the number that is given next, then those given and free, now and at the command's beginning
abbrev pub numbers_code : Coded NumbersState
numbers_code = code_by (Option ℕ × (ℕ × (NumberSet × (ℕ × NumberSet)))) (coded× (coded_option coded_ℕ) (coded× coded_ℕ (coded× number_set_code (coded× coded_ℕ number_set_code))))
    (λ s. (s.next, (s.top, (s.spare, (s.past_top, s.past_spare))))) (λ p. record { next = p.0; top = p.1.0; spare = p.1.1.0; past_top = p.1.1.1.0; past_spare = p.1.1.1.1 }) (λ _. refl)

-- the last of the freed numbers, and where there is none the next one above, if it is below 2 ^ 64
abbrev pub next_number : List ℕ → ℕ → Option ℕ
next_number spare top = cond (nat_eq (length spare) 0) (cond (nat_lt (top + 1) (2 ^ 64)) (Some (top + 1)) None) (slice_get spare (length spare - 1))

-- Number n was taken: the next one above all where no freed one waits, and else a freed one.
pub record TakesNumber (old new : NumbersState) (n : ℕ) : Type 0 where
  pub past_top : new.past_top ≡ old.past_top
  pub past_spare : new.past_spare ≡ old.past_spare
  pub again : ((n ≡ old.top + 1) × (new.top ≡ n) × (old.spare ≡ set.empty) × (new.spare ≡ set.empty)) ⊎ (IsTrue (set.contains old.spare n) × (new.spare ≡ set.remove old.spare n) × (new.top ≡ old.top))

-- The books are in order: the numbers up to the greatest are those in use and those that are free, and none is both.
pub record IsAccount (in_use : ℕ → Bool) (top : ℕ) (spare : NumberSet) : Type 0 where
  pub all : (n : ℕ) → 1 ≤ n → n ≤ top → IsTrue (in_use n) ⊎ IsTrue (set.contains spare n)
  pub positive : (n : ℕ) → IsTrue (in_use n) → 1 ≤ n
  pub given : (n : ℕ) → IsTrue (in_use n) → n ≤ top
  pub apart : (n : ℕ) → IsTrue (in_use n) → set.contains spare n ≡ false
  pub spare_positive : (n : ℕ) → IsTrue (set.contains spare n) → 1 ≤ n
  pub spare_given : (n : ℕ) → IsTrue (set.contains spare n) → n ≤ top

-- neither a page nor a freed number waits under this number
abbrev pub IsUnstaged : PoolState → ℕ → Type 0
IsUnstaged s n = (set.contains s.dirty n ≡ false) × (set.contains s.freed n ≡ false)

-- Page n is read in, whatever the answer, and its get was counted before: nothing else changes, and a refusal has its cause in this call and names this page.
pub record ReadsIn {T : Type 0} (old new : PoolState) (n : ℕ) (result : Result T PageFault) : Type 0 where
  pub read : IsRead old new
  pub gets : new.gets ≡ old.gets
  pub cause : HasPageCause old new result
  pub named : IfErr result (Names n)

-- Page n is read and compared, whatever the answer: nothing else changes, a refusal has its cause in this call and names this page, and no damage is counted yet.
pub record Compares {T : Type 0} (old new : PoolState) (n : ℕ) (result : Result T PageFault) : Type 0 where
  pub read : IsRead old new
  pub gets : new.gets ≡ old.gets
  pub damages : new.damages ≡ old.damages
  pub faults : new.disk.faults ≡ faults_after old.disk.faults result
  pub damaged : IfErr result (IsDamageIfDamaged new)
  pub named : IfErr result (Names n)

-- the number has a staged change or a kept digest
abbrev pub is_used : ChangeMap → DigestMap → ℕ → Bool
is_used changes kept n = map.contains_key changes n || map.contains_key kept n

-- a map, by its pages, its dirty ones and its digests
abbrev pub shown_code : Coded Shown
shown_code = code_by (PageMap × (NumberSet × DigestMap)) (coded× page_map_code (coded× number_set_code page_map_code))
    (λ s. (s.pages, (s.dirty, s.kept))) (λ p. record { pages = p.0; dirty = p.1.0; kept = p.1.1 }) (λ _. refl)

-- the maps of held stamps, by the numbers of these
abbrev pub stamp_map_code : Coded StampMap
stamp_map_code = map.code coded_ℕ shown_code

-- a pool's map that is shown and what comes of it, then its numbers and its disk, then its counts, then its maps that are kept
abbrev pub pool_code : Coded PoolState
pool_code = code_by
    ((PageMap × (Option PageMap × (NumberSet × (NumberSet × DigestMap)))) × ((ℕ × (NumberSet × DiskView)) × ((ℕ × (ℕ × (ℕ × ℕ))) × (StampMap × (Option Shown × ℕ)))))
    (coded× (coded× page_map_code (coded× (coded_option page_map_code) (coded× number_set_code (coded× number_set_code page_map_code))))
    (coded× (coded× coded_ℕ (coded× number_set_code disk_code))
    (coded× (coded× coded_ℕ (coded× coded_ℕ (coded× coded_ℕ coded_ℕ))) (coded× stamp_map_code (coded× (coded_option shown_code) coded_ℕ)))))
    (λ s. ((s.pages, (s.beginning, (s.dirty, (s.freed, s.kept)))), ((s.top, (s.spare, s.disk)), ((s.frames, (s.held, (s.gets, s.damages))), (s.stamps, (s.live, s.places))))))
    (λ p. record {
      pages = p.0.0;
      beginning = p.0.1.0;
      dirty = p.0.1.1.0;
      freed = p.0.1.1.1.0;
      kept = p.0.1.1.1.1;
      top = p.1.0.0;
      spare = p.1.0.1.0;
      disk = p.1.0.1.1;
      frames = p.1.1.0.0;
      held = p.1.1.0.1.0;
      gets = p.1.1.0.1.1.0;
      damages = p.1.1.0.1.1.1;
      stamps = p.1.1.1.0;
      live = p.1.1.1.1.0;
      places = p.1.1.1.1.1;
    })
    (λ _. refl)

-- the pages after these changes
abbrev pub overlay : List (ℕ × Option (List ℕ)) → PageMap → PageMap
overlay [] pages = pages
overlay ((n, None) ∷ changes) pages = map.remove (overlay changes pages) n
overlay ((n, Some page) ∷ changes) pages = map.insert (overlay changes pages) n page

-- the numbers of the pages among these changes
abbrev pub written : List (ℕ × Option (List ℕ)) → NumberSet
written [] = set.empty
written ((n, None) ∷ changes) = set.remove (written changes) n
written ((n, Some page) ∷ changes) = set.insert (written changes) n

-- the numbers that these changes freed
abbrev pub dropped : List (ℕ × Option (List ℕ)) → NumberSet
dropped [] = set.empty
dropped ((n, None) ∷ changes) = set.insert (dropped changes) n
dropped ((n, Some page) ∷ changes) = set.remove (dropped changes) n

-- the live pages of a map of changes over those that are stored
unfoldable pub overlaid : ChangeMap → PageMap → PageMap
overlaid changes pages = overlay (map.entries changes) pages

-- the numbers of the pages among the changes
unfoldable pub dirty_of : ChangeMap → NumberSet
dirty_of changes = written (map.entries changes)

-- the numbers that the changes freed
unfoldable pub freed_of : ChangeMap → NumberSet
freed_of changes = dropped (map.entries changes)

-- the staged changes, with the number of pages among them
abbrev pub staged_of : ChangeMap → StagedState
staged_of changes = record { changes = changes; count = set.len (dirty_of changes) }

-- the set has the numbers with a change, and no others
abbrev pub HasNumbersOf : ChangeMap → BTreeSet ℕ → Type 0
HasNumbersOf changes numbers = (n : ℕ) → tree.contains nat_cmp numbers n ≡ map.contains_key changes n

-- the map of a stamp: its images, and what is staged upon them if no command began since it was taken
abbrev pub shown_images : ℕ → ChangeMap → ImageMap → Shown
shown_images begun changes f = cond (nat_lt f.at begun)
    (record { pages = f.pages; dirty = set.empty; kept = f.kept })
    (record { pages = overlaid changes f.pages; dirty = dirty_of changes; kept = f.kept })

-- the map of the stamp in a slot
abbrev pub shown_slot : ArchiveState → ChangeMap → ℕ → Option Shown
shown_slot archive changes id = option_map (shown_images archive.begun changes) (map.get archive.stamps id)

-- the maps of the held stamps
unfoldable pub shown_stamps : ArchiveState → ChangeMap → StampMap
shown_stamps archive changes = collected (shown_slot archive changes) (map.keys archive.stamps)

-- the pages with a staged change whose newest image a stamp of an earlier command sees
abbrev pub staged_shared : NumberSet → ChangeMap → NumberSet
staged_shared shared changes = set.retain shared (λ n. map.contains_key changes n)

-- how many of the numbers from 1 on pass the test
abbrev pub count_upto : (ℕ → Bool) → ℕ → ℕ
count_upto test zero = 0
count_upto test (suc n) = count_upto test n + cond (test (suc n)) 1 0

-- how many images are kept: those of the live map, the replaced ones that stamps see, and those that are about to be replaced
abbrev pub place_count : ArchiveState → ChangeMap → ℕ
place_count archive changes = map.len (overlaid changes archive.pages) + (archive.seen + set.len (staged_shared archive.shared changes))

-- what contracts see of a pool's parts
abbrev pub state_of : ArchiveState → StagedState → CacheState → NumbersState → Bool → ℕ → ℕ → PoolState
state_of archive staged frames numbers is_open gets damages = record {
  pages = overlaid staged.changes archive.pages;
  beginning = cond is_open (Some archive.pages) None;
  dirty = dirty_of staged.changes;
  freed = freed_of staged.changes;
  kept = archive.kept;
  top = numbers.top;
  spare = numbers.spare;
  disk = archive.disk;
  frames = frames.most;
  held = frames.count + staged.count;
  gets = gets;
  damages = damages;
  stamps = shown_stamps archive staged.changes;
  live = None;
  places = place_count archive staged.changes;
}

-- these bytes are page n of these images: they have its digest, and where the disk tells they are its bytes
abbrev pub IsImageOf : Bool → PageMap → DigestMap → ℕ → List ℕ → Type 0
IsImageOf told pages kept n page = (map.get kept n ≡ Some (sha256 page)) × (IsTrue told → map.get pages n ≡ Some page)

-- What holds of a pool's parts. Each newest image stands on the disk, unless its page waits to be written and no command is open, since a failed writing may have spoiled it.
-- A page in a frame is the newest image of its number, or the replaced one that stamps of earlier commands see at its place, where no newest image lies.
-- No number is lost, now and at the beginning of the open command, which began after each stamp was taken.
pub record IsWhole (archive : ArchiveState) (changes : ChangeMap) (frames : CacheState) (numbers : NumbersState) (is_open : Bool) : Type 0 where
  pub archived : IsArchive archive
  pub stands : (n : ℕ) → (is_open ≡ false → map.get changes n ≡ None) → StandsWritten archive.disk.told archive.pages archive.kept n
  pub newest : (n : ℕ) (page : List ℕ) → map.get frames.newest n ≡ Some page → IsImageOf archive.disk.told archive.pages archive.kept n page
  pub past : (id : ℕ) (f : ImageMap) → IsFrozen archive id f → (n place : ℕ) (page : List ℕ) → map.get f.places n ≡ Some place → map.get frames.past place ≡ Some page
      → IsImageOf archive.disk.told f.pages f.kept n page
  pub replaced : (n place : ℕ) (page : List ℕ) → map.get archive.places n ≡ Some place → map.get frames.past place ≡ Some page → ⊥
  pub numbers_now : IsAccount (is_used changes archive.kept) numbers.top numbers.spare
  pub numbers_before : is_open ≡ true → IsAccount (λ n. map.contains_key archive.kept n) numbers.past_top numbers.past_spare
  pub early : is_open ≡ true → (id : ℕ) (f : ImageMap) → map.get archive.stamps id ≡ Some f → f.at < archive.begun
