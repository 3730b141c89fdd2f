-- Images of pages: where each written image of a page lies, and which of them held stamps see. A snapshot is a stamp: the number of commands that had begun as it was taken.
-- Page versions with the numbers of their transactions after D. P. Reed (1978).
use Rattle.std.specs.Prelude.{◌≡◌, ◌≢◌, ℕ, ◌+◌, ◌≤◌, ◌<◌, List, [], ◌∷◌, Bool, true, false, cond, ◌&&◌, nat_eq, nat_le, nat_lt, Option, None, Some}
use Rattle.std.specs.Option.{option_map}
use Rattle.std.specs.List.{list_any}
use Rattle.std.specs.Ordering.{nat_cmp}
use Rattle.std.specs.FinMap as map
use Rattle.std.specs.FinSet as set
use Rattle.std.specs.BTreeMap.{BTreeMap}
use Rattle.page_pool.specs.Disk.{NumberSet}
use Rattle.page_pool.specs.declared.home.Home.{Home}
use Rattle.page_pool.specs.declared.past.Past.{Past}

-- the newest images by the numbers of their pages
abbrev pub HomeMap : Type 0
HomeMap = map.FinMap nat_cmp Home

-- the replaced images by the places where they lie
abbrev pub PastMap : Type 0
PastMap = map.FinMap nat_cmp Past

-- the replaced images in an ordered map
abbrev pub past_map : BTreeMap ℕ Past → PastMap
past_map images = map.from_entries images.entries

-- the held stamps by their slots: the number of commands that had begun as each was taken
abbrev pub HeldMap : Type 0
HeldMap = map.FinMap nat_cmp ℕ

-- the slots of held stamps are the first sixteen
abbrev pub AreSixteenSlots : HeldMap → Type 0
AreSixteenSlots held = (id at : ℕ) → map.get held id ≡ Some at → id < 16

-- The newest written images, the replaced ones, the held stamps. How many commands began so far.
-- How many had begun at the last change, and the greatest place so far.
pub record ImagesState : Type 0 where
  pub homes : HomeMap
  pub past : PastMap
  pub held : HeldMap
  pub begun : ℕ
  pub changed : ℕ
  pub top : ℕ

-- a state of these parts
abbrev pub images_of : HomeMap → PastMap → HeldMap → ℕ → ℕ → ℕ → ImagesState
images_of homes past held begun changed top = record { homes = homes; past = past; held = held; begun = begun; changed = changed; top = top }

-- no image at all
abbrev pub no_images : ImagesState
no_images = record { homes = map.empty; past = map.empty; held = map.empty; begun = 0; changed = 0; top = 0 }

-- an image was the newest of its page as this stamp was taken: it was made by then, and replaced after
abbrev pub was_newest : ℕ → ℕ → ℕ → Bool
was_newest made until at = nat_le made at && nat_lt at until

-- a held stamp, where one is in the slot, sees an image of this life
abbrev pub is_seen_by : ℕ → ℕ → Option ℕ → Bool
is_seen_by made until None = false
is_seen_by made until (Some at) = was_newest made until at

-- some held stamp sees an image of this life
unfoldable pub is_seen : HeldMap → ℕ → ℕ → Bool
is_seen held made until = list_any (λ id. is_seen_by made until (map.get held id)) (map.keys held)

-- no held stamp sees an image of this life
abbrev pub IsUnseen : HeldMap → ℕ → ℕ → Type 0
IsUnseen held made until = (id at : ℕ) → map.get held id ≡ Some at → was_newest made until at ≡ false

-- the replaced image, where there is one, is what the stamp sees as page n
abbrev pub is_shown : ℕ → ℕ → Option Past → Bool
is_shown n at None = false
is_shown n at (Some past) = nat_eq past.number n && was_newest past.made past.until at

-- the first of these numbers that passes the test
abbrev pub first_where : (ℕ → Bool) → List ℕ → Option ℕ
first_where test [] = None
first_where test (n ∷ ns) = cond (test n) (Some n) (first_where test ns)

-- the place of the replaced image that the stamp sees as page n
unfoldable pub past_place : ℕ → PastMap → ℕ → Option ℕ
past_place at past n = first_where (λ place. is_shown n at (map.get past place)) (map.keys past)

-- the place of the newest image where the stamp sees it, and else this one
abbrev pub home_or : ℕ → Option Home → Option ℕ → Option ℕ
home_or at None other = other
home_or at (Some home) other = cond (nat_le home.made at) (Some home.place) other

-- where the newest written image of page n lies
abbrev pub newest_place : ImagesState → ℕ → Option ℕ
newest_place s n = option_map (λ home. home.place) (map.get s.homes n)

-- where the image lies that a stamp sees as page n
abbrev pub seen_place : ℕ → ImagesState → ℕ → Option ℕ
seen_place at s n = home_or at (map.get s.homes n) (past_place at s.past n)

-- No two images lie at one place. The images of one page have lives apart, and the newest is the last.
-- Each was made by a command that began, and lies at a place given so far. At most sixteen stamps are held.
pub record IsImages (s : ImagesState) : Type 0 where
  pub one : (n q : ℕ) (h k : Home) → map.get s.homes n ≡ Some h → map.get s.homes q ≡ Some k → h.place ≡ k.place → n ≡ q
  pub apart : (n : ℕ) (h : Home) → map.get s.homes n ≡ Some h → map.get s.past h.place ≡ None
  pub alone : (p q at : ℕ) (e f : Past) → map.get s.past p ≡ Some e → map.get s.past q ≡ Some f → e.number ≡ f.number
      → was_newest e.made e.until at ≡ true → was_newest f.made f.until at ≡ true → p ≡ q
  pub behind : (n p : ℕ) (h : Home) (e : Past) → map.get s.homes n ≡ Some h → map.get s.past p ≡ Some e → e.number ≡ n → e.until ≤ h.made
  pub made : (n : ℕ) (h : Home) → map.get s.homes n ≡ Some h → (h.made ≤ s.changed) × (h.place ≤ s.top)
  pub left : (p : ℕ) (e : Past) → map.get s.past p ≡ Some e → (e.until ≤ s.changed) × (p ≤ s.top)
  pub changed : s.changed ≤ s.begun
  pub held : (id at : ℕ) → map.get s.held id ≡ Some at → (id < 16) × (at ≤ s.begun)

-- A writing at this place, for page n, spoils nothing that anyone sees: no newest image of another page, and none that a stamp of an earlier command sees.
pub record IsFreePlace (s : ImagesState) (n place : ℕ) : Type 0 where
  pub others : (q : ℕ) → q ≢ n → newest_place s q ≢ Some place
  pub stamps : (id at q : ℕ) → map.get s.held id ≡ Some at → at < s.begun → seen_place at s q ≢ Some place
  pub past : (e : Past) → map.get s.past place ≡ Some e → IsUnseen s.held e.made e.until

-- each stamp of an earlier command sees each page where it saw it
abbrev pub KeepsStamps : ImagesState → ImagesState → Type 0
KeepsStamps old new = (id at : ℕ) → map.get old.held id ≡ Some at → at < old.begun → (n : ℕ) → seen_place at new n ≡ seen_place at old n

-- the numbers of the list that pass the test
abbrev pub numbers_where : (ℕ → Bool) → List ℕ → NumberSet
numbers_where test [] = set.empty
numbers_where test (n ∷ ns) = cond (test n) (set.insert (numbers_where test ns) n) (numbers_where test ns)

-- some held stamp sees the replaced image, where there is one
abbrev pub is_past_seen : HeldMap → Option Past → Bool
is_past_seen held None = false
is_past_seen held (Some past) = is_seen held past.made past.until

-- a held stamp of an earlier command sees the newest image, where there is one
abbrev pub is_home_seen : HeldMap → ℕ → Option Home → Bool
is_home_seen held begun None = false
is_home_seen held begun (Some home) = is_seen held home.made begun

-- the places of the replaced images that some held stamp sees
unfoldable pub past_seen : HeldMap → PastMap → NumberSet
past_seen held past = numbers_where (λ place. is_past_seen held (map.get past place)) (map.keys past)

-- the places of the replaced images that some stamp of these held ones sees
abbrev pub seen_past : ImagesState → NumberSet
seen_past s = past_seen s.held s.past

-- the pages whose newest image a held stamp of an earlier command sees
unfoldable pub seen_homes : ImagesState → NumberSet
seen_homes s = numbers_where (λ n. is_home_seen s.held s.begun (map.get s.homes n)) (map.keys s.homes)

-- What a change of page n leaves: the held stamps and what they see. The image that was the newest counts with the replaced ones where a stamp sees it.
pub record ChangesImage (old new : ImagesState) (n : ℕ) : Type 0 where
  pub held : new.held ≡ old.held
  pub begun : new.begun ≡ old.begun
  pub changed : new.changed ≡ old.begun
  pub stamps : KeepsStamps old new
  pub counted : set.len (seen_past new) ≡ set.len (seen_past old) + cond (set.contains (seen_homes old) n) 1 0
  pub seen : seen_homes new ≡ set.remove (seen_homes old) n

-- Page n was written at this place, by the last command that began.
pub record SettlesImage (old new : ImagesState) (n place : ℕ) : Type 0 where
  pub homes : new.homes ≡ map.insert old.homes n (record { place = place; made = old.begun })
  pub change : ChangesImage old new n

-- Page n is no more: its newest image is replaced by none.
pub record LeavesImage (old new : ImagesState) (n : ℕ) : Type 0 where
  pub homes : new.homes ≡ map.remove old.homes n
  pub change : ChangesImage old new n
