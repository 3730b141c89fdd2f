-- What contracts may say of a pool whose parts fit together.
use Rattle.std.proofs.Common.{◌≡◌, ℕ, List, Bool, true, false, ◌||◌, refl, sym, ap, subst, ◌∙◌, Option, Some, None, is_some, IsTrue, ◌⊎◌, inl, inr, nat_lt}
use mathlib.Core.Bool.{true≢false}
use Rattle.std.specs.Option.{unwrap_or}
use Rattle.std.specs.FinMap as map
use Rattle.std.specs.FinSet as set
use Rattle.sha2.specs.Sha256.{sha256}
use Rattle.page_pool.specs.Disk.{PageMap}
use Rattle.page_pool.specs.Archive.{ImageMap, ArchiveState, IsImageMap, IsArchive, StandsWritten, newest_images}
use Rattle.page_pool.specs.Inside.{ChangeMap, StagedState, CacheState, NumbersState, IsWhole, is_used, state_of, overlaid, dirty_of, freed_of, shown_images}
use Rattle.page_pool.specs.Pool.{IsPage, IsMap, LosesNoNumber}
use Rattle.page_pool.proofs.Overlay.{is_page, is_gone, get-overlaid, contains-dirty, contains-freed}
use Rattle.page_pool.proofs.Whole.{get-unstaged, live_unstaged, live_staged, imaged_kept, some_is}
use Rattle.page_pool.proofs.Changes.{overlaid-empty, dirty-empty}
use Rattle.page_pool.proofs.Stamped.{shown-early, shown-late, shown_live, lt_is, at_end}

pub some_one : {X : Type 0} (x y : X) → Some x ≡ Some y → x ≡ y
some_one x y e = cc

-- what isn't staged, as contracts see it
pub is_unstaged : (changes : ChangeMap) (n : ℕ) → map.get changes n ≡ None → (set.contains (dirty_of changes) n ≡ false) × (set.contains (freed_of changes) n ≡ false)
is_unstaged changes n none = (contains-dirty changes n ∙ ap is_page none, contains-freed changes n ∙ ap is_gone none)

pub from_unstaged : (changes : ChangeMap) (n : ℕ) → set.contains (dirty_of changes) n ≡ false → set.contains (freed_of changes) n ≡ false → map.get changes n ≡ None
from_unstaged changes n clean unfreed = by_change (map.get changes n) refl
  where
    by_change : (c : Option (Option (List ℕ))) → map.get changes n ≡ c → map.get changes n ≡ None
    by_change None is = is
    by_change (Some None) is = absurd (true≢false (sym (contains-freed changes n ∙ ap is_gone is) ∙ unfreed))
    by_change (Some (Some page)) is = absurd (true≢false (sym (contains-dirty changes n ∙ ap is_page is) ∙ clean))

-- a dirty page is live
pub dirty_live : (changes : ChangeMap) (base : PageMap) (n : ℕ) → set.contains (dirty_of changes) n ≡ true → map.contains_key (overlaid changes base) n ≡ true
dirty_live changes base n dirty = by_change (map.get changes n) refl
  where
    by_change : (c : Option (Option (List ℕ))) → map.get changes n ≡ c → map.contains_key (overlaid changes base) n ≡ true
    by_change None is = absurd (true≢false (sym dirty ∙ contains-dirty changes n ∙ ap is_page is))
    by_change (Some None) is = absurd (true≢false (sym dirty ∙ contains-dirty changes n ∙ ap is_page is))
    by_change (Some (Some page)) is = ap is_some (get-overlaid changes base n ∙ ap (λ c. unwrap_or c (map.get base n)) is)

-- a live page that isn't dirty has no staged change
pub live_clean : (changes : ChangeMap) (base : PageMap) (n : ℕ) → map.contains_key (overlaid changes base) n ≡ true → set.contains (dirty_of changes) n ≡ false → map.get changes n ≡ None
live_clean changes base n live clean = by_change (map.get changes n) refl
  where
    by_change : (c : Option (Option (List ℕ))) → map.get changes n ≡ c → map.get changes n ≡ None
    by_change None is = is
    by_change (Some None) is = absurd (true≢false (sym live ∙ ap is_some (get-overlaid changes base n ∙ ap (λ x. unwrap_or x (map.get base n)) is)))
    by_change (Some (Some page)) is = absurd (true≢false (sym (contains-dirty changes n ∙ ap is_page is) ∙ clean))

-- the map that images and staged changes make up, where each image without a staged change stands
pub is_map : (a : ArchiveState) (f : ImageMap) (changes : ChangeMap) → IsImageMap a f → ((n : ℕ) → map.get changes n ≡ None → StandsWritten a.disk.told f.pages f.kept n)
    → IsMap a.disk (record { pages = overlaid changes f.pages; dirty = dirty_of changes; kept = f.kept })
is_map a f changes images stands = record {
  lives = λ n dirty. dirty_live changes f.pages n dirty;
  digested = λ n live clean. let none = live_clean changes f.pages n live clean in
      sym (imaged_kept a f images n (stands n none)) ∙ ap is_some (sym (unstaged n none)) ∙ live;
  same = λ told n page is clean. (stood told n page is clean).0;
  stands = λ told n page is clean. (stood told n page is clean).1;
}
  where
    unstaged : (n : ℕ) → map.get changes n ≡ None → map.get (overlaid changes f.pages) n ≡ map.get f.pages n
    unstaged n none = get-overlaid changes f.pages n ∙ ap (λ c. unwrap_or c (map.get f.pages n)) none

    stood : IsTrue a.disk.told → (n : ℕ) (page : List ℕ) → map.get (overlaid changes f.pages) n ≡ Some page → set.contains (dirty_of changes) n ≡ false
        → (map.get f.kept n ≡ Some (sha256 page)) × ((place : ℕ) × (map.get a.disk.pages place ≡ Some page))
    stood told n page is clean =
        let none = live_clean changes f.pages n (ap is_some is) clean in
        let here : map.get f.pages n ≡ Some page = sym (unstaged n none) ∙ is in
        let digest = some_is (map.get f.kept n) (images.paged n (ap is_some here)) in
        let there = stands n none digest.0 digest.1 told in
        let place = some_is (map.get f.places n) (sym (images.keys n) ∙ ap is_some digest.1) in (
          digest.1 ∙ ap (λ d. Some d) (there.1.1 ∙ ap sha256 (some_one there.0 page (sym there.1.0 ∙ here))),
          (place.0, sym (images.stored told n place.0 place.1) ∙ here),
        )

-- no change at all
no_change : (f : ImageMap) (a : ArchiveState) → IsMap a.disk (record { pages = overlaid map.empty f.pages; dirty = dirty_of map.empty; kept = f.kept })
    → IsMap a.disk (record { pages = f.pages; dirty = set.empty; kept = f.kept })
no_change f a h = subst (IsMap a.disk) (λ i. record { pages = overlaid-empty f.pages i; dirty = dirty-empty i; kept = f.kept }) h

-- the map of a held stamp
pub stamp_map : (a : ArchiveState) (f : ImageMap) (id : ℕ) (changes : ChangeMap) → IsArchive a → map.get a.stamps id ≡ Some f
    → ((n : ℕ) → map.get changes n ≡ None → StandsWritten a.disk.told a.pages a.kept n) → IsMap a.disk (shown_images a.begun changes f)
stamp_map a f id changes archive held stands = (elim (nat_lt f.at a.begun) as (λ b. nat_lt f.at a.begun ≡ b → IsMap a.disk (shown_images a.begun changes f)) [
  | true ↦ λ early. subst (IsMap a.disk) (sym (shown-early a.begun changes f early))
      (no_change f a (is_map a f map.empty (archive.maps id f held) (λ n _. archive.stands id f (held, lt_is f.at a.begun early) n)))
  | false ↦ λ late.
      let same : f ≡ newest_images a = archive.latest id f held (at_end f.at a.begun late (archive.early id f held).1) in
      subst (IsMap a.disk) (sym (shown-late a.begun changes f late ∙ ap (λ g. shown_live changes g) same))
      (is_map a (newest_images a) changes archive.live stands)
]) refl

module _ (a : ArchiveState) (staged : StagedState) (frames : CacheState) (numbers : NumbersState) (is_open : Bool) (gets damages : ℕ) (whole : IsWhole a staged.changes frames numbers is_open) where
  abbrev pages : PageMap
  pages = overlaid staged.changes a.pages

  -- a staged page is the page
  pub page_staged : (n : ℕ) (page : List ℕ) → map.get staged.changes n ≡ Some (Some page) → IsPage (state_of a staged frames numbers is_open gets damages) n page
  page_staged n page is =
      let here : map.get pages n ≡ Some page = get-overlaid staged.changes a.pages n ∙ ap (λ c. unwrap_or c (map.get a.pages n)) is in
      record {
        told = λ _. here;
        dirty = λ _. here;
        clean = λ clean. absurd (true≢false (sym (contains-dirty staged.changes n ∙ ap is_page is) ∙ clean));
      }

  -- it is live
  pub staged_live : (n : ℕ) (page : List ℕ) → map.get staged.changes n ≡ Some (Some page) → map.contains_key pages n ≡ true
  staged_live n page is = live_staged a staged.changes frames numbers is_open whole n (Some page) is

  -- a page with a kept digest is live, if none is staged
  pub kept_live : (n : ℕ) → map.get staged.changes n ≡ None → map.contains_key a.kept n ≡ true → map.contains_key pages n ≡ true
  kept_live n none has = live_unstaged a staged.changes frames numbers is_open whole n none ∙ has

  -- so is one in a frame
  pub framed_live : (n : ℕ) (page : List ℕ) → map.get staged.changes n ≡ None → map.get frames.newest n ≡ Some page → map.contains_key pages n ≡ true
  framed_live n page none is = kept_live n none (ap is_some (whole.newest n page is).0)

  -- a page in a frame is the page, if none is staged
  pub page_framed : (n : ℕ) (page : List ℕ) → map.get staged.changes n ≡ None → map.get frames.newest n ≡ Some page → IsPage (state_of a staged frames numbers is_open gets damages) n page
  page_framed n page none is = record {
    told = λ told. get-unstaged a staged.changes frames numbers is_open whole n none ∙ (whole.newest n page is).1 told;
    dirty = λ dirty. absurd (true≢false (sym dirty ∙ contains-dirty staged.changes n ∙ ap is_page none));
    clean = λ _. (whole.newest n page is).0;
  }

  pub loses_none : LosesNoNumber (state_of a staged frames numbers is_open gets damages)
  loses_none = record {
    used = λ n low high. elim (whole.numbers_now.all n low high) [
      | inl used ↦ by_change n (map.get staged.changes n) refl used
      | inr free ↦ inr (inr free)
    ];
  }
    where
      by_change : (n : ℕ) (c : Option (Option (List ℕ))) → map.get staged.changes n ≡ c → is_used staged.changes a.kept n ≡ true
          → IsTrue (map.contains_key pages n) ⊎ (IsTrue (set.contains (freed_of staged.changes) n) ⊎ IsTrue (set.contains numbers.spare n))
      by_change n (Some (Some page)) is used = inl (live_staged a staged.changes frames numbers is_open whole n (Some page) is)
      by_change n (Some None) is used = inr (inl (contains-freed staged.changes n ∙ ap is_gone is))
      by_change n None is used = inl (live_unstaged a staged.changes frames numbers is_open whole n is ∙ sym (ap (λ c. is_some c || map.contains_key a.kept n) is) ∙ used)
