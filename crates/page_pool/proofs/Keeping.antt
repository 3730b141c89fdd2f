-- A stamp is held, or is let go, as a pool's parts have it.
use Rattle.std.proofs.Common.{◌≡◌, ◌≤◌, ◌<◌, ◌+◌, ℕ, Bool, true, false, cond, ◌&&◌, refl, sym, ap, subst, ◌∙◌, Option, Some, None, is_some, arith}
use mathlib.Core.Bool.{true≢false}
use Rattle.std.proofs.lemmas.Bool.{le-ltb}
use Rattle.std.specs.Ordering.{nat_cmp, eq_by_cmp}
use Rattle.std.specs.Option.{option_map}
use Rattle.std.specs.FinMap as map
use Rattle.std.specs.FinSet as set
use Rattle.page_pool.specs.Archive.{ImageMap, ArchiveState, IsArchive, IsFrozen, Releases, newest_images}
use Rattle.page_pool.specs.Inside.{ChangeMap, StagedState, CacheState, NumbersState, IsAccount, IsWhole, is_used, state_of, overlaid, dirty_of, freed_of, staged_shared}
use Rattle.page_pool.specs.Inside.{place_count, shown_images, shown_stamps}
use Rattle.page_pool.specs.Stamps.{KeepsMap, LetsMapGo}
use Rattle.page_pool.proofs.Maps.{same, get-insert, get-remove}
use Rattle.page_pool.proofs.Bounds.{contains-shared}
use Rattle.page_pool.proofs.Subsets.{no_larger}
use Rattle.page_pool.proofs.Seen.{some_one}
use Rattle.page_pool.proofs.Stamped.{get-shown, shown-late, shown_live}

-- the archive with one more stamp of the last command
abbrev pub holding : ArchiveState → ℕ → ArchiveState
holding a slot = record a { stamps = map.insert a.stamps slot (newest_images a) }

-- a stamp that is taken now sees the live map
sees_live : (a : ArchiveState) (changes : ChangeMap) → shown_images a.begun changes (newest_images a) ≡ shown_live changes (newest_images a)
sees_live a changes = shown-late a.begun changes (newest_images a) (le-ltb a.begun a.begun (omega arith))

-- one more stamp shows the live map, and the others what they showed
stamps_kept : (a : ArchiveState) (changes : ChangeMap) (slot : ℕ) → shown_stamps (holding a slot) changes ≡ map.insert (shown_stamps a changes) slot (shown_live changes (newest_images a))
stamps_kept a changes slot = same _ _ (λ id.
    get-shown (holding a slot) changes id ∙ ap (option_map (shown_images a.begun changes)) (get-insert a.stamps slot (newest_images a) id) ∙ by_tie (eq_by_cmp nat_cmp id slot) (map.get a.stamps id)
    ∙ sym (get-insert (shown_stamps a changes) slot (shown_live changes (newest_images a)) id
    ∙ ap (cond (eq_by_cmp nat_cmp id slot) (Some (shown_live changes (newest_images a)))) (get-shown a changes id)))
  where
    by_tie : (b : Bool) (o : Option ImageMap) → option_map (shown_images a.begun changes) (cond b (Some (newest_images a)) o)
        ≡ cond b (Some (shown_live changes (newest_images a))) (option_map (shown_images a.begun changes) o)
    by_tie true o = ap (λ m. Some m) (sees_live a changes)
    by_tie false o = refl

-- no stamp was in the slot
none_shown : (a : ArchiveState) (changes : ChangeMap) (slot : ℕ) → map.get a.stamps slot ≡ None → map.get (shown_stamps a changes) slot ≡ None
none_shown a changes slot none = get-shown a changes slot ∙ ap (option_map (shown_images a.begun changes)) none

-- a stamp was taken
pub keeps_state : (a b : ArchiveState) (staged : StagedState) (frames : CacheState) (numbers : NumbersState) (is_open : Bool) (gets damages slot : ℕ)
    → map.get a.stamps slot ≡ None → b ≡ holding a slot
    → KeepsMap (state_of a staged frames numbers is_open gets damages) (state_of b staged frames numbers is_open gets damages) slot
keeps_state a b staged frames numbers is_open gets damages slot none is =
    subst (λ s. KeepsMap (state_of a staged frames numbers is_open gets damages) (state_of s staged frames numbers is_open gets damages) slot) (sym is) record {
      fresh = none_shown a staged.changes slot none;
      after = ap (λ m. record (state_of a staged frames numbers is_open gets damages) { stamps = m }) (stamps_kept a staged.changes slot);
    }

-- a stamp of an earlier command was held before
frozen_before : (a : ArchiveState) (slot id : ℕ) (f : ImageMap) → IsFrozen (holding a slot) id f → IsFrozen a id f
frozen_before a slot id f frozen = by_tie (eq_by_cmp nat_cmp id slot) (sym (get-insert a.stamps slot (newest_images a) id) ∙ frozen.0)
  where
    by_tie : (t : Bool) → cond t (Some (newest_images a)) (map.get a.stamps id) ≡ Some f → IsFrozen a id f
    by_tie true is = let now : a.begun ≡ f.at = ap (λ g. g.at) (some_one (newest_images a) f is) in let early = frozen.1 in absurd (omega arith)
    by_tie false is = (is, frozen.1)

-- and the parts fit together
pub whole-kept : (a b : ArchiveState) (changes : ChangeMap) (frames : CacheState) (numbers : NumbersState) (is_open : Bool) (slot : ℕ) → is_open ≡ false → b ≡ holding a slot → IsArchive b
    → IsWhole a changes frames numbers is_open → IsWhole b changes frames numbers is_open
whole-kept a b changes frames numbers is_open slot closed is archive w = subst (λ s. IsWhole s changes frames numbers is_open) (sym is) record {
  archived = subst IsArchive is archive;
  stands = w.stands;
  newest = w.newest;
  past = λ id f frozen. w.past id f (frozen_before a slot id f frozen);
  replaced = w.replaced;
  numbers_now = w.numbers_now;
  numbers_before = λ opened. absurd (true≢false (sym opened ∙ closed));
  early = λ opened. absurd (true≢false (sym opened ∙ closed));
}

-- what the other stamps show stays
stamps_left : (a b : ArchiveState) (changes : ChangeMap) (slot : ℕ) → Releases a b slot → shown_stamps b changes ≡ map.remove (shown_stamps a changes) slot
stamps_left a b changes slot r = same _ _ (λ id.
    get-shown b changes id ∙ (λ i. option_map (shown_images (r.begun i) changes) (map.get (r.stamps i) id))
    ∙ ap (option_map (shown_images a.begun changes)) (get-remove a.stamps slot id) ∙ by_tie (eq_by_cmp nat_cmp id slot) (map.get a.stamps id)
    ∙ sym (get-remove (shown_stamps a changes) slot id ∙ ap (cond (eq_by_cmp nat_cmp id slot) None) (get-shown a changes id)))
  where
    by_tie : (t : Bool) (o : Option ImageMap) → option_map (shown_images a.begun changes) (cond t None o) ≡ cond t None (option_map (shown_images a.begun changes) o)
    by_tie true o = refl
    by_tie false o = refl

-- images that no stamp sees any more aren't kept
places_left : (a b : ArchiveState) (changes : ChangeMap) (slot : ℕ) → Releases a b slot → place_count b changes ≤ place_count a changes
places_left a b changes slot r =
    let pages : map.len (overlaid changes b.pages) ≡ map.len (overlaid changes a.pages) = ap (λ m. map.len (overlaid changes m)) r.pages in
    let seen : b.seen ≤ a.seen = r.seen in
    let shared : set.len (staged_shared b.shared changes) ≤ set.len (staged_shared a.shared changes) = no_larger (staged_shared b.shared changes) (staged_shared a.shared changes) (λ q has.
    contains-shared a.shared changes q ∙ first (set.contains b.shared q) (set.contains a.shared q) (map.contains_key changes q) (r.shared q) (sym (contains-shared b.shared changes q) ∙ has)) in
    omega arith
  where
    first : (x y z : Bool) → (x ≡ true → y ≡ true) → (x && z) ≡ true → (y && z) ≡ true
    first true y z h e = ap (λ t. t && z) (h refl) ∙ e
    first false y z h e = absurd (true≢false (sym e))

-- a stamp was let go
pub lets_go_state : (a b : ArchiveState) (staged : StagedState) (frames : CacheState) (numbers : NumbersState) (is_open : Bool) (gets damages slot : ℕ) → Releases a b slot
    → LetsMapGo (state_of a staged frames numbers is_open gets damages) (state_of b staged frames numbers is_open gets damages) slot
lets_go_state a b staged frames numbers is_open gets damages slot r = record {
  after = λ i. record {
    pages = overlaid staged.changes (r.pages i);
    beginning = cond is_open (Some (r.pages i)) None;
    dirty = dirty_of staged.changes;
    freed = freed_of staged.changes;
    kept = r.kept i;
    top = numbers.top;
    spare = numbers.spare;
    disk = r.disk i;
    frames = frames.most;
    held = frames.count + staged.count;
    gets = gets;
    damages = damages;
    stamps = stamps_left a b staged.changes slot r i;
    live = None;
    places = place_count b staged.changes;
  };
  places = places_left a b staged.changes slot r;
}

-- a stamp that is held after another was let go was held before
frozen_still : (a b : ArchiveState) (slot id : ℕ) (f : ImageMap) → Releases a b slot → IsFrozen b id f → IsFrozen a id f
frozen_still a b slot id f r frozen = by_tie (eq_by_cmp nat_cmp id slot) (sym (get-remove a.stamps slot id) ∙ ap (λ m. map.get m id) (sym r.stamps) ∙ frozen.0)
  where
    by_tie : (t : Bool) → cond t None (map.get a.stamps id) ≡ Some f → IsFrozen a id f
    by_tie true is = absurd (true≢false (ap is_some (sym is)))
    by_tie false is = (is, subst (λ k. f.at < k) r.begun frozen.1)

-- and the parts fit together
pub whole-left : (a b : ArchiveState) (changes : ChangeMap) (frames : CacheState) (numbers : NumbersState) (is_open : Bool) (slot : ℕ) → is_open ≡ false → Releases a b slot → IsArchive b
    → IsWhole a changes frames numbers is_open → IsWhole b changes frames numbers is_open
whole-left a b changes frames numbers is_open slot closed r archive w = record {
  archived = archive;
  stands = λ q none digest has tells. let there = w.stands q none digest (ap (λ m. map.get m q) (sym r.kept) ∙ has) (ap (λ d. d.told) (sym r.disk) ∙ tells) in
      (there.0, (ap (λ m. map.get m q) r.pages ∙ there.1.0, there.1.1));
  newest = λ q bytes is. let was = w.newest q bytes is in (ap (λ m. map.get m q) r.kept ∙ was.0, λ tells. ap (λ m. map.get m q) r.pages ∙ was.1 (ap (λ d. d.told) (sym r.disk) ∙ tells));
  past = λ id f frozen q place bytes is there. let was = w.past id f (frozen_still a b slot id f r frozen) q place bytes is there in (was.0, λ tells. was.1 (ap (λ d. d.told) (sym r.disk) ∙ tells));
  replaced = λ q place bytes is there. w.replaced q place bytes (ap (λ m. map.get m q) (sym r.places) ∙ is) there;
  numbers_now = subst (λ kept. IsAccount (is_used changes kept) numbers.top numbers.spare) (sym r.kept) w.numbers_now;
  numbers_before = λ opened. absurd (true≢false (sym opened ∙ closed));
  early = λ opened. absurd (true≢false (sym opened ∙ closed));
}
