-- What holds of every pool: its maps stand on its disk, and the images that are kept for stamps are no more than those stamps see.
use Rattle.std.proofs.Common.{◌≡◌, ◌≤◌, ◌<◌, ◌+◌, ℕ, zero, suc, Bool, true, false, cond, ◌&&◌, refl, sym, ap, subst, ◌∙◌, Option, Some, None, nat_lt, arith}
use Rattle.std.specs.Option.{option_map}
use Rattle.std.specs.FinMap as map
use Rattle.std.specs.FinSet as set
use Rattle.page_pool.specs.Archive.{ImageMap, ArchiveState, IsArchive, newest_images, slot_size, slot_sizes, frozen_sizes}
use Rattle.page_pool.specs.Inside.{ChangeMap, StagedState, CacheState, NumbersState, IsWhole, state_of, dirty_of, staged_shared, shown_images, shown_stamps}
use Rattle.page_pool.specs.Pool.{IsMap, IsPool, map_size, map_sizes}
use Rattle.page_pool.proofs.Whole.{imaged_kept, some_is}
use Rattle.page_pool.proofs.Sizes.{len_alike}
use Rattle.page_pool.proofs.Stamped.{get-shown, held-shown, stamp_there, shown-early, lt_is}
use Rattle.page_pool.proofs.Seen.{is_map, stamp_map}
use Rattle.page_pool.proofs.Bounds.{contains-shared}
use Rattle.page_pool.proofs.Subsets.{no_larger}

-- a stamp's images without staged changes are as many as its pages
frozen_size : (a : ArchiveState) (f : ImageMap) (id : ℕ) → IsArchive a → map.get a.stamps id ≡ Some f → f.at < a.begun → map.len f.places ≡ map.len f.pages
frozen_size a f id archive held early = let images = archive.maps id f held in
    len_alike f.places f.pages (λ n. sym (images.keys n) ∙ sym (imaged_kept a f images n (archive.stands id f (held, early) n)))

-- the map of a stamp has as many pages as it sees images of earlier commands
slot_within : (a : ArchiveState) (changes : ChangeMap) (id : ℕ) → IsArchive a → slot_size a.begun (map.get a.stamps id) ≤ map_size (map.get (shown_stamps a changes) id)
slot_within a changes id archive = subst (λ o. slot_size a.begun (map.get a.stamps id) ≤ map_size o) (sym (get-shown a changes id)) (by_slot (map.get a.stamps id) refl)
  where
    by_slot : (o : Option ImageMap) → map.get a.stamps id ≡ o → slot_size a.begun o ≤ map_size (option_map (shown_images a.begun changes) o)
    by_slot None is = omega arith
    by_slot (Some f) is = (elim (nat_lt f.at a.begun) as (λ t. nat_lt f.at a.begun ≡ t → cond t (map.len f.places) 0 ≤ map.len (shown_images a.begun changes f).pages) [
      | true ↦ λ early.
          let size : map.len f.places ≡ map.len f.pages = frozen_size a f id archive is (lt_is f.at a.begun early) in
          let shows : map.len (shown_images a.begun changes f).pages ≡ map.len f.pages = ap (λ m. map.len m.pages) (shown-early a.begun changes f early) in
          omega arith
      | false ↦ λ _. omega arith
    ]) refl

slots_within : (a : ArchiveState) (changes : ChangeMap) (k : ℕ) → IsArchive a → slot_sizes a k ≤ map_sizes (shown_stamps a changes) k
slots_within a changes zero archive = omega arith
slots_within a changes (suc k) archive =
    let rest : slot_sizes a k ≤ map_sizes (shown_stamps a changes) k = slots_within a changes k archive in
    let one : slot_size a.begun (map.get a.stamps k) ≤ map_size (map.get (shown_stamps a changes) k) = slot_within a changes k archive in
    omega arith

-- the images that are kept for stamps alone are no more than the pages of their maps
pub few_kept_images : (a : ArchiveState) (changes : ChangeMap) → IsArchive a → a.seen + set.len (staged_shared a.shared changes) ≤ map_sizes (shown_stamps a changes) 16
unfolding frozen_sizes
few_kept_images a changes archive =
    let inside : set.len (staged_shared a.shared changes) ≤ set.len a.shared =
    no_larger (staged_shared a.shared changes) a.shared (λ q has. first (set.contains a.shared q) (map.contains_key changes q) (sym (contains-shared a.shared changes q) ∙ has)) in
    let few : a.seen + set.len a.shared ≤ slot_sizes a 16 = archive.few in
    let all : slot_sizes a 16 ≤ map_sizes (shown_stamps a changes) 16 = slots_within a changes 16 archive in
    omega arith
  where
    first : (x y : Bool) → (x && y) ≡ true → x ≡ true
    first true y e = refl
    first false y e = e

slot_low : (a : ArchiveState) (changes : ChangeMap) (id : ℕ) → IsArchive a → map.contains_key (shown_stamps a changes) id ≡ true → id < 16
slot_low a changes id archive held = let there = some_is (map.get a.stamps id) (sym (held-shown a changes id) ∙ held) in (archive.early id there.0 there.1).0

pub is_pool : (a : ArchiveState) (staged : StagedState) (frames : CacheState) (numbers : NumbersState) (is_open : Bool) (gets damages : ℕ)
    → IsWhole a staged.changes frames numbers is_open → frames.count ≤ frames.most → staged.count ≤ set.len (dirty_of staged.changes) → IsPool (state_of a staged frames numbers is_open gets damages)
is_pool a staged frames numbers is_open gets damages whole few_frames few_staged = record {
  slots = λ id held. slot_low a staged.changes id whole.archived held;
  least = omega arith;
  most = let kept : a.seen + set.len (staged_shared a.shared staged.changes) ≤ map_sizes (shown_stamps a staged.changes) 16 = few_kept_images a staged.changes whole.archived in omega arith;
  shown = is_map a (newest_images a) staged.changes whole.archived.live (λ n none. whole.stands n (λ _. none));
  stamps = λ id m is. let there = stamp_there a staged.changes id m is in
      subst (IsMap a.disk) there.1.1 (stamp_map a there.0 id staged.changes whole.archived there.1.0 (λ n none. whole.stands n (λ _. none)));
  few = omega arith;
}
