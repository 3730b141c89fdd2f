-- A pool with nothing in it.
use Rattle.std.proofs.Common.{◌≡◌, ◌+◌, ℕ, List, false, ◌&&◌, sym, ap, ◌∙◌, None, is_some, arith}
use Rattle.std.specs.Ordering.{nat_cmp}
use Rattle.std.specs.Option.{option_map}
use Rattle.std.specs.FinMap as map
use Rattle.std.specs.FinSet as set
use Rattle.page_pool.specs.Archive.{ArchiveState, new_archive}
use Rattle.page_pool.specs.Inside.{StagedState, CacheState, NumbersState, state_of, overlaid, dirty_of, freed_of, staged_shared, place_count, shown_images, shown_slot, shown_stamps}
use Rattle.page_pool.specs.Pool.{new_pool}
use Rattle.page_pool.proofs.Maps.{same}
use Rattle.page_pool.proofs.Overlay.{same_set}
use Rattle.page_pool.proofs.Changes.{overlaid-empty, dirty-empty, freed-empty}
use Rattle.page_pool.proofs.Bounds.{contains-shared, and_none}
use Rattle.page_pool.proofs.Stamped.{get-shown}

-- no stamp shows a map
no_stamps : (a : ArchiveState) → a.stamps ≡ map.empty → shown_stamps a map.empty ≡ map.empty
no_stamps a none = same _ _ (λ id. get-shown a map.empty id ∙ ap (λ m. shown_slot (record a { stamps = m }) map.empty id) none
    ∙ ap (λ o. option_map (shown_images a.begun map.empty) o) (map.get-empty nat_cmp id) ∙ sym (map.get-empty nat_cmp id))

-- no image is kept
no_places : (disk : ArchiveState) → place_count (new_archive disk.disk) map.empty ≡ 0
no_places a =
    let pages : map.len (overlaid map.empty map.empty) ≡ 0 = ap map.len (overlaid-empty map.empty) ∙ map.len-empty nat_cmp (List ℕ) in
    let shared : set.len (staged_shared set.empty map.empty) ≡ 0 =
    ap set.len (same_set (staged_shared set.empty map.empty) set.empty (λ q. contains-shared set.empty map.empty q
    ∙ ap (λ o. set.contains {R = nat_cmp} set.empty q && is_some o) (map.get-empty nat_cmp q)
    ∙ and_none (set.contains {R = nat_cmp} set.empty q) ∙ sym (set.contains-empty nat_cmp q))) ∙ set.len-empty nat_cmp in
    omega arith

pub new_state : (a : ArchiveState) (staged : StagedState) (frames : CacheState) (numbers : NumbersState) → a ≡ new_archive a.disk → staged ≡ record { changes = map.empty; count = 0 }
    → frames.count ≡ 0 → numbers.top ≡ 0 → numbers.spare ≡ set.empty → state_of a staged frames numbers false 0 0 ≡ new_pool a.disk frames.most
new_state a staged frames numbers new is none top spare = λ i. record {
  pages = ((λ j. overlaid (is j).changes (new j).pages) ∙ overlaid-empty map.empty) i;
  beginning = None;
  dirty = (ap (λ s. dirty_of s.changes) is ∙ dirty-empty) i;
  freed = (ap (λ s. freed_of s.changes) is ∙ freed-empty) i;
  kept = ap (λ s. s.kept) new i;
  top = top i;
  spare = spare i;
  disk = a.disk;
  frames = frames.most;
  held = (ap (λ n. n + staged.count) none ∙ ap (λ s. 0 + s.count) is) i;
  gets = 0;
  damages = 0;
  stamps = (ap (λ s. shown_stamps a s.changes) is ∙ no_stamps a (ap (λ s. s.stamps) new)) i;
  live = None;
  places = ((λ j. place_count (new j) (is j).changes) ∙ no_places a) i;
}
