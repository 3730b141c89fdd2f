-- What the calls of a command do to a pool's parts, as contracts see it.
use Rattle.std.proofs.Common.{◌≡◌, ◌≤◌, ◌<◌, ◌+◌, ℕ, List, Bool, true, false, cond, ◌||◌, refl, sym, ap, subst, ◌∙◌, Option, Some, None, is_some, IfSome, nat_lt}
use mathlib.Core.Bool.{true≢false}
use Rattle.std.specs.Option.{unwrap_or, option_map}
use Rattle.std.specs.FinMap as map
use Rattle.std.specs.FinSet as set
use Rattle.page_pool.specs.Disk.{DigestMap}
use Rattle.page_pool.specs.Archive.{ImageMap, ArchiveState, IsArchive, IsReadArchive}
use Rattle.page_pool.specs.Inside.{ChangeMap, StagedState, CacheState, NumbersState, TakesNumber, IsWhole, is_used, state_of, overlaid, dirty_of, freed_of, place_count, shown_images, shown_stamps}
use Rattle.page_pool.specs.Pool.{zero_page}
use Rattle.page_pool.specs.Commands.{Puts, Allocates, Frees, Aborts}
use Rattle.page_pool.specs.Reads.{IsRead}
use Rattle.page_pool.proofs.Overlay.{is_gone, get-overlaid}
use Rattle.page_pool.proofs.Changes.{overlaid-page, overlaid-none, overlaid-empty, dirty-page, dirty-none, dirty-empty, freed-page, freed-none, freed-empty}
use Rattle.page_pool.proofs.Accounts.{taken_free, taken_positive}
use Rattle.page_pool.proofs.Whole.{none_is}
use Rattle.page_pool.proofs.Stamped.{stamps-alike, shown-early, lt_to}
use Rattle.page_pool.proofs.Bounds.{put_places, freed_places}

-- where each stamp is of an earlier command, their maps are the same whatever is staged
pub stamps_frozen : (a : ArchiveState) (changes changes' : ChangeMap) → ((id : ℕ) (f : ImageMap) → map.get a.stamps id ≡ Some f → f.at < a.begun) → shown_stamps a changes' ≡ shown_stamps a changes
stamps_frozen a changes changes' early = stamps-alike a a changes changes' (λ id. by_slot id (map.get a.stamps id) refl)
  where
    by_slot : (id : ℕ) (o : Option ImageMap) → map.get a.stamps id ≡ o → option_map (shown_images a.begun changes') (map.get a.stamps id)
        ≡ option_map (shown_images a.begun changes) (map.get a.stamps id)
    by_slot id None is = ap (option_map (shown_images a.begun changes')) is ∙ sym (ap (option_map (shown_images a.begun changes)) is)
    by_slot id (Some f) is =
        let before : nat_lt f.at a.begun ≡ true = lt_to f.at a.begun (early id f is) in
        ap (option_map (shown_images a.begun changes')) is ∙ ap (λ m. Some m) (shown-early a.begun changes' f before ∙ sym (shown-early a.begun changes f before))
        ∙ sym (ap (option_map (shown_images a.begun changes)) is)

module _ (a : ArchiveState) (staged staged' : StagedState) (frames : CacheState) (numbers : NumbersState) (is_open : Bool) (gets damages : ℕ) (opened : is_open ≡ true)
    (whole : IsWhole a staged.changes frames numbers is_open) where
  -- a staged page
  pub puts_state : (n : ℕ) (page : List ℕ) → staged'.changes ≡ map.insert staged.changes n (Some page) → map.contains_key (overlaid staged.changes a.pages) n ≡ true
      → is_gone (map.get staged.changes n) ≡ false
      → Puts (state_of a staged frames numbers is_open gets damages) (state_of a staged' frames numbers is_open gets damages) n page
  puts_state n page is live there = record {
    changes = record {
      pages = ap (λ c. overlaid c a.pages) is ∙ overlaid-page staged.changes a.pages n page;
      dirty = ap dirty_of is ∙ dirty-page staged.changes n page;
      beginning = refl;
      keeps = record { disk = refl; kept = refl; frames = refl; gets = refl; damages = refl; stamps = stamps_frozen a staged.changes staged'.changes (whole.early opened); live = refl };
      places = subst (λ c. place_count a c + set.len (dirty_of staged.changes) ≤ place_count a staged.changes + set.len (set.insert (dirty_of staged.changes) n)) (sym is)
          (put_places a staged.changes n page (λ out. absurd (true≢false (sym live ∙ out))));
    };
    freed = ap freed_of is ∙ freed-page staged.changes n page there;
    top = refl;
    spare = refl;
  }

  -- a freed page
  pub frees_state : (n : ℕ) → staged'.changes ≡ map.insert staged.changes n None → map.contains_key (overlaid staged.changes a.pages) n ≡ true
      → Frees (state_of a staged frames numbers is_open gets damages) (state_of a staged' frames numbers is_open gets damages) n
  frees_state n is live = record {
    changes = record {
      pages = ap (λ c. overlaid c a.pages) is ∙ overlaid-none staged.changes a.pages n;
      dirty = ap dirty_of is ∙ dirty-none staged.changes n;
      beginning = refl;
      keeps = record { disk = refl; kept = refl; frames = refl; gets = refl; damages = refl; stamps = stamps_frozen a staged.changes staged'.changes (whole.early opened); live = refl };
      places = subst (λ c. place_count a c + set.len (dirty_of staged.changes) ≤ place_count a staged.changes + set.len (set.remove (dirty_of staged.changes) n)) (sym is)
          (freed_places a staged.changes n live);
    };
    freed = ap freed_of is ∙ freed-none staged.changes n;
    top = refl;
    spare = refl;
  }

-- a number that isn't used has no change and no digest
unused : (changes : ChangeMap) (kept : DigestMap) (n : ℕ) → is_used changes kept n ≡ false → (map.get changes n ≡ None) × (map.get kept n ≡ None)
unused changes kept n free = by_parts (map.get changes n) (map.get kept n) free
  where
    by_parts : (c : Option (Option (List ℕ))) (d : Option (List ℕ)) → (is_some c || is_some d) ≡ false → (c ≡ None) × (d ≡ None)
    by_parts None None h = (refl, refl)
    by_parts (Some c) d h = absurd (true≢false h)
    by_parts None (Some d) h = absurd (true≢false h)

-- a test that would say what is not so says no
refuted : (b : Bool) → (b ≡ true → false ≡ true) → b ≡ false
refuted true h = absurd (true≢false (sym (h refl)))
refuted false h = refl

-- a page without a digest is no image, and no stamp sees it
pub unimaged : (a : ArchiveState) (n : ℕ) → IsArchive a → map.get a.kept n ≡ None → (map.get a.pages n ≡ None) × (set.contains a.shared n ≡ false)
unimaged a n archive none = (
  none_is (map.get a.pages n) (refuted (map.contains_key a.pages n) (λ has. ap is_some (sym none) ∙ archive.live.paged n has)),
  refuted (set.contains a.shared n) (λ has. ap is_some (sym none) ∙ archive.live.keys n ∙ archive.shared n has),
)

-- a page of zeros under a number that was taken
pub allocates_state : (a : ArchiveState) (staged staged' : StagedState) (frames : CacheState) (numbers taken : NumbersState) (is_open : Bool) (gets damages : ℕ) (n : ℕ) → is_open ≡ true
    → staged'.changes ≡ map.insert staged.changes n (Some zero_page) → TakesNumber numbers taken n → IsWhole a staged.changes frames numbers is_open
    → Allocates (state_of a staged frames numbers is_open gets damages) (state_of a staged' frames taken is_open gets damages) n
allocates_state a staged staged' frames numbers taken is_open gets damages n opened is takes whole =
    let free = taken_free (is_used staged.changes a.kept) numbers taken n whole.numbers_now takes in
    let none : (map.get staged.changes n ≡ None) × (map.get a.kept n ≡ None) = unused staged.changes a.kept n free in
    let unstored = unimaged a n whole.archived none.1 in
    record {
      positive = taken_positive (is_used staged.changes a.kept) numbers taken n whole.numbers_now takes;
      fresh = get-overlaid staged.changes a.pages n ∙ ap (λ c. unwrap_or c (map.get a.pages n)) none.0 ∙ unstored.0;
      unknown = at is_open unstored.0;
      changes = record {
        pages = ap (λ c. overlaid c a.pages) is ∙ overlaid-page staged.changes a.pages n zero_page;
        dirty = ap dirty_of is ∙ dirty-page staged.changes n zero_page;
        beginning = refl;
        keeps = record { disk = refl; kept = refl; frames = refl; gets = refl; damages = refl; stamps = stamps_frozen a staged.changes staged'.changes (whole.early opened); live = refl };
        places = subst (λ c. place_count a c + set.len (dirty_of staged.changes) ≤ place_count a staged.changes + set.len (set.insert (dirty_of staged.changes) n)) (sym is)
            (put_places a staged.changes n zero_page (λ _. unstored.1));
      };
      freed = ap freed_of is ∙ freed-page staged.changes n zero_page (ap is_gone none.0);
      again = takes.again;
    }
  where
    at : (b : Bool) → map.get a.pages n ≡ None → IfSome (cond b (Some a.pages) None) (λ m. map.get m n ≡ None)
    at true h = h
    at false h = tt

-- the changes are dropped, and the numbers are those of the beginning
pub aborts_state : (a : ArchiveState) (staged staged' : StagedState) (frames : CacheState) (numbers numbers' : NumbersState) (is_open : Bool) (gets damages : ℕ)
    → is_open ≡ true → IsWhole a staged.changes frames numbers is_open
    → staged'.changes ≡ map.empty → Aborts (state_of a staged frames numbers is_open gets damages) (state_of a staged' frames numbers' false gets damages)
aborts_state a staged staged' frames numbers numbers' is_open gets damages opened whole is = record {
  pages = at is_open;
  closed = refl;
  dirty = ap dirty_of is ∙ dirty-empty;
  freed = ap freed_of is ∙ freed-empty;
  keeps = record { disk = refl; kept = refl; frames = refl; gets = refl; damages = refl; stamps = stamps_frozen a staged.changes staged'.changes (whole.early opened); live = refl };
  shown = refl;
}
  where
    all : overlaid staged'.changes a.pages ≡ a.pages
    all = ap (λ c. overlaid c a.pages) is ∙ overlaid-empty a.pages

    at : (b : Bool) → IfSome (cond b (Some a.pages) None) (λ m. overlaid staged'.changes a.pages ≡ m)
    at true = all
    at false = tt

-- reading changes the frames and the counts alone
pub read_state : (a b : ArchiveState) (staged : StagedState) (frames frames' : CacheState) (numbers : NumbersState) (is_open : Bool) (gets gets' damages damages' : ℕ)
    → IsReadArchive a b → frames'.most ≡ frames.most
    → IsRead (state_of a staged frames numbers is_open gets damages) (state_of b staged frames' numbers is_open gets' damages')
read_state a b staged frames frames' numbers is_open gets gets' damages damages' read most = record {
  pages = ap (λ s. overlaid staged.changes s.pages) read.same;
  beginning = ap (λ s. cond is_open (Some s.pages) None) read.same;
  dirty = refl;
  freed = refl;
  kept = ap (λ s. s.kept) read.same;
  top = refl;
  spare = refl;
  told = read.told;
  stored = read.stored;
  frames = most;
  stamps = ap (λ s. shown_stamps s staged.changes) read.same ∙ same_shown;
  live = refl;
  places = ap (λ s. place_count s staged.changes) read.same;
}
  where
    same_shown : shown_stamps (record a { disk = b.disk }) staged.changes ≡ shown_stamps a staged.changes
    same_shown = stamps-alike a (record a { disk = b.disk }) staged.changes staged.changes (λ id. refl)
