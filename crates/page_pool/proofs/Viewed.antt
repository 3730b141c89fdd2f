-- A pool that shows the map of a stamp.
use Rattle.std.proofs.Common.{◌≡◌, ◌≢◌, ◌<◌, ℕ, List, Bool, true, false, cond, not, refl, sym, ap, subst, ◌∙◌, Option, Some, None, is_some, IsTrue, IsSomeAnd, IfSome, ◌⊎◌, inl, inr, nat_lt}
use mathlib.Core.Bool.{true≢false}
use Rattle.std.specs.Ordering.{nat_cmp}
use Rattle.std.specs.Option.{option_map, option_map_or, option_and_then}
use Rattle.std.specs.FinMap as map
use Rattle.std.specs.FinSet as set
use Rattle.sha2.specs.Sha256.{sha256}
use Rattle.page_pool.specs.declared.view.View.{View}
use Rattle.page_pool.specs.declared.view.View.TheVariants.{Live, Alike, Older}
use Rattle.page_pool.specs.Steps.{IsClosed-read}
use Rattle.page_pool.specs.Archive.{ImageMap, ArchiveState, IsArchive, IsFrozen, IsReadArchive, newest_images}
use Rattle.page_pool.specs.Readers.{IsViewed}
use Rattle.page_pool.specs.Inside.{ChangeMap, StagedState, CacheState, NumbersState, IsWhole, IsImageOf, state_of, shown_images}
use Rattle.page_pool.specs.Pool.{PoolState, Shown, IsPage, seen_at, showing, shown_of}
use Rattle.page_pool.specs.Reads.{IsRead}
use Rattle.page_pool.proofs.Whole.{imaged_kept, some_is}
use Rattle.page_pool.proofs.Stamped.{get-shown, held-shown, shown-early, shown-late, shown_live, shown_frozen, lt_is, lt_to, at_end}

-- the value of which something holds
pub some_and : {X : Type 0} (o : Option X) (P : X → Type 0) → IsSomeAnd o P → (x : X) × ((o ≡ Some x) × P x)
some_and None P h = absurd h
some_and (Some x) P h = (x, (refl, h))

-- what holds of a value that is there
pub if_some : {X : Type 0} (o : Option X) (P : X → Type 0) (x : X) → o ≡ Some x → IfSome o P → P x
if_some o P x is h = subst (λ p. IfSome p P) is h

-- what isn't so by its negation
pub not_true : (b : Bool) → not b ≡ true → b ≡ false
not_true false h = refl
not_true true h = absurd (true≢false (sym h))

-- a pool that shows the map of a held stamp
pub seen_is : (s : PoolState) (slot : ℕ) (m : Shown) → map.get s.stamps slot ≡ Some m → seen_at s slot ≡ showing s m
seen_is s slot m is = ap (λ o. option_map_or (showing s) o s) is

-- a reading, while this map is shown
pub read_showing : (s t : PoolState) (m : Shown) → IsRead s t → IsRead (showing s m) (showing t m)
read_showing s t m h = record {
  pages = refl;
  beginning = h.beginning;
  dirty = refl;
  freed = h.freed;
  kept = refl;
  top = h.top;
  spare = h.spare;
  told = h.told;
  stored = h.stored;
  frames = h.frames;
  stamps = h.stamps;
  live = λ i. Some (record { pages = h.pages i; dirty = h.dirty i; kept = h.kept i });
  places = h.places;
}

-- a stamp that is held and not of an earlier command has the live map
pub latest_shown : (a : ArchiveState) (staged : StagedState) (frames : CacheState) (numbers : NumbersState) (is_open : Bool) (gets damages slot : ℕ) → IsArchive a
    → IsTrue (map.contains_key (state_of a staged frames numbers is_open gets damages).stamps slot) → option_map_or (λ f. nat_lt f.at a.begun) (map.get a.stamps slot) false ≡ false
    → map.get (state_of a staged frames numbers is_open gets damages).stamps slot ≡ Some (shown_of (state_of a staged frames numbers is_open gets damages))
latest_shown a staged frames numbers is_open gets damages slot archive held late =
    let f = some_is (map.get a.stamps slot) (sym (held-shown a staged.changes slot) ∙ held) in
    let not_early : nat_lt f.0.at a.begun ≡ false = sym (ap (λ o. option_map_or (λ f. nat_lt f.at a.begun) o false) f.1) ∙ late in
    let same : f.0 ≡ newest_images a = archive.latest slot f.0 f.1 (at_end f.0.at a.begun not_early (archive.early slot f.0 f.1).1) in
    get-shown a staged.changes slot ∙ ap (option_map (shown_images a.begun staged.changes)) f.1
    ∙ ap (λ m. Some m) (shown-late a.begun staged.changes f.0 not_early ∙ ap (shown_live staged.changes) same)

-- a stamp of an earlier command, by the test
pub older_is : (a : ArchiveState) (slot : ℕ) → option_map_or (λ f. nat_lt f.at a.begun) (map.get a.stamps slot) false ≡ true → (f : ImageMap) × ((map.get a.stamps slot ≡ Some f) × (f.at < a.begun))
older_is a slot older = by_slot (map.get a.stamps slot) refl older
  where
    by_slot : (o : Option ImageMap) → map.get a.stamps slot ≡ o → option_map_or (λ f. nat_lt f.at a.begun) o false ≡ true → (f : ImageMap) × ((map.get a.stamps slot ≡ Some f) × (f.at < a.begun))
    by_slot None is h = absurd (true≢false (sym h))
    by_slot (Some f) is h = (f, (is, lt_is f.at a.begun h))

module _ (a : ArchiveState) (staged : StagedState) (frames : CacheState) (numbers : NumbersState) (is_open : Bool) (gets damages slot n : ℕ) (f : ImageMap)
    (held : map.get a.stamps slot ≡ Some f) (early : f.at < a.begun) where
  abbrev state : PoolState
  state = state_of a staged frames numbers is_open gets damages

  -- a stamp of an earlier command shows its images
  pub older_shown : seen_at (state_of a staged frames numbers is_open gets damages) slot ≡ showing (state_of a staged frames numbers is_open gets damages) (shown_frozen f)
  older_shown = seen_is state slot (shown_frozen f) (get-shown a staged.changes slot ∙ ap (option_map (shown_images a.begun staged.changes)) held
      ∙ ap (λ m. Some m) (shown-early a.begun staged.changes f (lt_to f.at a.begun early)))

  -- its images are its pages
  pub older_page : (page : List ℕ) → IsImageOf a.disk.told f.pages f.kept n page → IsPage (seen_at (state_of a staged frames numbers is_open gets damages) slot) n page
  older_page page image = subst (λ s. IsPage s n page) (sym older_shown) record {
    told = λ told. image.1 told;
    dirty = λ dirty. absurd (true≢false (sym dirty ∙ set.contains-empty nat_cmp n));
    clean = λ _. image.0;
  }

  -- a page is in its map where it has an image
  pub older_live : IsArchive a → map.contains_key (seen_at (state_of a staged frames numbers is_open gets damages) slot).pages n ≡ map.contains_key f.kept n
  older_live archive = ap (λ s. map.contains_key s.pages n) older_shown ∙ imaged_kept a f (archive.maps slot f held) n (archive.stands slot f (held, early) n)

  -- and it has one where it lies at a place
  pub older_place_live : IsArchive a → map.contains_key (seen_at (state_of a staged frames numbers is_open gets damages) slot).pages n
      ≡ is_some (option_and_then (λ g. map.get g.places n) (map.get a.stamps slot))
  older_place_live archive = older_live archive ∙ (archive.maps slot f held).keys n ∙ ap (λ o. is_some (option_and_then (λ g. map.get g.places n) o)) (sym held)

-- an image that lies at a place, newest or replaced, came into a frame at most
module _ (a b : ArchiveState) (changes : ChangeMap) (frames frames' : CacheState) (numbers : NumbersState) (is_open : Bool) (slot n place : ℕ) (f : ImageMap) (is_newest : Bool)
    (held : map.get a.stamps slot ≡ Some f) (lies : map.get f.places n ≡ Some place) (there : is_newest ≡ true → map.get a.places n ≡ Some place)
    (elsewhere : is_newest ≡ false → map.get a.places n ≢ Some place) where
  -- the image that is seen is what the frame has
  pub image_framed : IsFrozen a slot f → IsWhole a changes frames numbers is_open → (page : List ℕ)
      → cond is_newest (map.get frames.newest n) (map.get frames.past place) ≡ Some page → IsImageOf a.disk.told f.pages f.kept n page
  image_framed frozen w page is = (elim is_newest as (λ t. is_newest ≡ t → cond t (map.get frames.newest n) (map.get frames.past place) ≡ Some page → IsImageOf a.disk.told f.pages f.kept n page) [
    | true ↦ λ t e. let same = w.archived.newest slot f held n n place lies (there t) in let now = w.newest n page e in (same.1.0 ∙ now.0, λ tells. same.1.1 ∙ now.1 tells)
    | false ↦ λ t e. w.past slot f frozen n place page lies e
  ]) refl is

  pub whole_seen : (page : List ℕ) → IsImageOf a.disk.told f.pages f.kept n page → IsReadArchive a b → IsArchive b
      → ((q : ℕ) (bytes : List ℕ) → map.get frames'.newest q ≡ Some bytes → ((is_newest ≡ true) × ((q ≡ n) × (bytes ≡ page))) ⊎ (map.get frames.newest q ≡ Some bytes))
      → ((q : ℕ) (bytes : List ℕ) → map.get frames'.past q ≡ Some bytes → ((is_newest ≡ false) × ((q ≡ place) × (bytes ≡ page))) ⊎ (map.get frames.past q ≡ Some bytes))
      → IsWhole a changes frames numbers is_open → IsWhole b changes frames' numbers is_open
  whole_seen page image read archive framed framed_past w =
      subst (λ s. IsWhole s changes frames' numbers is_open) (sym read.same) record {
        archived = subst IsArchive read.same archive;
        stands = λ q none digest has tells. w.stands q none digest has (sym read.told ∙ tells);
        newest = λ q bytes is. elim (framed q bytes is) [
          | inl this ↦ let same = w.archived.newest slot f held n n place lies (there this.0) in (
            ap (map.get a.kept) this.1.0 ∙ sym same.1.0 ∙ image.0 ∙ ap (λ x. Some (sha256 x)) (sym this.1.1),
            λ tells. ap (map.get a.pages) this.1.0 ∙ sym same.1.1 ∙ image.1 (sym read.told ∙ tells) ∙ ap (λ x. Some x) (sym this.1.1),
          )
          | inr before ↦ let was = w.newest q bytes before in (was.0, λ tells. was.1 (sym read.told ∙ tells))
        ];
        past = λ id g frozen k p bytes is at. elim (framed_past p bytes at) [
          | inl this ↦ let same = w.archived.alike id slot g f frozen.0 held k n place (is ∙ ap (λ x. Some x) this.1.0) lies in
              (same.1.0 ∙ image.0 ∙ ap (λ x. Some (sha256 x)) (sym this.1.1), λ tells. same.1.1 ∙ image.1 (sym read.told ∙ tells) ∙ ap (λ x. Some x) (sym this.1.1))
          | inr before ↦ let was = w.past id g frozen k p bytes is before in (was.0, λ tells. was.1 (sym read.told ∙ tells))
        ];
        replaced = λ q p bytes is at. elim (framed_past p bytes at) [
          | inl this ↦ let here : map.get a.places q ≡ Some place = is ∙ ap (λ x. Some x) this.1.0 in
              elsewhere this.0 (ap (map.get a.places) ((w.archived.maps slot f held).apart n q place lies here) ∙ here)
          | inr before ↦ w.replaced q p bytes is before
        ];
        numbers_now = w.numbers_now;
        numbers_before = w.numbers_before;
        early = w.early;
      }

-- what is viewed stays while pages are read
pub viewed_read : (s t : PoolState) (view : View) → IsRead s t → IsViewed s view → IsViewed t view
viewed_read s t Live h closed = IsClosed-read s t h closed
viewed_read s t (Alike slot) h v = (IsClosed-read s t h v.0, ap (λ m. map.get m slot) h.stamps ∙ v.1 ∙ (λ i. Some (record { pages = sym h.pages i; dirty = sym h.dirty i; kept = sym h.kept i })))
viewed_read s t (Older slot) h v = (IsClosed-read s t h v.0, subst (λ m. IsTrue (map.contains_key m slot)) (sym h.stamps) v.1)
