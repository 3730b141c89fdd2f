-- The maps of held stamps, as a pool's parts make them up.
use Rattle.std.proofs.Common.{◌≡◌, ◌<◌, ◌≤◌, ℕ, List, [], ◌∷◌, true, false, cond, ◌||◌, refl, sym, ap, ◌∙◌, Option, Some, None, is_some, nat_lt, arith}
use mathlib.Core.Bool.{true≢false}
use Rattle.std.proofs.lemmas.Bool.{ltb-true, lt-ltb, ltb-false}
use Rattle.std.specs.Ordering.{nat_cmp, eq_by_cmp}
use Rattle.std.specs.List.{list_any}
use Rattle.std.specs.Option.{option_map}
use Rattle.std.specs.FinMap as map
use Rattle.std.specs.FinSet as set
use Rattle.page_pool.specs.Pool.{Shown}
use Rattle.page_pool.specs.Archive.{ImageMap, ArchiveState}
use Rattle.page_pool.specs.InsideArchive.{set_at, collected}
use Rattle.page_pool.specs.Inside.{ChangeMap, overlaid, dirty_of, shown_images, shown_slot, shown_stamps}
use Rattle.page_pool.proofs.Maps.{same, get-insert, get-remove, tied}

get-set_at : {X : Type 0} (m : map.FinMap nat_cmp X) (n : ℕ) (x : Option X) (q : ℕ) → map.get (set_at m n x) q ≡ cond (eq_by_cmp nat_cmp q n) x (map.get m q)
get-set_at m n None q = get-remove m n q
get-set_at m n (Some x) q = get-insert m n x q

-- what a collected map answers, where the function has nothing beside the list
get-collected : {X : Type 0} (f : ℕ → Option X) (ns : List ℕ) (q : ℕ) → (list_any (eq_by_cmp nat_cmp q) ns ≡ false → f q ≡ None) → map.get (collected f ns) q ≡ f q
get-collected f [] q none = map.get-empty nat_cmp q ∙ sym (none refl)
get-collected f (n ∷ ns) q none = get-set_at (collected f ns) n (f n) q ∙ (elim (eq_by_cmp nat_cmp q n) as (λ b. eq_by_cmp nat_cmp q n ≡ b → cond b (f n) (map.get (collected f ns) q) ≡ f q) [
  | true ↦ λ tie. ap f (sym (tied q n tie))
  | false ↦ λ apart. get-collected f ns q (λ out. none (λ i. apart i || out i))
]) refl

-- a slot that the archive lacks shows nothing
no_slot : (a : ArchiveState) (changes : ChangeMap) (id : ℕ) (o : Option ImageMap) → is_some o ≡ false → option_map (shown_images a.begun changes) o ≡ None
no_slot a changes id None h = refl
no_slot a changes id (Some f) h = absurd (true≢false h)

-- the map of the stamp in a slot
pub get-shown : (a : ArchiveState) (changes : ChangeMap) (id : ℕ) → map.get (shown_stamps a changes) id ≡ shown_slot a changes id
unfolding shown_stamps
get-shown a changes id = get-collected (shown_slot a changes) (map.keys a.stamps) id
    (λ out. no_slot a changes id (map.get a.stamps id) (map.contains_key-keys a.stamps id ∙ out))

-- the same stamps with the same images show the same
pub stamps-alike : (a b : ArchiveState) (changes changes' : ChangeMap) → ((id : ℕ) → shown_slot b changes' id ≡ shown_slot a changes id) → shown_stamps b changes' ≡ shown_stamps a changes
stamps-alike a b changes changes' alike = same _ _ (λ id. get-shown b changes' id ∙ alike id ∙ sym (get-shown a changes id))

-- the stamp whose map this is
pub stamp_there : (a : ArchiveState) (changes : ChangeMap) (id : ℕ) (m : Shown) → map.get (shown_stamps a changes) id ≡ Some m
    → (f : ImageMap) × ((map.get a.stamps id ≡ Some f) × (shown_images a.begun changes f ≡ m))
stamp_there a changes id m is = by_slot (map.get a.stamps id) refl (sym (get-shown a changes id) ∙ is)
  where
    by_slot : (o : Option ImageMap) → map.get a.stamps id ≡ o → shown_slot a changes id ≡ Some m → (f : ImageMap) × ((map.get a.stamps id ≡ Some f) × (shown_images a.begun changes f ≡ m))
    by_slot None e h = absurd (true≢false (ap is_some (sym h ∙ ap (option_map (shown_images a.begun changes)) e)))
    by_slot (Some f) e h = (f, (e, one (shown_images a.begun changes f) m (sym (ap (option_map (shown_images a.begun changes)) e) ∙ h)))
      where
        one : (x y : Shown) → Some x ≡ Some y → x ≡ y
        one x y e = cc

-- whether a stamp is held
pub held-shown : (a : ArchiveState) (changes : ChangeMap) (id : ℕ) → map.contains_key (shown_stamps a changes) id ≡ map.contains_key a.stamps id
held-shown a changes id = ap is_some (get-shown a changes id) ∙ by_slot (map.get a.stamps id)
  where
    by_slot : (o : Option ImageMap) → is_some (option_map (shown_images a.begun changes) o) ≡ is_some o
    by_slot None = refl
    by_slot (Some f) = refl

-- a number below another, by a test and by a fact
pub lt_is : (m n : ℕ) → nat_lt m n ≡ true → m < n
lt_is m n e = ltb-true m n e

pub lt_to : (m n : ℕ) → m < n → nat_lt m n ≡ true
lt_to m n h = lt-ltb m n h

-- a number that is at most another and not below it
pub at_end : (m n : ℕ) → nat_lt m n ≡ false → m ≤ n → m ≡ n
at_end m n late most = let least : n ≤ m = ltb-false m n late in omega arith

-- images alone, as a map
abbrev pub shown_frozen : ImageMap → Shown
shown_frozen f = record { pages = f.pages; dirty = set.empty; kept = f.kept }

-- images with what is staged upon them
abbrev pub shown_live : ChangeMap → ImageMap → Shown
shown_live changes f = record { pages = overlaid changes f.pages; dirty = dirty_of changes; kept = f.kept }

-- the map of a stamp of an earlier command
pub shown-early : (begun : ℕ) (changes : ChangeMap) (f : ImageMap) → nat_lt f.at begun ≡ true → shown_images begun changes f ≡ shown_frozen f
shown-early begun changes f early = ap (λ b. cond b (shown_frozen f) (shown_live changes f)) early

-- the map of a stamp of the last command
pub shown-late : (begun : ℕ) (changes : ChangeMap) (f : ImageMap) → nat_lt f.at begun ≡ false → shown_images begun changes f ≡ shown_live changes f
shown-late begun changes f late = ap (λ b. cond b (shown_frozen f) (shown_live changes f)) late
