-- The steps of an open cursor over the pages that its stamp holds, and what they leave of the store.
use Rattle.std.proofs.Common.{◌≡◌, ℕ, Bool, true, false, List, [], Option, Some, None, refl, sym, ◌∙◌, ap, subst, inl, inr, true≢false}
use Rattle.std.specs.FinMap as map
use Rattle.std.specs.Option.{option_map_or}
use Rattle.std.specs.Prelude.{IfSome, IsNone, Result, Ok, Err, if◌then◌else◌, is_some}
use Rattle.best_first.specs.Visits.{told_pages}
use Rattle.page_pool.specs.Desk.{DeskState}
use Rattle.page_pool.specs.Disk.{DigestMap, PageMap}
use Rattle.page_pool.specs.Pool.{PoolState, Shown, StampMap, back, live_again, showing, shown_of}
use Rattle.page_pool.specs.Reads.{IsRead}
use Rattle.page_pool.specs.Steps.{IsClosed-read}
use Rattle.sand_base.specs.declared.refusal.Refusal.{Refusal}
use Rattle.sand_base.specs.declared.refusal.Refusal.TheVariants as why
use Rattle.sand_base.specs.declared.source.Failed.{Failed}
use Rattle.sand_model.specs.Cursor.{Cursor}
use Rattle.sand_store.specs.Catalog.{CatalogView}
use Rattle.sand_store.specs.Standing.{CatalogStands, IsStore}
use Rattle.statement_exec.specs.Ending.{IsCausedByPages, IsDamaged, IsMapOf, PagesHaveCause}
use Rattle.open_cursors.proofs.ToldStamps.{told_of}
use Rattle.open_cursors.specs.OpenCursors.{AtStamp, IsHeld, OverPages}
use Rattle.open_cursors.specs.OverPages.{told_stamps}
use Rattle.open_cursors.specs.Steps.{StepsOn}
use Rattle.open_cursors.specs.declared.open_cursor.OpenCursor.{OpenCursor}

-- a stamp holds one map
one_map : (a b : Shown) → Some a ≡ Some b → a ≡ b
one_map a b e = ap inside e where
  inside : Option Shown → Shown
  inside None = a
  inside (Some m) = m

-- the desk of a store at a map
abbrev pub desk_at : PoolState → Shown → DeskState
desk_at pool shown = record { pool = showing pool shown; visits = [] }

-- the pages of that desk, where the disk tells them
abbrev pages_of : Bool → Shown → Option PageMap
pages_of told shown = if told then Some shown.pages else None

module _ {S T : Type 0} (At : OverPages S T) (pool : PoolState) (d : OpenCursor S T) (shown : Shown) (held : map.get pool.stamps d.stamp ≡ Some shown) where
  -- the cursor stands over the pages of the desk
  pub stands_at : IfSome (told_stamps pool) (λ stamps. (c : Cursor) × AtStamp At d stamps c) → IfSome (told_pages (desk_at pool shown)) (λ pages. (c : Cursor) × At d.cursor pages c)
  stands_at h = go pool.disk.told h where
    go : (t : Bool) → IfSome (told_of t pool.stamps) (λ stamps. (c : Cursor) × AtStamp At d stamps c) → IfSome (pages_of t shown) (λ pages. (c : Cursor) × At d.cursor pages c)
    go false h = tt
    go true h = (h.0, subst (λ (m : Shown). At d.cursor m.pages h.0) (one_map h.1.0 shown (sym h.1.1 ∙ held)) h.1.2)

  -- its steps are those of the one that stands by its stamp
  pub steps_at : (r : OpenCursor S T) → r.stamp ≡ d.stamp → (count : ℕ) (a b : List ℕ → Type 0) (result : Result (Option Refusal) Failed)
      → IfSome (told_pages (desk_at pool shown)) (λ pages. (c : Cursor) → At d.cursor pages c → StepsOn c count a b result (At r.cursor pages))
      → IfSome (told_stamps pool) (λ stamps. (c : Cursor) → AtStamp At d stamps c → StepsOn c count a b result (AtStamp At r stamps))
  steps_at r same count a b result h = go pool.disk.told h where
    go : (t : Bool) → IfSome (pages_of t shown) (λ pages. (c : Cursor) → At d.cursor pages c → StepsOn c count a b result (At r.cursor pages))
        → IfSome (told_of t pool.stamps) (λ stamps. (c : Cursor) → AtStamp At d stamps c → StepsOn c count a b result (AtStamp At r stamps))
    go false h = tt
    go true h = λ c at.
        let s : StepsOn c count a b result (At r.cursor shown.pages) = h c (subst (λ (m : Shown). At d.cursor m.pages c) (one_map at.0 shown (sym at.1 ∙ held)) at.2) in
        record { after = s.after; at = (shown, ap (map.get pool.stamps) same ∙ held, s.at); steps = s.steps; pages = s.pages }

-- the live map is shown again
back_is : (new : PoolState) (live : Shown) → new.live ≡ Some live → back new ≡ live_again new live
back_is new live e = ap (λ (o : Option Shown). option_map_or (live_again new) o new) e

-- what was read at a map leaves the live one as it was
pub read_back : (pool new : PoolState) (shown : Shown) → IsNone pool.live → IsRead (showing pool shown) new → IsRead pool (back new)
read_back pool new shown none read = subst (IsRead pool) (sym (back_is new (shown_of pool) read.live)) (record {
  pages = refl;
  beginning = read.beginning;
  dirty = refl;
  freed = read.freed;
  kept = refl;
  top = read.top;
  spare = read.spare;
  told = read.told;
  stored = read.stored;
  frames = read.frames;
  stamps = read.stamps;
  live = sym (live_none pool.live none);
  places = read.places;
}) where
  live_none : (o : Option Shown) → IsNone o → o ≡ None
  live_none None h = refl
  live_none (Some m) h = absurd (true≢false h)

-- and the store as it was
pub store_back : (catalog : CatalogView) (pool new : PoolState) (shown : Shown) → IsStore catalog pool → IsRead (showing pool shown) new → IsStore catalog (back new)
store_back catalog pool new shown store read =
    let r : IsRead pool (back new) = read_back pool new shown store.closed.1 read in
    record {
      closed = IsClosed-read pool (back new) r store.closed;
      described = store.described;
      stands = λ told. subst (λ (m : PageMap). CatalogStands m catalog) (sym r.pages) (store.stands (sym r.told ∙ told));
    }

-- a page that was damaged while the map of a held stamp was shown is one of a held stamp's map once the live one is shown again
damage_back : (pool new : PoolState) (id : ℕ) (shown : Shown) → map.get pool.stamps id ≡ Some shown → IsRead (showing pool shown) new
    → (page : ℕ) (kept given : List ℕ) → IsDamaged new page kept given → IsDamaged (live_again new (shown_of pool)) page kept given
damage_back pool new id shown held read page kept given h = by_map h.is_seen where
  by_map : IsMapOf new h.seen → IsDamaged (live_again new (shown_of pool)) page kept given
  by_map (inl is) = record {
    seen = shown;
    is_seen = inr (id, ap (λ (t : StampMap). map.get t id) read.stamps ∙ held);
    damage = record {
      kept_is = sym (ap (λ (m : Shown). map.get m.kept page) is ∙ ap (λ (k : DigestMap). map.get k page) read.kept) ∙ h.damage.kept_is;
      read_is = h.damage.read_is;
      differ = h.damage.differ;
      untold = h.damage.untold;
    };
  }
  by_map (inr is) = record {
    seen = h.seen;
    is_seen = inr is;
    damage = record { kept_is = h.damage.kept_is; read_is = h.damage.read_is; differ = h.damage.differ; untold = h.damage.untold };
  }

-- that the map of a held stamp is shown is nothing of a fault's cause
pub cause_back : (E : Type 0) (pool new : PoolState) (id : ℕ) (shown : Shown) (held : map.get pool.stamps id ≡ Some shown) (read : IsRead (showing pool shown) new)
    (result : Result (Option Refusal) E) → PagesHaveCause (showing pool shown) new result → PagesHaveCause pool (back new) result
cause_back E pool new id shown held read result h = subst (λ (p : PoolState). PagesHaveCause pool p result) (sym (back_is new (shown_of pool) read.live)) (go result h) where
  of_refusal : (w : Refusal) → IsCausedByPages (showing pool shown) new w → IsCausedByPages pool (live_again new (shown_of pool)) w
  of_refusal (why.Damaged page kept given) h = record { counted = h.counted; damaged = damage_back pool new id shown held read page kept given h.damaged }
  of_refusal _ h = record { counted = h.counted; damaged = tt }

  go : (result : Result (Option Refusal) E) → PagesHaveCause (showing pool shown) new result → PagesHaveCause pool (live_again new (shown_of pool)) result
  go (Ok None) h = h
  go (Ok (Some w)) h = of_refusal w h
  go (Err e) h = h
