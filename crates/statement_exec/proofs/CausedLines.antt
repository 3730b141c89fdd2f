-- Lines that have their causes, one after the other.
use Rattle.std.proofs.Common.{◌≡◌, ◌≢◌, ◌⊎◌, ℕ, ◌-◌, ◌<◌, Bool, true, false, List, [], ◌∷◌, ◌++◌, Option, Some, None, refl, sym, ap, ◌∙◌, subst, inl, inr, arith, true≢false}
use Rattle.std.specs.Prelude.{⊤, Ok, Err}
use Rattle.std.specs.List.{list_any}
use Rattle.std.proofs.lemmas.List.{append-nil}
use Rattle.std.proofs.lemmas.List.Elements.{All-nil, All-cons}
use Rattle.page_pool.specs.Causes.{HasPageCause, IsDamage}
use Rattle.page_pool.specs.Pool.{PoolState}
use Rattle.page_pool.specs.declared.fault.PageFault.{PageFault}
use Rattle.page_pool.specs.declared.fault.PageFault.TheVariants as page
use Rattle.sand_base.specs.Faults.{last_count}
use Rattle.sand_base.specs.Shelf.{Files}
use Rattle.sand_base.specs.declared.refusal.Refusal.{Refusal}
use Rattle.sand_base.specs.declared.refusal.Refusal.TheVariants as why
use Rattle.sand_model.specs.Cursor.{Cursor, OutputLine, Refused}
use Rattle.sand_model.specs.OutputText.{is_refused}
use Rattle.sand_store.specs.Calls.{HasStoreCause, refusal_of}
use Rattle.sand_store.specs.Catalog.{CatalogView}
use Rattle.statement_exec.specs.Causes.{IsCausedDamage, AreCaused, AreCausedIn, BlamesNone, BlamesNoFile}
use Rattle.statement_exec.specs.Ending.{PagesHaveCause, refused_line}
use Rattle.statement_exec.specs.LeafLines.{IsOfCheck}
use Rattle.statement_exec.specs.Moment.{Moment, beside}
use Rattle.statement_exec.proofs.Refusals.{rose}

-- the refusal has its cause from one moment to another
abbrev pub HasItsCause : Moment → Moment → Refusal → Type 0
HasItsCause old new why.Device = new.disk < last_count → 0 < new.disk - old.disk
HasItsCause old new (why.Damaged page kept read) = (old.told ≡ false) × (kept ≢ read)
HasItsCause old new why.File = new.shelf < last_count → 0 < new.shelf - old.shelf
HasItsCause old new _ = ⊤

-- the refusal, where there is one, has its cause
abbrev pub EndHasCause : Moment → Moment → Option Refusal → Type 0
EndHasCause old new None = ⊤
EndHasCause old new (Some w) = HasItsCause old new w

-- a refusal of a check blames nothing outside
pub check_blames_none : (w : Refusal) → IsOfCheck w → BlamesNone w
check_blames_none why.Memory o = absurd o
check_blames_none why.Device o = absurd o
check_blames_none (why.Damaged page kept read) o = absurd o
check_blames_none why.File o = absurd o
check_blames_none _ o = tt

-- nor does one that is of memory or of a check
pub blames_none : (w : Refusal) → (w ≡ why.Memory) ⊎ IsOfCheck w → BlamesNone w
blames_none w (inl memory) = subst BlamesNone (sym memory) tt
blames_none w (inr check) = check_blames_none w check

module _ (old new : Moment) where
  pub caused_none : AreCaused old new []
  caused_none = record { device = λ few. omega arith; file = λ few. omega arith; damage = All-nil (IsCausedDamage old.told) }

  -- the line of a refusal that has its cause
  pub caused_refusal : (w : Refusal) → HasItsCause old new w → AreCaused old new (Refused w ∷ [])
  caused_refusal why.Device h = record {
    device = λ few. omega (arith, h few);
    file = λ few. omega arith;
    damage = All-cons (IsCausedDamage old.told) (Refused why.Device) [] tt (All-nil (IsCausedDamage old.told));
  }
  caused_refusal (why.Damaged page kept read) h = record {
    device = λ few. omega arith;
    file = λ few. omega arith;
    damage = All-cons (IsCausedDamage old.told) (Refused (why.Damaged page kept read)) [] h (All-nil (IsCausedDamage old.told));
  }
  caused_refusal why.File h = record {
    device = λ few. omega arith;
    file = λ few. omega (arith, h few);
    damage = All-cons (IsCausedDamage old.told) (Refused why.File) [] tt (All-nil (IsCausedDamage old.told));
  }
  caused_refusal w h = record {
    device = λ few. omega arith;
    file = λ few. omega arith;
    damage = All-cons (IsCausedDamage old.told) (Refused w) [] tt (All-nil (IsCausedDamage old.told));
  }

  -- a line that is no refusal needs no cause
  caused_more : (line : OutputLine) (lines : List OutputLine) → is_refused line ≡ false → AreCaused old new lines → AreCaused old new (line ∷ lines)
  caused_more (Refused w) lines h k = absurd (true≢false h)
  caused_more line lines h k = record {
    device = λ few. omega (arith, k.device few);
    file = λ few. omega (arith, k.file few);
    damage = All-cons (IsCausedDamage old.told) line lines tt k.damage;
  }

  -- lines that are no refusals need no causes, before others
  pub caused_behind : (first more : List OutputLine) → list_any is_refused first ≡ false → AreCaused old new more → AreCaused old new (first ++ more)
  caused_behind [] more h k = k
  caused_behind (line ∷ first) more h k =
      let go : (b : Bool) → is_refused line ≡ b → AreCaused old new ((line ∷ first) ++ more) = elim [
        | true ↦ λ e. absurd (true≢false (rw e at h))
        | false ↦ λ e. caused_more line (first ++ more) e (caused_behind first more (rw e at h) k)
      ] in
      go (is_refused line) refl

  pub caused_plain : (lines : List OutputLine) → list_any is_refused lines ≡ false → AreCaused old new lines
  caused_plain lines h = subst (AreCaused old new) (append-nil lines) (caused_behind lines [] h caused_none)

  pub caused_end : (end : Option Refusal) → EndHasCause old new end → AreCaused old new (refused_line end)
  caused_end None h = caused_none
  caused_end (Some w) h = caused_refusal w h

  -- a refusal that blames nothing outside
  pub none_cause : (w : Refusal) → BlamesNone w → HasItsCause old new w
  none_cause why.Device h = absurd h
  none_cause (why.Damaged page kept read) h = absurd h
  none_cause why.File h = absurd h
  none_cause _ h = tt

  pub caused_inside : (w : Refusal) → BlamesNone w → AreCaused old new (Refused w ∷ [])
  caused_inside w h = caused_refusal w (none_cause w h)

module _ (cs cs' : List Cursor) (catalog catalog' : CatalogView) (old new : PoolState) (told : new.disk.told ≡ old.disk.told) (files files' : Option Files) (shelf shelf' : ℕ) where
  -- a refusal whose cause is told by pools
  pub pools_cause : {T : Type 0} (w : Refusal) → HasStoreCause {T = T} old new (Err w) → (w ≡ why.File → ⊥)
      → HasItsCause (beside cs catalog old files shelf) (beside cs' catalog' new files' shelf') w
  pools_cause why.Device c n = λ few. rose old.disk.faults new.disk.faults (ap (λ (n : ℕ × ℕ). n.0) c.counted) few
  pools_cause (why.Damaged page kept read) c n = let d : IsDamage new page kept read = c.damaged in (sym told ∙ d.untold, d.differ)
  pools_cause why.File c n = absurd (n refl)
  pools_cause _ c n = tt

  -- a fault of a page
  pub page_cause : {T : Type 0} (fault : PageFault) → HasPageCause {T = T} old new (Err fault)
      → HasItsCause (beside cs catalog old files shelf) (beside cs' catalog' new files' shelf') (refusal_of fault)
  page_cause page.Memory c = tt
  page_cause page.Device c = λ few. rose old.disk.faults new.disk.faults (ap (λ (n : ℕ × ℕ). n.0) c.counted) few
  page_cause (page.Damaged n kept read) c = let d : IsDamage new n kept read = c.damaged in (sym told ∙ d.untold, d.differ)

  -- what was printed up to a refusal
  pub end_cause : (E : Type 0) (end : Option Refusal) → PagesHaveCause {E = E} old new (Ok end) → BlamesNoFile end
      → EndHasCause (beside cs catalog old files shelf) (beside cs' catalog' new files' shelf') end
  end_cause E None c n = tt
  end_cause E (Some why.Device) c n = λ few. rose old.disk.faults new.disk.faults (ap (λ (n : ℕ × ℕ). n.0) c.counted) few
  end_cause E (Some (why.Damaged page kept read)) c n = (sym told ∙ c.damaged.damage.untold, c.damaged.damage.differ)
  end_cause E (Some why.File) c n = absurd n
  end_cause E (Some _) c n = tt

-- lines without a refusal, and one whose cause is told by pools
pub caused_up_to : (E : Type 0) (old new : PoolState) (lines : List OutputLine) (end : Option Refusal) → list_any is_refused lines ≡ false → new.disk.told ≡ old.disk.told
    → PagesHaveCause {E = E} old new (Ok end) → BlamesNoFile end → AreCausedIn old new (lines ++ refused_line end)
caused_up_to E old new lines end plain told cause none = λ files shelf cs cs' catalog.
    let before : Moment = beside cs catalog old files shelf in
    let after : Moment = beside cs' catalog new files shelf in
    caused_behind before after lines (refused_line end) plain
    (caused_end before after end (end_cause cs cs' catalog catalog old new told files files shelf shelf E end cause none))
