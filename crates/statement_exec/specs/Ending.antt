-- A statement whose lines are printed as they come, up to its end or to a refusal, whose line is still to be printed.
use Rattle.std.specs.Prelude.{◌≡◌, ⊤, ℕ, Bool, true, false, List, [], ◌∷◌, ◌++◌, ◌⊎◌, Option, Some, None, Result, Ok, Err}
use Rattle.std.specs.FinMap as map
use Rattle.std.specs.List.{list_any}
use Rattle.sand_base.specs.Shelf.{Files}
use Rattle.sand_base.specs.declared.refusal.Refusal.{Refusal}
use Rattle.sand_base.specs.declared.refusal.Refusal.TheVariants as why
use Rattle.page_pool.specs.Causes.{IsDamage, failures_at, failures_of}
use Rattle.page_pool.specs.Pool.{PoolState, Shown, showing, shown_of}
use Rattle.page_pool.specs.declared.fault.PageFault.{PageFault}
use Rattle.sand_model.specs.Cursor.{Cursor, OutputLine, Refused}
use Rattle.sand_model.specs.OutputText.{IsText, is_refused}
use Rattle.statements.specs.Statement.{Statement}
use Rattle.output_text.specs.Writing.{Writes}
use Rattle.sand_store.specs.Calls.{store_failures_at}
use Rattle.sand_store.specs.Catalog.{CatalogView}
use Rattle.statement_exec.specs.Moment.{beside}
use Rattle.statement_exec.specs.Performing.{Performs}

-- a statement that changes no relation was carried out over a catalog, beside any cursors and whatever the shelf
abbrev pub ReadsStatement : Statement → CatalogView → PoolState → PoolState → List OutputLine → Type 0
ReadsStatement statement catalog old new lines =
    (cursors : List Cursor) (files : Option Files) (shelf : ℕ) → Performs statement (beside cursors catalog old files shelf) (beside cursors catalog new files shelf) lines

-- the line of a refusal, where there is one
abbrev pub refused_line : Option Refusal → List OutputLine
refused_line None = []
refused_line (Some refusal) = Refused refusal ∷ []

-- lines without a refusal were written, and with the line that is still to be written P holds of them
pub record WritesUpTo (P : List OutputLine → Type 0) (end : Option Refusal) (before now : List ℕ → Type 0) : Type 0 where
  pub lines : List OutputLine
  pub written : Writes (IsText lines) before now
  pub accepted : list_any is_refused lines ≡ false
  pub holds : P (lines ++ refused_line end)

-- something is refused
abbrev pub is_refusal : Option Refusal → Bool
is_refusal None = false
is_refusal (Some refusal) = true

-- What the pool counts of failures is what it counts after one fault of a page: one failure more at Device or Damaged, and none at Memory.
abbrev pub FailsOnceAtMost : PoolState → PoolState → Type 0
FailsOnceAtMost old new = (fault : PageFault) × (failures_of new ≡ failures_at (failures_of old) fault)

-- the pool shows this map, or a stamp holds it
abbrev pub IsMapOf : PoolState → Shown → Type 0
IsMapOf s m = (m ≡ shown_of s) ⊎ ((id : ℕ) × (map.get s.stamps id ≡ Some m))

-- A page of a map that the pool shows or a stamp holds is damaged, and these are the digest that the map keeps for it and that of the page which the disk gave last.
pub record IsDamaged (s : PoolState) (page : ℕ) (kept read : List ℕ) : Type 0 where
  pub seen : Shown
  pub is_seen : IsMapOf s seen
  pub damage : IsDamage (showing s seen) page kept read

-- the refusal is no damage, or such
abbrev pub IsDamagedIfSo : PoolState → Refusal → Type 0
IsDamagedIfSo s (why.Damaged page kept read) = IsDamaged s page kept read
IsDamagedIfSo s _ = ⊤

-- The refusal of a page has its cause, whichever map was read: the disk's count rose by one at Device, that of damaged pages by one at Damaged,
-- and neither else; and a page is damaged where the refusal says so.
pub record IsCausedByPages (old new : PoolState) (refusal : Refusal) : Type 0 where
  pub counted : failures_of new ≡ store_failures_at (failures_of old) refusal
  pub damaged : IsDamagedIfSo new refusal

-- The pages have their cause: that of the refusal, where there is one. Where the sink failed, one fault may have been counted before.
abbrev pub PagesHaveCause : {E : Type 0} → PoolState → PoolState → Result (Option Refusal) E → Type 0
PagesHaveCause old new (Ok None) = failures_of new ≡ failures_of old
PagesHaveCause old new (Ok (Some refusal)) = IsCausedByPages old new refusal
PagesHaveCause old new (Err e) = FailsOnceAtMost old new

-- The pages have their cause over a line: an accepted one found no failure of them, and a refused one, or one that wasn't written whole, found one at most.
abbrev pub PagesHaveLineCause : {E : Type 0} → PoolState → PoolState → Result Bool E → Type 0
PagesHaveLineCause old new (Ok false) = failures_of new ≡ failures_of old
PagesHaveLineCause old new (Ok true) = FailsOnceAtMost old new
PagesHaveLineCause old new (Err e) = FailsOnceAtMost old new
