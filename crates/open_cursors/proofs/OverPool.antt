-- What a statement does beside open cursors over a pool, whether its disk tells its pages or not.
use Rattle.std.proofs.Common.{◌≡◌, ℕ, Bool, true, false, List, [], ◌∷◌, Option, Some, None, refl, sym, ◌∙◌, ap, subst}
use Rattle.std.specs.Prelude.{Result, IfSome}
use Rattle.page_pool.specs.Pool.{IsTold, PoolState, StampMap}
use Rattle.page_pool.specs.Reads.{IsRead}
use Rattle.plan_ops.specs.declared.source.Source.{Source}
use Rattle.plan_ops.specs.declared.stage.Stage.{Stage}
use Rattle.sand_base.specs.declared.source.Failed.{Failed}
use Rattle.sand_model.specs.Cursor.{Cursor, OutputLine}
use Rattle.statements.specs.Statement.{Statement, Next, Stats}
use Rattle.sand_store.specs.Catalog.{CatalogView}
use Rattle.statement_exec.proofs.Written.{writes_so}
use Rattle.statement_exec.specs.Moment.{beside}
use Rattle.statement_exec.specs.Printing.{WritesOf}
use Rattle.open_cursors.proofs.Given.{most_more}
use Rattle.open_cursors.proofs.OpenNames.{stand_named}
use Rattle.open_cursors.proofs.ToldStamps.{are_told, never_told, not_told, same_told, unread_pages, told_here, when_told}
use Rattle.open_cursors.specs.Carried.{AreCounted, CarriesBeside, rows_by}
use Rattle.open_cursors.specs.OpenCursors.{AreNamed, HaveOwnNames, StandAll}
use Rattle.open_cursors.specs.Outcomes.{PerformsBeside, PerformsLowest}
use Rattle.open_cursors.specs.OverPages.{StandOver, told_stamps}
use Rattle.open_cursors.specs.PlanCursors.{PlanAt}
use Rattle.open_cursors.specs.declared.open_cursor.OpenCursor.{OpenCursor}

module _ (catalog : CatalogView) (old new : PoolState) (statement : Statement) (a b : List ℕ → Type 0) (r : Result Bool Failed) where
  -- the cursors are as they were
  pub unmoved : (At : List Cursor → Type 0) (cs : List Cursor) → HaveOwnNames cs → At cs → WritesOf (PerformsBeside statement catalog old new cs cs) a b r
      → CarriesBeside statement catalog old new cs a b r At
  unmoved At cs own at h = record { after = cs; own = own; at = at; given = λ bound few. most_more bound (rows_by statement) cs few; writes = h }

  -- another statement of where the cursors stand
  moved : (At Bt : List Cursor → Type 0) (cs : List Cursor) → (h : CarriesBeside statement catalog old new cs a b r At) → Bt h.after → CarriesBeside statement catalog old new cs a b r Bt
  moved At Bt cs h at = record { after = h.after; own = h.own; at = at; given = h.given; writes = h.writes }

  -- where the disk tells as the statement does, and over others as the names decide
  pub over_pool : (xs ys : List (OpenCursor Source Stage)) (cs : List Cursor) → new.disk.told ≡ old.disk.told
      → (old.disk.told ≡ false → AreNamed xs cs → CarriesBeside statement catalog old new cs a b r (AreNamed ys))
      → (IsTold old → StandAll PlanAt old.stamps xs cs → CarriesBeside statement catalog old new cs a b r (StandAll PlanAt new.stamps ys))
      → StandOver old xs cs → CarriesBeside statement catalog old new cs a b r (StandOver new ys)
  over_pool xs ys cs same named told stand = go (told_stamps old) refl stand.1 where
    go : (m : Option StampMap) → told_stamps old ≡ m → IfSome m (λ stamps. StandAll PlanAt stamps xs cs) → CarriesBeside statement catalog old new cs a b r (StandOver new ys)
    go None is s = let h = named (not_told old is) stand.0 in moved (AreNamed ys) (StandOver new ys) cs h
        (h.at, never_told new (λ stamps. StandAll PlanAt stamps ys h.after) (same ∙ not_told old is))
    go (Some stamps) is s =
        let t = are_told old stamps is in
        let h = told t.0 (subst (λ (m : StampMap). StandAll PlanAt m xs cs) (sym t.1) s) in
        moved (StandAll PlanAt new.stamps ys) (StandOver new ys) cs h (stand_named PlanAt new.stamps ys h.after h.at, when_told new (λ stamps. StandAll PlanAt stamps ys h.after) h.at)

  -- a statement that reads and leaves the open cursors
  pub beside_all : IsRead old new → (xs : List (OpenCursor Source Stage)) (cs : List Cursor) → HaveOwnNames cs → StandOver old xs cs → WritesOf (PerformsBeside statement catalog old new cs cs) a b r
      → CarriesBeside statement catalog old new cs a b r (StandOver new xs)
  beside_all read xs cs own stand h =
      unmoved (StandOver new xs) cs own (stand.0, subst (λ (m : Option StampMap). IfSome m (λ stamps. StandAll PlanAt stamps xs cs)) (sym (same_told old new read)) stand.1) h

-- the next rows of a cursor
pub next_beside : (catalog : CatalogView) (old new : PoolState) (read : IsRead old new) (name : List ℕ) (count : ℕ) (a b : List ℕ → Type 0) (r : Result Bool Failed)
    (xs ys : List (OpenCursor Source Stage)) (cs : List Cursor) → HaveOwnNames cs
    → (old.disk.told ≡ false → (ks : List Cursor) → HaveOwnNames ks → AreNamed xs ks → (k : CatalogView) → CarriesBeside (Next name count) k old new ks a b r (AreNamed ys))
    → IfSome (told_stamps old) (λ stamps. (ks : List Cursor) → HaveOwnNames ks → StandAll PlanAt stamps xs ks → (k : CatalogView)
    → CarriesBeside (Next name count) k old new ks a b r (StandAll PlanAt stamps ys))
    → StandOver old xs cs → CarriesBeside (Next name count) catalog old new cs a b r (StandOver new ys)
next_beside catalog old new read name count a b r xs ys cs own named carried =
    let Carried : StampMap → Type 0 = λ stamps. (ks : List Cursor) → HaveOwnNames ks → StandAll PlanAt stamps xs ks → (k : CatalogView)
    → CarriesBeside (Next name count) k old new ks a b r (StandAll PlanAt stamps ys) in
    over_pool catalog old new (Next name count) a b r xs ys cs read.told (λ untold names. named untold cs own names catalog)
    (λ told all.
    let here : Carried old.stamps = told_here old Carried told carried in
    subst (λ (m : StampMap). CarriesBeside (Next name count) catalog old new cs a b r (StandAll PlanAt m ys)) (sym read.stamps) (here cs own all catalog))

-- which maps are held, and how many images are kept, is nothing of what a statement does
pub kept_pool : (catalog : CatalogView) (old new : PoolState) (statement : Statement) (a b : List ℕ → Type 0) (r : Result Bool Failed) (cs : List Cursor) (At : List Cursor → Type 0)
    → new ≡ record old { stamps = new.stamps; places = new.places } → CarriesBeside statement catalog old old cs a b r At → CarriesBeside statement catalog old new cs a b r At
kept_pool catalog old new statement a b r cs At same h = record {
  after = h.after;
  own = h.own;
  at = h.at;
  given = h.given;
  writes = writes_so (PerformsBeside statement catalog old old cs h.after) (PerformsBeside statement catalog old new cs h.after) a b
      (λ lines performs files shelf. subst (λ (p : PoolState). PerformsLowest statement (beside cs catalog old files shelf) (beside h.after catalog p files shelf) lines)
      (sym same) (performs files shelf)) r h.writes;
}

-- a cursor is opened or closed: which maps are held changed alone
pub held_beside : (catalog : CatalogView) (old new : PoolState) (statement : Statement) (a b : List ℕ → Type 0) (r : Result Bool Failed) (xs ys : List (OpenCursor Source Stage)) (cs : List Cursor)
    → new ≡ record old { stamps = new.stamps; places = new.places } → (AreNamed xs cs → CarriesBeside statement catalog old old cs a b r (AreNamed ys))
    → (IsTold old → StandAll PlanAt old.stamps xs cs → CarriesBeside statement catalog old old cs a b r (StandAll PlanAt new.stamps ys))
    → StandOver old xs cs → CarriesBeside statement catalog old new cs a b r (StandOver new ys)
held_beside catalog old new statement a b r xs ys cs same named told =
    over_pool catalog old new statement a b r xs ys cs (ap (λ (p : PoolState). p.disk.told) same)
    (λ untold names. kept_pool catalog old new statement a b r cs (AreNamed ys) same (named names))
    (λ t all. kept_pool catalog old new statement a b r cs (StandAll PlanAt new.stamps ys) same (told t all))

-- the numbers of a cursor
pub stats_beside : (catalog : CatalogView) (pool : PoolState) (a b : List ℕ → Type 0) (r : Result Bool Failed) (xs : List (OpenCursor Source Stage)) (cs : List Cursor)
    → HaveOwnNames cs → (name : List ℕ) → AreCounted cs
    → ((ks : List Cursor) → AreNamed xs ks → (k : CatalogView) (p : PoolState) → p.disk.told ≡ false → WritesOf (PerformsBeside (Stats name) k p p ks ks) a b r)
    → ((stamps : StampMap) (ks : List Cursor) → HaveOwnNames ks → StandAll PlanAt stamps xs ks → AreCounted ks → (k : CatalogView) (p : PoolState)
    → WritesOf (PerformsBeside (Stats name) k p p ks ks) a b r)
    → StandOver pool xs cs → CarriesBeside (Stats name) catalog pool pool cs a b r (StandOver pool xs)
stats_beside catalog pool a b r xs cs own name counted named written =
    over_pool catalog pool pool (Stats name) a b r xs xs cs refl
    (λ untold names. unmoved catalog pool pool (Stats name) a b r (AreNamed xs) cs own names (named cs names catalog pool untold))
    (λ told all. unmoved catalog pool pool (Stats name) a b r (StandAll PlanAt pool.stamps xs) cs own all (written pool.stamps cs own all counted catalog pool))
