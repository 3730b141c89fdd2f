-- Moments that follow one another, and cursors none of which is open.
use Rattle.std.proofs.Common.{◌≡◌, ℕ, ◌<◌, ◌≤◌, ◌∙◌, List, [], Option, None, Some, refl, sym, ap, subst, arith}
use Rattle.std.specs.Prelude.{IfSome}
use Rattle.line_meaning.specs.Carrying.{FollowsMoment}
use Rattle.open_cursors.specs.OpenCursors.{StandAll}
use Rattle.open_cursors.proofs.HeldStamps.{stand_settled}
use Rattle.open_cursors.proofs.ToldStamps.{are_told, never_told, not_told, when_told}
use Rattle.open_cursors.specs.OpenCursors.{AreHeld}
use Rattle.open_cursors.specs.OverPages.{AreStanding, LeavesPages, StandOver, told_stamps}
use Rattle.open_cursors.specs.PlanCursors.{PlanAt, PlanOver}
use Rattle.open_cursors.specs.declared.open_cursor.OpenCursor.{OpenCursor}
use Rattle.page_pool.specs.Commands.{SettlesStamps}
use Rattle.page_pool.specs.Causes.{failures_at}
use Rattle.page_pool.specs.Pool.{PoolState, StampMap}
use Rattle.page_pool.specs.declared.fault.PageFault.{PageFault}
use Rattle.page_pool.specs.declared.fault.PageFault.TheVariants.{Memory, Device, Damaged}
use Rattle.plan_ops.specs.declared.source.Source.{Source}
use Rattle.plan_ops.specs.declared.stage.Stage.{Stage}
use Rattle.sand_base.specs.Faults.{last_count, next_count}
use Rattle.sand_base.specs.Shelf.{Files}
use Rattle.sand_model.specs.Cursor.{Cursor}
use Rattle.sand_store.specs.Catalog.{CatalogView, StoreState}
use Rattle.statement_exec.specs.Moment.{moment_of, while_open}

-- the disk's count doesn't fall before its end where one failure at most was counted
rises : (before now damages damages' : ℕ) (fault : PageFault) → (now, damages') ≡ failures_at (before, damages) fault → now < last_count → before ≤ now
rises before now damages damages' Memory e few = let same : now ≡ before = ap (λ (n : ℕ × ℕ). n.0) e in omega (arith, same)
rises before now damages damages' Device e few = let next : now ≡ next_count before = ap (λ (n : ℕ × ℕ). n.0) e in omega (arith, next, few)
rises before now damages damages' (Damaged page kept read) e few = let same : now ≡ before = ap (λ (n : ℕ × ℕ). n.0) e in omega (arith, same)

-- what is read over a store leaves a moment that follows
pub follows_read : (old new : StoreState) (files : Option Files) (shelf : ℕ) → new.catalog ≡ old.catalog → LeavesPages old.pool new.pool
    → FollowsMoment (moment_of old files shelf) (moment_of new files shelf)
follows_read old new files shelf same left = record {
  limits = ap (λ (k : CatalogView). k.limits) same;
  told = left.told;
  files = refl;
  disk = λ few. rises old.pool.disk.faults new.pool.disk.faults old.pool.damages new.pool.damages left.counted.0 left.counted.1 few;
  shelf = λ few. omega arith;
}

-- which cursors are open is nothing of what follows
pub follows_open : (old new : StoreState) (files files' : Option Files) (shelf shelf' : ℕ) (cs cs' : List Cursor) → FollowsMoment (moment_of old files shelf) (moment_of new files' shelf')
    → FollowsMoment (while_open old files shelf cs) (while_open new files' shelf' cs')
follows_open old new files files' shelf shelf' cs cs' f = record { limits = f.limits; told = f.told; files = f.files; disk = f.disk; shelf = f.shelf }

-- a store and a shelf that didn't change have one moment
pub same_moment : (old new : StoreState) (files files' : Option Files) (shelf shelf' : ℕ) (cs : List Cursor) → new ≡ old → files' ≡ files → shelf' ≡ shelf
    → while_open new files' shelf' cs ≡ while_open old files shelf cs
same_moment old new files files' shelf shelf' cs store told count = λ i. while_open (store i) (told i) (count i) cs

-- no cursor stands where none of the model does
pub none_stand : (pool : PoolState) (items : List (OpenCursor Source Stage)) → items ≡ [] → StandOver pool items []
none_stand pool items none = subst (λ xs. StandOver pool xs []) (sym none) (refl, when_told pool (λ stamps. StandAll PlanAt stamps [] []) tt)

-- where cursors of the model stand, the open ones are standing
pub are_standing : (pool : PoolState) (items : List (OpenCursor Source Stage)) (cs : List Cursor) → AreHeld pool.stamps items → StandOver pool items cs → AreStanding pool items
are_standing pool items cs held stand = (held, go (told_stamps pool) stand.1) where
  go : (told : Option StampMap) → IfSome told (λ stamps. StandAll PlanAt stamps items cs) → IfSome told (λ stamps. (ks : List Cursor) × StandAll PlanAt stamps items ks)
  go None h = tt
  go (Some stamps) h = (cs, h)

-- after a change the open cursors stand where they stood
pub stands_after : (old new : PoolState) → new.disk.told ≡ old.disk.told → SettlesStamps old new → (items : List (OpenCursor Source Stage)) (cs : List Cursor)
    → StandOver old items cs → StandOver new items cs
stands_after old new told settles items cs stand = (stand.0, go (told_stamps old) refl stand.1) where
  P : StampMap → Type 0
  P stamps = StandAll PlanAt stamps items cs

  go : (m : Option StampMap) → told_stamps old ≡ m → IfSome m P → IfSome (told_stamps new) P
  go None is h = never_told new P (told ∙ not_told old is)
  go (Some stamps) is h =
      let t = are_told old stamps is in
      when_told new P (stand_settled PlanOver old new settles t.0 items cs (subst P (sym t.1) h))
