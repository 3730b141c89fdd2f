-- Where open cursors over plans stand over a pool: each over the pages that its stamp holds, where the disk tells them.
use Rattle.std.specs.Prelude.{◌≡◌, IfSome, List, None, Option, Some, if◌then◌else◌}
use Rattle.page_pool.specs.Pool.{PoolState, StampMap}
use Rattle.plan_ops.specs.declared.source.Source.{Source}
use Rattle.plan_ops.specs.declared.stage.Stage.{Stage}
use Rattle.sand_model.specs.Cursor.{Cursor}
use Rattle.sand_store.specs.Catalog.{StoreState}
use Rattle.statement_exec.specs.Ending.{FailsOnceAtMost}
use Rattle.open_cursors.specs.OpenCursors.{AreHeld, AreNamed, StandAll}
use Rattle.open_cursors.specs.PlanCursors.{PlanAt}
use Rattle.open_cursors.specs.declared.open_cursor.OpenCursor.{OpenCursor}

-- the maps of the held stamps, where the disk tells its pages
abbrev pub told_stamps : PoolState → Option StampMap
told_stamps pool = if pool.disk.told then Some pool.stamps else None

-- the open cursors have the names of these of the model, and where the disk tells its pages they stand where these do
abbrev pub StandOver : PoolState → List (OpenCursor Source Stage) → List Cursor → Type 0
StandOver pool items cs = AreNamed items cs × IfSome (told_stamps pool) (λ stamps. StandAll PlanAt stamps items cs)

-- their stamps are held, and they stand where some of the model do
abbrev pub AreStanding : PoolState → List (OpenCursor Source Stage) → Type 0
AreStanding pool items = AreHeld pool.stamps items × IfSome (told_stamps pool) (λ stamps. (cs : List Cursor) × StandAll PlanAt stamps items cs)

-- which maps are held, and how many images are kept, may change, and nothing else does
pub record HoldsOthers (old new : StoreState) : Type 0 where
  pub catalog : new.catalog ≡ old.catalog
  pub pool : new.pool ≡ record old.pool { stamps = new.pool.stamps; places = new.pool.places }

-- What a statement that reads leaves: the live pages, and whether the disk tells; one failure at most was counted.
pub record LeavesPages (old new : PoolState) : Type 0 where
  pub pages : new.pages ≡ old.pages
  pub told : new.disk.told ≡ old.disk.told
  pub counted : FailsOnceAtMost old new
