-- Where a cursor stands: it has given the rows of the cursor of the model, and visited what that has counted.
use Rattle.std.specs.Prelude.{◌≡◌, min, Bool, List, length}
use Rattle.sand_base.specs.Faults.{last_count}
use Rattle.page_pool.specs.Disk.{PageMap}
use Rattle.sand_model.specs.Cursor.{Cursor}
use Rattle.sand_model.specs.Operators.{PlanRow}
use Rattle.sand_model.specs.Reach.{Counts}
use Rattle.sand_model.specs.Taken.{Taken}
use Rattle.plan_iterator.specs.Needed.{AreTakenCounts, IsNeeded}
use Rattle.plan_iterator.specs.Rows.{plan_measure}
use Rattle.plan_iterator.specs.declared.stats.Stats.{Stats}
use Rattle.plan_iterator.specs.Following.{Taking, Follows, source_of}
use Rattle.plan_iterator.specs.Stages.{Standing}
use Rattle.plan_iterator.specs.declared.operator.Operator.{Operator}
use Rattle.plan_iterator.specs.declared.cursor.RowCursor.{RowCursor}

-- An operator has given as many rows as the cursor of the model, has taken of its source no more than they need, and its source has visited what the cursor counts.
pub record KeepsRows {S T : Type 0} (At : S → Taking) (Stands : T → Standing) (closed : T → Bool) (seen : S → Counts) (o : Operator S T) (pages : PageMap) (c : Cursor) : Type 0 where
  pub taken : Taken
  pub rows : List PlanRow
  pub follows : Follows At Stands closed o pages c.database c.plan taken rows
  pub given : length rows ≡ c.given
  pub needed : IsNeeded plan_measure c.database c.plan c.given taken
  pub counted : AreTakenCounts c.database c.plan c.given taken c.counts
  pub counts : seen (source_of o) ≡ c.counts

-- A cursor stands where the cursor of the model does; the number of its rows stays at the greatest value.
pub record IsAt {S T : Type 0} (At : S → Taking) (Stands : T → Standing) (closed : T → Bool) (seen : S → Counts) (cursor : RowCursor S T) (pages : PageMap) (c : Cursor) : Type 0 where
  pub keeps : KeepsRows At Stands closed seen cursor.operator pages c
  pub number : cursor.given ≡ min c.given last_count

-- the counts among the numbers of a cursor
abbrev pub counts_among : Stats → Counts
counts_among n = record { blocks = n.blocks; pairs = n.pairs; geometries = n.geometries }

-- The numbers are those of the cursor of the model; the number of rows stays at the greatest value.
pub record AreStats (c : Cursor) (numbers : Stats) : Type 0 where
  pub counts : counts_among numbers ≡ c.counts
  pub rows : numbers.rows ≡ min c.given last_count
