-- A statement that was carried out beside open cursors, with all that it prints.
use Rattle.std.specs.Prelude.{◌≡◌, ◌⊎◌, ⊤, ℕ, ◌+◌, ◌≤◌, All, Bool, List, [], ◌∷◌, Option, Some, Result, Ok}
use Rattle.page_pool.specs.Pool.{PoolState}
use Rattle.plan_iterator.specs.Standing.{counts_among}
use Rattle.plan_iterator.specs.Rows.{plan_measure}
use Rattle.plan_iterator.specs.declared.stats.Stats.{Stats as Numbers}
use Rattle.sand_base.specs.Faults.{last_count}
use Rattle.sand_base.specs.declared.refusal.Refusal.{Refusal}
use Rattle.sand_base.specs.declared.refusal.Refusal.TheVariants as why
use Rattle.sand_base.specs.declared.source.Failed.{Failed}
use Rattle.sand_model.specs.Cursor.{Cursor, OutputLine, Stats, Steps}
use Rattle.sand_model.specs.PlainLines.{IsPlainLine}
use Rattle.statements.specs.Statement.{Statement, Next}
use Rattle.sand_store.specs.Catalog.{CatalogView}
use Rattle.statements.specs.Statement as statement
use Rattle.statement_exec.specs.Causes.{AreCausedIn}
use Rattle.statement_exec.specs.Deciding.{PrintsRowsUpTo}
use Rattle.statement_exec.specs.Ending.{PagesHaveCause}
use Rattle.statement_exec.specs.Printing.{WritesOf}
use Rattle.open_cursors.specs.OpenCursors.{HaveOwnNames}
use Rattle.open_cursors.specs.Outcomes.{PerformsBeside}
use Rattle.open_cursors.specs.Steps.{GivesSteps, IsOfPages}

-- the statement changes relations
abbrev pub ChangesRelations : Statement → Type 0
ChangesRelations (statement.Create relation columns) = ⊤
ChangesRelations (statement.Insert relation values) = ⊤
ChangesRelations (statement.Delete relation id) = ⊤
ChangesRelations (statement.Load relation file header) = ⊤
ChangesRelations (statement.Index column threshold) = ⊤
ChangesRelations (statement.Rtree column) = ⊤
ChangesRelations _ = ⊥

-- no cursor has given more rows than so many
abbrev pub GaveAtMost : ℕ → List Cursor → Type 0
GaveAtMost bound [] = ⊤
GaveAtMost bound (c ∷ cs) = (c.given ≤ bound) × GaveAtMost bound cs

-- no cursor has given more rows than are counted
abbrev pub AreCounted : List Cursor → Type 0
AreCounted cs = GaveAtMost last_count cs

-- how many rows a cursor may give by the statement
abbrev pub rows_by : Statement → ℕ
rows_by (Next name count) = count
rows_by _ = 0

-- The statement was carried out beside these cursors of the model, as its outcome says, and its lines were written. The cursors behind it
-- have names of their own, they stand, and none gave more rows than the statement asks for.
pub record CarriesBeside (statement : Statement) (catalog : CatalogView) (old new : PoolState) (cs : List Cursor) (before now : List ℕ → Type 0)
    (result : Result Bool Failed) (At : List Cursor → Type 0) : Type 0 where
  pub after : List Cursor
  pub own : HaveOwnNames after
  pub at : At after
  pub given : (bound : ℕ) → GaveAtMost bound cs → GaveAtMost (bound + rows_by statement) after
  pub writes : WritesOf (PerformsBeside statement catalog old new cs after) before now result

-- the line of the numbers of a cursor
abbrev pub line_of_numbers : Numbers → OutputLine
line_of_numbers numbers = Stats (counts_among numbers) numbers.rows

-- These are the lines of the next rows of a cursor, up to a refusal of a page that has its cause, or up to one of memory.
abbrev pub RowsOf : Cursor → ℕ → PoolState → PoolState → List OutputLine → Type 0
RowsOf c count old new lines =
    (after : Cursor) × (((end : Option Refusal) × IsOfPages end × PagesHaveCause {E = Failed} old new (Ok end) × GivesSteps c count after end lines)
    ⊎ (Steps plan_measure (λ w. w ≡ why.Memory) count c lines after × All IsPlainLine lines))

-- These are lines of rows over any disk, no more than so many, up to the end or to a refusal of memory or of a page, which has its cause.
abbrev pub AreRowLines : ℕ → PoolState → PoolState → List OutputLine → Type 0
AreRowLines count old new lines = AreCausedIn old new lines × PrintsRowsUpTo (λ refusal. IsOfPages (Some refusal)) count lines
