-- What a statement does beside open cursors, as the outcome of the model, in the settings in which gaps are in lowest terms.
use Rattle.std.specs.Prelude.{◌≡◌, ℕ, ◌<◌, IsTrue, List, Option}
use Rattle.page_pool.specs.Pool.{PoolState}
use Rattle.plan_iterator.specs.Rows.{plan_measure}
use Rattle.sand_base.specs.Faults.{last_count}
use Rattle.sand_base.specs.Shelf.{Files}
use Rattle.sand_model.specs.Cursor.{Cursor, OutputLine}
use Rattle.sand_model.specs.Outcome.{Outcome}
use Rattle.statements.specs.Statement.{Statement}
use Rattle.sand_model.specs.StatementChecks.{Setting}
use Rattle.sand_store.specs.Catalog.{CatalogView}
use Rattle.statement_exec.specs.Moment.{Moment, beside, rises_between, IsSettingOf}
use Rattle.statement_exec.specs.Performing.{PerformsAnywhere}

-- the statement led from one moment to another and gave these lines, over any disk, and as the outcome of the model says
abbrev pub PerformsLowest : Statement → Moment → Moment → List OutputLine → Type 0
PerformsLowest statement old new lines =
    PerformsAnywhere statement old new lines × (IsTrue old.told → new.disk < last_count → new.shelf < last_count → (setting : Setting) → setting.gap ≡ plan_measure → IsSettingOf old setting
    → Outcome setting (rises_between old new) old.state statement lines new.state)

-- beside these cursors over a catalog, which became those, whatever the shelf
abbrev pub PerformsBeside : Statement → CatalogView → PoolState → PoolState → List Cursor → List Cursor → List OutputLine → Type 0
PerformsBeside statement catalog old new cs cs' lines =
    (files : Option Files) (shelf : ℕ) → PerformsLowest statement (beside cs catalog old files shelf) (beside cs' catalog new files shelf) lines
