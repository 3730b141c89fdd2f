-- Cursors over plans: where they stand, and what becomes of the open ones where one more is opened.
use Rattle.std.specs.Prelude.{◌≡◌, ◌⊎◌, ℕ, List, [], ◌∷◌, ◌++◌, Option, Some, None, Result, Ok, Err}
use Rattle.page_pool.specs.Disk.{PageMap}
use Rattle.plan_iterator.specs.Standing.{IsAt}
use Rattle.plan_ops.specs.Sources.{source_at, source_seen}
use Rattle.plan_ops.specs.Stages.{StageStands, is_closed}
use Rattle.plan_ops.specs.declared.source.Source.{Source}
use Rattle.plan_ops.specs.declared.stage.Stage.{Stage}
use Rattle.plan_iterator.specs.Rows.{counts_of}
use Rattle.sand_base.specs.declared.refusal.Refusal.{Refusal}
use Rattle.sand_base.specs.declared.refusal.Refusal.TheVariants as why
use Rattle.sand_model.specs.Cursor.{Cursor, new_cursor}
use Rattle.statements.specs.Plan.{Plan}
use Rattle.statements.specs.Statement.{OpenCursor as Opens}
use Rattle.sand_model.specs.StatementChecks.{Setting, early}
use Rattle.sand_store.specs.Catalog.{CatalogView}
use Rattle.sand_store.specs.Contents.{database_in}
use Rattle.statement_exec.specs.LeafLines.{state_beside}
use Rattle.open_cursors.specs.OpenCursors.{AtStamp, OverPages, Places}

-- where a cursor over a plan stands over pages, as one of the model
abbrev pub PlanOver : OverPages Source Stage
PlanOver r = IsAt source_at StageStands is_closed (λ s. counts_of (source_seen s)) r

-- where an open one stands, over the pages that its stamp holds
abbrev pub PlanAt : Places Source Stage
PlanAt = AtStamp PlanOver

-- whatever the setting, the first check of an opening that fails gives this; None where none fails
abbrev pub ChecksGive : CatalogView → PageMap → List Cursor → List ℕ → Plan → Option Refusal → Type 0
ChecksGive catalog pages cs name p end =
    (setting : Setting) → early setting (state_beside catalog pages cs) (Opens name p) ≡ end

-- no check of an opening fails; or one does, or memory
abbrev pub ChecksOf : {T : Type 0} → CatalogView → PageMap → List Cursor → List ℕ → Plan → Result T Refusal → Type 0
ChecksOf catalog pages cs name p (Ok x) = ChecksGive catalog pages cs name p None
ChecksOf catalog pages cs name p (Err w) = (w ≡ why.Memory) ⊎ ChecksGive catalog pages cs name p (Some w)

-- a cursor is opened over a plan: no check fails, and it is behind the others; or a check fails or memory does, and they are as they were
abbrev pub OpensOf : CatalogView → PageMap → List Cursor → List ℕ → Plan → Result (Unit {0}) Refusal → (List Cursor → Type 0) → Type 0
OpensOf catalog pages cs name p (Ok x) At =
    ChecksGive catalog pages cs name p None × At (cs ++ new_cursor name p (database_in pages catalog.relations) ∷ [])
OpensOf catalog pages cs name p (Err w) At = ((w ≡ why.Memory) ⊎ ChecksGive catalog pages cs name p (Some w)) × At cs
