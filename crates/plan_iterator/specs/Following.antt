-- An operator over others over a source: what each took and gave, and how many steps are left.
use Rattle.std.specs.Prelude.{◌≡◌, ℕ, ◌≤◌, Bool, true, List, length, take}
use Rattle.page_pool.specs.Disk.{PageMap}
use Rattle.sand_model.specs.Database.{Database}
use Rattle.sand_model.specs.Operators.{PlanRow}
use Rattle.statements.specs.Plan.{Plan}
use Rattle.sand_model.specs.Taken.{Taken, beneath_sort}
use Rattle.plan_iterator.specs.Outermost.{inner, is_source, source_rows}
use Rattle.plan_iterator.specs.Stages.{Standing}
use Rattle.plan_iterator.specs.Steps.{IsSpent}
use Rattle.plan_iterator.specs.declared.operator.Operator.{Operator, Source, Over'}

-- what was taken of a source: a fact for the pages, the database and the plan
abbrev pub Taking : Type 1
Taking = PageMap → Database → Plan → Taken → Type 0

-- The source beneath all operators gave the rows that were taken.
pub record IsSource (d : Database) (p : Plan) (t : Taken) (given : List PlanRow) (at : Type 0) : Type 0 where
  pub plain : is_source p ≡ true
  pub stands : at
  pub few : t.rows ≤ length (source_rows d p)
  pub rows : given ≡ take t.rows (source_rows d p)

-- A stage took what the operator beneath it gave. One that is closed left nothing to take of the source.
pub record IsOver (d : Database) (p : Plan) (t : Taken) (given : List PlanRow) (closed : Bool) (Beneath : List PlanRow → Type 0) (Stands : List PlanRow → List PlanRow → Type 0) : Type 0 where
  pub taken : List PlanRow
  pub beneath : Beneath taken
  pub stands : Stands taken given
  pub spent : closed ≡ true → IsSpent d (beneath_sort (inner p)) t

-- the operator gave these rows of the plan, where so much of its source was taken
abbrev pub Follows : {S T : Type 0} → (S → Taking) → (T → Standing) → (T → Bool) → Operator S T → PageMap → Database → Plan → Taken → List PlanRow → Type 0
Follows At Stands closed (Source s) pages d p t given = IsSource d p t given (At s pages d p t)
Follows At Stands closed (Over' stage pointer below) pages d p t given =
    IsOver d p t given (closed stage) (Follows At Stands closed below pages d (inner p) t) (Stands stage pages d p)

-- the source at the innermost place
abbrev pub source_of : {S T : Type 0} → Operator S T → S
source_of (Source s) = s
source_of (Over' stage pointer below) = source_of below

-- how many steps may still be made
abbrev pub steps_of : {S T : Type 0} → (S → ℕ) → (T → ℕ → ℕ) → Operator S T → ℕ
steps_of source_steps stage_steps (Source s) = source_steps s
steps_of source_steps stage_steps (Over' stage pointer below) = stage_steps stage (steps_of source_steps stage_steps below)
