-- `filter`: the rows that pass all tests.
use Rattle.std.specs.Prelude.{◌≡◌, ℕ, ◌+◌, ◌*◌, Bool, List}
use Rattle.page_pool.specs.Disk.{PageMap}
use Rattle.sand_model.specs.Database.{Database}
use Rattle.sand_model.specs.Operators.{PlanRow, relations_of, passes_all}
use Rattle.statements.specs.Plan as plan
use Rattle.statements.specs.Plan.{Plan}
use Rattle.statements.specs.declared.test.Test.{Test}
use Rattle.std.specs.Prelude.{filter}
use Rattle.plan_stages.specs.Splits.{Splits, waiting, is_waiting, wait_count}
use Rattle.plan_stages.specs.Tests.{AreTests}
use Rattle.plan_stages.specs.declared.filter.Filter.{Filter}

-- a row waits
abbrev pub filter_waits : Filter → Bool
filter_waits f = is_waiting f.held

-- two steps for each row, and one for one that waits
abbrev pub filter_steps : Filter → ℕ → ℕ
filter_steps f n = 2 * n + wait_count f.held

-- It took these rows of the plan beneath and gave those.
pub record FilterStands (f : Filter) (pages : PageMap) (d : Database) (p : Plan) (taken given : List PlanRow) : Type 0 where
  pub below : Plan
  pub asked : List Test
  pub is : p ≡ plan.Filter below asked
  pub tests : AreTests d (relations_of below) pages f.tests.items asked
  pub splits : Splits d p taken given (filter (passes_all d (relations_of below) asked) (waiting f.held))
