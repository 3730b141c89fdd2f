-- `first n`: the first rows, and then none is asked. `first 0` over a sort lets the sort take its plan, and drops the row.
use Rattle.std.specs.Prelude.{◌≡◌, ◌≢◌, ℕ, ◌+◌, ◌-◌, ◌*◌, Bool, true, false, ◌||◌, ◌&&◌, not, nat_eq, List, [], length}
use Rattle.page_pool.specs.Disk.{PageMap}
use Rattle.sand_model.specs.Database.{Database}
use Rattle.sand_model.specs.Operators.{PlanRow}
use Rattle.statements.specs.Plan as plan
use Rattle.statements.specs.Plan.{Plan}
use Rattle.sand_model.specs.Taken.{is_lazy}
use Rattle.plan_stages.specs.Splits.{Splits, waiting, is_waiting, wait_count}
use Rattle.plan_stages.specs.declared.first.First.{First}

-- it has its rows, or a row waits
abbrev pub first_waits : First → Bool
first_waits f = is_waiting f.held || (nat_eq f.left 0 && not f.opens)

-- two steps for each row, and one for one that waits
abbrev pub first_steps : First → ℕ → ℕ
first_steps f n = 2 * n + wait_count f.held

-- It took these rows of the plan beneath and gave those.
pub record FirstStands (f : First) (pages : PageMap) (d : Database) (p : Plan) (taken given : List PlanRow) : Type 0 where
  pub count : ℕ
  pub below : Plan
  pub is : p ≡ plan.First count below
  pub splits : Splits d p taken given (waiting f.held)
  pub left : f.left ≡ count - length taken
  pub opens : f.opens ≡ true → is_lazy below ≡ false
  pub begun : f.opens ≡ false → is_lazy below ≡ false → count ≡ 0 → taken ≢ []
