-- Laws of a stage that is no sort, with their proofs.
use Rattle.std.proofs.Common.{◌≡◌, ℕ, ◌+◌, ◌*◌, ◌<◌, true, false, true≢false, List, sym, ◌∙◌, arith}
use Rattle.sand_model.specs.Database.{Database}
use Rattle.sand_model.specs.Operators.{PlanRow}
use Rattle.statements.specs.Plan.{Plan}
use Rattle.plan_iterator.specs.Outermost.{is_sort, made, BeginsRows}
use Rattle.plan_iterator.proofs.Levels.{made_front, begins_through}
use Rattle.plan_stages.specs.Splits.{Splits}

-- what was given begins all that is made
pub front_of : (d : Database) (p : Plan) (taken given rest all : List PlanRow) → Splits d p taken given rest → BeginsRows taken all → BeginsRows given (made d p all)
front_of d p taken given rest all s b =
    begins_through given (made d p taken) (made d p all) (record { rest = rest; split = s.split }) (made_front d p taken all s.plain b)

-- it is no sort
pub late_of : (d : Database) (p : Plan) (taken given rest : List PlanRow) (X : Type 0) → Splits d p taken given rest → is_sort p ≡ true → X
late_of d p taken given rest X s e = absurd (true≢false (sym e ∙ s.plain))

-- nothing closes
pub open_of : (X : Type 0) → false ≡ true → X
open_of X e = absurd (true≢false (sym e))

-- two steps for each row
pub rises_of : (wait m n : ℕ) → m < n → 2 * m + wait < 2 * n + wait
rises_of wait m n h = omega arith
