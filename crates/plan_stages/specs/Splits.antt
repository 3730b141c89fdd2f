-- What a stage that is no sort gave, and what is still to come of the rows that it took.
use Rattle.std.specs.Prelude.{◌≡◌, ℕ, Bool, true, false, List, [], ◌∷◌, ◌++◌, Option, Some, None}
use Rattle.sand_model.specs.Database.{Database}
use Rattle.sand_model.specs.Operators.{PlanRow}
use Rattle.statements.specs.Plan.{Plan}
use Rattle.plan_iterator.specs.Rows.{row_of}
use Rattle.plan_iterator.specs.declared.answer.Answer.{Answer}
use Rattle.plan_iterator.specs.Outermost.{is_source, is_sort, made}

-- the row that waits
abbrev pub waiting : Option Answer → List PlanRow
waiting (Some a) = row_of a ∷ []
waiting None = []

-- some row waits
abbrev pub is_waiting : Option Answer → Bool
is_waiting (Some a) = true
is_waiting None = false

-- how many rows wait
abbrev pub wait_count : Option Answer → ℕ
wait_count (Some a) = 1
wait_count None = 0

-- The outermost operator is no sort, and what it makes of the rows that were taken was given or is still to come.
pub record Splits (d : Database) (p : Plan) (taken given to_come : List PlanRow) : Type 0 where
  pub operator : is_source p ≡ false
  pub plain : is_sort p ≡ false
  pub split : made d p taken ≡ given ++ to_come
