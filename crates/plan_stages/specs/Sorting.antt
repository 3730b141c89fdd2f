-- What a sort took of the rows beneath it, and what is still to come of them.
use Rattle.std.specs.Prelude.{◌≡◌, ℕ, ◌+◌, ◌*◌, Bool, true, false, ◌||◌, List, [], ◌∷◌, ◌++◌, length, map, All, Option, Some, None}
use Rattle.sand_model.specs.Database.{Database}
use Rattle.sand_model.specs.Operators.{PlanRow}
use Rattle.statements.specs.Plan.{Plan}
use Rattle.plan_iterator.specs.Rows.{row_of}
use Rattle.plan_iterator.specs.declared.answer.Answer.{Answer}
use Rattle.plan_stages.specs.Keyed.{keyed_row}
use Rattle.plan_stages.specs.declared.keyed.Keyed.{Keyed}
use Rattle.plan_iterator.specs.Outermost.{made, beneath}

-- the row that waits for its key
abbrev pub waiting : Option Answer → List PlanRow
waiting (Some a) = row_of a ∷ []
waiting None = []

-- some row waits
abbrev pub is_waiting : Option Answer → Bool
is_waiting (Some a) = true
is_waiting None = false

-- how many rows wait
abbrev pub wait_count : Option Answer → ℕ
wait_count (Some a) = 1
wait_count None = 0

-- one where the end was not yet taken
abbrev pub open_count : Bool → ℕ
open_count true = 0
open_count false = 1

-- a key is to be read, or rows are given
abbrev pub sort_waits : Option Answer → Bool → Bool
sort_waits held closed = is_waiting held || closed

-- for each row a step that takes it, one that reads its key, and one that gives it; and one for the end
abbrev pub sort_steps : {K : Type 0} → Option Answer → List (Keyed K) → Bool → ℕ → ℕ
sort_steps held kept closed n = 3 * n + 2 * wait_count held + length kept + open_count closed

-- Before the end: nothing was given, and the rows that were taken are kept with their keys, and behind them the one that waits.
pub record IsTaking {K : Type 0} (HasKey : Keyed K → Type 0) (held : Option Answer) (kept : List (Keyed K)) (taken given : List PlanRow) : Type 0 where
  pub unbegun : given ≡ []
  pub rows : taken ≡ map keyed_row kept ++ waiting held
  pub keys : All HasKey kept

-- After it: all rows beneath were taken, and what is made of them was given or is still kept.
pub record IsGiving {K : Type 0} (row : Keyed K → PlanRow) (d : Database) (p : Plan) (held : Option Answer) (kept : List (Keyed K)) (taken given : List PlanRow) : Type 0 where
  pub free : held ≡ None
  pub whole : taken ≡ beneath d p
  pub split : made d p taken ≡ given ++ map row kept

-- what a sort took, and what is still to come of it
abbrev pub Sorts : {K : Type 0} → Bool → (Keyed K → Type 0) → (Keyed K → PlanRow) → Database → Plan → Option Answer → List (Keyed K) → List PlanRow → List PlanRow → Type 0
Sorts false HasKey row d p held kept taken given = IsTaking HasKey held kept taken given
Sorts true HasKey row d p held kept taken given = IsGiving row d p held kept taken given
