-- Stages: what one operator does with the rows beneath it, whatever is beneath.
use Rattle.std.specs.Prelude.{◌≡◌, ◌≢◌, ◌⊎◌, ℕ, ◌<◌, Bool, true, false, List, [], Result}
use Rattle.page_pool.specs.Disk.{PageMap}
use Rattle.page_pool.specs.declared.fault.PageFault.{PageFault}
use Rattle.sand_model.specs.Database.{Database}
use Rattle.sand_model.specs.Operators.{PlanRow}
use Rattle.statements.specs.Plan.{Plan}
use Rattle.sand_model.specs.Taken.{is_lazy}
use Rattle.plan_iterator.specs.Outermost.{is_source, is_sort, made, is_filled, beneath, BeginsRows}
use Rattle.plan_iterator.specs.Steps.{given_after, AtEnd}
use Rattle.plan_iterator.specs.declared.step.Step.{Step}

-- what a stage was given and what it gave: a fact for the pages, the database, the plan whose outermost operator it is, and the two lists of rows
abbrev pub Standing : Type 1
Standing = PageMap → Database → Plan → List PlanRow → List PlanRow → Type 0

-- Nothing more comes, whatever rows may follow beneath: a `first n` has its rows, of which over a sort one at least was taken, or a sort has given all.
pub record IsFilled (p : Plan) (taken : List PlanRow) : Type 0 where
  pub full : is_filled p taken ≡ true
  pub begun : is_lazy p ≡ false → taken ≢ []

-- A stage that has work of its own does some. Where it ends, all rows were given.
pub record Works (d : Database) (p : Plan) (taken given : List PlanRow) (closed : Bool) (result : Result Step PageFault) (After : List PlanRow → Type 0) : Type 0 where
  pub stands : After (given_after given result)
  pub whole : AtEnd result (BeginsRows taken (beneath d p) → given ≡ made d p (beneath d p))
  pub full : AtEnd result (IsFilled p taken ⊎ (closed ≡ true))

-- The rows beneath have come to their end. At the end all rows were given.
pub record Finishes (d : Database) (p : Plan) (given : List PlanRow) (result : Result Step PageFault) (After : List PlanRow → Type 0) : Type 0 where
  pub stands : After (given_after given result)
  pub whole : AtEnd result (given ≡ made d p (beneath d p))

-- a stage stands for an operator
abbrev pub IsOutermost : {S : Type 0} → (S → Standing) → Type 0
IsOutermost {S} Stands = (s : S) (pages : PageMap) (d : Database) (p : Plan) (taken given : List PlanRow) → Stands s pages d p taken given → is_source p ≡ false

-- what was given begins what the operator makes of all rows beneath, and of some where they begin with those that it took
abbrev pub GivesFront : {S : Type 0} → (S → Standing) → Type 0
GivesFront {S} Stands =
    (s : S) (pages : PageMap) (d : Database) (p : Plan) (taken given all : List PlanRow) → Stands s pages d p taken given
    → BeginsRows taken all → BeginsRows all (beneath d p) → BeginsRows given (made d p all)

-- a sort that isn't closed gave nothing
abbrev pub OpensLate : {S : Type 0} → (S → Standing) → (S → Bool) → Type 0
OpensLate {S} Stands closed =
    (s : S) (pages : PageMap) (d : Database) (p : Plan) (taken given : List PlanRow) → Stands s pages d p taken given
    → is_sort p ≡ true → (given ≡ []) ⊎ (closed s ≡ true)

-- a closed stage has work of its own
abbrev pub ClosedWaits : {S : Type 0} → (S → Bool) → (S → Bool) → Type 0
ClosedWaits {S} closed waits = (s : S) → closed s ≡ true → waits s ≡ true

-- more steps beneath are more steps
abbrev pub RisesWithSteps : {S : Type 0} → (S → ℕ → ℕ) → Type 0
RisesWithSteps {S} steps = (s : S) (m n : ℕ) → m < n → steps s m < steps s n

-- Where nothing waits and the plan has no sort, all that comes of the rows taken was given, and no `first n` has its rows.
pub record IsDry (d : Database) (p : Plan) (taken given : List PlanRow) : Type 0 where
  pub given_all : made d p taken ≡ given
  pub open_ : is_filled p taken ≡ false
