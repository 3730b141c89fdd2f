-- What steps pay: page gets are paid by the visits that were noted, by the steps of the source, and by the rows that stages handled.
use Rattle.std.specs.Prelude.{◌≡◌, ℕ, ◌+◌, ◌*◌, ◌≤◌, Bool, false, cond, ◌||◌, List, [], ◌∷◌, sum_by, Result, Ok, Err}
use Rattle.sand_base.specs.declared.visit.Visit.{Visit}
use Rattle.page_pool.specs.Desk.{DeskState}
use Rattle.page_pool.specs.Disk.{PageMap}
use Rattle.page_pool.specs.declared.fault.PageFault.{PageFault}
use Rattle.sand_model.specs.Database.{Database}
use Rattle.sand_model.specs.Operators.{PlanRow}
use Rattle.statements.specs.Plan.{Plan}
use Rattle.sand_model.specs.Reach.{Counts}
use Rattle.sand_model.specs.Taken.{Taken}
use Rattle.plan_iterator.specs.Prices.{Heights, visit_price}
use Rattle.plan_iterator.specs.Following.{Taking, Follows, source_of}
use Rattle.plan_iterator.specs.Outermost.{inner}
use Rattle.plan_iterator.specs.Stages.{Standing}
use Rattle.plan_iterator.specs.Steps.{GoesStep}
use Rattle.plan_iterator.specs.declared.operator.Operator.{Operator, Source, Over'}
use Rattle.plan_iterator.specs.declared.step.Step.{Step}
use Rattle.plan_iterator.specs.declared.step.Step.TheVariants.{Row, Pass, End}

-- What sources and stages cost in page gets: the heights of the B-trees by which a visit is paid, a step of a source, the entries of an
-- index that it has still to pass, a row that a stage handles, and what is still to be done for the row that it holds.
pub record Prices (S T : Type 0) : Type 0 where
  pub heights : S → Heights
  pub step : S → ℕ
  pub entries : S → PageMap → ℕ
  pub row : T → PageMap → Database → Plan → PlanRow → ℕ
  pub held : T → PageMap → Database → Plan → ℕ

-- these prices of sources and stages
abbrev pub prices : {S T : Type 0} → (S → Heights) → (S → ℕ) → (S → PageMap → ℕ) → (T → PageMap → Database → Plan → PlanRow → ℕ) → (T → PageMap → Database → Plan → ℕ) → Prices S T
prices heights step entries row held = record { heights = heights; step = step; entries = entries; row = row; held = held }

-- ---- what is left to pay

-- a sort has taken its plan whole, so the source is asked no more
abbrev pub is_shut : {S T : Type 0} → (T → Bool) → Operator S T → Bool
is_shut closed (Source s) = false
is_shut closed (Over' stage pointer below) = closed stage || is_shut closed below

-- what is still to be done for the rows that stages hold, and the entries that the source has still to pass
abbrev pub owed_by : {S T : Type 0} → Prices S T → Operator S T → PageMap → Database → Plan → ℕ
owed_by q (Source s) pages d p = q.entries s pages
owed_by q (Over' stage pointer below) pages d p = q.held stage pages d p + owed_by q below pages d (inner p)

-- what is left to pay before a step: this, and one step of a source that may still be asked
abbrev pub left_of : {S T : Type 0} → (T → Bool) → Prices S T → Operator S T → PageMap → Database → Plan → ℕ
left_of closed q o pages d p = owed_by q o pages d p + cond (is_shut closed o) 0 (q.step (source_of o))

-- what is left to pay after a step: at the end no step of the source, and after a refusal nothing
abbrev pub left_after : {S T : Type 0} → (T → Bool) → Prices S T → Operator S T → PageMap → Database → Plan → Result Step PageFault → ℕ
left_after closed q o pages d p (Ok (Row a)) = left_of closed q o pages d p
left_after closed q o pages d p (Ok Pass) = left_of closed q o pages d p
left_after closed q o pages d p (Ok End) = owed_by q o pages d p
left_after closed q o pages d p (Err fault) = 0

-- ---- what was paid for

-- the price of the rows that stages handled: of all that each of them took
abbrev pub handled : {S T : Type 0} (At : S → Taking) (Stands : T → Standing) (closed : T → Bool) (q : Prices S T) (o : Operator S T)
    → (pages : PageMap) (d : Database) (p : Plan) (t : Taken) (given : List PlanRow) → Follows At Stands closed o pages d p t given → ℕ
handled At Stands closed q (Source s) pages d p t given f = 0
handled At Stands closed q (Over' stage pointer below) pages d p t given f =
    sum_by (q.row stage pages d p) f.taken + handled At Stands closed q below pages d (inner p) t f.taken f.beneath

-- the price of these visits, of the steps of the source that gave a row, and of the rows that stages handled
abbrev pub paid : {S T : Type 0} (At : S → Taking) (Stands : T → Standing) (closed : T → Bool) (q : Prices S T) (o : Operator S T)
    → (pages : PageMap) (d : Database) (p : Plan) (t : Taken) (given : List PlanRow) → Follows At Stands closed o pages d p t given → List Visit → ℕ
paid At Stands closed q o pages d p t given f visits =
    sum_by (visit_price (q.heights (source_of o)) d p) visits + q.step (source_of o) * t.rows + handled At Stands closed q o pages d p t given f

-- ---- a step

-- the prices of rows of all stages, the outermost one first
abbrev pub row_prices : {S T : Type 0} → Prices S T → Operator S T → List (PageMap → Database → Plan → PlanRow → ℕ)
row_prices q (Source s) = []
row_prices q (Over' stage pointer below) = q.row stage ∷ row_prices q below

-- Visits, steps of the source and rows cost the same after a step.
pub record HasSamePrices {S T : Type 0} (q : Prices S T) (o o' : Operator S T) : Type 0 where
  pub heights : q.heights (source_of o') ≡ q.heights (source_of o)
  pub step : q.step (source_of o') ≡ q.step (source_of o)
  pub rows : row_prices q o' ≡ row_prices q o

-- A step after which so much was taken and these rows were given. Its page gets, with what is left to pay after it, are at most what was
-- left to pay before it and the price of what it noted, asked and handled.
pub record IsPaid {S T : Type 0} (At : S → Taking) (Stands : T → Standing) (closed : T → Bool) (q : Prices S T) (o o' : Operator S T) (pages : PageMap) (d : Database) (p : Plan)
    (t : Taken) (given : List PlanRow) (f : Follows At Stands closed o pages d p t given) (old new : DeskState) (result : Result Step PageFault) (after : Taken) (rows : List PlanRow) : Type 0 where
  pub follows : Follows At Stands closed o' pages d p after rows
  pub same : HasSamePrices q o o'
  pub most : new.pool.gets + left_after closed q o' pages d p result + paid At Stands closed q o pages d p t given f old.visits
      ≤ old.pool.gets + left_of closed q o pages d p + paid At Stands closed q o' pages d p after rows follows new.visits

-- whatever of whatever plan the operator took and gave: the step gives what the model does, and is paid
abbrev pub GoesPaid : {S T : Type 0} → (S → Taking) → (T → Standing) → (T → Bool) → Prices S T → (S → Counts) → Operator S T → Operator S T → DeskState → DeskState
    → Result Step PageFault → PageMap → Type 0
GoesPaid At Stands closed q seen o o' old new result pages =
    (d : Database) (p : Plan) (t : Taken) (given : List PlanRow) (f : Follows At Stands closed o pages d p t given)
    → GoesStep pages d p t given (seen (source_of o)) (seen (source_of o')) old new result (IsPaid At Stands closed q o o' pages d p t given f old new result)
