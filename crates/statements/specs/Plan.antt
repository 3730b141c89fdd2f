-- Plans as trees without pointers: what contracts see of a plan.
use Rattle.std.specs.Prelude.{ℕ, ◌+◌, ℤ, List, Option}
use Rattle.sand_base.specs.declared.rect.Rect.{Rect}
use Rattle.sand_base.specs.declared.shape.Shape.{Shape}
use Rattle.sand_base.specs.declared.value.Value.{Value}
use Rattle.statements.specs.declared.column.Column.{Column}
use Rattle.statements.specs.declared.column.Place.{Place}
use Rattle.statements.specs.declared.plan.Plan as declared
use Rattle.statements.specs.declared.plan.Plan.TheVariants as plan
use Rattle.statements.specs.declared.test.Test.{Test}

-- A plan: the sources `Scan` to `Knn`, and the operators `Filter` to `SortNear` over a plan.
pub data Plan : Type 0 where
  Scan : List ℕ → Plan
  Rank : Column → Shape → Option ℕ → Plan
  Near : Column → Shape → Option ℕ → Plan
  Window : Column → Rect → Plan
  PickEqual : Column → Value → Plan
  PickBetween : Column → ℤ → ℤ → Plan
  Join : Column → Column → Option ℕ → Plan
  Semi : Column → Column → Option ℕ → Plan
  Knn : ℕ → Column → Column → Option ℕ → Plan
  Filter : Plan → List Test → Plan
  Match : Plan → Place → Column → Plan
  Fetch : Plan → List Place → Plan
  First : ℕ → Plan → Plan
  SortBy : Plan → Place → Plan
  SortNear : Plan → Place → Shape → Plan

-- the tree of a plan
abbrev pub plan_value : declared.Plan → Plan
plan_value (plan.Scan relation) = Scan relation
plan_value (plan.Rank column goal within) = Rank column goal within
plan_value (plan.Near column goal within) = Near column goal within
plan_value (plan.Window column window) = Window column window
plan_value (plan.PickEqual column value) = PickEqual column value
plan_value (plan.PickBetween column low high) = PickBetween column low high
plan_value (plan.Join left right within) = Join left right within
plan_value (plan.Semi left right within) = Semi left right within
plan_value (plan.Knn k left right within) = Knn k left right within
plan_value (plan.Filter' pointer inner tests) = Filter (plan_value inner) tests
plan_value (plan.Match' pointer inner place column) = Match (plan_value inner) place column
plan_value (plan.Fetch' pointer inner places) = Fetch (plan_value inner) places
plan_value (plan.First' count pointer inner) = First count (plan_value inner)
plan_value (plan.SortBy' pointer inner place) = SortBy (plan_value inner) place
plan_value (plan.SortNear' pointer inner place goal) = SortNear (plan_value inner) place goal

-- how many operators a plan has, its source included
abbrev pub depth : Plan → ℕ
depth (Filter inner tests) = 1 + depth inner
depth (Match inner place column) = 1 + depth inner
depth (Fetch inner places) = 1 + depth inner
depth (First count inner) = 1 + depth inner
depth (SortBy inner place) = 1 + depth inner
depth (SortNear inner place goal) = 1 + depth inner
depth leaf = 1
