-- `sort near`: rows by the gaps of the shapes at a place from a goal.
use Rattle.std.specs.Prelude.{◌≡◌, ℕ, List, Option}
use Rattle.exact_frac.specs.declared.frac.Frac.{Frac}
use Rattle.sand_base.specs.Plane.{IsShapeInPlane}
use Rattle.sand_base.specs.declared.shape.Shape.{Shape}
use Rattle.page_pool.specs.Disk.{PageMap}
use Rattle.sand_model.specs.Database.{Database}
use Rattle.sand_model.specs.Operators.{PlanRow, relations_of, with_gap}
use Rattle.statements.specs.Plan as plan
use Rattle.statements.specs.Plan.{Plan}
use Rattle.statements.specs.declared.column.Place.{Place}
use Rattle.plan_names.specs.Spots.{IsSpot}
use Rattle.plan_iterator.specs.Rows.{plan_measure}
use Rattle.plan_stages.specs.Keyed.{keyed_row, gapped_row}
use Rattle.plan_stages.specs.declared.keyed.Keyed.{Keyed}
use Rattle.plan_stages.specs.Sorting.{Sorts}
use Rattle.plan_stages.specs.declared.sort_near.SortNear.{SortNear}

-- the key is the gap of the shape at the place of the row from the goal
abbrev pub HasGapKey : Database → List (List ℕ) → Place → Shape → Keyed (Option Frac) → Type 0
HasGapKey d names place goal k = gapped_row k ≡ with_gap plan_measure d names place goal (keyed_row k)

-- It took these rows of the plan beneath and gave those.
pub record SortNearStands (s : SortNear) (pages : PageMap) (d : Database) (p : Plan) (taken given : List PlanRow) : Type 0 where
  pub below : Plan
  pub place : Place
  pub is : p ≡ plan.SortNear below place s.goal
  pub at : IsSpot d (relations_of below) place s.spot pages
  pub inside : IsShapeInPlane s.goal
  pub sorts : Sorts s.closed (HasGapKey d (relations_of below) place s.goal) gapped_row d p s.held s.rows taken given
