-- `sort by`: rows by the numbers at a place.
use Rattle.std.specs.Prelude.{◌≡◌, ℕ, ℤ, List}
use Rattle.page_pool.specs.Disk.{PageMap}
use Rattle.sand_model.specs.Database.{Database}
use Rattle.sand_model.specs.Operators.{PlanRow, relations_of, number_at}
use Rattle.statements.specs.Plan as plan
use Rattle.statements.specs.Plan.{Plan}
use Rattle.statements.specs.declared.column.Place.{Place}
use Rattle.plan_names.specs.Spots.{IsSpot}
use Rattle.plan_stages.specs.Keyed.{keyed_row}
use Rattle.plan_stages.specs.declared.keyed.Keyed.{Keyed}
use Rattle.plan_stages.specs.Sorting.{Sorts}
use Rattle.plan_stages.specs.declared.sort_by.SortBy.{SortBy}

-- the key is the number at the place of the row
abbrev pub HasNumber : Database → List (List ℕ) → Place → Keyed ℤ → Type 0
HasNumber d names place k = k.key ≡ number_at d names place (keyed_row k)

-- It took these rows of the plan beneath and gave those.
pub record SortByStands (s : SortBy) (pages : PageMap) (d : Database) (p : Plan) (taken given : List PlanRow) : Type 0 where
  pub below : Plan
  pub place : Place
  pub is : p ≡ plan.SortBy below place
  pub at : IsSpot d (relations_of below) place s.spot pages
  pub sorts : Sorts s.closed (HasNumber d (relations_of below) place) keyed_row d p s.held s.rows taken given
