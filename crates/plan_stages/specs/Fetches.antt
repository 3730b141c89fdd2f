-- `fetch`: rows with the values at places.
use Rattle.std.specs.Prelude.{◌≡◌, ℕ, ◌+◌, ◌*◌, Bool, List, map, All}
use Rattle.std.specs.List.{AllZip}
use Rattle.page_pool.specs.Disk.{PageMap}
use Rattle.page_pool.specs.Pool.{PoolState, IsTold}
use Rattle.sand_model.specs.Database.{Database}
use Rattle.sand_model.specs.Operators.{PlanRow, relations_of, with_fetched}
use Rattle.statements.specs.Plan as plan
use Rattle.statements.specs.Plan.{Plan}
use Rattle.statements.specs.declared.column.Place.{Place}
use Rattle.plan_names.specs.Spots.{Stands, IsSpot}
use Rattle.plan_names.specs.declared.spot.Spot.{Spot}
use Rattle.plan_stages.specs.Splits.{Splits, waiting, is_waiting, wait_count}
use Rattle.plan_stages.specs.declared.fetch.Fetch.{Fetch}

-- the places that were looked up, in their order
abbrev pub AreSpots : Database → List (List ℕ) → PageMap → List Spot → List Place → Type 0
AreSpots d names pages spots places = AllZip (λ spot place. IsSpot d names place spot pages) spots places

-- the relations of the places stand, where the pages are told
abbrev pub SpotsStand : PoolState → List Spot → Type 0
SpotsStand s spots = IsTold s → All (λ spot. Stands s.pages spot.relation.value) spots

-- a row waits
abbrev pub fetch_waits : Fetch → Bool
fetch_waits f = is_waiting f.held

-- two steps for each row, and one for one that waits
abbrev pub fetch_steps : Fetch → ℕ → ℕ
fetch_steps f n = 2 * n + wait_count f.held

-- It took these rows of the plan beneath and gave those.
pub record FetchStands (f : Fetch) (pages : PageMap) (d : Database) (p : Plan) (taken given : List PlanRow) : Type 0 where
  pub below : Plan
  pub places : List Place
  pub is : p ≡ plan.Fetch below places
  pub spots : AreSpots d (relations_of below) pages f.spots.items places
  pub splits : Splits d p taken given (map (with_fetched d (relations_of below) places) (waiting f.held))
