-- A stage of any kind: what holds of the stage that it is.
use Rattle.std.specs.Prelude.{ℕ, Bool, false, List}
use Rattle.page_pool.specs.Disk.{PageMap}
use Rattle.sand_model.specs.Database.{Database}
use Rattle.sand_model.specs.Operators.{PlanRow}
use Rattle.statements.specs.Plan.{Plan}
use Rattle.plan_stages.specs.Fetches.{FetchStands, fetch_waits, fetch_steps}
use Rattle.plan_stages.specs.Filters.{FilterStands, filter_waits, filter_steps}
use Rattle.plan_stages.specs.Firsts.{FirstStands, first_waits, first_steps}
use Rattle.plan_stages.specs.Matches.{MatchStands, match_waits, match_steps}
use Rattle.plan_stages.specs.MatchPrices.{match_row_price, match_owed}
use Rattle.plan_stages.specs.Prices.{tests_price, spots_price, if_waiting as filter_waiting}
use Rattle.plan_stages.specs.Gaps.{SortNearStands}
use Rattle.plan_stages.specs.Numbers.{SortByStands}
use Rattle.plan_stages.specs.SortPrices.{key_price, if_waiting as sort_waiting}
use Rattle.plan_stages.specs.Sorting.{sort_waits, sort_steps}
use Rattle.plan_ops.specs.declared.stage.Stage.{Stage}
use Rattle.plan_ops.specs.declared.stage.Stage.TheVariants as stage

-- what it took and gave
abbrev pub StageStands : Stage → PageMap → Database → Plan → List PlanRow → List PlanRow → Type 0
StageStands (stage.First s) = FirstStands s
StageStands (stage.Filter s) = FilterStands s
StageStands (stage.Fetch s) = FetchStands s
StageStands (stage.Match s) = MatchStands s
StageStands (stage.SortBy s) = SortByStands s
StageStands (stage.SortNear s) = SortNearStands s

-- it has work of its own
abbrev pub stage_waits : Stage → Bool
stage_waits (stage.First s) = first_waits s
stage_waits (stage.Filter s) = filter_waits s
stage_waits (stage.Fetch s) = fetch_waits s
stage_waits (stage.Match s) = match_waits s
stage_waits (stage.SortBy s) = sort_waits s.held s.closed
stage_waits (stage.SortNear s) = sort_waits s.held s.closed

-- it is a sort that has taken its plan whole
abbrev pub is_closed : Stage → Bool
is_closed (stage.SortBy s) = s.closed
is_closed (stage.SortNear s) = s.closed
is_closed _ = false

-- how many steps may still be made
abbrev pub stage_steps : Stage → ℕ → ℕ
stage_steps (stage.First s) = first_steps s
stage_steps (stage.Filter s) = filter_steps s
stage_steps (stage.Fetch s) = fetch_steps s
stage_steps (stage.Match s) = match_steps s
stage_steps (stage.SortBy s) = sort_steps s.held s.rows s.closed
stage_steps (stage.SortNear s) = sort_steps s.held s.rows s.closed

-- the price of handling a row
abbrev pub stage_price : Stage → PageMap → Database → Plan → PlanRow → ℕ
stage_price (stage.First s) = λ pages d p row. 0
stage_price (stage.Filter s) = λ pages d p row. tests_price s.tests.items
stage_price (stage.Fetch s) = λ pages d p row. spots_price s.spots.items
stage_price (stage.Match s) = match_row_price s
stage_price (stage.SortBy s) = λ pages d p row. key_price s.spot
stage_price (stage.SortNear s) = λ pages d p row. key_price s.spot

-- the price of what is still to be done for the row that it holds
abbrev pub stage_owed : Stage → PageMap → Database → Plan → ℕ
stage_owed (stage.First s) pages d p = 0
stage_owed (stage.Filter s) pages d p = filter_waiting s.held (tests_price s.tests.items)
stage_owed (stage.Fetch s) pages d p = filter_waiting s.held (spots_price s.spots.items)
stage_owed (stage.Match s) pages d p = match_owed s pages d p
stage_owed (stage.SortBy s) pages d p = sort_waiting s.held (key_price s.spot)
stage_owed (stage.SortNear s) pages d p = sort_waiting s.held (key_price s.spot)
