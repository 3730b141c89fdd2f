-- A plan level by level: its outermost operator, what this makes of rows, and the plan beneath it.
use Rattle.std.specs.Prelude.{◌≡◌, Bool, true, false, nat_le, List, ◌++◌, length, map, filter, flat_map, take}
use Rattle.std.specs.Ordering.{int_cmp}
use Rattle.sand_model.specs.Answer.{source, answer}
use Rattle.sand_model.specs.Database.{Database}
use Rattle.sand_model.specs.Operators.{PlanRow, over, relations_of, passes_all, matches_of, with_fetched, number_at, with_gap, gap_cmp}
use Rattle.statements.specs.Plan as plan
use Rattle.statements.specs.Plan.{Plan}
use Rattle.sand_model.specs.Sources.{sorted}
use Rattle.plan_iterator.specs.Rows.{plan_measure}

-- the plan beneath the outermost operator; a source is its own
abbrev pub inner : Plan → Plan
inner (plan.Filter p tests) = p
inner (plan.Match p place column) = p
inner (plan.Fetch p places) = p
inner (plan.First count p) = p
inner (plan.SortBy p place) = p
inner (plan.SortNear p place goal) = p
inner p = p

-- the plan is a source alone
abbrev pub is_source : Plan → Bool
is_source (plan.Filter p tests) = false
is_source (plan.Match p place column) = false
is_source (plan.Fetch p places) = false
is_source (plan.First count p) = false
is_source (plan.SortBy p place) = false
is_source (plan.SortNear p place goal) = false
is_source p = true

-- the outermost operator is a sort
abbrev pub is_sort : Plan → Bool
is_sort (plan.SortBy p place) = true
is_sort (plan.SortNear p place goal) = true
is_sort p = false

-- what the outermost operator makes of the rows beneath it
abbrev pub made : Database → Plan → List PlanRow → List PlanRow
made d (plan.Filter p tests) rows = filter (passes_all d (relations_of p) tests) rows
made d (plan.Match p place column) rows = flat_map (matches_of d (relations_of p) place column) rows
made d (plan.Fetch p places) rows = map (with_fetched d (relations_of p) places) rows
made d (plan.First count p) rows = take count rows
made d (plan.SortBy p place) rows =
    sorted (λ a b. int_cmp (number_at d (relations_of p) place a) (number_at d (relations_of p) place b)) rows
made d (plan.SortNear p place goal) rows =
    sorted gap_cmp (map (with_gap plan_measure d (relations_of p) place goal) rows)
made d p rows = rows

-- the outermost operator is a `first` that has its rows
abbrev pub is_filled : Plan → List PlanRow → Bool
is_filled (plan.First count p) rows = nat_le count (length rows)
is_filled p rows = false

-- the rows of the source
abbrev pub source_rows : Database → Plan → List PlanRow
source_rows d p = source plan_measure d p

-- what the operators make of source rows
abbrev pub over_rows : Database → Plan → List PlanRow → List PlanRow
over_rows d p rows = over plan_measure d p rows

-- the whole answer
abbrev pub whole_answer : Database → Plan → List PlanRow
whole_answer d p = answer plan_measure d p

-- all rows beneath the outermost operator
abbrev pub beneath : Database → Plan → List PlanRow
beneath d p = whole_answer d (inner p)

-- the first list begins the second
pub record BeginsRows (front all : List PlanRow) : Type 0 where
  pub rest : List PlanRow
  pub split : all ≡ front ++ rest
