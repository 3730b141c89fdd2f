-- The answer of a plan over a database, from scratch: the rows of its source under its operators.
use Rattle.std.specs.Prelude.{ℕ, ℤ, Bool, false, ◌&&◌, not, List, [], ◌∷◌, map, filter, Option, Some, None}
use Rattle.std.specs.Ordering.{nat_cmp, int_cmp, ordering_then, is_lt}
use Rattle.std.specs.declared.cmp.Ordering.{Ordering}
use Rattle.sand_base.specs.declared.goal.Goal.TheVariants as figure
use Rattle.sand_base.specs.declared.value.Value.{Value}
use Rattle.sand_base.specs.declared.value.Value.TheVariants as value
use Rattle.sand_model.specs.Database.{Database, Relation, relation_named}
use Rattle.sand_model.specs.Measure.{Measure}
use Rattle.sand_model.specs.Operators.{PlanRow, over}
use Rattle.statements.specs.Plan as plan
use Rattle.statements.specs.Plan.{Plan}
use Rattle.sand_model.specs.Sources.{Found, sorted, ranked, joined, first_of_each, nearest_of, same_value, column_shapes, column_values}

-- a row of one id without gap
abbrev pub plain_row : ℕ → PlanRow
plain_row id = record { gap = None; ids = id ∷ []; values = [] }

-- a row that was found by its gap
abbrev pub single_row : Found → PlanRow
single_row found = record { gap = Some found.gap; ids = found.left ∷ []; values = [] }

-- a pair that was found by its gap
abbrev pub pair_row : Found → PlanRow
pair_row found = record { gap = Some found.gap; ids = found.left ∷ found.right ∷ []; values = [] }

-- all rows of a relation, by id
abbrev pub scanned : Database → List ℕ → List PlanRow
scanned database name = in_relation (relation_named database name) where
  in_relation : Option Relation → List PlanRow
  in_relation None = []
  in_relation (Some relation) = map (λ row. plain_row row.0) relation.rows

-- by the whole number, then by id
abbrev pub number_cmp : ℕ × Value → ℕ × Value → Ordering
number_cmp a b = ordering_then (by_number a.1 b.1) (nat_cmp a.0 b.0) where
  by_number : Value → Value → Ordering
  by_number (value.Int m) (value.Int n) = int_cmp m n
  by_number _ _ = nat_cmp 0 0

-- whether the whole number lies within the bounds, both included
abbrev pub is_between : ℤ → ℤ → Value → Bool
is_between low high (value.Int n) = not (is_lt (int_cmp n low)) && not (is_lt (int_cmp high n))
is_between low high _ = false

-- the rows of a plan's source
abbrev pub source : Measure → Database → Plan → List PlanRow
source gap database (plan.Scan relation) = scanned database relation
source gap database (plan.Rank column goal within) =
    map single_row (ranked gap (figure.Shape goal) within (column_shapes database column))
source gap database (plan.Near column goal within) =
    map single_row (ranked gap (figure.Shape goal) within (column_shapes database column))
source gap database (plan.Window column window) =
    map single_row (ranked gap (figure.Rect window) (Some 0) (column_shapes database column))
source gap database (plan.PickEqual column v) =
    map (λ pair. plain_row pair.0) (filter (λ pair. same_value pair.1 v) (column_values database column))
source gap database (plan.PickBetween column low high) =
    map (λ pair. plain_row pair.0) (sorted number_cmp (filter (λ pair. is_between low high pair.1) (column_values database column)))
source gap database (plan.Join left right within) =
    map pair_row (joined gap within (column_shapes database left) (column_shapes database right))
source gap database (plan.Semi left right within) =
    map pair_row (first_of_each (joined gap within (column_shapes database left) (column_shapes database right)))
source gap database (plan.Knn k left right within) =
    map pair_row (nearest_of k (joined gap within (column_shapes database left) (column_shapes database right)))
source gap database (plan.Filter p tests) = source gap database p
source gap database (plan.Match p place column) = source gap database p
source gap database (plan.Fetch p places) = source gap database p
source gap database (plan.First count p) = source gap database p
source gap database (plan.SortBy p place) = source gap database p
source gap database (plan.SortNear p place goal) = source gap database p

-- the answer of a plan
abbrev pub answer : Measure → Database → Plan → List PlanRow
answer gap database p = over gap database p (source gap database p)
