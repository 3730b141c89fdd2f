-- Plan rows, and the operators of plans as functions on lists of them.
use Rattle.std.specs.Prelude.{ℕ, zero, suc, ℤ, pos, Bool, true, false, not, ◌&&◌, List, [], ◌∷◌, ◌++◌, map, filter, flat_map, take, Option, Some, None}
use Rattle.std.specs.Ordering.{int_cmp}
use Rattle.std.specs.declared.cmp.Ordering.{Ordering}
use Rattle.std.specs.declared.cmp.Ordering.TheVariants as ordering
use Rattle.exact_frac.specs.Frac.{value_cmp}
use Rattle.exact_frac.specs.declared.frac.Frac.{Frac}
use Rattle.sand_base.specs.declared.goal.Goal.TheVariants as figure
use Rattle.sand_base.specs.declared.shape.Shape.{Shape}
use Rattle.sand_base.specs.declared.value.Value.{Value}
use Rattle.sand_base.specs.declared.value.Value.TheVariants as value
use Rattle.sand_model.specs.Database.{Database, Relation, relation_named, column_named, row_at, element}
use Rattle.sand_model.specs.Measure.{Measure}
use Rattle.statements.specs.declared.test.Op.TheVariants as op
use Rattle.statements.specs.Plan as plan
use Rattle.statements.specs.Plan.{Plan}
use Rattle.statements.specs.declared.column.Column.{Column}
use Rattle.statements.specs.declared.column.Place.{Place}
use Rattle.statements.specs.declared.test.Op.{Op}
use Rattle.statements.specs.declared.test.Test.{Test}
use Rattle.sand_model.specs.Sources.{sorted, same_value, column_values}

-- a row of a plan: its gap where it has one, an id for each relation in it, and the values that were fetched
pub record PlanRow : Type 0 where
  pub gap : Option Frac
  pub ids : List ℕ
  pub values : List Value

-- the names of the relations of a row's ids, in their order
abbrev pub relations_of : Plan → List (List ℕ)
relations_of (plan.Scan relation) = relation ∷ []
relations_of (plan.Rank column goal within) = column.relation ∷ []
relations_of (plan.Near column goal within) = column.relation ∷ []
relations_of (plan.Window column window) = column.relation ∷ []
relations_of (plan.PickEqual column v) = column.relation ∷ []
relations_of (plan.PickBetween column low high) = column.relation ∷ []
relations_of (plan.Join left right within) = left.relation ∷ right.relation ∷ []
relations_of (plan.Semi left right within) = left.relation ∷ right.relation ∷ []
relations_of (plan.Knn k left right within) = left.relation ∷ right.relation ∷ []
relations_of (plan.Filter p tests) = relations_of p
relations_of (plan.Match p place column) = relations_of p ++ column.relation ∷ []
relations_of (plan.Fetch p places) = relations_of p
relations_of (plan.First count p) = relations_of p
relations_of (plan.SortBy p place) = relations_of p
relations_of (plan.SortNear p place goal) = relations_of p

-- what stands at the k-th place of a list, counted from 1
abbrev pub kth : {A : Type 0} → List A → ℕ → Option A
kth xs zero = None
kth xs (suc k) = element xs k

-- the value at a place of a row: in the relation of its k-th id, the row with this id, there the column
abbrev pub value_at : Database → List (List ℕ) → PlanRow → Place → Option Value
value_at database names row place = of_name (kth names place.k) (kth row.ids place.k) where
  in_row : Option (List Value) → Option ℕ → Option Value
  in_row (Some values) (Some at) = element values at
  in_row _ _ = None

  in_relation : Option Relation → ℕ → Option Value
  in_relation None id = None
  in_relation (Some relation) id = in_row (row_at relation id) (column_named relation.schema place.column)

  of_name : Option (List ℕ) → Option ℕ → Option Value
  of_name (Some name) (Some id) = in_relation (relation_named database name) id
  of_name _ _ = None

-- whether an order of two whole numbers is the one that is asked
abbrev pub is_order : Op → Ordering → Bool
is_order op.Equal ordering.Equal = true
is_order op.NotEqual ordering.Less = true
is_order op.NotEqual ordering.Greater = true
is_order op.Less ordering.Less = true
is_order op.AtMost ordering.Less = true
is_order op.AtMost ordering.Equal = true
is_order op.Greater ordering.Greater = true
is_order op.AtLeast ordering.Greater = true
is_order op.AtLeast ordering.Equal = true
is_order _ _ = false

-- whether a value passes a comparison: whole numbers by their order, texts alone by being equal or not
abbrev pub passes : Op → Value → Value → Bool
passes op (value.Int a) (value.Int b) = is_order op (int_cmp a b)
passes op.Equal (value.Text a) (value.Text b) = same_value (value.Text a) (value.Text b)
passes op.NotEqual (value.Text a) (value.Text b) = not (same_value (value.Text a) (value.Text b))
passes op _ _ = false

-- whether a row passes a test
abbrev pub passes_test : Database → List (List ℕ) → PlanRow → Test → Bool
passes_test database names row test = by_value (value_at database names row test.place) where
  by_value : Option Value → Bool
  by_value (Some v) = passes test.op v test.value
  by_value None = false

-- whether a row passes every test
abbrev pub passes_all : Database → List (List ℕ) → List Test → PlanRow → Bool
passes_all database names [] row = true
passes_all database names (test ∷ tests) row =
    passes_test database names row test && passes_all database names tests row

-- the rows that a row matches: one for each row of the column's relation with an equal value, by id, which is added to the ids
abbrev pub matches_of : Database → List (List ℕ) → Place → Column → PlanRow → List PlanRow
matches_of database names place column row = with_value (value_at database names row place) where
  extended : ℕ × Value → PlanRow
  extended pair = record row { ids = row.ids ++ pair.0 ∷ [] }

  with_value : Option Value → List PlanRow
  with_value (Some v) = map extended (filter (λ pair. same_value pair.1 v) (column_values database column))
  with_value None = []

-- the values at places of a row
abbrev pub fetched_values : Database → List (List ℕ) → PlanRow → List Place → List Value
fetched_values database names row [] = []
fetched_values database names row (place ∷ places) =
    only (value_at database names row place) ++ fetched_values database names row places where
      only : Option Value → List Value
      only (Some v) = v ∷ []
      only None = []

-- a row with the values at places added
abbrev pub with_fetched : Database → List (List ℕ) → List Place → PlanRow → PlanRow
with_fetched database names places row =
    record row { values = row.values ++ fetched_values database names row places }

-- the whole number at a place, by which rows are sorted; 0 where there is none
abbrev pub number_at : Database → List (List ℕ) → Place → PlanRow → ℤ
number_at database names place row = number (value_at database names row place) where
  number : Option Value → ℤ
  number (Some (value.Int n)) = n
  number _ = pos 0

-- a row whose gap is that of the shape at a place from a goal
abbrev pub with_gap : Measure → Database → List (List ℕ) → Place → Shape → PlanRow → PlanRow
with_gap gap database names place goal row = measured (value_at database names row place) where
  measured : Option Value → PlanRow
  measured (Some (value.Shape s)) = record row { gap = Some (gap (figure.Shape goal) (figure.Shape s)) }
  measured _ = record row { gap = None }

-- by the value of the gap; a row without one comes first
abbrev pub gap_cmp : PlanRow → PlanRow → Ordering
gap_cmp a b = by_gaps a.gap b.gap where
  by_gaps : Option Frac → Option Frac → Ordering
  by_gaps (Some f) (Some g) = value_cmp f g
  by_gaps (Some f) None = ordering.Greater
  by_gaps None (Some g) = ordering.Less
  by_gaps None None = ordering.Equal

-- what the operators of a plan make of the rows of its source
abbrev pub over : Measure → Database → Plan → List PlanRow → List PlanRow
over gap database (plan.Filter p tests) rows =
    filter (passes_all database (relations_of p) tests) (over gap database p rows)
over gap database (plan.Match p place column) rows =
    flat_map (matches_of database (relations_of p) place column) (over gap database p rows)
over gap database (plan.Fetch p places) rows =
    map (with_fetched database (relations_of p) places) (over gap database p rows)
over gap database (plan.First count p) rows = take count (over gap database p rows)
over gap database (plan.SortBy p place) rows =
    sorted (λ a b. int_cmp (number_at database (relations_of p) place a) (number_at database (relations_of p) place b))
    (over gap database p rows)
over gap database (plan.SortNear p place goal) rows =
    sorted gap_cmp (map (with_gap gap database (relations_of p) place goal) (over gap database p rows))
over gap database _ rows = rows
