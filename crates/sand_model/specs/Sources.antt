-- The rows of the sources of plans, told from scratch over lists. No tree, page or queue occurs here.
use Rattle.std.specs.Prelude.{ℕ, suc, ◌*◌, Bool, true, false, cond, not, ◌&&◌, nat_eq, nat_le, nat_lt, List, [], ◌∷◌, map, filter, filter_map, flat_map, Option, Some, None}
use Rattle.std.specs.Cmp.Lexicographic.{pointwise}
use Rattle.std.specs.Ordering.{nat_cmp, int_cmp, ordering_then, is_lt}
use Rattle.std.specs.declared.cmp.Ordering.{Ordering}
use Rattle.exact_frac.specs.Frac.{value_cmp}
use Rattle.exact_frac.specs.declared.frac.Frac.{Frac}
use Rattle.sand_base.specs.declared.goal.Goal.{Goal}
use Rattle.sand_base.specs.declared.goal.Goal.TheVariants as figure
use Rattle.sand_base.specs.declared.point.Point.{Point}
use Rattle.sand_base.specs.declared.shape.Shape.{Shape}
use Rattle.sand_base.specs.declared.shape.Shape.TheVariants as shape
use Rattle.sand_base.specs.declared.value.Value.{Value}
use Rattle.sand_base.specs.declared.value.Value.TheVariants as value
use Rattle.sand_model.specs.Database.{Database, Relation, relation_named, column_named, shapes_of, element}
use Rattle.sand_model.specs.Measure.{Measure}
use Rattle.statements.specs.declared.column.Column.{Column}

-- a row or a pair of rows with its gap; the right id of a single row is 0
pub record Found : Type 0 where
  pub gap : Frac
  pub left : ℕ
  pub right : ℕ

-- by the value of the gap, then by left id, then by right id
abbrev pub found_cmp : Found → Found → Ordering
found_cmp a b = ordering_then (value_cmp a.gap b.gap) (ordering_then (nat_cmp a.left b.left) (nat_cmp a.right b.right))

-- the element at its place in a sorted list, before those that are equal to it
abbrev pub placed : {A : Type 0} → (A → A → Ordering) → A → List A → List A
placed cmp x [] = x ∷ []
placed cmp x (y ∷ ys) = cond (is_lt (cmp y x)) (y ∷ placed cmp x ys) (x ∷ y ∷ ys)

-- the list in order, equal elements as they stood
abbrev pub sorted : {A : Type 0} → (A → A → Ordering) → List A → List A
sorted cmp [] = []
sorted cmp (x ∷ xs) = placed cmp x (sorted cmp xs)

-- the value is at most the square of the ceiling, which is a distance; no ceiling is above all
abbrev pub is_within : Option ℕ → Frac → Bool
is_within None gap = true
is_within (Some most) gap = nat_le gap.num (most * most * gap.den)

-- shapes with their ids by their gap from a goal, nearest first, those above the ceiling left out
abbrev pub ranked : Measure → Goal → Option ℕ → List (ℕ × Shape) → List Found
ranked gap goal ceiling shapes =
    filter (λ found. is_within ceiling found.gap) (sorted found_cmp (map (λ s. record {
      gap = gap goal (figure.Shape s.1);
      left = s.0;
      right = 0;
    }) shapes))

-- a point as a figure
abbrev pub spot_figure : Point → Goal
spot_figure p = figure.Shape (shape.Point p)

-- by the value of the gap, the greatest first, then by left id, then by right id
abbrev pub far_cmp : Found → Found → Ordering
far_cmp a b = ordering_then (value_cmp b.gap a.gap) (ordering_then (nat_cmp a.left b.left) (nat_cmp a.right b.right))

-- shapes with their ids by their gap from a point, farthest first
abbrev pub far_rows : Measure → Point → List (ℕ × Shape) → List Found
far_rows gap p shapes = sorted far_cmp (map (λ s. record { gap = gap (spot_figure p) (figure.Shape s.1); left = s.0; right = 0 }) shapes)

-- all pairs of shapes, one of each list, by their gap, nearest first, those above the ceiling left out
abbrev pub joined : Measure → Option ℕ → List (ℕ × Shape) → List (ℕ × Shape) → List Found
joined gap ceiling lefts rights =
    filter (λ found. is_within ceiling found.gap) (sorted found_cmp (flat_map (λ s. map (λ t. record {
      gap = gap (figure.Shape s.1) (figure.Shape t.1);
      left = s.0;
      right = t.0;
    }) rights) lefts))

-- the first of each left id
abbrev pub first_of_each : List Found → List Found
first_of_each [] = []
first_of_each (found ∷ more) = found ∷ filter (λ other. not (nat_eq other.left found.left)) (first_of_each more)

-- how many of each id came, one of this id more
abbrev pub with_one_more : (ℕ → ℕ) → ℕ → ℕ → ℕ
with_one_more came id other = cond (nat_eq other id) (suc (came other)) (came other)

-- of a list, each element before which fewer than k have its left id, where this many of each left id came before the list
abbrev pub nearest_after : ℕ → (ℕ → ℕ) → List Found → List Found
nearest_after k came [] = []
nearest_after k came (found ∷ more) =
    cond (nat_lt (came found.left) k) (found ∷ nearest_after k (with_one_more came found.left) more) (nearest_after k (with_one_more came found.left) more)

-- the first k of each left id
abbrev pub nearest_of : ℕ → List Found → List Found
nearest_of k list = nearest_after k (λ id. 0) list

-- the shapes of a column with the ids of their rows; none where there is no such column
abbrev pub column_shapes : Database → Column → List (ℕ × Shape)
column_shapes database column = in_relation (relation_named database column.relation) where
  in_column : Relation → Option ℕ → List (ℕ × Shape)
  in_column relation None = []
  in_column relation (Some at) = shapes_of at relation.rows

  in_relation : Option Relation → List (ℕ × Shape)
  in_relation None = []
  in_relation (Some relation) = in_column relation (column_named relation.schema column.column)

-- two values are equal, whole numbers or texts
abbrev pub same_value : Value → Value → Bool
same_value (value.Int a) (value.Int b) = not (is_lt (int_cmp a b)) && not (is_lt (int_cmp b a))
same_value (value.Text a) (value.Text b) = pointwise nat_eq a b
same_value _ _ = false

-- the values of a column with the ids of their rows; none where there is no such column
abbrev pub column_values : Database → Column → List (ℕ × Value)
column_values database column = in_relation (relation_named database column.relation) where
  in_column : Relation → Option ℕ → List (ℕ × Value)
  in_column relation None = []
  in_column relation (Some at) = filter_map (λ row. with_id row.0 (element row.1 at)) relation.rows where
    with_id : ℕ → Option Value → Option (ℕ × Value)
    with_id id None = None
    with_id id (Some v) = Some (id, v)

  in_relation : Option Relation → List (ℕ × Value)
  in_relation None = []
  in_relation (Some relation) = in_column relation (column_named relation.schema column.column)
