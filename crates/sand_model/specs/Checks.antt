-- The checks of a plan, from its innermost operator outwards, and in one operator from left to right.
use Rattle.std.specs.Prelude.{ℕ, Bool, true, false, cond, nat_eq, nat_lt, ◌&&◌, List, [], ◌∷◌, Option, Some, None}
use Rattle.std.specs.List.{list_any}
use Rattle.sand_base.specs.declared.kind.Kind.{Kind}
use Rattle.sand_base.specs.declared.kind.Kind.TheVariants as kind
use Rattle.sand_base.specs.declared.refusal.Refusal.{Refusal}
use Rattle.sand_base.specs.declared.refusal.Refusal.TheVariants as why
use Rattle.sand_base.specs.Shape.{value_kind, same_kind, is_spatial}
use Rattle.sand_model.specs.Database.{Database, Relation, relation_named, column_named, index_at, element}
use Rattle.sand_model.specs.Operators.{relations_of, kth}
use Rattle.statements.specs.declared.test.Op.TheVariants as op
use Rattle.statements.specs.Plan as plan
use Rattle.statements.specs.Plan.{Plan, depth}
use Rattle.statements.specs.declared.column.Column.{Column}
use Rattle.statements.specs.declared.column.Place.{Place}
use Rattle.statements.specs.declared.test.Op.{Op}
use Rattle.statements.specs.declared.test.Test.{Test}

-- the most operators that a plan may have
abbrev pub most_operators : ℕ
most_operators = 16

-- the first refusal of checks that are tried in order; None is a check that passes
abbrev pub first_refusal : List (Option Refusal) → Option Refusal
first_refusal [] = None
first_refusal (Some refusal ∷ checks) = Some refusal
first_refusal (None ∷ checks) = first_refusal checks

-- the kind of the column of this name
abbrev pub kind_named : Relation → List ℕ → Option Kind
kind_named relation name = of_place (column_named relation.schema name) where
  of_column : Option (List ℕ × Kind) → Option Kind
  of_column (Some column) = Some column.1
  of_column None = None

  of_place : Option ℕ → Option Kind
  of_place (Some at) = of_column (element relation.schema at)
  of_place None = None

-- the column of this name has an index
abbrev pub is_indexed : Relation → List ℕ → Bool
is_indexed relation name = of_place (column_named relation.schema name) where
  of_place : Option ℕ → Bool
  of_place None = false
  of_place (Some at) = is_there (index_at relation at) where
    is_there : {A : Type 0} → Option A → Bool
    is_there (Some index) = true
    is_there None = false

-- the column of this name has an R-tree
abbrev pub has_rectangles : Relation → List ℕ → Bool
has_rectangles relation name = of_place (column_named relation.schema name) where
  of_place : Option ℕ → Bool
  of_place None = false
  of_place (Some at) = list_any (λ tree. nat_eq tree.0 at) relation.rectangles

-- a column: its relation is there, it is there, its kind is one that is asked, and the relation has for it what it is searched by
abbrev pub check_search : (Relation → List ℕ → Bool) → Database → Column → (Kind → Bool) → Option Refusal
check_search has database column asked = in_relation (relation_named database column.relation) where
  of_kind : Relation → Option Kind → Option Refusal
  of_kind relation None = Some why.UnknownColumn
  of_kind relation (Some k) =
      cond (asked k) (cond (has relation column.column) None (Some why.NoIndex)) (Some why.WrongKind)

  in_relation : Option Relation → Option Refusal
  in_relation None = Some why.UnknownRelation
  in_relation (Some relation) = of_kind relation (kind_named relation column.column)

-- a column of a kind that is asked, with an index
abbrev pub check_column : Database → Column → (Kind → Bool) → Option Refusal
check_column database column asked = check_search is_indexed database column asked

-- a spatial column with an R-tree
abbrev pub check_rectangles : Database → Column → Option Refusal
check_rectangles database column = check_search has_rectangles database column is_spatial

-- the kind of a place of a plan's rows, where the row has so many ids and the relation such a column
abbrev pub place_kind : Database → List (List ℕ) → Place → Option Kind
place_kind database names place = of_name (kth names place.k) where
  in_relation : Option Relation → Option Kind
  in_relation (Some relation) = kind_named relation place.column
  in_relation None = None

  of_name : Option (List ℕ) → Option Kind
  of_name (Some name) = in_relation (relation_named database name)
  of_name None = None

-- a place: it is there, and its kind is one that is asked
abbrev pub check_place : Database → List (List ℕ) → Place → (Kind → Bool) → Option Refusal
check_place database names place asked = of_kind (place_kind database names place) where
  of_kind : Option Kind → Option Refusal
  of_kind None = Some why.UnknownColumn
  of_kind (Some k) = cond (asked k) None (Some why.WrongKind)

-- the kinds that a look-up can ask for: whole numbers and texts
abbrev pub is_plain : Kind → Bool
is_plain kind.Int = true
is_plain kind.Text = true
is_plain _ = false

-- whether values of two kinds can be looked up by one another
abbrev pub is_plain_pair : Option Kind → Kind → Bool
is_plain_pair (Some kind.Int) kind.Int = true
is_plain_pair (Some kind.Text) kind.Text = true
is_plain_pair _ _ = false

-- whether a column of a kind can be compared so with a value of a kind
abbrev pub can_compare : Op → Kind → Kind → Bool
can_compare op kind.Int kind.Int = true
can_compare op.Equal kind.Text kind.Text = true
can_compare op.NotEqual kind.Text kind.Text = true
can_compare op _ _ = false

-- the relation of a scan is there
abbrev pub check_relation : Database → List ℕ → Option Refusal
check_relation database name = in_relation (relation_named database name) where
  in_relation : Option Relation → Option Refusal
  in_relation None = Some why.UnknownRelation
  in_relation (Some relation) = None

-- the tests of a filter, from left to right
abbrev pub check_tests : Database → List (List ℕ) → List Test → Option Refusal
check_tests database names [] = None
check_tests database names (test ∷ tests) =
    first_refusal (check_place database names test.place (λ k. can_compare test.op k (value_kind test.value)) ∷ check_tests database names tests ∷ [])

-- the places of a fetch, from left to right
abbrev pub check_places : Database → List (List ℕ) → List Place → Option Refusal
check_places database names [] = None
check_places database names (place ∷ places) =
    first_refusal (check_place database names place (λ k. true) ∷ check_places database names places ∷ [])

-- the checks of the operators of a plan
abbrev pub check_operators : Database → Plan → Option Refusal
check_operators database (plan.Scan relation) = check_relation database relation
check_operators database (plan.Rank column goal within) = check_column database column is_spatial
check_operators database (plan.Near column goal within) = check_rectangles database column
check_operators database (plan.Window column window) = check_column database column is_spatial
check_operators database (plan.PickEqual column v) =
    check_column database column (λ k. is_plain k && same_kind k (value_kind v))
check_operators database (plan.PickBetween column low high) = check_column database column (same_kind kind.Int)
check_operators database (plan.Join left right within) =
    first_refusal (check_column database left is_spatial ∷ check_column database right is_spatial ∷ [])
check_operators database (plan.Semi left right within) =
    first_refusal (check_column database left is_spatial ∷ check_column database right is_spatial ∷ [])
check_operators database (plan.Knn k left right within) =
    first_refusal (check_column database left is_spatial ∷ check_column database right is_spatial ∷ [])
check_operators database (plan.Filter p tests) =
    first_refusal (check_operators database p ∷ check_tests database (relations_of p) tests ∷ [])
check_operators database (plan.Match p place column) =
    first_refusal (check_operators database p ∷ check_place database (relations_of p) place (λ k. true)
    ∷ check_column database column (is_plain_pair (place_kind database (relations_of p) place)) ∷ [])
check_operators database (plan.Fetch p places) =
    first_refusal (check_operators database p ∷ check_places database (relations_of p) places ∷ [])
check_operators database (plan.First count p) = check_operators database p
check_operators database (plan.SortBy p place) =
    first_refusal (check_operators database p ∷ check_place database (relations_of p) place (same_kind kind.Int) ∷ [])
check_operators database (plan.SortNear p place goal) =
    first_refusal (check_operators database p ∷ check_place database (relations_of p) place is_spatial ∷ [])

-- all checks of a plan, that of its depth last
abbrev pub check : Database → Plan → Option Refusal
check database p =
    first_refusal (check_operators database p ∷ cond (nat_lt most_operators (depth p)) (Some why.PlanTooDeep) None ∷ [])
