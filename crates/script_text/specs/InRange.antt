-- Which statements and plans are in range: those that the language can write.
use Rattle.std.specs.Prelude.{ℕ, ◌≤◌, List, length, All, Option, Some, None, ⊤}
use Rattle.sand_base.specs.declared.kind.Kind.{Kind}
use Rattle.sand_base.specs.declared.value.Value.{Value}
use Rattle.sand_base.specs.declared.value.Value.TheVariants as value
use Rattle.sand_base.specs.InRange.{IsIntInRange, IsTextInRange, IsValueInRange, IsSchemaInRange}
use Rattle.sand_base.specs.Plane.{IsInPlane, IsRectInPlane, IsShapeInPlane}
use Rattle.script_text.specs.declared.TheConstants.{MOST_ROWS, MOST_WITHIN}
use Rattle.statements.specs.declared.column.Column.{Column}
use Rattle.statements.specs.declared.column.Place.{Place}
use Rattle.statements.specs.declared.test.Test.{Test}
use Rattle.script_text.specs.Name.{IsName}
use Rattle.statements.specs.Plan.{Plan, Scan, Rank, Window, PickEqual, PickBetween, Join, Semi, Knn, Near, Filter, Match, Fetch, First, SortBy, SortNear}
use Rattle.statements.specs.Statement.{Statement, Create, Insert, Delete, Load, Index, Rtree, OpenCursor, Next, CloseCursor, Show, Stats, Far, Blocks}

-- both names of the column are names
pub record IsColumnInRange (c : Column) : Type 0 where
  pub relation : IsName c.relation
  pub column : IsName c.column

-- the place is one of 1 to 255, and its column a name
pub record IsPlaceInRange (p : Place) : Type 0 where
  pub least : 1 ≤ p.k
  pub most : p.k ≤ 255
  pub column : IsName p.column

-- an int or a text in range
abbrev pub IsPlainInRange : Value → Type 0
IsPlainInRange (value.Int n) = IsIntInRange n
IsPlainInRange (value.Text text) = IsTextInRange text
IsPlainInRange (value.Shape s) = ⊥

-- the place and the value of a test are in range
pub record IsTestInRange (t : Test) : Type 0 where
  pub place : IsPlaceInRange t.place
  pub value : IsPlainInRange t.value

-- the name of a column is a name
abbrev pub IsFieldInRange : List ℕ × Kind → Type 0
IsFieldInRange field = IsName field.0

-- a distance, where there is one, is at most the greatest one
abbrev pub IsWithinInRange : Option ℕ → Type 0
IsWithinInRange None = ⊤
IsWithinInRange (Some n) = n ≤ MOST_WITHIN

-- a threshold, where there is one, is from 1 to 64
abbrev pub IsThresholdInRange : Option ℕ → Type 0
IsThresholdInRange None = ⊤
IsThresholdInRange (Some n) = (1 ≤ n) × (n ≤ 64)

-- a count of rows
pub record IsCountInRange (n : ℕ) : Type 0 where
  pub least : 1 ≤ n
  pub most : n ≤ MOST_ROWS

-- a list of one or more, each of which is so
pub record SomeAre {A : Type 0} (P : A → Type 0) (xs : List A) : Type 0 where
  pub some : 1 ≤ length xs
  pub all : All P xs

-- a plan in range
abbrev pub IsPlanInRange : Plan → Type 0
IsPlanInRange (Scan relation) = IsName relation
IsPlanInRange (Rank column goal within) = IsColumnInRange column × IsShapeInPlane goal × IsWithinInRange within
IsPlanInRange (Window column window) = IsColumnInRange column × IsRectInPlane window
IsPlanInRange (PickEqual column value) = IsColumnInRange column × IsPlainInRange value
IsPlanInRange (PickBetween column low high) = IsColumnInRange column × IsIntInRange low × IsIntInRange high
IsPlanInRange (Join left right within) = IsColumnInRange left × IsColumnInRange right × IsWithinInRange within
IsPlanInRange (Semi left right within) = IsColumnInRange left × IsColumnInRange right × IsWithinInRange within
IsPlanInRange (Knn k left right within) = ((1 ≤ k) × (k ≤ 255)) × IsColumnInRange left × IsColumnInRange right × IsWithinInRange within
IsPlanInRange (Near column goal within) = IsColumnInRange column × IsShapeInPlane goal × IsWithinInRange within
IsPlanInRange (Filter plan tests) = IsPlanInRange plan × SomeAre IsTestInRange tests
IsPlanInRange (Match plan place column) = IsPlanInRange plan × IsPlaceInRange place × IsColumnInRange column
IsPlanInRange (Fetch plan places) = IsPlanInRange plan × SomeAre IsPlaceInRange places
IsPlanInRange (First count plan) = IsCountInRange count × IsPlanInRange plan
IsPlanInRange (SortBy plan place) = IsPlanInRange plan × IsPlaceInRange place
IsPlanInRange (SortNear plan place goal) = IsPlanInRange plan × IsPlaceInRange place × IsShapeInPlane goal

-- a statement in range
abbrev pub IsInRange : Statement → Type 0
IsInRange (Create relation columns) = IsName relation × IsSchemaInRange columns × All IsFieldInRange columns
IsInRange (Insert relation values) = IsName relation × SomeAre IsValueInRange values
IsInRange (Delete relation id) = IsName relation × (id ≤ 4294967295)
IsInRange (Load relation file header) = IsName relation × IsTextInRange file
IsInRange (Index column threshold) = IsColumnInRange column × IsThresholdInRange threshold
IsInRange (Rtree column) = IsColumnInRange column
IsInRange (OpenCursor cursor plan) = IsName cursor × IsPlanInRange plan
IsInRange (Next cursor count) = IsName cursor × IsCountInRange count
IsInRange (CloseCursor cursor) = IsName cursor
IsInRange (Show count plan) = IsCountInRange count × IsPlanInRange plan
IsInRange (Stats cursor) = IsName cursor
IsInRange (Far count column goal) = IsCountInRange count × IsColumnInRange column × IsInPlane goal
IsInRange (Blocks column) = IsColumnInRange column
