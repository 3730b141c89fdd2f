-- Shapes and goals as figures: their rational points, their vertices, and the grid points inside a ring of theirs.
use Rattle.std.specs.Prelude.{List, [], ◌∷◌}
use Rattle.sand_base.specs.declared.goal.Goal.{Goal}
use Rattle.sand_base.specs.declared.goal.Goal.TheVariants as goal
use Rattle.sand_base.specs.declared.point.Point.{Point}
use Rattle.sand_base.specs.declared.shape.Shape.{Shape}
use Rattle.sand_base.specs.declared.shape.Shape.TheVariants as shape
use Rattle.sand_model.specs.Points.{RationalPoint, IsPoint, IsOnSegment, IsInRect}
use Rattle.sand_model.specs.Rings.{IsOnRing, IsInside}

-- the rational points of a shape; those of a polygon are the points of its edges
abbrev pub IsPointOf : Shape → RationalPoint → Type 0
IsPointOf (shape.Point p) q = IsPoint p q
IsPointOf (shape.Segment s) q = IsOnSegment s q
IsPointOf (shape.Polygon ring) q = IsOnRing ring q

-- the vertices of a shape
abbrev pub corners_of : Shape → List Point
corners_of (shape.Point p) = p ∷ []
corners_of (shape.Segment s) = s.a ∷ s.b ∷ []
corners_of (shape.Polygon ring) = ring

-- the grid point lies inside the shape's ring; only a polygon has one
abbrev pub Holds : Shape → Point → Type 0
Holds (shape.Point p) v = ⊥
Holds (shape.Segment s) v = ⊥
Holds (shape.Polygon ring) v = IsInside ring v

-- the rational points of a figure, which is a shape or a rectangle with its border
abbrev pub IsPointOfFigure : Goal → RationalPoint → Type 0
IsPointOfFigure (goal.Shape s) q = IsPointOf s q
IsPointOfFigure (goal.Rect r) q = IsInRect r q

-- the vertices of a figure; those of a rectangle are its four corners
abbrev pub vertices_of : Goal → List Point
vertices_of (goal.Shape s) = corners_of s
vertices_of (goal.Rect r) =
    r.low ∷ record { x = r.high.x; y = r.low.y } ∷ record { x = r.low.x; y = r.high.y } ∷ r.high ∷ []

-- the grid point lies inside the figure's ring
abbrev pub HoldsInside : Goal → Point → Type 0
HoldsInside (goal.Shape s) v = Holds s v
HoldsInside (goal.Rect r) v = ⊥
