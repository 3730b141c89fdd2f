-- Which shapes lie in the plane that is indexed, and which in the closed square round it.
use Rattle.std.specs.Prelude.{◌≤◌}
use Rattle.sand_base.specs.declared.goal.Goal.{Goal}
use Rattle.sand_base.specs.declared.goal.Goal.TheVariants as goal
use Rattle.sand_base.specs.declared.rect.Rect.{Rect}
use Rattle.sand_base.specs.declared.segment.Segment.{Segment}
use Rattle.sand_base.specs.declared.shape.Shape.{Shape}
use Rattle.sand_base.specs.declared.shape.Shape.TheVariants as shape
use Rattle.sand_base.specs.Grid.{IsInPlane, IsInClosedPlane, IsRing}
pub use Rattle.sand_base.specs.Grid.{IsInPlane, IsInClosedPlane, IsRing}

-- both ends of the segment are grid points of the plane
pub record IsSegmentInPlane (s : Segment) : Type 0 where
  pub a : IsInPlane s.a
  pub b : IsInPlane s.b

-- both corners of the rectangle are grid points of the plane, and the low one is at most the high one
pub record IsRectInPlane (r : Rect) : Type 0 where
  pub low : IsInPlane r.low
  pub high : IsInPlane r.high
  pub x : r.low.x ≤ r.high.x
  pub y : r.low.y ≤ r.high.y

-- each coordinate of the shape is in the plane, and a polygon's border is a ring
abbrev pub IsShapeInPlane : Shape → Type 0
IsShapeInPlane (shape.Point p) = IsInPlane p
IsShapeInPlane (shape.Segment s) = IsSegmentInPlane s
IsShapeInPlane (shape.Polygon corners) = IsRing corners

-- each coordinate of the goal is in the plane, and a rectangle's low corner is at most its high one
abbrev pub IsGoalInPlane : Goal → Type 0
IsGoalInPlane (goal.Shape s) = IsShapeInPlane s
IsGoalInPlane (goal.Rect r) = IsRectInPlane r

-- both ends of the segment lie in the closed square
pub record IsSegmentInClosedPlane (s : Segment) : Type 0 where
  pub a : IsInClosedPlane s.a
  pub b : IsInClosedPlane s.b

-- the corners of the rectangle lie in the closed square, and the low one is at most the high one
pub record IsRectInClosedPlane (r : Rect) : Type 0 where
  pub low : IsInClosedPlane r.low
  pub high : IsInClosedPlane r.high
  pub x : r.low.x ≤ r.high.x
  pub y : r.low.y ≤ r.high.y

-- the shape lies in the closed square, and a polygon's border is a ring
abbrev pub IsShapeInClosedPlane : Shape → Type 0
IsShapeInClosedPlane (shape.Point p) = IsInClosedPlane p
IsShapeInClosedPlane (shape.Segment s) = IsSegmentInClosedPlane s
IsShapeInClosedPlane (shape.Polygon corners) = IsRing corners

-- the goal lies in the closed square
abbrev pub IsGoalInClosedPlane : Goal → Type 0
IsGoalInClosedPlane (goal.Shape s) = IsShapeInClosedPlane s
IsGoalInClosedPlane (goal.Rect r) = IsRectInClosedPlane r
