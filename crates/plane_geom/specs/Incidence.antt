-- When a grid point lies on a segment, and when in the rectangle round it.
use Rattle.std.specs.Prelude.{ℕ, ◌≤◌, min, max}
use Rattle.sand_base.specs.declared.point.Point.{Point}
use Rattle.sand_base.specs.declared.segment.Segment.{Segment}
use Rattle.sand_model.specs.Points.{RationalPoint, IsPoint, IsOnSegment}

-- v is at least the lesser and at most the greater of two bounds
pub record IsBetween (a b v : ℕ) : Type 0 where
  pub above : min a b ≤ v
  pub below : v ≤ max a b

-- the point lies in the rectangle of which the ends of the segment are opposite corners
pub record IsInBox (p : Point) (s : Segment) : Type 0 where
  pub x : IsBetween s.a.x s.b.x p.x
  pub y : IsBetween s.a.y s.b.y p.y

-- whatever stands for the grid point lies on the segment
abbrev pub LiesOn : Point → Segment → Type 0
LiesOn p s = (q : RationalPoint) → IsPoint p q → IsOnSegment s q
