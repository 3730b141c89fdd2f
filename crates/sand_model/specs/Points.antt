-- The points of which points, segments and rectangles consist: all rational points, and not only those of the grid.
use Rattle.std.specs.Prelude.{◌≡◌, ℕ, ℤ, ◌*◌, ◌<◌, min, max, pos, ◌-ℤ◌, ◌*ℤ◌, ◌≤ℤ◌}
use Rattle.sand_base.specs.declared.point.Point.{Point}
use Rattle.sand_base.specs.declared.rect.Rect.{Rect}
use Rattle.sand_base.specs.declared.segment.Segment.{Segment}

-- a rational point of the plane, (x / n, y / n)
pub record RationalPoint : Type 0 where
  pub x : ℤ
  pub y : ℤ
  pub n : ℕ
  pub positive : 0 < n

-- the point itself
pub record IsPoint (p : Point) (q : RationalPoint) : Type 0 where
  pub x : q.x ≡ pos (q.n * p.x)
  pub y : q.y ≡ pos (q.n * p.y)

-- v / n lies between low and high, both included
pub record IsWithin (low high n : ℕ) (v : ℤ) : Type 0 where
  pub above : pos (n * low) ≤ℤ v
  pub below : v ≤ℤ pos (n * high)

-- the cross product of b - a and q - a, times the denominator of q
abbrev pub cross_at : Point → Point → RationalPoint → ℤ
cross_at a b q =
    ((pos b.x -ℤ pos a.x) *ℤ (q.y -ℤ pos (q.n * a.y))) -ℤ ((pos b.y -ℤ pos a.y) *ℤ (q.x -ℤ pos (q.n * a.x)))

-- the point lies on the line through both ends, and between them
pub record IsOnSegment (s : Segment) (q : RationalPoint) : Type 0 where
  pub line : cross_at s.a s.b q ≡ pos 0
  pub x : IsWithin (min s.a.x s.b.x) (max s.a.x s.b.x) q.n q.x
  pub y : IsWithin (min s.a.y s.b.y) (max s.a.y s.b.y) q.n q.y

-- the point lies inside the rectangle or on its border
pub record IsInRect (r : Rect) (q : RationalPoint) : Type 0 where
  pub x : IsWithin r.low.x r.high.x q.n q.x
  pub y : IsWithin r.low.y r.high.y q.n q.y
