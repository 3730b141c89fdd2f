-- How far two ranges of one axis are apart, the sides of a rectangle, and which segments enter it.
use Rattle.std.specs.Prelude.{ℕ, ◌+◌, ◌-◌, ◌≤◌, ◌⊎◌}
use Rattle.sand_base.specs.declared.point.Point.{Point}
use Rattle.sand_base.specs.declared.rect.Rect.{Rect}
use Rattle.sand_base.specs.declared.segment.Segment.{Segment}
use Rattle.plane_geom.specs.Crossing.{Cross}

-- how far the range from low to high lies from the one from other_low to other_high: 0 where they meet
abbrev pub range_gap : ℕ → ℕ → ℕ → ℕ → ℕ
range_gap low high other_low other_high = (other_low - high) + (low - other_high)

-- the grid point lies inside the rectangle or on its border
pub record IsCovered (p : Point) (r : Rect) : Type 0 where
  pub left : r.low.x ≤ p.x
  pub right : p.x ≤ r.high.x
  pub bottom : r.low.y ≤ p.y
  pub top : p.y ≤ r.high.y

-- the corner that is low in x and high in y
abbrev pub top_left : Rect → Point
top_left r = record { x = r.low.x; y = r.high.y }

-- the corner that is high in x and low in y
abbrev pub bottom_right : Rect → Point
bottom_right r = record { x = r.high.x; y = r.low.y }

-- the side of the least x
abbrev pub left_side : Rect → Segment
left_side r = record { a = r.low; b = top_left r }

-- the side of the greatest x
abbrev pub right_side : Rect → Segment
right_side r = record { a = bottom_right r; b = r.high }

-- the side of the least y
abbrev pub bottom_side : Rect → Segment
bottom_side r = record { a = r.low; b = bottom_right r }

-- the side of the greatest y
abbrev pub top_side : Rect → Segment
top_side r = record { a = top_left r; b = r.high }

-- the segment begins in the rectangle, or it properly crosses a side
abbrev pub EntersRect : Segment → Rect → Type 0
EntersRect s r =
    IsCovered s.a r ⊎ ((Cross s (left_side r) ⊎ Cross s (right_side r)) ⊎ (Cross s (bottom_side r) ⊎ Cross s (top_side r)))
