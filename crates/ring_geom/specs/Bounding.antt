-- Rectangles that hold vertices, and the least of them.
use Rattle.std.specs.Prelude.{◌^◌, ◌≤◌, List}
use Rattle.sand_base.specs.declared.point.Point.{Point}
use Rattle.sand_base.specs.declared.rect.Rect.{Rect}
use Rattle.sand_base.specs.declared.TheConstants.{COORDINATE_BITS}
use Rattle.sand_model.specs.Rings.{EachOf}
use Rattle.plane_geom.specs.Rectangles.{IsCovered}

-- each of the points lies inside the rectangle or on its border
abbrev pub AreCovered : List Point → Rect → Type 0
AreCovered ps r = EachOf (λ p. IsCovered p r) ps

-- the first rectangle lies in the second
pub record IsPartOf (q r : Rect) : Type 0 where
  pub low : IsCovered q.low r
  pub high : IsCovered q.high r

-- the rectangle is the least one that holds the points
pub record IsBounding (ps : List Point) (r : Rect) : Type 0 where
  pub holds : AreCovered ps r
  pub least : (t : Rect) → AreCovered ps t → IsPartOf r t

-- the rectangle is the least one that holds another and a point
pub record IsWidened (r : Rect) (p : Point) (wide : Rect) : Type 0 where
  pub rect : IsPartOf r wide
  pub point : IsCovered p wide
  pub least : (t : Rect) → IsPartOf r t → IsCovered p t → IsPartOf wide t

-- along both axes neither rectangle ends before the other begins
pub record Overlap (a b : Rect) : Type 0 where
  pub left : a.low.x ≤ b.high.x
  pub right : b.low.x ≤ a.high.x
  pub below : a.low.y ≤ b.high.y
  pub above : b.low.y ≤ a.high.y

-- the closed square round the plane
abbrev pub whole_square : Rect
whole_square = record {
  low = record { x = 0; y = 0 };
  high = record { x = 2 ^ COORDINATE_BITS; y = 2 ^ COORDINATE_BITS };
}
