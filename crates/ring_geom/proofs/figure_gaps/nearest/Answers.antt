-- Each pair of kinds by its formula, or by a pass over the edges of a ring.
use Rattle.std.proofs.Common.{◌≡◌, ℕ, List, sym, subst}
use Rattle.sand_base.specs.declared.point.Point.{Point}
use Rattle.sand_base.specs.declared.shape.Shape.{Shape}
use Rattle.sand_model.specs.Points.{RationalPoint, IsPoint, IsOnSegment}
use Rattle.sand_model.specs.Figures.{IsPointOf}
use Rattle.sand_model.specs.Gap.{IsLeast}
use Rattle.sand_model.specs.Rings.{IsOnRing}
use Rattle.plane_geom.proofs.Least.{least_exchanged}
use Rattle.ring_geom.proofs.figure_gaps.nearest.Goals as goal

-- what holds of two shapes holds of equal ones
of_shapes : (a b a' b' : Shape) (m e : ℕ) → a ≡ a' → b ≡ b' → IsLeast (IsPointOf a') (IsPointOf b') m e → IsLeast (IsPointOf a) (IsPointOf b) m e
of_shapes a b a' b' m e f g h =
    subst (λ (s : Shape). IsLeast (IsPointOf s) (IsPointOf b) m e) (sym f) (subst (λ (s : Shape). IsLeast (IsPointOf a') (IsPointOf s) m e) (sym g) h)

-- the vertices that the code passes are those of the ring
of_corners : {B : RationalPoint → Type 0} (ps qs : List Point) (m e : ℕ) → ps ≡ qs → IsLeast (IsOnRing ps) B m e → IsLeast (IsOnRing qs) B m e
of_corners {B} ps qs m e f h = subst (λ (xs : List Point). IsLeast (IsOnRing xs) B m e) f h

-- and so are those of two rings
of_rings : (ps qs ps' qs' : List Point) (m e : ℕ) → ps ≡ ps' → qs ≡ qs' → IsLeast (IsOnRing ps) (IsOnRing qs) m e
    → IsLeast (IsOnRing ps') (IsOnRing qs') m e
of_rings ps qs ps' qs' m e f g h =
    of_corners {B = IsOnRing qs'} ps ps' m e f (subst (λ (xs : List Point). IsLeast (IsOnRing ps) (IsOnRing xs) m e) g h)

-- two points
pub returns-in-Point-Point : goal.returns-in-Point-Point
returns-in-Point-Point c =
    of_shapes _ _ _ _ _ _ c.in-Point-Point.is-0 c.in-Point-Point.is-1
    (c.gap_points.ensures.least)

-- a point and a segment
pub returns-in-Point-Segment : goal.returns-in-Point-Segment
returns-in-Point-Segment c =
    of_shapes _ _ _ _ _ _ c.in-Point-Segment.is-0 c.in-Point-Segment.is-1
    (c.gap_point_segment.ensures)

-- a point and a ring
pub returns-in-Point-Polygon : goal.returns-in-Point-Polygon
returns-in-Point-Polygon c =
    of_shapes _ _ _ _ _ _ c.in-Point-Polygon.is-0 c.in-Point-Polygon.is-1
    (least_exchanged {A = IsOnRing c.in-Point-Polygon.ring} {B = IsPoint c.in-Point-Polygon.p} _ _
    (of_corners {B = IsPoint c.in-Point-Polygon.p} _ _ _ _ c.corners.ensures.all c.ring_to_point.ensures))

-- a segment and a point
pub returns-in-Segment-Point : goal.returns-in-Segment-Point
returns-in-Segment-Point c =
    of_shapes _ _ _ _ _ _ c.in-Segment-Point.is-0 c.in-Segment-Point.is-1
    (least_exchanged {A = IsPoint c.in-Segment-Point.p} {B = IsOnSegment c.in-Segment-Point.s} _ _ c.gap_point_segment-in-Segment-Point.ensures)

-- two segments
pub returns-in-Segment-Segment : goal.returns-in-Segment-Segment
returns-in-Segment-Segment c =
    of_shapes _ _ _ _ _ _ c.in-Segment-Segment.is-0 c.in-Segment-Segment.is-1
    (c.gap_segments.ensures)

-- a segment and a ring
pub returns-in-Segment-Polygon : goal.returns-in-Segment-Polygon
returns-in-Segment-Polygon c =
    of_shapes _ _ _ _ _ _ c.in-Segment-Polygon.is-0 c.in-Segment-Polygon.is-1
    (least_exchanged {A = IsOnRing c.in-Segment-Polygon.ring} {B = IsOnSegment c.in-Segment-Polygon.s} _ _
    (of_corners {B = IsOnSegment c.in-Segment-Polygon.s} _ _ _ _ c.corners-in-Segment-Polygon.ensures.all c.ring_to_segment.ensures))

-- a ring and a point
pub returns-in-Polygon-Point : goal.returns-in-Polygon-Point
returns-in-Polygon-Point c =
    of_shapes _ _ _ _ _ _ c.in-Polygon-Point.is-0 c.in-Polygon-Point.is-1
    (of_corners {B = IsPoint c.in-Polygon-Point.p} _ _ _ _ c.corners-in-Polygon-Point.ensures.all c.ring_to_point-in-Polygon-Point.ensures)

-- a ring and a segment
pub returns-in-Polygon-Segment : goal.returns-in-Polygon-Segment
returns-in-Polygon-Segment c =
    of_shapes _ _ _ _ _ _ c.in-Polygon-Segment.is-0 c.in-Polygon-Segment.is-1
    (of_corners {B = IsOnSegment c.in-Polygon-Segment.s} _ _ _ _ c.corners-in-Polygon-Segment.ensures.all c.ring_to_segment-in-Polygon-Segment.ensures)

-- two rings
pub returns-in-Polygon-Polygon : goal.returns-in-Polygon-Polygon
returns-in-Polygon-Polygon c =
    of_shapes _ _ _ _ _ _ c.in-Polygon-Polygon.is-0 c.in-Polygon-Polygon.is-1
    (of_rings _ _ _ _ _ _ c.corners-in-Polygon-Polygon.ensures.all c.corners-in-Polygon-Polygon-2.ensures.all c.ring_to_ring.ensures)
