-- Only a polygon has a ring.
use Rattle.std.proofs.Common.{false, sym, subst}
use Rattle.std.specs.Prelude.{◌↔◌, IsTrue}
use Rattle.std.proofs.lemmas.Bool.{false≢true}
use Rattle.sand_base.specs.declared.point.Point.{Point}
use Rattle.sand_base.specs.declared.shape.Shape.{Shape}
use Rattle.sand_model.specs.Figures.{Holds, corners_of}
use Rattle.sand_model.specs.Rings.{SomeOf}
use Rattle.ring_geom.proofs.FigureGaps.{none_of}
use Rattle.ring_geom.proofs.corners_inside.has_corner_in.Goals as goal

-- a shape that holds no grid point holds no vertex
ringless : (a b : Shape) → ((v : Point) → ¬ Holds b v) → IsTrue false ↔ SomeOf (Holds b) (corners_of a)
ringless a b h = (λ t. absurd (false≢true t), λ s. absurd (none_of h (corners_of a) s))

-- a point
pub returns-in-Point : goal.returns-in-Point
returns-in-Point c =
    ringless c.args.a.now c.args.b.now (subst (λ (s : Shape). (v : Point) → ¬ Holds s v) (sym c.in-Point.is) (λ v h. h))

-- a segment
pub returns-in-Segment : goal.returns-in-Segment
returns-in-Segment c =
    ringless c.args.a.now c.args.b.now (subst (λ (s : Shape). (v : Point) → ¬ Holds s v) (sym c.in-Segment.is) (λ v h. h))

-- a polygon
pub returns-in-Polygon : goal.returns-in-Polygon
returns-in-Polygon c =
    subst (λ (s : Shape). IsTrue c.has_corner_inside.result ↔ SomeOf (Holds s) (corners_of c.args.a.now)) (sym c.in-Polygon.is)
    c.has_corner_inside.ensures
