-- A segment has two vertices.
use Rattle.std.proofs.Common.{sym, subst}
use Rattle.sand_base.specs.declared.shape.Shape.{Shape}
use Rattle.sand_model.specs.Figures.{corners_of}
use Rattle.ring_geom.specs.Bounding.{IsBounding}
use Rattle.ring_geom.proofs.BoundingLemmas.{bounding_two}
use Rattle.ring_geom.proofs.bounds.bounding.Goals as goal

-- the rectangle of the first end is widened by the second
pub returns-in-Segment-clause-bound : goal.returns-in-Segment-clause-bound
returns-in-Segment-clause-bound c =
    subst (λ (a : Shape). IsBounding (corners_of a) c.widened.result) (sym c.in-Segment.is)
    (bounding_two c.in-Segment.s.a c.in-Segment.s.b c.widened.result c.widened.ensures.wide)
