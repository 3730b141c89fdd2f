-- One vertex more.
use Rattle.ring_geom.proofs.BoundingLemmas.{bounding_next}
use Rattle.ring_geom.proofs.bounds.around.Goals as goal

-- the rectangle of the vertices so far is widened by the vertex at hand
pub corners-preserved : goal.corners-preserved
corners-preserved c = record {
  bound = bounding_next c.args.corners.now c.corners.i (record { x = 0; y = 0 }) c.corners.bound c.widened-bound.result c.corners-test.true
      c.corners.invariant.bound c.widened-bound.ensures.wide;
  reach = c.widened-bound.ensures.reach;
}
