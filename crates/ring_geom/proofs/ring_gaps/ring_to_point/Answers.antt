-- The first edge, one edge more, and all of them.
use Rattle.sand_model.specs.Points.{IsPoint, IsOnSegment}
use Rattle.sand_model.specs.Rings.{edges}
use Rattle.plane_geom.proofs.Least.{least_exchanged}
use Rattle.ring_geom.proofs.InsideLoop.{no_more_edges}
use Rattle.ring_geom.proofs.Unions.{least_first, least_next, least_of_all}
use Rattle.ring_geom.proofs.ring_gaps.ring_to_point.Goals as goal

-- the edge that ends at the first vertex
pub edges-init : goal.edges-init
edges-init c =
    least_first {B = IsPoint c.args.p} (edges c.args.corners.now) c.edge.result _ _ _ c.edge.ensures.at
    (least_exchanged {A = IsPoint c.args.p} {B = IsOnSegment c.edge.result} _ _ c.gap_point_segment-best.ensures)

-- the edge at hand, with those before it
pub edges-preserved : goal.edges-preserved
edges-preserved c =
    least_next {B = IsPoint c.args.p} (edges c.args.corners.now) c.edges.i c.edge-in-edges.result _ c.edges.best c.gap_point_segment.result
    c.nearer-best.result c.edge-in-edges.ensures.at c.edges.invariant
    (least_exchanged {A = IsPoint c.args.p} {B = IsOnSegment c.edge-in-edges.result} _ _ c.gap_point_segment.ensures) c.nearer-best.ensures

-- no edge is left
pub returns : goal.returns
returns c =
    least_of_all {B = IsPoint c.args.p} (edges c.args.corners.now) c.edges.i _ _ (no_more_edges c.args.corners.now c.edges.i c.edges-test.false)
    c.edges.invariant
