-- The first edge, one edge more, and all of them.
use Rattle.sand_model.specs.Points.{IsInRect}
use Rattle.sand_model.specs.Rings.{edges}
use Rattle.ring_geom.proofs.InsideLoop.{no_more_edges}
use Rattle.ring_geom.proofs.Unions.{least_first, least_next, least_of_all}
use Rattle.ring_geom.proofs.ring_gaps.ring_to_rect.Goals as goal

-- the edge that ends at the first vertex
pub edges-init : goal.edges-init
edges-init c =
    least_first {B = IsInRect c.args.r} (edges c.args.corners.now) c.edge.result _ _ _ c.edge.ensures.at
    (c.gap_segment_rect-best.ensures)

-- the edge at hand, with those before it
pub edges-preserved : goal.edges-preserved
edges-preserved c =
    least_next {B = IsInRect c.args.r} (edges c.args.corners.now) c.edges.i c.edge-in-edges.result _ c.edges.best c.gap_segment_rect.result
    c.nearer-best.result c.edge-in-edges.ensures.at c.edges.invariant
    (c.gap_segment_rect.ensures) c.nearer-best.ensures

-- no edge is left
pub returns : goal.returns
returns c =
    least_of_all {B = IsInRect c.args.r} (edges c.args.corners.now) c.edges.i _ _ (no_more_edges c.args.corners.now c.edges.i c.edges-test.false)
    c.edges.invariant
