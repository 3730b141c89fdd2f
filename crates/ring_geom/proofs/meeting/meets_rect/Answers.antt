-- The bounding rectangle rejects, or the gap decides.
use Rattle.ring_geom.proofs.Overlaps.{measured, rejected}
use Rattle.ring_geom.proofs.meeting.meets_rect.Goals as goal

-- the gap decides
pub returns-then-overlap : goal.returns-then-overlap
returns-then-overlap c =
    measured c.args.a.now c.args.r c.gap_shape_rect.result.num c.num.result c.gap_shape_rect.result.den c.gap_shape_rect.result.positive
    c.num.ensures c.gap_shape_rect.ensures

-- the bounding rectangle lies apart
pub returns-else-overlap : goal.returns-else-overlap
returns-else-overlap c =
    rejected c.args.a.now c.bounding.result c.args.r c.overlap.result c.requires.r.x c.requires.r.y c.bounding.ensures.bound.holds
    c.if-overlap.false c.overlap.ensures.1
