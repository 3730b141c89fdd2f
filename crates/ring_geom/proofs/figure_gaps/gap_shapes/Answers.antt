-- Two points have no ring.
use Rattle.ring_geom.proofs.FigureGaps.{points_gap}
use Rattle.ring_geom.proofs.figure_gaps.gap_shapes.Goals as goal

-- so their gap is their squared distance
pub returns-in-Point-Point : goal.returns-in-Point-Point
returns-in-Point-Point c = points_gap _ _ _ _ _ _ c.in-Point-Point.is-0 c.in-Point-Point.is-1 c.gap_points.ensures.least
