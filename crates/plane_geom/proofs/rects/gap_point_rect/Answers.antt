-- A point is the rectangle with it as both corners.
use Rattle.plane_geom.proofs.rects.gap_point_rect.Goals as goal
use Rattle.plane_geom.proofs.GapOfRectangles.{point_rect_least}

-- the call answers for that rectangle
pub returns : goal.returns
returns c = point_rect_least c.args.p c.args.r c.gap_rects.result.num c.gap_rects.result.den c.gap_rects.ensures
