-- The squared length is the gap of the two points.
use Rattle.std.proofs.Common.{◌∙◌, ap, pos}
use Rattle.plane_geom.proofs.points.gap_points.Goals as goal
use Rattle.plane_geom.proofs.GapOfPoints.{points_least}

-- the fraction is the whole squared length, over 1
pub returns-clause-least : goal.returns-clause-least
returns-clause-least c =
    points_least c.args.a c.args.b c.new.result.num c.new.result.den
    (ap pos c.new.ensures.num ∙ c.square_length.ensures.value) c.new.ensures.den
