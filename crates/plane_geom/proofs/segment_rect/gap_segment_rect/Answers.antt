-- A segment that enters the rectangle is 0 apart, and another as far as the nearest end or corner.
use Rattle.std.proofs.Common.{refl}
use Rattle.std.proofs.lemmas.Bool.{false≢true}
use Rattle.plane_geom.proofs.segment_rect.gap_segment_rect.Goals as goal
use Rattle.plane_geom.proofs.EndsAndCorners.{entering_least}

-- the segment enters the rectangle
pub returns-then-enters : goal.returns-then-enters
returns-then-enters c =
    entering_least c.args.s c.args.r c.new.result.num c.new.result.den (record { x = c.requires.r.x; y = c.requires.r.y })
    c.new.ensures.num c.new.ensures.den (c.if-enters.ensures.0 refl)

-- the segment stays outside
pub returns-else-enters : goal.returns-else-enters
returns-else-enters c = c.nearest_end_or_corner.ensures (λ h. false≢true (c.if-enters.ensures.1 h))
