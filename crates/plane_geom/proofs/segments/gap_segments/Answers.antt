-- Segments that cross are 0 apart, and others as far as the nearest end.
use Rattle.std.proofs.Common.{refl}
use Rattle.std.proofs.lemmas.Bool.{false≢true}
use Rattle.plane_geom.proofs.segments.gap_segments.Goals as goal
use Rattle.plane_geom.proofs.CrossingPoint.{crossing_least}

-- the segments cross
pub returns-then-crosses : goal.returns-then-crosses
returns-then-crosses c =
    crossing_least c.args.s c.args.t c.new.result.num c.new.result.den c.new.ensures.num c.new.ensures.den (c.if-crosses.ensures.0 refl)

-- the segments don't cross
pub returns-else-crosses : goal.returns-else-crosses
returns-else-crosses c = c.nearest_end.ensures (λ h. false≢true (c.if-crosses.ensures.1 h))
