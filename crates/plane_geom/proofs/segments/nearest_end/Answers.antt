-- The least of the four ends' distances is that of segments that don't cross.
use Rattle.plane_geom.proofs.segments.nearest_end.Goals as goal
use Rattle.plane_geom.proofs.NearestEnd.{nearest_least}

-- each call gives one of the four distances, or the lesser of two
pub returns : goal.returns
returns c =
    nearest_least c.args.s c.args.t c.gap_point_segment.result c.gap_point_segment-2.result c.nearer-of_s.result
    c.gap_point_segment-3.result c.gap_point_segment-4.result c.nearer-of_t.result c.nearer.result
    (record {
      first_of_s = c.gap_point_segment.ensures;
      second_of_s = c.gap_point_segment-2.ensures;
      lesser_of_s = c.nearer-of_s.ensures;
      first_of_t = c.gap_point_segment-3.ensures;
      second_of_t = c.gap_point_segment-4.ensures;
      lesser_of_t = c.nearer-of_t.ensures;
      lesser = c.nearer.ensures;
    })
