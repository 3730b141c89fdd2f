-- The least distance of the ends and the corners is that of a segment that doesn't enter the rectangle.
use Rattle.std.proofs.Common.{◌≡◌, ℕ, subst}
use Rattle.sand_base.specs.declared.segment.Segment.{Segment}
use Rattle.sand_model.specs.Points.{IsPoint, IsOnSegment}
use Rattle.sand_model.specs.Gap.{IsLeast}
use Rattle.plane_geom.proofs.segment_rect.nearest_end_or_corner.Goals as goal
use Rattle.plane_geom.proofs.EndsAndCorners.{nearest_least}

-- the distance of the first end of a side is that of the corner
first_corner : (s t u : Segment) (m e : ℕ) → t ≡ u → IsLeast (IsPoint t.a) (IsOnSegment s) m e → IsLeast (IsPoint u.a) (IsOnSegment s) m e
first_corner s t u m e same h = subst (λ (v : Segment). IsLeast (IsPoint v.a) (IsOnSegment s) m e) same h

-- and so is that of the second end
second_corner : (s t u : Segment) (m e : ℕ) → t ≡ u → IsLeast (IsPoint t.b) (IsOnSegment s) m e → IsLeast (IsPoint u.b) (IsOnSegment s) m e
second_corner s t u m e same h = subst (λ (v : Segment). IsLeast (IsPoint v.b) (IsOnSegment s) m e) same h

-- each call gives one of the six distances, or the lesser of two
pub returns : goal.returns
returns c =
    nearest_least c.args.s c.args.r c.gap_point_rect.result c.gap_point_rect-2.result c.nearer-of_ends.result c.gap_point_segment.result
    c.gap_point_segment-2.result c.nearer-of_left.result c.gap_point_segment-3.result c.gap_point_segment-4.result c.nearer-of_right.result
    c.nearer.result c.nearer-2.result (record { x = c.requires.r.x; y = c.requires.r.y })
    (record {
      from_a = c.gap_point_rect.ensures;
      from_b = c.gap_point_rect-2.ensures;
      of_ends = c.nearer-of_ends.ensures;
      from_low = first_corner c.args.s _ _ _ _ c.vertical_sides.ensures.left c.gap_point_segment.ensures;
      from_top_left = second_corner c.args.s _ _ _ _ c.vertical_sides.ensures.left c.gap_point_segment-2.ensures;
      of_left = c.nearer-of_left.ensures;
      from_bottom_right = first_corner c.args.s _ _ _ _ c.vertical_sides.ensures.right c.gap_point_segment-3.ensures;
      from_high = second_corner c.args.s _ _ _ _ c.vertical_sides.ensures.right c.gap_point_segment-4.ensures;
      of_right = c.nearer-of_right.ensures;
      of_corners = c.nearer.ensures;
      of_all = c.nearer-2.ensures;
    })
