-- Only a polygon has a ring.
use Rattle.std.proofs.Common.{sym, subst}
use Rattle.sand_base.specs.declared.goal.Goal.TheVariants as figure
use Rattle.sand_base.specs.declared.shape.Shape.{Shape}
use Rattle.sand_model.specs.FigureGap.{IsGapOf}
use Rattle.ring_geom.proofs.FigureGaps.{point_rect_gap, segment_rect_gap}
use Rattle.ring_geom.proofs.figure_gaps.gap_shape_rect.Goals as goal

-- a point
pub returns-in-Point : goal.returns-in-Point
returns-in-Point c =
    subst (λ (s : Shape). IsGapOf (figure.Shape s) (figure.Rect c.args.r) c.gap_point_rect.result.num c.gap_point_rect.result.den)
    (sym c.in-Point.is) (point_rect_gap c.in-Point.p c.args.r _ _ c.gap_point_rect.ensures)

-- a segment
pub returns-in-Segment : goal.returns-in-Segment
returns-in-Segment c =
    subst (λ (s : Shape). IsGapOf (figure.Shape s) (figure.Rect c.args.r) c.gap_segment_rect.result.num c.gap_segment_rect.result.den)
    (sym c.in-Segment.is) (segment_rect_gap c.in-Segment.s c.args.r _ _ c.gap_segment_rect.ensures)
