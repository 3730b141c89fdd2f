-- Neither a point nor a segment has an inside, so the gap is that of their nearest points.
use Rattle.std.proofs.Common.{sym, subst}
use Rattle.sand_base.specs.declared.goal.Goal.TheVariants as figure
use Rattle.sand_base.specs.declared.shape.Shape.{Shape}
use Rattle.sand_base.specs.declared.shape.Shape.TheVariants as shape
use Rattle.sand_model.specs.FigureGap.{IsGapOf}
use Rattle.ring_geom.proofs.FigureGaps.{ringless_gap}
use Rattle.rank_cursor.proofs.LeafEntries.{gap_is}
use Rattle.near_cursor.proofs.figures.segment_gap_from.Goals as goal

-- from a point
pub returns-in-Point : goal.returns-in-Point
returns-in-Point c =
    let s = figure.Shape (shape.Segment c.args.s) in
    gap_is (figure.Shape c.args.from.now) s c.gap_point_segment.result c.requires.from c.requires.segment
    (subst (λ (from : Shape). IsGapOf (figure.Shape from) s c.gap_point_segment.result.num c.gap_point_segment.result.den) (sym c.in-Point.is)
    (ringless_gap (figure.Shape (shape.Point c.in-Point.p)) s _ _ (λ v k. k) (λ v k. k) c.gap_point_segment.ensures))

-- from another shape the gap call gives a fraction of the measure's value
pub returns : goal.returns
returns c = gap_is (figure.Shape c.args.from.now) (figure.Shape (shape.Segment c.args.s)) c.gap_shapes.result c.requires.from c.requires.segment c.gap_shapes.ensures
