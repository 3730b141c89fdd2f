-- A rectangle and a shape are as far apart as the shape and the rectangle.
use Rattle.std.proofs.Common.{sym, subst}
use Rattle.sand_base.specs.declared.goal.Goal.{Goal}
use Rattle.sand_base.specs.declared.goal.Goal.TheVariants as figure
use Rattle.sand_model.specs.FigureGap.{IsGapOf}
use Rattle.ring_geom.proofs.FigureGaps.{gap_exchanged}
use Rattle.ring_geom.proofs.figure_gaps.gap_goal.Goals as goal

-- the two exchanged
pub returns-in-Rect : goal.returns-in-Rect
returns-in-Rect c =
    subst (λ (g : Goal). IsGapOf g (figure.Shape c.args.s.now) c.gap_shape_rect.result.num c.gap_shape_rect.result.den) (sym c.in-Rect.is)
    (gap_exchanged (figure.Shape c.args.s.now) (figure.Rect c.in-Rect.window) _ _ c.gap_shape_rect.ensures)
