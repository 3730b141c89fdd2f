-- No rectangle has a ring.
use Rattle.std.proofs.Common.{sym, subst}
use Rattle.sand_base.specs.declared.goal.Goal.{Goal}
use Rattle.sand_base.specs.declared.goal.Goal.TheVariants as figure
use Rattle.sand_model.specs.FigureGap.{IsGapOf}
use Rattle.ring_geom.proofs.FigureGaps.{rects_gap}
use Rattle.ring_geom.proofs.figure_gaps.gap_goal_rect.Goals as goal

-- two rectangles
pub returns-in-Rect : goal.returns-in-Rect
returns-in-Rect c =
    subst (λ (g : Goal). IsGapOf g (figure.Rect c.args.r) c.gap_rects.result.num c.gap_rects.result.den) (sym c.in-Rect.is)
    (rects_gap c.in-Rect.window c.args.r _ _ c.gap_rects.ensures)
