-- The gap call gives a fraction of the measure's value.
use Rattle.std.proofs.Common.{sym, subst}
use Rattle.sand_base.specs.Plane.{IsGoalInClosedPlane}
use Rattle.sand_base.specs.declared.goal.Goal.{Goal}
use Rattle.sand_base.specs.declared.goal.Goal.TheVariants as figure
use Rattle.best_first.specs.Reach.{IsSameGap}
use Rattle.rank_cursor.specs.Cursor.{the_measure}
use Rattle.rank_cursor.proofs.LeafEntries.{gap_is}
use Rattle.dist_join.proofs.figures.figures_gap.Goals as goal

pub returns-in-Shape : goal.returns-in-Shape
returns-in-Shape c =
    subst (λ (g : Goal). IsSameGap c.gap_goal.result (the_measure c.args.a.now g)) (sym c.in-Shape.is)
    (gap_is c.args.a.now (figure.Shape c.in-Shape.shape) c.gap_goal.result c.requires.a (subst IsGoalInClosedPlane c.in-Shape.is c.requires.b) c.gap_goal.ensures)

pub returns-in-Rect : goal.returns-in-Rect
returns-in-Rect c =
    subst (λ (g : Goal). IsSameGap c.gap_goal_rect.result (the_measure c.args.a.now g)) (sym c.in-Rect.is)
    (gap_is c.args.a.now (figure.Rect c.in-Rect.rect) c.gap_goal_rect.result c.requires.a (subst IsGoalInClosedPlane c.in-Rect.is c.requires.b) c.gap_goal_rect.ensures)
