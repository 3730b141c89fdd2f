-- A window is at the distance 0 exactly from what it overlaps.
use Rattle.std.proofs.Common.{◌≡◌, sym, subst}
use Rattle.std.specs.Prelude.{◌↔◌, IsTrue}
use Rattle.sand_base.specs.Plane.{IsGoalInClosedPlane}
use Rattle.sand_base.specs.declared.goal.Goal.{Goal}
use Rattle.sand_base.specs.declared.goal.Goal.TheVariants as figure
use Rattle.sand_base.specs.declared.shape.Shape.TheVariants as shape
use Rattle.rank_cursor.specs.Cursor.{goal_gap}
use Rattle.rank_cursor.proofs.AtZeroEntries.{measured_zero}
use Rattle.rank_cursor.proofs.Touching.{point_touched}
use Rattle.rank_cursor.proofs.at_zero.touches_point.Goals as goal

pub returns-in-Rect : goal.returns-in-Rect
returns-in-Rect c =
    let known = point_touched c.in-Rect.window c.args.p (subst IsGoalInClosedPlane c.in-Rect.is c.requires.goal) c.requires.point in
    subst (λ (g : Goal). IsTrue c.overlap.result ↔ ((goal_gap g (figure.Shape (shape.Point c.args.p))).num ≡ 0)) (sym c.in-Rect.is)
    (λ yes. known.0 (c.overlap.ensures.0 yes), λ none. c.overlap.ensures.1 (known.1 none))

pub returns-in-Shape : goal.returns-in-Shape
returns-in-Shape c = measured_zero c.num.result c.shape_gap.result (goal_gap c.args.goal.now (figure.Shape (shape.Point c.args.p))) c.num.ensures c.shape_gap.ensures
