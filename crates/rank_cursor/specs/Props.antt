-- That a goal lies in the closed square is a fact: it has at most one proof.
use Rattle.std.proofs.Props.{props}
use Rattle.sand_base.specs.Plane.{IsGoalInClosedPlane}
use Rattle.sand_base.specs.declared.goal.Goal.{Goal}
use Rattle.sand_base.specs.declared.goal.Goal.TheVariants as figure
use Rattle.sand_base.specs.declared.shape.Shape.TheVariants as shape

-- that a goal lies in the closed plane has one proof
pub closed_goal_prop : (g : Goal) → IsProp (IsGoalInClosedPlane g)
closed_goal_prop (figure.Shape (shape.Point p)) = Prim.hlevel props
closed_goal_prop (figure.Shape (shape.Segment s)) = Prim.hlevel props
closed_goal_prop (figure.Shape (shape.Polygon corners)) = Prim.hlevel props
closed_goal_prop (figure.Rect r) = Prim.hlevel props
