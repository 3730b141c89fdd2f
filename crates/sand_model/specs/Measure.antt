-- The gap as a function, by which trees and answers are told.
use Rattle.std.specs.Prelude.{Bool, nat_eq}
use Rattle.exact_frac.specs.declared.frac.Frac.{Frac}
use Rattle.sand_base.specs.declared.goal.Goal.{Goal}
use Rattle.sand_base.specs.declared.goal.Goal.TheVariants as figure
use Rattle.sand_base.specs.declared.rect.Rect.{Rect}
use Rattle.sand_base.specs.declared.shape.Shape.{Shape}
use Rattle.sand_base.specs.Plane.{IsGoalInClosedPlane}
use Rattle.sand_model.specs.FigureGap.{IsFigureGap}

-- a fraction for each two figures, points, segments, polygons or rectangles
abbrev pub Measure : Type 0
Measure = Goal → Goal → Frac

-- the fraction is the gap, for every two figures of the closed square
abbrev pub IsMeasure : Measure → Type 0
IsMeasure gap = (a b : Goal) → IsGoalInClosedPlane a → IsGoalInClosedPlane b → IsFigureGap a b (gap a b)

-- the gap of a shape and a closed rectangle is 0
abbrev pub meets : Measure → Shape → Rect → Bool
meets gap s r = nat_eq (gap (figure.Shape s) (figure.Rect r)).num 0
