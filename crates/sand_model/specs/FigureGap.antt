-- The gap of two figures: 0 where a vertex of one lies inside the other's ring, and else the least squared distance.
use Rattle.std.specs.Prelude.{◌≡◌, ◌⊎◌, ℕ}
use Rattle.exact_frac.specs.declared.frac.Frac.{Frac}
use Rattle.sand_base.specs.declared.goal.Goal.{Goal}
use Rattle.sand_base.specs.declared.goal.Goal.TheVariants as goal
use Rattle.sand_base.specs.declared.shape.Shape.{Shape}
use Rattle.sand_model.specs.Figures.{IsPointOfFigure, HoldsInside, vertices_of}
use Rattle.sand_model.specs.Gap.{IsLeast}
use Rattle.sand_model.specs.Rings.{SomeOf}

-- a vertex of one figure lies inside the other's ring
abbrev pub IsCovering : Goal → Goal → Type 0
IsCovering a b = SomeOf (HoldsInside b) (vertices_of a) ⊎ SomeOf (HoldsInside a) (vertices_of b)

-- num / den is the gap of the two figures
pub record IsGapOf (a b : Goal) (num den : ℕ) : Type 0 where
  pub inside : IsCovering a b → num ≡ 0
  pub outside : ¬ IsCovering a b → IsLeast (IsPointOfFigure a) (IsPointOfFigure b) num den

-- the figures meet: their gap is 0
abbrev pub IsMeeting : Goal → Goal → Type 0
IsMeeting a b = IsGapOf a b 0 1

-- the fraction is the gap of the two figures
abbrev pub IsFigureGap : Goal → Goal → Frac → Type 0
IsFigureGap a b gap = IsGapOf a b gap.num gap.den

-- the fraction is the gap of the two shapes
abbrev pub IsGap : Shape → Shape → Frac → Type 0
IsGap a b gap = IsFigureGap (goal.Shape a) (goal.Shape b) gap
