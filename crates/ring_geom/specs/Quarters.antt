-- The quarters of a rectangle at a grid point of it, and rectangles that tile another.
use Rattle.std.specs.Prelude.{List, [], ◌∷◌}
use Rattle.sand_base.specs.declared.goal.Goal.{Goal}
use Rattle.sand_base.specs.declared.goal.Goal.TheVariants as goal
use Rattle.sand_base.specs.declared.point.Point.{Point}
use Rattle.sand_base.specs.declared.rect.Rect.{Rect}
use Rattle.sand_model.specs.Points.{RationalPoint, IsInRect}
use Rattle.sand_model.specs.FigureGap.{IsMeeting}
use Rattle.sand_model.specs.Rings.{SomeOf}

-- the closed quarter of low x and low y
abbrev pub low_low : Rect → Point → Rect
low_low r c = record { low = r.low; high = c }

-- that of high x and low y
abbrev pub high_low : Rect → Point → Rect
high_low r c = record { low = record { x = c.x; y = r.low.y }; high = record { x = r.high.x; y = c.y } }

-- that of low x and high y
abbrev pub low_high : Rect → Point → Rect
low_high r c = record { low = record { x = r.low.x; y = c.y }; high = record { x = c.x; y = r.high.y } }

-- that of high x and high y
abbrev pub high_high : Rect → Point → Rect
high_high r c = record { low = c; high = r.high }

-- all four, in the order of a block's children
abbrev pub quarters : Rect → Point → List Rect
quarters r c = low_low r c ∷ high_low r c ∷ low_high r c ∷ high_high r c ∷ []

-- the figure meets one of the four
abbrev pub MeetsAQuarter : Goal → Rect → Point → Type 0
MeetsAQuarter a r c = SomeOf (λ q. IsMeeting a (goal.Rect q)) (quarters r c)

-- each point of the first rectangle lies in one of the others
abbrev pub Tiles : Rect → List Rect → Type 0
Tiles root parts = (q : RationalPoint) → IsInRect root q → SomeOf (λ part. IsInRect part q) parts
