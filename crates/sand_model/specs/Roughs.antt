-- Rough shapes, what indexes keep of shapes: of a polygon its bounding rectangle, and any other shape itself.
use Rattle.std.specs.Prelude.{ℕ, min, max, Bool, true, false, List, [], ◌∷◌}
use Rattle.sand_base.specs.declared.goal.Goal.{Goal}
use Rattle.sand_base.specs.declared.goal.Goal.TheVariants as figure
use Rattle.sand_base.specs.declared.point.Point.{Point}
use Rattle.sand_base.specs.declared.rect.Rect.{Rect}
use Rattle.sand_base.specs.declared.shape.Shape.{Shape}
use Rattle.sand_base.specs.declared.shape.Shape.TheVariants as shape

-- the least closed rectangle that holds points, the first of which is given
abbrev pub bound_from : Point → List Point → Rect
bound_from first [] = record { low = first; high = first }
bound_from first (next ∷ more) =
    let rest = bound_from next more in record {
      low = record { x = min first.x rest.low.x; y = min first.y rest.low.y };
      high = record { x = max first.x rest.high.x; y = max first.y rest.high.y };
    }

-- the rough shape: a polygon's bounding rectangle, and any other shape itself
abbrev pub rough_figure : Shape → Goal
rough_figure (shape.Polygon []) = figure.Shape (shape.Polygon [])
rough_figure (shape.Polygon (first ∷ more)) = figure.Rect (bound_from first more)
rough_figure s = figure.Shape s

-- whether an index has no more of the shape than its bounding rectangle
abbrev pub is_rough : Shape → Bool
is_rough (shape.Polygon corners) = true
is_rough s = false

-- an id with the rough shape of its shape
abbrev pub row_figure : ℕ × Shape → ℕ × Goal
row_figure row = (row.0, rough_figure row.1)
