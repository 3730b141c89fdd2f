-- How many bytes a row takes where it is kept.
use Rattle.std.specs.Prelude.{ℕ, ◌+◌, ◌*◌, List, length, sum_by}
use Rattle.sand_base.specs.declared.shape.Shape.{Shape}
use Rattle.sand_base.specs.declared.shape.Shape.TheVariants as shape
use Rattle.sand_base.specs.declared.value.Value.{Value}
use Rattle.sand_base.specs.declared.value.Value.TheVariants as value

-- 4 bytes for each coordinate, and one for the number of a polygon's vertices
abbrev pub shape_size : Shape → ℕ
shape_size (shape.Point p) = 8
shape_size (shape.Segment s) = 16
shape_size (shape.Polygon corners) = 1 + 8 * length corners

-- 8 bytes for a whole number; the bytes of a text, and one for their number
abbrev pub value_size : Value → ℕ
value_size (value.Int n) = 8
value_size (value.Text bytes) = 1 + length bytes
value_size (value.Shape s) = shape_size s

-- the sum over the values of a row
abbrev pub row_size : List Value → ℕ
row_size row = sum_by value_size row
