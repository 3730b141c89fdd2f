-- The row that the bytes of a tuple are the encoding of.
use Rattle.std.specs.Prelude.{ℕ, zero, suc, List, [], ◌∷◌, length, take, drop, get_or}
use Rattle.std.specs.Int.{w32, w64, from_be_bytes, cast_signed}
use Rattle.sand_base.specs.declared.kind.Kind.{Kind}
use Rattle.sand_base.specs.declared.kind.Kind.TheVariants as kind
use Rattle.sand_base.specs.declared.point.Point.{Point}
use Rattle.sand_base.specs.declared.shape.Shape.TheVariants as shape
use Rattle.sand_base.specs.declared.value.Value.{Value}
use Rattle.sand_base.specs.declared.value.Value.TheVariants as value
use Rattle.tuple_codec.specs.Encoding.{value_bytes}

-- the coordinate in the first 4 bytes, and the point in the first 8

-- the coordinate in the first 4 bytes
abbrev pub leading_coordinate : List ℕ → ℕ
leading_coordinate bytes = from_be_bytes w32 (take 4 bytes)

-- the point in the first 8 bytes
abbrev pub leading_point : List ℕ → Point
leading_point bytes = record { x = leading_coordinate bytes; y = leading_coordinate (drop 4 bytes) }

-- so many points, one after another
abbrev pub points_in : ℕ → List ℕ → List Point
points_in zero bytes = []
points_in (suc n) bytes = leading_point bytes ∷ points_in n (drop 8 bytes)

-- the value of a kind at the front of some bytes
abbrev pub leading_value : Kind → List ℕ → Value
leading_value kind.Int bytes = value.Int (cast_signed w64 (from_be_bytes w64 (take 8 bytes)))
leading_value kind.Text bytes = value.Text (take (get_or bytes 0 0) (drop 1 bytes))
leading_value kind.Point bytes = value.Shape (shape.Point (leading_point bytes))
leading_value kind.Segment bytes = value.Shape (shape.Segment (record { a = leading_point bytes; b = leading_point (drop 8 bytes) }))
leading_value kind.Polygon bytes = value.Shape (shape.Polygon (points_in (get_or bytes 0 0) (drop 1 bytes)))

-- the row of these columns at the front of some bytes: each value stands behind the bytes of the one before
abbrev pub row_in : List (List ℕ × Kind) → List ℕ → List Value
row_in [] bytes = []
row_in (column ∷ columns) bytes =
    let v = leading_value column.1 bytes in v ∷ row_in columns (drop (length (value_bytes v)) bytes)
