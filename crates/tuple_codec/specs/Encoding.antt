-- The bytes of a row where it is kept: its values in the order of their columns and nothing else. Numbers are big-endian.
use Rattle.std.specs.Prelude.{ℕ, ℤ, List, ◌∷◌, ◌++◌, length}
use Rattle.std.specs.Int.{w32, w64, to_be_bytes, cast_unsigned}
use Rattle.std.specs.List.{flat_map}
use Rattle.sand_base.specs.declared.point.Point.{Point}
use Rattle.sand_base.specs.declared.segment.Segment.{Segment}
use Rattle.sand_base.specs.declared.shape.Shape.{Shape}
use Rattle.sand_base.specs.declared.shape.Shape.TheVariants as shape
use Rattle.sand_base.specs.declared.value.Value.{Value}
use Rattle.sand_base.specs.declared.value.Value.TheVariants as value

-- a coordinate: four bytes
unfoldable pub coordinate_bytes : ℕ → List ℕ
coordinate_bytes n = to_be_bytes w32 n

-- a whole number: eight bytes of two's complement
unfoldable pub int_bytes : ℤ → List ℕ
int_bytes n = to_be_bytes w64 (cast_unsigned w64 n)

-- a text: one byte with the number of its bytes, and they
abbrev pub text_bytes : List ℕ → List ℕ
text_bytes bytes = length bytes ∷ bytes

-- a point: x, then y
abbrev pub point_bytes : Point → List ℕ
point_bytes p = coordinate_bytes p.x ++ coordinate_bytes p.y

-- a segment: its two ends
abbrev pub segment_bytes : Segment → List ℕ
segment_bytes s = point_bytes s.a ++ point_bytes s.b

-- a polygon: one byte with the number of its vertices, and they
abbrev pub ring_bytes : List Point → List ℕ
ring_bytes corners = length corners ∷ flat_map point_bytes corners

-- the bytes of a shape
abbrev pub shape_bytes : Shape → List ℕ
shape_bytes (shape.Point p) = point_bytes p
shape_bytes (shape.Segment s) = segment_bytes s
shape_bytes (shape.Polygon corners) = ring_bytes corners

-- the bytes of a value
abbrev pub value_bytes : Value → List ℕ
value_bytes (value.Int n) = int_bytes n
value_bytes (value.Text bytes) = text_bytes bytes
value_bytes (value.Shape s) = shape_bytes s

-- the bytes of a row
abbrev pub encoding : List Value → List ℕ
encoding row = flat_map value_bytes row
