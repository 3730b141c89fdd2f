-- Which values, rows, schemas and ceilings are in range: what the grammar, the codec, the store and the geometry ask of them.
use Rattle.std.specs.Prelude.{◌≡◌, ℕ, ℤ, ◌+◌, ◌-◌, ◌≤◌, ◌<◌, ◌^◌, Bool, false, ◌&&◌, ◌||◌, nat_lt, nat_le, pos, negsuc, ◌≤ℤ◌, List, length, map, Option, IfSome, All, IsUtf8, chars}
use Rattle.sand_base.specs.declared.TheConstants.{COORDINATE_BITS}
use Rattle.sand_base.specs.declared.kind.Kind.{Kind}
use Rattle.sand_base.specs.declared.value.Value.{Value}
use Rattle.sand_base.specs.declared.value.Value.TheVariants as value
use Rattle.sand_base.specs.Plane.{IsShapeInPlane}
use Rattle.sand_base.specs.Shape.{value_kind}

-- the character is a control character: U+0000 to U+001F, or U+007F to U+009F
abbrev pub is_control : ℕ → Bool
is_control c = nat_lt c 32 || (nat_le 127 c && nat_lt c 160)

-- the bytes are a text: at most 255 of them, well-formed UTF-8, without control characters
pub record IsTextInRange (bytes : List ℕ) : Type 0 where
  pub short : length bytes ≤ 255
  pub spelled : IsUtf8 bytes
  pub plain : All (λ c. is_control c ≡ false) (chars bytes)

-- the number is from -2^63 to 2^63 - 1
pub record IsIntInRange (n : ℤ) : Type 0 where
  pub low : negsuc (2 ^ 63 - 1) ≤ℤ n
  pub high : n ≤ℤ pos (2 ^ 63 - 1)

-- a value in range
abbrev pub IsValueInRange : Value → Type 0
IsValueInRange (value.Int n) = IsIntInRange n
IsValueInRange (value.Text bytes) = IsTextInRange bytes
IsValueInRange (value.Shape s) = IsShapeInPlane s

-- a row in range: each value is
abbrev pub IsRowInRange : List Value → Type 0
IsRowInRange row = All IsValueInRange row

-- a schema in range has 1 to 12 columns
pub record IsSchemaInRange (schema : List (List ℕ × Kind)) : Type 0 where
  pub some : 1 ≤ length schema
  pub most : length schema ≤ 12

-- the row is of the schema: a value of its kind for each column
abbrev pub IsRowOf : List (List ℕ × Kind) → List Value → Type 0
IsRowOf schema row = map value_kind row ≡ map (λ column. column.1) schema

-- the greatest distance of a search, if any, is at most some four widths of the plane
abbrev pub IsCeilingInRange : Option ℕ → Type 0
IsCeilingInRange ceiling = IfSome ceiling (λ most. most < 2 ^ (COORDINATE_BITS + 2))
