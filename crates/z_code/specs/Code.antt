-- Morton codes (Z-order): one number for each grid point, with the bits of x and y in turn. After G. M. Morton (1966).
use Rattle.std.specs.Prelude.{◌≡◌, ℕ, zero, suc, ◌+◌, ◌*◌, ◌/◌, ◌%◌, ◌<◌}
use Rattle.std.specs.Int.{bit_at}
use Rattle.sand_base.specs.declared.TheConstants.{COORDINATE_BITS}
use Rattle.sand_base.specs.declared.point.Point.{Point}

-- the low bits of a number set apart: bit i goes to place 2i, and the odd places are 0
unfoldable pub spread_bits : ℕ → ℕ → ℕ
spread_bits zero n = 0
spread_bits (suc bits) n = 4 * spread_bits bits (n / 2) + n % 2

-- the low bits at even places closed up: the bit of place 2i goes to place i
unfoldable pub even_bits : ℕ → ℕ → ℕ
even_bits zero z = 0
even_bits (suc bits) z = 2 * even_bits bits (z / 4) + z % 2

-- the code of a point: x at the even places, y at the odd ones
abbrev pub code_of : Point → ℕ
code_of p = spread_bits COORDINATE_BITS p.x + 2 * spread_bits COORDINATE_BITS p.y

-- the point that has the code
abbrev pub point_of : ℕ → Point
point_of z = record { x = even_bits COORDINATE_BITS z; y = even_bits COORDINATE_BITS (z / 2) }

-- bit 2i of the code is bit i of x, and bit 2i + 1 of the code is bit i of y
pub record Interleaves (z : ℕ) (p : Point) : Type 0 where
  pub x : (i : ℕ) → i < COORDINATE_BITS → bit_at z (2 * i) ≡ bit_at p.x i
  pub y : (i : ℕ) → i < COORDINATE_BITS → bit_at z (2 * i + 1) ≡ bit_at p.y i
