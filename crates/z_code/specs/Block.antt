-- Blocks of the quadtree, as squares of the plane and as ranges of Morton codes. After I. Gargantini (1982) and H. Samet (2006).
use Rattle.std.specs.Prelude.{◌≡◌, ℕ, ◌+◌, ◌-◌, ◌*◌, ◌/◌, ◌%◌, ◌^◌, ◌<◌, ◌≤◌, ◌↔◌, List, [], ◌∷◌}
use Rattle.sand_base.specs.Plane.{IsInPlane, IsRectInClosedPlane}
use Rattle.sand_base.specs.declared.TheConstants.{COORDINATE_BITS}
use Rattle.sand_base.specs.declared.point.Point.{Point}
use Rattle.sand_base.specs.declared.rect.Rect.{Rect}
use Rattle.z_code.specs.Code.{code_of, point_of}
use Rattle.z_code.specs.declared.block.Block.{Block}

-- the side of a block of this level, in grid points
abbrev pub side_length : ℕ → ℕ
side_length level = 2 ^ (COORDINATE_BITS - level)

-- how many codes a block of this level has, one for each grid point of its half-open square
abbrev pub code_count : ℕ → ℕ
code_count level = 2 ^ (2 * (COORDINATE_BITS - level))

-- the level is in the tree, and the code is the least one of a block of this level
pub record IsBlock (b : Block) : Type 0 where
  pub in_tree : b.level ≤ COORDINATE_BITS
  pub in_plane : b.z < 2 ^ (2 * COORDINATE_BITS)
  pub aligned : b.z % code_count b.level ≡ 0

-- the low corner of a block is the point of its code
abbrev pub corner_of : Block → Point
corner_of b = point_of b.z

-- the closed square of a side from its low corner
abbrev pub square_at : Point → ℕ → Rect
square_at low side = record { low = low; high = record { x = low.x + side; y = low.y + side } }

-- the closed square of a block
abbrev pub square_of : Block → Rect
square_of b = square_at (corner_of b) (side_length b.level)

-- a block beside its closed square
abbrev pub with_square : Block → Block × Rect
with_square b = (b, square_of b)

-- the block is one of the quadtree, and the square beside it is its own and lies in the closed plane
pub record IsWithSquare (pair : Block × Rect) : Type 0 where
  pub block : IsBlock pair.0
  pub square : pair.1 ≡ square_of pair.0
  pub in_closed_plane : IsRectInClosedPlane pair.1

-- the point lies in the half-open square of the block, which has its low sides and not its high ones
pub record HasPoint (b : Block) (p : Point) : Type 0 where
  pub from_x : (square_of b).low.x ≤ p.x
  pub below_x : p.x < (square_of b).high.x
  pub from_y : (square_of b).low.y ≤ p.y
  pub below_y : p.y < (square_of b).high.y

-- the code is in the range of the block
pub record HasCode (b : Block) (z : ℕ) : Type 0 where
  pub from_first : b.z ≤ z
  pub below_next : z < b.z + code_count b.level

-- the code is that of a grid point of the plane in the block's half-open square
pub record IsCodeOfPointIn (b : Block) (z : ℕ) : Type 0 where
  pub point : Point
  pub in_plane : IsInPlane point
  pub in_square : HasPoint b point
  pub code : code_of point ≡ z

-- the child of this number: each has a quarter of the codes, in the order of the numbers
abbrev pub child : Block → ℕ → Block
child b number = record { z = b.z + number * code_count (b.level + 1); level = b.level + 1 }

-- the four children in their order
abbrev pub children_of : Block → List Block
children_of b = child b 0 ∷ child b 1 ∷ child b 2 ∷ child b 3 ∷ []

-- the child is a quarter of the square: 0 has low x and low y, 1 high x and low y, 2 low x and high y, 3 high x and high y
pub record IsQuarter (b : Block) (number : ℕ) : Type 0 where
  pub block : IsBlock (child b number)
  pub half : side_length b.level ≡ 2 * side_length (b.level + 1)
  pub x : (corner_of (child b number)).x ≡ (corner_of b).x + number % 2 * side_length (b.level + 1)
  pub y : (corner_of (child b number)).y ≡ (corner_of b).y + number / 2 * side_length (b.level + 1)

-- what the block has, just one of its four children has, and they have nothing else
pub record IsDivided (Has : Block → Type 0) (b : Block) : Type 0 where
  pub some : Has b → (number : ℕ) × (number < 4) × Has (child b number)
  pub one : (i j : ℕ) → i < 4 → j < 4 → Has (child b i) → Has (child b j) → i ≡ j
  pub within : (number : ℕ) → number < 4 → Has (child b number) → Has b

-- the closed square of the other block lies in the closed square of this one
pub record HoldsSquare (b other : Block) : Type 0 where
  pub low_x : (square_of b).low.x ≤ (square_of other).low.x
  pub high_x : (square_of other).high.x ≤ (square_of b).high.x
  pub low_y : (square_of b).low.y ≤ (square_of other).low.y
  pub high_y : (square_of other).high.y ≤ (square_of b).high.y

-- the range of the other block lies in the range of this one
pub record HoldsRange (b other : Block) : Type 0 where
  pub from_first : b.z ≤ other.z
  pub to_last : other.z + code_count other.level ≤ b.z + code_count b.level

-- what is told holds where the other block lies in this one, by their closed squares, by their codes and by their ranges alike
pub record IsContainment (Told : Type 0) (b other : Block) : Type 0 where
  pub squares : Told ↔ HoldsSquare b other
  pub codes : Told ↔ ((z : ℕ) → HasCode other z → HasCode b z)
  pub ranges : Told ↔ HoldsRange b other
