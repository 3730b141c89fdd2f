-- The squares of the four children, from the low corner of their parent and their own side.
use Rattle.std.proofs.Common.{◌≡◌, ℕ, ◌+◌, ◌*◌, ◌/◌, ◌%◌, ◌<◌, List, [], ◌∷◌, map, All, slice_index_or, refl, sym, ap, ap₂, ◌∙◌, arith}
use Rattle.std.proofs.lemmas.List.Elements.{All-cons, All-nil}
use Rattle.sand_base.specs.Plane.{IsInClosedPlane}
use Rattle.sand_base.specs.declared.TheConstants.{COORDINATE_BITS}
use Rattle.sand_base.specs.declared.point.Point.{Point}
use Rattle.sand_base.specs.declared.rect.Rect.{Rect}
use Rattle.z_code.specs.Block.{side_length, IsBlock, corner_of, square_at, square_of, with_square, IsWithSquare, child, children_of}
use Rattle.z_code.specs.declared.block.Block.{Block}
use Rattle.z_code.proofs.CodesOfPoints.{point}
use Rattle.z_code.proofs.Blocks.{square_fits, square_in_closed_plane}
use Rattle.z_code.proofs.Children.{quarter, child_block}

-- the middle of a block is in the closed plane
pub middle_fits : (b : Block) → IsBlock b → b.level < COORDINATE_BITS → (low : Point) (side : ℕ)
    → low ≡ corner_of b → side ≡ side_length (b.level + 1) → IsInClosedPlane (point (low.x + side) (low.y + side))
middle_fits b h above low side is_low is_side =
    let ends = square_fits b h in
    let half = (quarter b h above 0 (omega arith)).half in
    let x : low.x ≡ (corner_of b).x = ap (λ p. p.x) is_low in
    let y : low.y ≡ (corner_of b).y = ap (λ p. p.y) is_low in record {
      x = omega (arith, ends.0, half);
      y = omega (arith, ends.1, half);
    }

-- a square of the children's side is that of the child whose low corner it has
pub quarter_square : (b : Block) → IsBlock b → b.level < COORDINATE_BITS → (i : ℕ) → i < 4 → (low : Point) (side x y : ℕ)
    → low ≡ corner_of b → side ≡ side_length (b.level + 1) → x ≡ low.x + i % 2 * side → y ≡ low.y + i / 2 * side
    → square_at (point x y) side ≡ square_of (child b i)
quarter_square b h above i small low side x y is_low is_side is_x is_y =
    let of_child = quarter b h above i small in
    let own_x = is_x ∙ ap₂ (λ (p : Point) (s : ℕ). p.x + i % 2 * s) is_low is_side ∙ sym of_child.x in
    let own_y = is_y ∙ ap₂ (λ (p : Point) (s : ℕ). p.y + i / 2 * s) is_low is_side ∙ sym of_child.y in
    ap₂ square_at (ap₂ point own_x own_y) is_side

-- the children beside their squares, one by one
pub quarters_of : (b : Block) (blocks : List Block) (none : Block) (first second third fourth : Rect) → blocks ≡ children_of b
    → first ≡ square_of (child b 0) → second ≡ square_of (child b 1) → third ≡ square_of (child b 2) → fourth ≡ square_of (child b 3)
    → (slice_index_or blocks 0 none, first) ∷ (slice_index_or blocks 1 none, second) ∷ (slice_index_or blocks 2 none, third) ∷ (slice_index_or blocks 3 none, fourth) ∷ []
    ≡ map with_square (children_of b)
quarters_of b blocks none first second third fourth are at_first at_second at_third at_fourth =
    rw (are, at_first, at_second, at_third, at_fourth) refl

-- a child before others that stand beside their squares
All-with_child : (b : Block) → IsBlock b → b.level < COORDINATE_BITS → (i : ℕ) → i < 4 → (others : List Block)
    → All IsWithSquare (map with_square others) → All IsWithSquare (map with_square (child b i ∷ others))
All-with_child b h above i small others rest =
    let block = child_block b h above i small in
    let beside : IsWithSquare (with_square (child b i)) = record { block = block; square = refl; in_closed_plane = square_in_closed_plane (child b i) block } in
    All-cons IsWithSquare (with_square (child b i)) (map with_square others) beside rest

-- each of the children stands beside its square
pub All-IsWithSquare : (b : Block) → IsBlock b → b.level < COORDINATE_BITS → All IsWithSquare (map with_square (children_of b))
All-IsWithSquare b h above =
    let before = All-with_child b h above in
    before 0 (omega arith) (child b 1 ∷ child b 2 ∷ child b 3 ∷ [])
    (before 1 (omega arith) (child b 2 ∷ child b 3 ∷ []) (before 2 (omega arith) (child b 3 ∷ []) (before 3 (omega arith) [] (All-nil IsWithSquare))))
