-- The half-open square of a block and its range of codes hold the same grid points.
use Rattle.std.proofs.Common.{◌≡◌, ℕ, ◌+◌, ◌-◌, ◌*◌, ◌/◌, ◌^◌, ◌<◌, ◌≤◌, ◌↔◌, sym, ap, ap₂, ◌∙◌, subst, arith, add-zero}
use Rattle.std.proofs.lemmas.Nat.{pow_pos}
use Rattle.sand_base.specs.Plane.{IsInPlane, IsRectInClosedPlane}
use Rattle.sand_base.specs.declared.TheConstants.{COORDINATE_BITS}
use Rattle.sand_base.specs.declared.point.Point.{Point}
use Rattle.z_code.specs.Code.{code_of, point_of, even_bits}
use Rattle.z_code.specs.Block.{code_count, IsBlock, square_of, HasPoint, HasCode, IsCodeOfPointIn}
use Rattle.z_code.specs.declared.block.Block.{Block}
use Rattle.z_code.proofs.Powers.{four_pow, four_pow_pos, quotient_is, in_run, run_fits, run_number}
use Rattle.z_code.proofs.Codes.{even_bits-lt, in_square, from_square}
use Rattle.z_code.proofs.CodesOfPoints.{code_of-lt, point_of-in_plane, code_of-point_of}
use Rattle.z_code.proofs.Places.{block, place_of, block_at, height, number_of}

-- the square of a block ends in the plane
pub square_fits : (b : Block) → IsBlock b
    → ((square_of b).high.x ≤ 2 ^ COORDINATE_BITS) × ((square_of b).high.y ≤ 2 ^ COORDINATE_BITS)
square_fits b h =
    let at = place_of b h in
    let q = number_of b in
    let x = run_fits 2 COORDINATE_BITS (height b) b.level (even_bits b.level q) at.levels (even_bits-lt b.level q) in
    let y = run_fits 2 COORDINATE_BITS (height b) b.level (even_bits b.level (q / 2)) at.levels (even_bits-lt b.level (q / 2)) in
    (omega (arith, at.x, x), omega (arith, at.y, y))

-- the range of a block ends among the codes of the plane
pub range_fits : (b : Block) → IsBlock b → b.z + code_count b.level ≤ 2 ^ (2 * COORDINATE_BITS)
range_fits b h =
    let at = place_of b h in
    let end = run_fits 4 COORDINATE_BITS (height b) b.level (number_of b) at.levels at.number in
    omega (arith, at.first, at.count, end)

-- a block's square is a rectangle in the closed plane
pub square_in_closed_plane : (b : Block) → IsBlock b → IsRectInClosedPlane (square_of b)
square_in_closed_plane b h =
    let ends = square_fits b h in record {
      low = record { x = omega (arith, ends.0); y = omega (arith, ends.1) };
      high = record { x = ends.0; y = ends.1 };
      x = omega arith;
      y = omega arith;
    }

-- a point of a block is in the plane
pub HasPoint-in_plane : (b : Block) → IsBlock b → (p : Point) → HasPoint b p → IsInPlane p
HasPoint-in_plane b h p has =
    let ends = square_fits b h in record { x = omega (arith, ends.0, has.below_x); y = omega (arith, ends.1, has.below_y) }

-- what has a block's quotient is in its range
pub HasCode-quotient : (b : Block) → IsBlock b → (z : ℕ) → HasCode b z → z / 4 ^ height b ≡ number_of b
HasCode-quotient b h z has =
    let at = place_of b h in
    quotient_is z (number_of b) (4 ^ height b) (omega (arith, at.first, has.from_first)) (omega (arith, at.first, at.count, has.below_next))

-- a code in the range of a block is that of a point in its square
pub HasPoint-from_code : (b : Block) → IsBlock b → (p : Point) → IsInPlane p → HasCode b (code_of p) → HasPoint b p
HasPoint-from_code b h p plane has =
    let at = place_of b h in
    let side = 2 ^ height b in
    let quotient = HasCode-quotient b h (code_of p) has in
    let inside = in_square COORDINATE_BITS (height b) b.level (number_of b) p.x p.y at.levels plane.x plane.y quotient in
    let x = in_run p.x side (pow_pos (height b)) in
    let y = in_run p.y side (pow_pos (height b)) in
    let at_x = ap (λ t. t * side) inside.0 in
    let at_y = ap (λ t. t * side) inside.1 in record {
      from_x = omega (arith, at.x, at_x, x.0);
      below_x = omega (arith, at.x, at_x, x.1);
      from_y = omega (arith, at.y, at_y, y.0);
      below_y = omega (arith, at.y, at_y, y.1);
    }

-- the code of a point in the square of a block is in its range
pub HasCode-from_point : (b : Block) → IsBlock b → (p : Point) → HasPoint b p → HasCode b (code_of p)
HasCode-from_point b h p has =
    let at = place_of b h in
    let side = 2 ^ height b in
    let q = number_of b in
    let x = quotient_is p.x (even_bits b.level q) side (omega (arith, at.x, has.from_x)) (omega (arith, at.x, has.below_x)) in
    let y = quotient_is p.y (even_bits b.level (q / 2)) side (omega (arith, at.y, has.from_y)) (omega (arith, at.y, has.below_y)) in
    let quotient = from_square COORDINATE_BITS (height b) b.level q p.x p.y at.levels at.number x y in
    let run = in_run (code_of p) (4 ^ height b) (four_pow_pos (height b)) in
    let at_q = ap (λ t. t * 4 ^ height b) quotient in record {
      from_first = omega (arith, at.first, at_q, run.0);
      below_next = omega (arith, at.first, at.count, at_q, run.1);
    }

-- each code in the range is that of a grid point in the square
pub IsCodeOfPointIn-from_code : (b : Block) → IsBlock b → (z : ℕ) → HasCode b z → IsCodeOfPointIn b z
IsCodeOfPointIn-from_code b h z has =
    let small : z < 2 ^ (2 * COORDINATE_BITS) = omega (arith, has.below_next, range_fits b h) in
    let same = code_of-point_of z small in record {
      point = point_of z;
      in_plane = point_of-in_plane z;
      in_square = HasPoint-from_code b h (point_of z) (point_of-in_plane z) (subst (λ t. HasCode b t) (sym same) has);
      code = same;
    }

-- the code of a grid point in the square is in the range
pub HasCode-from_point_in : (b : Block) → IsBlock b → (z : ℕ) → IsCodeOfPointIn b z → HasCode b z
HasCode-from_point_in b h z of_point =
    subst (λ t. HasCode b t) of_point.code (HasCode-from_point b h of_point.point of_point.in_square)

-- the first code of the level at or below a code is that of a block
pub block_of : (z level first : ℕ) → first ≡ z / code_count level * code_count level → z < 2 ^ (2 * COORDINATE_BITS) → level ≤ COORDINATE_BITS
    → IsBlock (block first level)
block_of z level first is small in_tree =
    let j = COORDINATE_BITS - level in
    let levels : COORDINATE_BITS ≡ j + level = omega arith in
    let number = run_number 4 COORDINATE_BITS j level z (omega arith) levels small in
    let from_number : first ≡ z / 4 ^ j * 4 ^ j = is ∙ ap (λ t. z / t * t) (four_pow j) in
    subst (λ t. IsBlock (block t level)) (sym from_number) (block_at level j (z / 4 ^ j) levels number)

-- and its range has the code
pub HasCode-block_of : (z level first : ℕ) → first ≡ z / code_count level * code_count level → HasCode (block first level) z
HasCode-block_of z level first is =
    let run = in_run z (code_count level) (pow_pos (2 * (COORDINATE_BITS - level))) in
    record { from_first = omega (arith, is, run.0); below_next = omega (arith, is, run.1) }

-- the first code of a block, from any code in its range
pub first_of_code : (b : Block) → IsBlock b → (z : ℕ) → HasCode b z → b.z ≡ z / code_count b.level * code_count b.level
first_of_code b h z has =
    let at = place_of b h in
    at.first
    ∙ ap (λ t. t * 4 ^ height b) (sym (HasCode-quotient b h z has))
    ∙ ap (λ t. z / t * t) (sym at.count)

-- two blocks of one level whose ranges share a code are one
pub same_block : (b c : Block) → IsBlock b → IsBlock c → b.level ≡ c.level → (z : ℕ) → HasCode b z → HasCode c z → b ≡ c
same_block b c hb hc level z in_b in_c =
    let first = first_of_code b hb z in_b
    ∙ ap (λ t. z / code_count t * code_count t) level
    ∙ sym (first_of_code c hc z in_c) in
    ap₂ block first level

-- a block's range has its first code
pub HasCode-first : (b : Block) → HasCode b b.z
HasCode-first b = record { from_first = omega arith; below_next = omega (arith, pow_pos (2 * (COORDINATE_BITS - b.level))) }

-- the one block of level 0 has all points of the plane
pub root_points : (p : Point) → IsInPlane p ↔ HasPoint (block 0 0) p
root_points p =
    let root : IsBlock (block 0 0) = block_at 0 COORDINATE_BITS 0 (sym (add-zero COORDINATE_BITS)) (omega arith) in (
      λ plane. HasPoint-from_code (block 0 0) root p plane (record { from_first = omega arith; below_next = code_of-lt p }),
      λ has. HasPoint-in_plane (block 0 0) root p has,
    )
