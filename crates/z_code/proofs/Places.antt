-- Where a block stands: its number among the blocks of its level, and how many levels there are below it.
use Rattle.std.proofs.Common.{◌≡◌, ℕ, ◌+◌, ◌-◌, ◌*◌, ◌/◌, ◌%◌, ◌^◌, ◌<◌, refl, sym, ap, ◌∙◌, subst, arith}
use Rattle.std.proofs.Math.Nat.{mul-mod_right, mul_comm}
use Rattle.std.proofs.lemmas.Nat.{div-add-mod'}
use Rattle.sand_base.specs.declared.TheConstants.{COORDINATE_BITS}
use Rattle.z_code.specs.Code.{even_bits}
use Rattle.z_code.specs.Block.{side_length, code_count, IsBlock, corner_of}
use Rattle.z_code.specs.declared.block.Block.{Block}
use Rattle.z_code.proofs.Powers.{four_pow, four_pow_pos, run_fits, run_number}
use Rattle.z_code.proofs.Codes.{even_bits-shl, even_bits-half_shl}

-- a block is its code and its level
abbrev pub block : ℕ → ℕ → Block
block z level = record { z = z; level = level }

-- the block is number q of its level in the order of the codes, and j levels above the points
pub record IsPlace (b : Block) (j q : ℕ) : Type 0 where
  pub levels : COORDINATE_BITS ≡ j + b.level
  pub count : code_count b.level ≡ 4 ^ j
  pub side : side_length b.level ≡ 2 ^ j
  pub first : b.z ≡ q * 4 ^ j
  pub number : q < 4 ^ b.level
  pub x : (corner_of b).x ≡ even_bits b.level q * 2 ^ j
  pub y : (corner_of b).y ≡ even_bits b.level (q / 2) * 2 ^ j

-- how many codes a block j levels above the points has
count_at : (k j : ℕ) → COORDINATE_BITS ≡ j + k → code_count k ≡ 4 ^ j
count_at k j levels =
    let left : COORDINATE_BITS - k ≡ j = omega arith in
    ap (λ t. 2 ^ (2 * t)) left ∙ four_pow j

-- the block of a number below the count of its level
pub place_at : (k j q : ℕ) → COORDINATE_BITS ≡ j + k → q < 4 ^ k → IsPlace (block (q * 4 ^ j) k) j q
place_at k j q levels number =
    let left : COORDINATE_BITS - k ≡ j = omega arith in record {
      levels = levels;
      count = count_at k j levels;
      side = ap (λ t. 2 ^ t) left;
      first = refl;
      number = number;
      x = even_bits-shl COORDINATE_BITS j k q levels;
      y = even_bits-half_shl COORDINATE_BITS j k q levels;
    }

-- and it is a block
pub block_at : (k j q : ℕ) → COORDINATE_BITS ≡ j + k → q < 4 ^ k → IsBlock (block (q * 4 ^ j) k)
block_at k j q levels number = record {
  in_tree = omega arith;
  in_plane = omega (arith, run_fits 4 COORDINATE_BITS j k q levels number, four_pow_pos j);
  aligned = ap (λ t. q * 4 ^ j % t) (count_at k j levels) ∙ ap (λ t. t % 4 ^ j) (mul_comm q (4 ^ j)) ∙ mul-mod_right (4 ^ j) q;
}

-- how many levels there are below a block
abbrev pub height : Block → ℕ
height b = COORDINATE_BITS - b.level

-- the number of a block in its level
abbrev pub number_of : Block → ℕ
number_of b = b.z / 4 ^ height b

-- the place of a block
pub place_of : (b : Block) → IsBlock b → IsPlace b (height b) (number_of b)
place_of b h =
    let levels : COORDINATE_BITS ≡ height b + b.level = omega (arith, h.in_tree) in
    let rest : b.z % 4 ^ height b ≡ 0 = ap (λ t. b.z % t) (sym (count_at b.level (height b) levels)) ∙ h.aligned in
    let first : number_of b * 4 ^ height b ≡ b.z = omega (arith, div-add-mod' b.z (4 ^ height b), rest) in
    let number = run_number 4 COORDINATE_BITS (height b) b.level b.z (omega arith) levels h.in_plane in
    let placed : (z : ℕ) → number_of b * 4 ^ height b ≡ z → IsPlace (block z b.level) (height b) (number_of b) =
    λ z e. subst (λ t. IsPlace (block t b.level) (height b) (number_of b)) e (place_at b.level (height b) (number_of b) levels number) in
    placed b.z first
