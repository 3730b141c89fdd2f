-- The four children of a block divide its square and its range, and a block is one of its parent's four.
use Rattle.std.proofs.Common.{◌≡◌, ℕ, zero, suc, ◌+◌, ◌-◌, ◌*◌, ◌/◌, ◌^◌, ◌<◌, ◌≤◌, sym, ap, ◌∙◌, subst, arith, add-one}
use Rattle.std.specs.List.{Contains}
use Rattle.std.proofs.Math.Nat.{pow-succ', mul-le-mul_right}
use Rattle.std.proofs.lemmas.Nat.{pow_pos, div_below}
use Rattle.sand_base.specs.declared.TheConstants.{COORDINATE_BITS}
use Rattle.sand_base.specs.declared.point.Point.{Point}
use Rattle.z_code.specs.Code.{code_of, even_bits}
use Rattle.z_code.specs.Block.{side_length, code_count, IsBlock, HasPoint, HasCode, child, children_of, IsQuarter, IsDivided}
use Rattle.z_code.specs.declared.block.Block.{Block}
use Rattle.z_code.proofs.Powers.{quotient_is, in_run, four_pow}
use Rattle.z_code.proofs.Codes.{even_bits-child, even_bits-half_child}
use Rattle.z_code.proofs.Places.{block, IsPlace, place_of, place_at, block_at, number_of}
use Rattle.z_code.proofs.Blocks.{HasPoint-in_plane, HasPoint-from_code, HasCode-from_point, HasCode-first, same_block}

-- a power of b at one level is b times the power at the next
power_at : (b level : ℕ) → level < COORDINATE_BITS → b ^ (COORDINATE_BITS - level) ≡ b * b ^ (COORDINATE_BITS - (level + 1))
power_at b level above =
    let next : COORDINATE_BITS - level ≡ suc (COORDINATE_BITS - (level + 1)) = omega arith in
    ap (λ t. b ^ t) next ∙ pow-succ' b (COORDINATE_BITS - (level + 1))

-- a child has a quarter of the codes
pub quarter_count : (level : ℕ) → level < COORDINATE_BITS → code_count level ≡ 4 * code_count (level + 1)
quarter_count level above =
    four_pow (COORDINATE_BITS - level)
    ∙ power_at 4 level above
    ∙ ap (λ t. 4 * t) (sym (four_pow (COORDINATE_BITS - (level + 1))))

-- a child's number in its level
abbrev child_number : Block → ℕ → ℕ
child_number b i = 4 * number_of b + i

-- a child stands where its number says
child_first : (b : Block) → IsBlock b → b.level < COORDINATE_BITS → (i : ℕ)
    → child_number b i * 4 ^ (COORDINATE_BITS - (b.level + 1)) ≡ (child b i).z
child_first b h above i =
    let count = four_pow (COORDINATE_BITS - (b.level + 1)) in
    let own = ap (λ t. i * t) count in
    let whole = ap (λ t. number_of b * t) (power_at 4 b.level above) in
    let at = place_of b h in
    omega (arith, at.first, own, whole)

-- a child's number is among those of its level
child_number-lt : (b : Block) → IsBlock b → (i : ℕ) → i < 4 → child_number b i < 4 ^ (b.level + 1)
child_number-lt b h i small =
    let at = place_of b h in
    let next = ap (λ t. 4 ^ t) (add-one b.level) ∙ pow-succ' 4 b.level in
    omega (arith, at.number, next)

-- a child is a block
pub child_block : (b : Block) → IsBlock b → b.level < COORDINATE_BITS → (i : ℕ) → i < 4 → IsBlock (child b i)
child_block b h above i small =
    let j = COORDINATE_BITS - (b.level + 1) in
    let levels : COORDINATE_BITS ≡ j + (b.level + 1) = omega arith in
    let first = child_first b h above i in
    subst (λ z. IsBlock (block z (b.level + 1))) first (block_at (b.level + 1) j (child_number b i) levels (child_number-lt b h i small))

-- the place of a child
child_place : (b : Block) → IsBlock b → b.level < COORDINATE_BITS → (i : ℕ) → i < 4
    → IsPlace (child b i) (COORDINATE_BITS - (b.level + 1)) (child_number b i)
child_place b h above i small =
    let j = COORDINATE_BITS - (b.level + 1) in
    let levels : COORDINATE_BITS ≡ j + (b.level + 1) = omega arith in
    let first = child_first b h above i in
    subst (λ z. IsPlace (block z (b.level + 1)) j (child_number b i)) first (place_at (b.level + 1) j (child_number b i) levels (child_number-lt b h i small))

-- a child is a quarter of the square
pub quarter : (b : Block) → IsBlock b → b.level < COORDINATE_BITS → (i : ℕ) → i < 4 → IsQuarter b i
quarter b h above i small =
    let at = place_of b h in
    let of_child = child_place b h above i small in
    let q = number_of b in
    let side = side_length (b.level + 1) in
    let half = power_at 2 b.level above in
    let bits_x = ap (λ t. even_bits t (child_number b i)) (add-one b.level) ∙ even_bits-child b.level q i small in
    let bits_y = ap (λ t. even_bits t (child_number b i / 2)) (add-one b.level) ∙ even_bits-half_child b.level q i small in
    let own_x = ap (λ t. t * side) bits_x in
    let own_y = ap (λ t. t * side) bits_y in
    let whole_x = ap (λ t. even_bits b.level q * t) half in
    let whole_y = ap (λ t. even_bits b.level (q / 2) * t) half in record {
      block = child_block b h above i small;
      half = half;
      x = omega (arith, of_child.x, at.x, own_x, whole_x);
      y = omega (arith, of_child.y, at.y, own_y, whole_y);
    }

-- the children divide the range
pub divided_codes : (b : Block) → b.level < COORDINATE_BITS → (z : ℕ) → IsDivided (λ c. HasCode c z) b
divided_codes b above z =
    let count = code_count (b.level + 1) in
    let some = pow_pos (2 * (COORDINATE_BITS - (b.level + 1))) in
    let whole = quarter_count b.level above in record {
      some = λ has.
          let run = in_run (z - b.z) count some in (
            (z - b.z) / count,
            div_below (z - b.z) count 4 some (omega (arith, has.from_first, has.below_next, whole)),
            record { from_first = omega (arith, has.from_first, run.0); below_next = omega (arith, has.from_first, run.1) },
          );
      one = λ i j _ _ in_i in_j.
          let number : (t : ℕ) → HasCode (child b t) z → (z - b.z) / count ≡ t =
          λ t has. quotient_is (z - b.z) t count (omega (arith, has.from_first)) (omega (arith, has.from_first, has.below_next)) in
          sym (number i in_i) ∙ number j in_j;
      within = λ i small has.
          let before : i * count ≤ 3 * count = mul-le-mul_right count (omega arith) in
          record { from_first = omega (arith, has.from_first); below_next = omega (arith, has.below_next, before, whole) };
    }

-- the children divide the square
pub divided_points : (b : Block) → IsBlock b → b.level < COORDINATE_BITS → (p : Point) → IsDivided (λ c. HasPoint c p) b
divided_points b h above p =
    let codes = divided_codes b above (code_of p) in
    let of_child = child_block b h above in record {
      some = λ has.
          let found = codes.some (HasCode-from_point b h p has) in
          (found.0, found.1, HasPoint-from_code (child b found.0) (of_child found.0 found.1) p (HasPoint-in_plane b h p has) found.2);
      one = λ i j small_i small_j in_i in_j.
          codes.one i j small_i small_j (HasCode-from_point (child b i) (of_child i small_i) p in_i) (HasCode-from_point (child b j) (of_child j small_j) p in_j);
      within = λ i small has.
          HasPoint-from_code b h p (HasPoint-in_plane (child b i) (of_child i small) p has) (codes.within i small (HasCode-from_point (child b i) (of_child i small) p has));
    }

-- the four children are in the list of the children
pub Contains-child : (b c : Block) (i : ℕ) → i < 4 → child b i ≡ c → Contains (children_of b) c
Contains-child b c zero small same = (0, omega arith, same)
Contains-child b c (suc zero) small same = (1, omega arith, same)
Contains-child b c (suc (suc zero)) small same = (2, omega arith, same)
Contains-child b c (suc (suc (suc zero))) small same = (3, omega arith, same)
Contains-child b c (suc (suc (suc (suc i)))) small same = absurd (omega arith)

-- a block is a child of the block of the level above whose range has its code
pub child_of : (b c : Block) → IsBlock b → IsBlock c → b.level + 1 ≡ c.level → HasCode b c.z → Contains (children_of b) c
child_of b c hb hc level has =
    let above : b.level < COORDINATE_BITS = omega (arith, hc.in_tree) in
    let codes = divided_codes b above c.z in
    let found = codes.some has in
    let same = same_block (child b found.0) c (child_block b hb above found.0 found.1) hc level c.z found.2 (HasCode-first c) in
    Contains-child b c found.0 found.1 same
