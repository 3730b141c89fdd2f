-- The four children of a block are blocks, and their ranges of codes follow one another.
use Rattle.std.proofs.Common.{◌≡◌, ℕ, suc, ◌+◌, ◌-◌, ◌*◌, ◌/◌, ◌%◌, ◌^◌, ◌<◌, ◌≤◌, ap, ◌∙◌, arith}
use Rattle.std.proofs.Math.Nat.{pow-succ', mul-mod_right, mul-le-mul_right, lt_of_mul-lt-mul_right}
use Rattle.std.proofs.lemmas.Nat.{pow-add, pow_pos, div-add-mod'}
use Rattle.sand_base.specs.declared.TheConstants.{COORDINATE_BITS}
use Rattle.z_code.specs.Block.{code_count, IsBlock, child}
use Rattle.z_code.specs.declared.block.Block.{Block}

-- a child has a quarter of the codes
pub quarter_count : (level : ℕ) → level < COORDINATE_BITS → code_count level ≡ 4 * code_count (level + 1)
quarter_count level above =
    let next : 2 * (COORDINATE_BITS - level) ≡ suc (suc (2 * (COORDINATE_BITS - (level + 1)))) = omega arith in
    let twice = pow-succ' 2 (2 * (COORDINATE_BITS - (level + 1))) in
    let four = pow-succ' 2 (suc (2 * (COORDINATE_BITS - (level + 1)))) in
    ap (λ t. 2 ^ t) next ∙ omega (arith, twice, four)

-- a block has at least one code
pub count_some : (level : ℕ) → 1 ≤ code_count level
count_some level = pow_pos (2 * (COORDINATE_BITS - level))

-- the plane has whole blocks of a level
plane_count : (level : ℕ) → level ≤ COORDINATE_BITS → 2 ^ (2 * COORDINATE_BITS) ≡ 2 ^ (2 * level) * code_count level
plane_count level h =
    let parts : 2 * COORDINATE_BITS ≡ 2 * level + 2 * (COORDINATE_BITS - level) = omega arith in
    ap (λ t. 2 ^ t) parts ∙ pow-add 2 (2 * level) (2 * (COORDINATE_BITS - level))

-- a multiple of a number below a multiple of it ends there at most
fits : (c n q z : ℕ) → z ≡ q * c → z < n * c → z + c ≤ n * c
fits c n q z is below =
    let less : q < n = lt_of_mul-lt-mul_right c (omega (arith, is, below)) in
    let next : suc q * c ≤ n * c = mul-le-mul_right c less in
    omega (arith, next, is)

-- the codes of a block end in the plane
pub range_fits : (b : Block) → IsBlock b → b.z + code_count b.level ≤ 2 ^ (2 * COORDINATE_BITS)
range_fits b h =
    let whole = plane_count b.level h.in_tree in
    let parts = div-add-mod' b.z (code_count b.level) in
    let is : b.z ≡ b.z / code_count b.level * code_count b.level = omega (arith, parts, h.aligned) in
    let end = fits (code_count b.level) (2 ^ (2 * b.level)) (b.z / code_count b.level) b.z is (omega (arith, h.in_plane, whole)) in
    omega (arith, end, whole)

-- a child is a block
pub child_block : (b : Block) → IsBlock b → b.level < COORDINATE_BITS → (i : ℕ) → i < 4 → IsBlock (child b i)
child_block b h above i small =
    let c = code_count (b.level + 1) in
    let four = quarter_count b.level above in
    let end = range_fits b h in
    let some = count_some (b.level + 1) in
    let before : i * c ≤ 3 * c = mul-le-mul_right c (omega arith) in
    let parts = div-add-mod' b.z (code_count b.level) in
    let q = b.z / code_count b.level in
    let own = ap (λ t. q * t) four in
    let is : b.z + i * c ≡ c * (4 * q + i) = omega (arith, parts, h.aligned, own) in record {
      in_tree = omega arith;
      in_plane = omega (arith, before, end, four, some);
      aligned = ap (λ t. t % c) is ∙ mul-mod_right c (4 * q + i);
    }
