-- When a block lies inside another: by levels and codes, by ranges and by squares.
use Rattle.std.proofs.Common.{◌≡◌, ℕ, suc, ◌+◌, ◌-◌, ◌*◌, ◌/◌, ◌^◌, ◌<◌, ◌≤◌, sym, ap, ◌∙◌, subst, arith, IsTrue, eqb, leb, ◌↔◌}
use Rattle.std.proofs.lemmas.Bool.{eqb-true, eq-eqb, leb-true}
use Rattle.std.proofs.lemmas.Nat.{pow_pos, pow-add}
use Rattle.sand_base.specs.declared.TheConstants.{COORDINATE_BITS}
use Rattle.z_code.specs.Code.{code_of, even_bits}
use Rattle.z_code.specs.Block.{side_length, code_count, IsBlock, corner_of, HasPoint, HasCode, HoldsSquare, HoldsRange, IsContainment}
use Rattle.z_code.specs.declared.block.Block.{Block}
use Rattle.z_code.proofs.Powers.{in_run, run_below, pow_order}
use Rattle.z_code.proofs.CodesOfPoints.{point_of-in_plane, code_of-point_of}
use Rattle.z_code.proofs.Places.{place_of, height, number_of}
use Rattle.z_code.proofs.Blocks.{HasPoint-from_code, HasCode-from_point, HasCode-first, first_of_code}

-- the other block is no higher, and the block of this level that has its code is this one
pub record IsInside (b other : Block) : Type 0 where
  pub lower : b.level ≤ other.level
  pub first : other.z / code_count b.level * code_count b.level ≡ b.z

-- where the level is no higher, the test of the first codes decides
pub decides_lower : (b other : Block) (first : ℕ) → b.level ≤ other.level → first ≡ other.z / code_count b.level * code_count b.level
    → IsTrue (eqb first b.z) ↔ IsInside b other
decides_lower b other first lower is = (
  λ test. record { lower = lower; first = sym is ∙ eqb-true first b.z test },
  λ h. eq-eqb first b.z (is ∙ h.first),
)

-- a higher block fails the test of the levels, and doesn't lie inside
pub decides_higher : (b other : Block) → other.level < b.level → IsTrue (leb b.level other.level) ↔ IsInside b other
decides_higher b other higher = (
  λ test. absurd (omega (arith, leb-true b.level other.level test)),
  λ h. absurd (omega (arith, h.lower)),
)

-- a multiple of a greater power is a multiple of a smaller one
multiple : (p i j q : ℕ) → i ≤ j → q * p ^ j ≡ q * p ^ (j - i) * p ^ i
multiple p i j q le =
    let parts : j ≡ (j - i) + i = omega arith in
    let split = ap (λ t. q * p ^ t) parts ∙ ap (λ t. q * t) (pow-add p (j - i) i) in
    split ∙ omega arith

-- a run of p ^ i numbers that begins inside a run of p ^ j ends inside it
pub run_inside : (p i j q r : ℕ) → i ≤ j → r * p ^ i < q * p ^ j + p ^ j → r * p ^ i + p ^ i ≤ q * p ^ j + p ^ j
run_inside p i j q r le h =
    let whole : q * p ^ j + p ^ j ≡ suc q * p ^ (j - i) * p ^ i = omega (arith, multiple p i j (suc q) le) in
    omega (arith, whole, run_below r (suc q * p ^ (j - i)) (p ^ i) (omega (arith, whole)))

-- a block inside has its first code in this one's range
first_inside : (b other : Block) → IsInside b other → HasCode b other.z
first_inside b other inside =
    let run = in_run other.z (code_count b.level) (pow_pos (2 * (COORDINATE_BITS - b.level))) in
    record { from_first = omega (arith, inside.first, run.0); below_next = omega (arith, inside.first, run.1) }

-- a block inside another has its range there
HoldsRange-from_inside : (b other : Block) → IsBlock b → IsBlock other → IsInside b other → HoldsRange b other
HoldsRange-from_inside b other hb ho inside =
    let has = first_inside b other inside in
    let at = place_of b hb in
    let below = place_of other ho in
    let end = run_inside 4 (height other) (height b) (number_of b) (number_of other) (omega (arith, inside.lower))
    (omega (arith, has.below_next, at.first, at.count, below.first)) in
    record { from_first = has.from_first; to_last = omega (arith, end, at.first, at.count, below.first, below.count) }

-- and each of its codes
HasCode-from_range : (b other : Block) → HoldsRange b other → (z : ℕ) → HasCode other z → HasCode b z
HasCode-from_range b other within z has = record {
  from_first = omega (arith, within.from_first, has.from_first);
  below_next = omega (arith, within.to_last, has.below_next);
}

-- a block whose codes another has lies in its range
HoldsRange-from_codes : (b other : Block) → ((z : ℕ) → HasCode other z → HasCode b z) → HoldsRange b other
HoldsRange-from_codes b other all =
    let some = pow_pos (2 * (COORDINATE_BITS - other.level)) in
    let first = all other.z (HasCode-first other) in
    let last = all (other.z + code_count other.level - 1) (record { from_first = omega (arith, some); below_next = omega (arith, some) }) in
    record { from_first = first.from_first; to_last = omega (arith, last.below_next, some) }

-- a block whose range lies in another's lies inside it
IsInside-from_range : (b other : Block) → IsBlock b → IsBlock other → HoldsRange b other → IsInside b other
IsInside-from_range b other hb ho within =
    let some = pow_pos (2 * (COORDINATE_BITS - other.level)) in
    let fewer : code_count other.level ≤ code_count b.level = omega (arith, within.from_first, within.to_last) in
    let heights = pow_order (2 * height other) (2 * height b) fewer in
    let has : HasCode b other.z = record { from_first = within.from_first; below_next = omega (arith, within.to_last, some) } in
    record { lower = omega (arith, heights, hb.in_tree, ho.in_tree); first = sym (first_of_code b hb other.z has) }

-- a block inside another has its codes there
HasCode-from_inside : (b other : Block) → IsBlock b → IsBlock other → IsInside b other → (z : ℕ) → HasCode other z → HasCode b z
HasCode-from_inside b other hb ho inside z has = HasCode-from_range b other (HoldsRange-from_inside b other hb ho inside) z has

-- a block whose codes another has lies inside it
IsInside-from_codes : (b other : Block) → IsBlock b → IsBlock other → ((z : ℕ) → HasCode other z → HasCode b z) → IsInside b other
IsInside-from_codes b other hb ho all = IsInside-from_range b other hb ho (HoldsRange-from_codes b other all)

-- the corner of a block has its code
code_of-corner : (b : Block) → IsBlock b → code_of (corner_of b) ≡ b.z
code_of-corner b h = code_of-point_of b.z h.in_plane

-- a block inside another has its square there
HoldsSquare-from_inside : (b other : Block) → IsBlock b → IsBlock other → IsInside b other → HoldsSquare b other
HoldsSquare-from_inside b other hb ho inside =
    let has = subst (λ z. HasCode b z) (sym (code_of-corner other ho)) (first_inside b other inside) in
    let corner = HasPoint-from_code b hb (corner_of other) (point_of-in_plane other.z) has in
    let at = place_of b hb in
    let below = place_of other ho in
    let heights : height other ≤ height b = omega (arith, inside.lower) in
    let x = run_inside 2 (height other) (height b) (even_bits b.level (number_of b)) (even_bits other.level (number_of other)) heights
    (omega (arith, corner.below_x, at.x, below.x)) in
    let y = run_inside 2 (height other) (height b) (even_bits b.level (number_of b / 2)) (even_bits other.level (number_of other / 2)) heights
    (omega (arith, corner.below_y, at.y, below.y)) in
    record {
      low_x = corner.from_x;
      high_x = omega (arith, x, at.x, below.x);
      low_y = corner.from_y;
      high_y = omega (arith, y, at.y, below.y);
    }

-- a block whose square lies in another's lies inside it
IsInside-from_square : (b other : Block) → IsBlock b → IsBlock other → HoldsSquare b other → IsInside b other
IsInside-from_square b other hb ho holds =
    let some = pow_pos (height other) in
    let shorter : side_length other.level ≤ side_length b.level = omega (arith, holds.low_x, holds.high_x) in
    let heights = pow_order (height other) (height b) shorter in
    let corner : HasPoint b (corner_of other) = record {
      from_x = holds.low_x;
      below_x = omega (arith, holds.high_x, some);
      from_y = holds.low_y;
      below_y = omega (arith, holds.high_y, some);
    } in
    let has = subst (λ z. HasCode b z) (code_of-corner other ho) (HasCode-from_point b hb (corner_of other) corner) in
    record { lower = omega (arith, heights, hb.in_tree, ho.in_tree); first = sym (first_of_code b hb other.z has) }

-- what decides whether a block lies inside another decides all three
pub told : {Told : Type 0} (b other : Block) → IsBlock b → IsBlock other → Told ↔ IsInside b other → IsContainment Told b other
told b other hb ho decides = record {
  squares = (λ t. HoldsSquare-from_inside b other hb ho (decides.0 t), λ h. decides.1 (IsInside-from_square b other hb ho h));
  codes = (λ t. HasCode-from_inside b other hb ho (decides.0 t), λ h. decides.1 (IsInside-from_codes b other hb ho h));
  ranges = (λ t. HoldsRange-from_inside b other hb ho (decides.0 t), λ h. decides.1 (IsInside-from_range b other hb ho h));
}
