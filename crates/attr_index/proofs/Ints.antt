-- The key of an int: its order, and the way back.
use Rattle.std.proofs.Common.{◌≡◌, ℕ, ◌+◌, ◌-◌, ◌*◌, ◌/◌, ◌^◌, ◌<◌, ◌≤◌, Bool, true, false, cond, ◌++◌, take, drop, replicate, refl, sym, ◌∙◌, ap, ap₂, arith}
use Rattle.std.specs.Prelude.{ℤ, pos, negsuc, ◌≤ℤ◌, ◌<ℤ◌, int_lt, int_le, FitsSigned}
use Rattle.std.specs.Int.{w32, w64, to_be_bytes, from_be_bytes, cast_signed, cast_unsigned}
use Rattle.std.proofs.lemmas.Nat.{from_be_bytes-to_be_bytes_8}
use Rattle.std.proofs.lemmas.Int.{ints, by_lt_z, to_z-of_z}
use Rattle.sand_base.specs.declared.value.Value.TheVariants as value
use Rattle.sand_base.specs.InRange.{IsIntInRange}
use Rattle.code_btree.proofs.Orders.{lt_is, lt_not}
use Rattle.attr_index.specs.Key.{offset, int_from, int_key_bytes, key_number, value_key, int_of}

-- 64 bits
pub offset_fits : (v : ℤ) → IsIntInRange v → offset v < 2 ^ 64
offset_fits (pos n) h = let high : pos n ≤ℤ pos (2 ^ 63 - 1) = h.high in omega (arith, ints)
offset_fits (negsuc n) h = omega arith

-- the bytes are those of v + 2^63, and zeros
pub int_key_number : (v : ℤ) → IsIntInRange v → value_key (value.Int v) ≡ offset v * 2 ^ 32
unfolding int_key_bytes key_number
int_key_number v h =
    let high : from_be_bytes w64 (take 8 (to_be_bytes w64 (offset v) ++ replicate 4 0)) ≡ offset v = from_be_bytes-to_be_bytes_8 (offset v) (offset_fits v h) in
    let low : from_be_bytes w32 (drop 8 (to_be_bytes w64 (offset v) ++ replicate 4 0)) ≡ 0 = refl in
    ap₂ (λ (a b : ℕ). a * 2 ^ 32 + b) high low ∙ omega arith

pub int_back : (v : ℤ) → IsIntInRange v → int_from (offset v) ≡ v
int_back (pos n) h =
    ap (λ (b : Bool). cond b (negsuc (2 ^ 63 - 1 - (2 ^ 63 + n))) (pos (2 ^ 63 + n - 2 ^ 63))) (lt_not (2 ^ 63 + n) (2 ^ 63) (omega arith)) ∙ ap pos (omega arith)
int_back (negsuc n) h =
    let low : negsuc (2 ^ 63 - 1) ≤ℤ negsuc n = h.low in
    let small : n < 2 ^ 63 = omega (arith, ints) in
    ap (λ (b : Bool). cond b (negsuc (2 ^ 63 - 1 - (2 ^ 63 - 1 - n))) (pos (2 ^ 63 - 1 - n - 2 ^ 63))) (lt_is (2 ^ 63 - 1 - n) (2 ^ 63) (omega arith)) ∙ ap negsuc (omega (arith, small))

-- the order of ints is that of v + 2^63
pub offset_lt : (v u : ℤ) → IsIntInRange v → v <ℤ u → offset v < offset u
offset_lt (pos n) (pos k) h l = omega (arith, ints)
offset_lt (pos n) (negsuc k) h l = omega (arith, ints)
offset_lt (negsuc n) (pos k) h l = omega arith
offset_lt (negsuc n) (negsuc k) h l = let low : negsuc (2 ^ 63 - 1) ≤ℤ negsuc n = h.low in omega (arith, ints)

pub offset_le : (v u : ℤ) → v ≤ℤ u → offset v ≤ offset u
offset_le (pos n) (pos k) l = omega (arith, ints)
offset_le (pos n) (negsuc k) l = omega (arith, ints)
offset_le (negsuc n) (pos k) l = omega arith
offset_le (negsuc n) (negsuc k) l = omega (arith, ints)

pub lt_by_offset : (v u : ℤ) → offset v < offset u → v <ℤ u
lt_by_offset v u l = by_lt_z v u (λ h. h) (λ h. absurd (omega (arith, l, offset_le u v h)))

pub le_by_offset : (v u : ℤ) → IsIntInRange u → offset v ≤ offset u → v ≤ℤ u
le_by_offset v u r l = by_lt_z u v (λ h. absurd (omega (arith, l, offset_lt u v r h))) (λ h. h)

pub lt_by_key : (v u : ℤ) → IsIntInRange v → IsIntInRange u → value_key (value.Int v) < value_key (value.Int u) → v <ℤ u
lt_by_key v u h k l = lt_by_offset v u (omega (arith, l, int_key_number v h, int_key_number u k))

pub key_lt : (v u : ℤ) → IsIntInRange v → IsIntInRange u → v <ℤ u → value_key (value.Int v) < value_key (value.Int u)
key_lt v u h k l = omega (arith, offset_lt v u h l, int_key_number v h, int_key_number u k)

pub key_back : (v : ℤ) → IsIntInRange v → int_of (value_key (value.Int v)) ≡ v
key_back v h =
    let whole : value_key (value.Int v) / 2 ^ 32 ≡ offset v = omega (arith, int_key_number v h) in
    ap int_from whole ∙ int_back v h

-- tests of ints
pub int_lt_is : (p q : ℤ) → p <ℤ q → int_lt p q ≡ true
int_lt_is p q h = grind (arith, ints)

pub int_lt_not : (p q : ℤ) → q ≤ℤ p → int_lt p q ≡ false
int_lt_not p q h = grind (arith, ints)

pub int_le_is : (p q : ℤ) → p ≤ℤ q → int_le p q ≡ true
int_le_is p q h = grind (arith, ints)

pub int_le_not : (p q : ℤ) → q <ℤ p → int_le p q ≡ false
int_le_not p q h = grind (arith, ints)

-- an i64 is in range, and what is in range is an i64
pub int_in_range : (n : ℤ) → FitsSigned w64 n → IsIntInRange n
int_in_range (pos n) h = let small : n < 2 ^ 63 = h.sfits in record { low = omega (arith, ints); high = omega (arith, ints) }
int_in_range (negsuc n) h = let small : n < 2 ^ 63 = h.sfits in record { low = omega (arith, ints); high = omega (arith, ints) }

pub int_fits : (n : ℤ) → IsIntInRange n → FitsSigned w64 n
int_fits (pos n) h = let high : pos n ≤ℤ pos (2 ^ 63 - 1) = h.high in record { sfits = omega (arith, ints) }
int_fits (negsuc n) h = let low : negsuc (2 ^ 63 - 1) ≤ℤ negsuc n = h.low in record { sfits = omega (arith, ints) }

-- what a comparison of two i64 tells
same_test : (p q : ℤ) → FitsSigned w64 p → FitsSigned w64 q → int_lt (cast_signed w64 (cast_unsigned w64 p)) (cast_signed w64 (cast_unsigned w64 q)) ≡ int_lt p q
same_test p q h k = ap₂ (λ (a b : ℤ). int_lt a b) (to_z-of_z w64 p h) (to_z-of_z w64 q k)

lt_from : (p q : ℤ) → int_lt p q ≡ true → p <ℤ q
lt_from p q h = grind (arith, ints)

le_from : (p q : ℤ) → int_lt p q ≡ false → q ≤ℤ p
le_from p q h = grind (arith, ints)

pub test_lt : (p q : ℤ) → FitsSigned w64 p → FitsSigned w64 q → int_lt (cast_signed w64 (cast_unsigned w64 p)) (cast_signed w64 (cast_unsigned w64 q)) ≡ true → p <ℤ q
test_lt p q h k t = lt_from p q (sym (same_test p q h k) ∙ t)

pub test_le : (p q : ℤ) → FitsSigned w64 p → FitsSigned w64 q → int_lt (cast_signed w64 (cast_unsigned w64 p)) (cast_signed w64 (cast_unsigned w64 q)) ≡ false → q ≤ℤ p
test_le p q h k t = le_from p q (sym (same_test p q h k) ∙ t)
