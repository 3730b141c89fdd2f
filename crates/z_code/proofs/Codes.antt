-- Morton codes at any number of bits: each number below 4^k is the code of one pair of numbers below 2^k.
use Rattle.std.proofs.Common.{◌≡◌, ℕ, zero, suc, ◌+◌, ◌*◌, ◌/◌, ◌%◌, ◌^◌, ◌<◌, ◌≤◌, sym, ap, ap₂, ◌∙◌, arith}
use Rattle.std.proofs.Math.Nat.{pow-suc, div-one, mul-one}
use Rattle.std.specs.Int.{bit_at}
use Rattle.std.proofs.lemmas.Nat.Bits.{bit_at-suc, bit_at_lowest}
use Rattle.z_code.specs.Code.{spread_bits, even_bits}
use Rattle.z_code.proofs.Powers.{div-pow-suc, mul-pow-suc, run_number}

-- three times the bits set apart, and one, fill the places at most
pub spread_bits-bound : (k n : ℕ) → 3 * spread_bits k n + 1 ≤ 4 ^ k
unfolding spread_bits
spread_bits-bound zero n = omega arith
spread_bits-bound (suc k) n = omega (arith, pow-suc 4 k, spread_bits-bound k (n / 2))

-- a code of k bits and k bits
pub code-lt : (k x y : ℕ) → spread_bits k x + 2 * spread_bits k y < 4 ^ k
code-lt k x y = omega (arith, spread_bits-bound k x, spread_bits-bound k y)

-- the even bits are half as many
pub even_bits-lt : (k z : ℕ) → even_bits k z < 2 ^ k
unfolding even_bits
even_bits-lt zero z = omega arith
even_bits-lt (suc k) z = omega (arith, pow-suc 2 k, even_bits-lt k (z / 4))

-- the even bits of a code are x
pub even_bits-code : (k x y : ℕ) → x < 2 ^ k → even_bits k (spread_bits k x + 2 * spread_bits k y) ≡ x
unfolding spread_bits even_bits
even_bits-code zero x y h = omega arith
even_bits-code (suc k) x y h =
    let below : x / 2 < 2 ^ k = omega (arith, pow-suc 2 k) in
    let quotient : (4 * spread_bits k (x / 2) + x % 2 + 2 * (4 * spread_bits k (y / 2) + y % 2)) / 4
    ≡ spread_bits k (x / 2) + 2 * spread_bits k (y / 2) = omega arith in
    let rest = ap (even_bits k) quotient ∙ even_bits-code k (x / 2) (y / 2) below in
    omega (arith, rest)

-- the even bits of half a code are y
pub even_bits-half_code : (k x y : ℕ) → y < 2 ^ k → even_bits k ((spread_bits k x + 2 * spread_bits k y) / 2) ≡ y
unfolding spread_bits even_bits
even_bits-half_code zero x y h = omega arith
even_bits-half_code (suc k) x y h =
    let below : y / 2 < 2 ^ k = omega (arith, pow-suc 2 k) in
    let quotient : (4 * spread_bits k (x / 2) + x % 2 + 2 * (4 * spread_bits k (y / 2) + y % 2)) / 2 / 4
    ≡ (spread_bits k (x / 2) + 2 * spread_bits k (y / 2)) / 2 = omega arith in
    let rest = ap (even_bits k) quotient ∙ even_bits-half_code k (x / 2) (y / 2) below in
    omega (arith, rest)

-- the code of the even bits and of the odd bits is the number
pub code-even_bits : (k z : ℕ) → z < 4 ^ k → spread_bits k (even_bits k z) + 2 * spread_bits k (even_bits k (z / 2)) ≡ z
unfolding spread_bits even_bits
code-even_bits zero z h = omega arith
code-even_bits (suc k) z h =
    let below : z / 4 < 4 ^ k = omega (arith, pow-suc 4 k) in
    let x : (2 * even_bits k (z / 4) + z % 2) / 2 ≡ even_bits k (z / 4) = omega arith in
    let swapped : z / 2 / 4 ≡ z / 4 / 2 = omega arith in
    let y : (2 * even_bits k (z / 2 / 4) + z / 2 % 2) / 2 ≡ even_bits k (z / 4 / 2) = omega (arith, ap (even_bits k) swapped) in
    omega (arith, ap (spread_bits k) x, ap (spread_bits k) y, code-even_bits k (z / 4) below)

-- a code without its lowest 2j bits is the code of the coordinates without their lowest j bits
pub code-shr : (n j k x y : ℕ) → n ≡ j + k → (spread_bits n x + 2 * spread_bits n y) / 4 ^ j ≡ spread_bits k (x / 2 ^ j) + 2 * spread_bits k (y / 2 ^ j)
unfolding spread_bits
code-shr n zero k x y e =
    let same : n ≡ k = omega arith in
    let bits_of : (t : ℕ) → spread_bits n t ≡ spread_bits k (t / 1) =
    λ t. ap (λ b. spread_bits b t) same ∙ ap (spread_bits k) (sym (div-one t)) in
    omega (arith, bits_of x, bits_of y)
code-shr zero (suc j) k x y e = absurd (omega arith)
code-shr (suc n) (suc j) k x y e =
    let whole : ℕ = spread_bits (suc n) x + 2 * spread_bits (suc n) y in
    let quotient : whole / 4 ≡ spread_bits n (x / 2) + 2 * spread_bits n (y / 2) = omega arith in
    div-pow-suc whole 4 j
    ∙ ap (λ t. t / 4 ^ j) quotient
    ∙ code-shr n j k (x / 2) (y / 2) (omega arith)
    ∙ ap₂ (λ a b. spread_bits k a + 2 * spread_bits k b) (sym (div-pow-suc x 2 j)) (sym (div-pow-suc y 2 j))

-- zeros below a number are zeros below its even bits
pub even_bits-shl : (n j k q : ℕ) → n ≡ j + k → even_bits n (q * 4 ^ j) ≡ even_bits k q * 2 ^ j
unfolding even_bits
even_bits-shl n zero k q e =
    let same : n ≡ k = omega arith in
    ap₂ even_bits same (mul-one q) ∙ sym (mul-one (even_bits k q))
even_bits-shl zero (suc j) k q e = absurd (omega arith)
even_bits-shl (suc n) (suc j) k q e =
    let quotient : q * 4 ^ suc j / 4 ≡ q * 4 ^ j = omega (arith, mul-pow-suc q 4 j) in
    let rest = ap (even_bits n) quotient ∙ even_bits-shl n j k q (omega arith) in
    omega (arith, rest, mul-pow-suc q 4 j, mul-pow-suc (even_bits k q) 2 j)

-- and likewise below its odd bits
pub even_bits-half_shl : (n j k q : ℕ) → n ≡ j + k → even_bits n (q * 4 ^ j / 2) ≡ even_bits k (q / 2) * 2 ^ j
unfolding even_bits
even_bits-half_shl n zero k q e =
    let same : n ≡ k = omega arith in
    let half : q * 1 / 2 ≡ q / 2 = omega arith in
    ap₂ even_bits same half ∙ sym (mul-one (even_bits k (q / 2)))
even_bits-half_shl zero (suc j) k q e = absurd (omega arith)
even_bits-half_shl (suc n) (suc j) k q e =
    let quotient : q * 4 ^ suc j / 2 / 4 ≡ q * 4 ^ j / 2 = omega (arith, mul-pow-suc q 4 j) in
    let rest = ap (even_bits n) quotient ∙ even_bits-half_shl n j k q (omega arith) in
    omega (arith, rest, mul-pow-suc q 4 j, mul-pow-suc (even_bits k (q / 2)) 2 j)

-- bit i of the even bits is bit 2i
pub bit_at-even_bits : (k z i : ℕ) → i < k → bit_at z (2 * i) ≡ bit_at (even_bits k z) i
unfolding even_bits
bit_at-even_bits zero z i h = absurd (omega arith)
bit_at-even_bits (suc k) z zero h =
    omega (arith, bit_at_lowest z, bit_at_lowest (2 * even_bits k (z / 4) + z % 2))
bit_at-even_bits (suc k) z (suc i) h =
    let place : 2 * suc i ≡ suc (suc (2 * i)) = omega arith in
    let quarter : z / 2 / 2 ≡ z / 4 = omega arith in
    let half : (2 * even_bits k (z / 4) + z % 2) / 2 ≡ even_bits k (z / 4) = omega arith in
    ap (bit_at z) place
    ∙ bit_at-suc z (suc (2 * i))
    ∙ bit_at-suc (z / 2) (2 * i)
    ∙ ap (λ t. bit_at t (2 * i)) quarter
    ∙ bit_at-even_bits k (z / 4) i (omega arith)
    ∙ ap (λ t. bit_at t i) (sym half)
    ∙ sym (bit_at-suc (2 * even_bits k (z / 4) + z % 2) i)

-- a code's run has the number q exactly where its point is in the square of that number
pub in_square : (w j k q x y : ℕ) → w ≡ j + k → x < 2 ^ w → y < 2 ^ w → (spread_bits w x + 2 * spread_bits w y) / 4 ^ j ≡ q
    → (x / 2 ^ j ≡ even_bits k q) × (y / 2 ^ j ≡ even_bits k (q / 2))
in_square w j k q x y levels in_x in_y h =
    let high = sym (code-shr w j k x y levels) ∙ h in (
      sym (even_bits-code k (x / 2 ^ j) (y / 2 ^ j) (run_number 2 w j k x (omega arith) levels in_x))
          ∙ ap (even_bits k) high,
      sym (even_bits-half_code k (x / 2 ^ j) (y / 2 ^ j) (run_number 2 w j k y (omega arith) levels in_y))
          ∙ ap (λ t. even_bits k (t / 2)) high,
    )

-- the other way round
pub from_square : (w j k q x y : ℕ) → w ≡ j + k → q < 4 ^ k → x / 2 ^ j ≡ even_bits k q → y / 2 ^ j ≡ even_bits k (q / 2)
    → (spread_bits w x + 2 * spread_bits w y) / 4 ^ j ≡ q
from_square w j k q x y levels number in_x in_y =
    code-shr w j k x y levels
    ∙ ap₂ (λ a b. spread_bits k a + 2 * spread_bits k b) in_x in_y
    ∙ code-even_bits k q number

-- the even bits of child i of number q
pub even_bits-child : (k q i : ℕ) → i < 4 → even_bits (suc k) (4 * q + i) ≡ 2 * even_bits k q + i % 2
unfolding even_bits
even_bits-child k q i h =
    let quarter : (4 * q + i) / 4 ≡ q = omega arith in
    omega (arith, ap (even_bits k) quarter)

-- the odd bits of child i of number q
pub even_bits-half_child : (k q i : ℕ) → i < 4 → even_bits (suc k) ((4 * q + i) / 2) ≡ 2 * even_bits k (q / 2) + i / 2
unfolding even_bits
even_bits-half_child k q i h =
    let quarter : (4 * q + i) / 2 / 4 ≡ q / 2 = omega arith in
    omega (arith, ap (even_bits k) quarter)
