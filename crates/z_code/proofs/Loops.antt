-- The two loops over the places of a number, from the highest down, at any number of bits.
use Rattle.std.proofs.Common.{◌≡◌, ℕ, zero, suc, ◌+◌, ◌-◌, ◌*◌, ◌/◌, ◌%◌, ◌^◌, ◌<◌, ◌≤◌, refl, ap, ap₂, ◌∙◌, arith}
use Rattle.std.proofs.Math.Nat.{pow-le-pow_right, div-one, sub-zero}
use Rattle.z_code.specs.Code.{spread_bits, even_bits}
use Rattle.z_code.proofs.Powers.{div-pow-suc_last}
use Rattle.z_code.proofs.Codes.{spread_bits-bound, even_bits-lt}

-- one more bit set apart, where those of the higher places are done
pub spread_bits-more : (w place n code : ℕ) → 0 < place → place ≤ w → code ≡ spread_bits (w - place) (n / 2 ^ place)
    → 4 * code + n / 2 ^ (place - 1) % 2 ≡ spread_bits (w - (place - 1)) (n / 2 ^ (place - 1))
unfolding spread_bits
spread_bits-more w zero n code some most h = absurd (omega arith)
spread_bits-more w (suc i) n code some most h =
    let before : suc i - 1 ≡ i = omega arith in
    let bits : w - i ≡ suc (w - suc i) = omega arith in
    rw (before, bits) (let half = ap (spread_bits (w - suc i)) (div-pow-suc_last n 2 i) in omega (arith, h, half))

-- one more place closed up, where the higher ones are done
pub even_bits-more : (w place z n : ℕ) → 0 < place → place ≤ w → n ≡ even_bits (w - place) (z / 4 ^ place)
    → 2 * n + z / 4 ^ (place - 1) % 2 ≡ even_bits (w - (place - 1)) (z / 4 ^ (place - 1))
unfolding even_bits
even_bits-more w zero z n some most h = absurd (omega arith)
even_bits-more w (suc i) z n some most h =
    let before : suc i - 1 ≡ i = omega arith in
    let bits : w - i ≡ suc (w - suc i) = omega arith in
    rw (before, bits) (let quarter = ap (even_bits (w - suc i)) (div-pow-suc_last z 4 i) in omega (arith, h, quarter))

-- all bits are set apart where place 0 is reached
pub spread_bits-all : (w place n code : ℕ) → place ≡ 0 → code ≡ spread_bits (w - place) (n / 2 ^ place) → code ≡ spread_bits w n
spread_bits-all w place n code none h =
    h ∙ ap (λ i. spread_bits (w - i) (n / 2 ^ i)) none ∙ ap₂ spread_bits (sub-zero w) (div-one n)

-- no bit is set apart yet at the highest place
pub spread_bits-none : (n : ℕ) → 0 ≡ spread_bits 0 n
unfolding spread_bits
spread_bits-none n = refl

-- all places are closed up where place 0 is reached
pub even_bits-all : (w place z n : ℕ) → place ≡ 0 → n ≡ even_bits (w - place) (z / 4 ^ place) → n ≡ even_bits w z
even_bits-all w place z n none h =
    h ∙ ap (λ i. even_bits (w - i) (z / 4 ^ i)) none ∙ ap₂ even_bits (sub-zero w) (div-one z)

-- no place is closed up yet at the highest
pub even_bits-none : (z : ℕ) → 0 ≡ even_bits 0 z
unfolding even_bits
even_bits-none z = refl

-- what is set apart so far is below the count of all codes
pub spread_bits-so_far : (w place n code : ℕ) → code ≡ spread_bits (w - place) (n / 2 ^ place) → code < 4 ^ w
spread_bits-so_far w place n code h =
    let fewer : w - place ≤ w = omega arith in
    omega (arith, h, spread_bits-bound (w - place) (n / 2 ^ place), pow-le-pow_right {n = 4} (omega arith) fewer)

-- what is closed up so far is below the count of all coordinates
pub even_bits-so_far : (w place z n : ℕ) → n ≡ even_bits (w - place) (z / 4 ^ place) → n < 2 ^ w
even_bits-so_far w place z n h =
    let fewer : w - place ≤ w = omega arith in
    omega (arith, h, even_bits-lt (w - place) (z / 4 ^ place), pow-le-pow_right {n = 2} (omega arith) fewer)
