-- Powers of two and of four, and quotients by them.
use Rattle.std.proofs.Common.{◌≡◌, ℕ, suc, ◌+◌, ◌-◌, ◌*◌, ◌/◌, ◌%◌, ◌^◌, ◌<◌, ◌≤◌, sym, ap, ◌∙◌, subst, inl, inr, arith}
use Rattle.std.proofs.Math.Nat.{mod-le, pow-le-pow_right, pow-suc, pow-succ', one-le-pow, lt-div-mul-add, div-mul-le_self, div-div-eq-div-mul, lt_of_mul-lt-mul_right, mul-le-mul_right}
use Rattle.std.proofs.lemmas.Nat.{pow-add, mul-pow, div-mul-add, div_below, pow_below}
use Rattle.std.proofs.lemmas.Bool.{cases_lt}

-- two bits are one digit in base four
pub four_pow : (k : ℕ) → 2 ^ (2 * k) ≡ 4 ^ k
four_pow k =
    let twice : 2 * k ≡ k + k = omega arith in
    ap (λ t. 2 ^ t) twice ∙ pow-add 2 k k ∙ sym (mul-pow 2 2 k)

-- a power of four is positive
pub four_pow_pos : (k : ℕ) → 0 < 4 ^ k
four_pow_pos k = one-le-pow k 4 (omega arith)

-- a number in the run of p numbers from q * p on has the quotient q
pub quotient_is : (m q p : ℕ) → q * p ≤ m → m < q * p + p → m / p ≡ q
quotient_is m q p low high =
    let rest : m - q * p < p = omega arith in
    let whole : q * p + (m - q * p) ≡ m = omega arith in
    subst (λ t. t / p ≡ q) whole (div-mul-add q p (m - q * p) rest)

-- a number is in the run of its quotient
pub in_run : (m p : ℕ) → 0 < p → (m / p * p ≤ m) × (m < m / p * p + p)
in_run m p some = (div-mul-le_self m p, lt-div-mul-add some)

-- the quotient by the next power, from the low end
pub div-pow-suc : (x b j : ℕ) → x / b ^ suc j ≡ x / b / b ^ j
div-pow-suc x b j = ap (λ t. x / t) (pow-succ' b j) ∙ sym (div-div-eq-div-mul x b (b ^ j))

-- likewise, from the high end
pub div-pow-suc_last : (x b j : ℕ) → x / b ^ suc j ≡ x / b ^ j / b
div-pow-suc_last x b j = ap (λ t. x / t) (pow-suc b j) ∙ sym (div-div-eq-div-mul x (b ^ j) b)

-- a product with the next power is b times the product with the power
pub mul-pow-suc : (q b j : ℕ) → q * b ^ suc j ≡ b * (q * b ^ j)
mul-pow-suc q b j = rw (pow-suc b j) (omega arith)

-- the run of p numbers that begins at a * p ends at most where a later one begins
pub run_below : (a b p : ℕ) → a * p < b * p → a * p + p ≤ b * p
run_below a b p h =
    let less : a < b = lt_of_mul-lt-mul_right p h in
    let next : suc a * p ≤ b * p = mul-le-mul_right p less in
    omega (arith, next)

-- a run of p ^ j numbers that begins at a multiple of p ^ j below p ^ (j + k) ends there at most
pub run_fits : (p w j k q : ℕ) → w ≡ j + k → q < p ^ k → q * p ^ j + p ^ j ≤ p ^ w
run_fits p w j k q levels h =
    let swapped : w ≡ k + j = omega arith in
    let whole = ap (λ t. p ^ t) swapped ∙ pow-add p k j in
    let next : suc q * p ^ j ≤ p ^ k * p ^ j = mul-le-mul_right (p ^ j) h in
    omega (arith, whole, next)

-- the number of a run within p ^ (j + k) numbers is below p ^ k
pub run_number : (p w j k z : ℕ) → 0 < p → w ≡ j + k → z < p ^ w → z / p ^ j < p ^ k
run_number p w j k z some levels h =
    let swapped : w ≡ k + j = omega arith in
    let whole : p ^ w ≡ p ^ k * p ^ j = ap (λ t. p ^ t) swapped ∙ pow-add p k j in
    div_below z (p ^ j) (p ^ k) (one-le-pow j p some) (omega (arith, whole))

-- powers of two in order have exponents in order
pub pow_order : (i j : ℕ) → 2 ^ i ≤ 2 ^ j → i ≤ j
pow_order i j h = elim (cases_lt j i) [ inl less ↦ absurd (omega (arith, pow_below j i less)) | inr le ↦ le ]

-- a power as a shift gives it is at most a later power
pub shifted_small : (i j m : ℕ) → i ≤ j → 1 * 2 ^ i % m ≤ 2 ^ j
shifted_small i j m le = omega (arith, mod-le (1 * 2 ^ i) m, pow-le-pow_right {n = 2} (omega arith) le)
