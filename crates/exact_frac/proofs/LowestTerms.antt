-- A fraction has one form in lowest terms: Euclid's lemma (Elements VII.20 and VII.30), by his algorithm.
use Rattle.std.proofs.Common.{◌≡◌, ℕ, zero, suc, ◌*◌, ◌+◌, ◌/◌, ◌%◌, ◌<◌, ◌≤◌, subst, sym, ap, ◌∙◌, arith, eq-zero-or-pos, inl, inr, one-mul, zero-mul, mod-lt, mul-div_cancel, mul-lt-mul_of_pos_right}
use Rattle.std.proofs.Math.Nat.{dvd-mul_left, dvd-mul_right, dvd-mod_iff, dvd_antisymm}
use Rattle.std.proofs.lemmas.Nat.{mod-mul-add}
use Rattle.std.proofs.lemmas.Nat.Gcd.{IsGcd-from_zero, IsGcd-from_mod, same_from_IsGcd}
use Rattle.std.specs.Int.{◌∣◌, IsGcd}
use Rattle.exact_frac.specs.Value.{SameValue}

-- a step of Euclid's algorithm keeps the greatest common divisor
step : (a b g : ℕ) → IsGcd a b g → IsGcd b (a % b) g
step a b g h = (h.1, (dvd-mod_iff g h.1).1 h.0, λ d p q. h.2 d ((dvd-mod_iff d p).0 q) p)

-- a common factor passes to the remainder
mod-scaled : (a b k : ℕ) → 0 < b → 0 < k → (a * k) % (b * k) ≡ a % b * k
mod-scaled a b k b_some k_some =
    let small : a % b * k < b * k = mul-lt-mul_of_pos_right (mod-lt a b_some) k_some in
    let parts : a ≡ a / b * b + a % b = omega arith in
    let all : a * k ≡ (a / b * b + a % b) * k = ap (λ n. n * k) parts in
    let scaled : a * k ≡ a / b * (b * k) + a % b * k = omega arith in
    rw scaled (mod-mul-add (a / b) (b * k) (a % b * k) small)

-- what the algorithm gives when the second number is 0, with a common factor
scaled_zero : (a b g k : ℕ) → b ≡ 0 → IsGcd a b g → IsGcd (a * k) (b * k) (g * k)
scaled_zero a b g k e h =
    let same : g ≡ a = same_from_IsGcd a b g a h (IsGcd-from_zero a b e) in
    let none : b * k ≡ 0 = ap (λ n. n * k) e ∙ zero-mul k in
    rw same (IsGcd-from_zero (a * k) (b * k) none)

-- a common factor passes to the greatest common divisor; the algorithm takes at most `steps` steps
scaled_within : (steps a b g k : ℕ) → b ≤ steps → 0 < k → IsGcd a b g → IsGcd (a * k) (b * k) (g * k)
scaled_within zero a b g k within some h = scaled_zero a b g k (omega arith) h
scaled_within (suc steps) a b g k within some h =
    elim (eq-zero-or-pos b) [
      | inl z ↦ scaled_zero a b g k z h
      | inr p ↦
          let smaller : a % b < b = mod-lt a p in
          let rest = scaled_within steps b (a % b) g k (omega arith) some (step a b g h) in
          IsGcd-from_mod (a * k) (b * k) (g * k) (rw (mod-scaled a b k p some) rest)
    ]

-- what divides a product and has no factor in common with one of its sides divides the other (Euclid's lemma)
pub divides_other : (n d m : ℕ) → 0 < m → IsGcd n d 1 → d ∣ n * m → d ∣ m
divides_other n d m some h p =
    let scaled : IsGcd (n * m) (d * m) (1 * m) = scaled_within d n d 1 m (omega arith) some h in
    let in_d : d ∣ d * m = dvd-mul_right d m in
    subst (λ k. d ∣ k) (one-mul m) (scaled.2 d p in_d)

-- a positive factor on both sides of an equation may go
cancelled : (a b k : ℕ) → 0 < k → a * k ≡ b * k → a ≡ b
cancelled a b k some e = sym (mul-div_cancel a some) ∙ ap (λ n. n / k) e ∙ mul-div_cancel b some

-- two fractions in lowest terms of one value have the same parts
pub lowest_unique : (n d m e : ℕ) → 0 < d → 0 < e → IsGcd n d 1 → IsGcd m e 1 → SameValue n d m e → (n ≡ m) × (d ≡ e)
lowest_unique n d m e d_some e_some p q same =
    let d_in : d ∣ n * e = subst (λ k. d ∣ k) (sym same) (dvd-mul_left d m) in
    let e_in : e ∣ m * d = subst (λ k. e ∣ k) same (dvd-mul_left e n) in
    let dens : d ≡ e = dvd_antisymm (divides_other n d e e_some p d_in) (divides_other m e d d_some q e_in) in
    let scaled : n * e ≡ m * e = same ∙ ap (λ k. m * k) dens in
    (cancelled n m e e_some scaled, dens)

-- where a/b and c/d are one number, and c/d and e/f, so are a/b and e/f
pub SameValue-trans : (a b c d e f : ℕ) → 0 < d → SameValue a b c d → SameValue c d e f → SameValue a b e f
SameValue-trans a b c d e f some p q =
    let left : a * d * f ≡ c * b * f = ap (λ n. n * f) p in
    let right : c * f * b ≡ e * d * b = ap (λ n. n * b) q in
    let whole : a * f * d ≡ e * b * d = omega arith in
    cancelled (a * f) (e * b) d some whole
