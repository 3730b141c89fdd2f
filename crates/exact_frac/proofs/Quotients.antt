-- The quotients of two numbers by their greatest common divisor.
use Rattle.std.proofs.Common.{◌≡◌, ℕ, ◌*◌, ◌/◌, ◌<◌, ◌≤◌, subst, sym, ◌∙◌, arith, eq-zero-or-pos, inl, inr, one-mul, zero-mul, ap}
use Rattle.std.proofs.Math.Nat.{one-dvd, div-mul_cancel, mul-dvd-mul_right, dvd_of_mul-dvd-mul_right}
use Rattle.std.specs.Int.{◌∣◌, IsGcd}

-- no divisor but 1 is common to both quotients
pub quotients_lowest : (a b g : ℕ) → 0 < g → IsGcd a b g → IsGcd (a / g) (b / g) 1
quotients_lowest a b g some h = (
  one-dvd (a / g),
  one-dvd (b / g),
  λ k p q.
      let in_a : k * g ∣ a = subst (λ n. k * g ∣ n) (div-mul_cancel g h.0) (mul-dvd-mul_right k p g) in
      let in_b : k * g ∣ b = subst (λ n. k * g ∣ n) (div-mul_cancel g h.1) (mul-dvd-mul_right k q g) in
      let in_g : k * g ∣ 1 * g = subst (λ n. k * g ∣ n) (sym (one-mul g)) (h.2 (k * g) in_a in_b) in
      dvd_of_mul-dvd-mul_right k some in_g,
)

-- the quotients have the value of the two numbers
pub quotients_same : (a b g : ℕ) → IsGcd a b g → a / g * b ≡ a * (b / g)
quotients_same a b g h =
    let of_a : a / g * g ≡ a = div-mul_cancel g h.0 in
    let of_b : b / g * g ≡ b = div-mul_cancel g h.1 in
    let inner : a / g * b ≡ a / g * (b / g * g) = ap (λ n. a / g * n) (sym of_b) in
    let outer : a / g * g * (b / g) ≡ a * (b / g) = ap (λ n. n * (b / g)) of_a in
    omega arith

-- the quotient of a positive number by a divisor is positive
pub quotient_positive : (b g : ℕ) → 0 < b → g ∣ b → 1 ≤ b / g
quotient_positive b g some h =
    let of_b : b / g * g ≡ b = div-mul_cancel g h in
    elim (eq-zero-or-pos (b / g)) [
      | inl z ↦ let none : b / g * g ≡ 0 = ap (λ n. n * g) z ∙ zero-mul g in absurd (omega arith)
      | inr p ↦ p
    ]
