-- Each fraction has a printed text.
use Rattle.std.proofs.Common.{◌≡◌, ℕ, zero, suc, ◌*◌, ◌/◌, ◌%◌, ◌<◌, ◌≤◌, List, refl, ap, ◌∙◌, arith, eq-zero-or-pos, inl, inr, mod-lt, mul-zero}
use Rattle.std.proofs.Math.Nat.{div-mul_cancel}
use Rattle.std.proofs.lemmas.Nat.Gcd.{IsGcd-from_zero, IsGcd-from_mod}
use Rattle.std.specs.Int.{◌∣◌, IsGcd}
use Rattle.exact_frac.specs.Printed.{IsPrinted, ratio_text}
use Rattle.exact_frac.proofs.Quotients.{quotients_lowest, quotients_same, quotient_positive}

-- two numbers have a greatest common divisor; Euclid's algorithm takes at most `steps` steps
gcd_within : (steps a b : ℕ) → b ≤ steps → (g : ℕ) × IsGcd a b g
gcd_within zero a b within = (a, IsGcd-from_zero a b (omega arith))
gcd_within (suc steps) a b within =
    elim (eq-zero-or-pos b) [
      | inl z ↦ (a, IsGcd-from_zero a b z)
      | inr p ↦
          let smaller : a % b < b = mod-lt a p in
          let rest = gcd_within steps b (a % b) (omega arith) in
          (rest.0, IsGcd-from_mod a b rest.0 rest.1)
    ]

-- what divides a positive number is positive
divisor_positive : (b g : ℕ) → 0 < b → g ∣ b → 0 < g
divisor_positive b g some h =
    elim (eq-zero-or-pos g) [
      | inl z ↦
          let none : b / g * g ≡ 0 = ap (λ n. b / g * n) z ∙ mul-zero (b / g) in
          let of_b : b / g * g ≡ b = div-mul_cancel g h in
          absurd (omega arith)
      | inr p ↦ p
    ]

-- a fraction with a positive denominator has a printed text
pub printed_exists : (num den : ℕ) → 0 < den → (text : List ℕ) × IsPrinted num den text
printed_exists num den some =
    let divisor = gcd_within den num den (omega arith) in
    let g = divisor.0 in
    let positive : 0 < g = divisor_positive den g some divisor.1.1 in (
      ratio_text (num / g) (den / g),
      record {
        n = num / g;
        d = den / g;
        same = quotients_same num den g divisor.1;
        positive = quotient_positive den g some divisor.1.1;
        lowest = quotients_lowest num den g positive divisor.1;
        written = refl;
      },
    )
