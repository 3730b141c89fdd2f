-- Two figures meet exactly where each of their gaps has the numerator 0.
use Rattle.std.proofs.Common.{◌≡◌, inl, inr, ℕ, ◌*◌, ◌<◌, ℤ, pos, ◌*ℤ◌, ◌≤ℤ◌, ◌<ℤ◌, refl, sym, ◌∙◌, subst, arith}
use Rattle.std.proofs.lemmas.Int.{ints, by_lt_z}
use Rattle.sand_base.specs.declared.goal.Goal.{Goal}
use Rattle.sand_model.specs.Points.{RationalPoint}
use Rattle.sand_model.specs.FigureGap.{IsGapOf, IsMeeting}
use Rattle.sand_model.specs.Figures.{IsPointOfFigure}
use Rattle.sand_model.specs.Gap.{IsLeast, scaled_distance, common_square}
use Rattle.plane_geom.proofs.Order.{same_from_mul, mul_positive}
use Rattle.plane_geom.proofs.CrossingPoint.{shared_least}
use Rattle.plane_geom.proofs.Signs.{above_zero}
use Rattle.ring_geom.proofs.Decide.{decide_covering}

-- nothing, times something
nothing : (k : ℤ) → pos 0 *ℤ k ≡ pos 0
nothing k = omega (arith, ints)

-- something, once
once : (k : ℤ) → k *ℤ pos 1 ≡ k
once k = omega (arith, ints)

-- the scale of a distance is positive
pub scale_positive : (q r : RationalPoint) → pos 0 <ℤ common_square q r
scale_positive q r = mul_positive (pos (q.n * r.n)) (pos (q.n * r.n)) both both
  where
    both : pos 0 <ℤ pos (q.n * r.n)
    both = mul_positive (pos q.n) (pos r.n) (above_zero q.n q.positive) (above_zero r.n r.positive)

-- a least distance of 0 over any denominator is one over 1
zero_least : {A B : RationalPoint → Type 0} (e : ℕ) → 0 < e → IsLeast A B 0 e → IsLeast A B 0 1
zero_least e he h =
    let q = h.attained.0 in
    let r = h.attained.1 in
    let none = same_from_mul (scaled_distance q r) (pos 0) (pos e) (above_zero e he) (h.attained.4 ∙ nothing (common_square q r) ∙ sym (nothing (pos e))) in
    shared_least 0 1 refl refl (q, r, h.attained.2, h.attained.3, once (scaled_distance q r) ∙ none ∙ sym (nothing (common_square q r)))

-- a gap of 0 is a meeting
pub meets_of_zero : (a b : Goal) (m e : ℕ) → 0 < e → m ≡ 0 → IsGapOf a b m e → IsMeeting a b
meets_of_zero a b m e he hm h = record {
  inside = λ _. refl;
  outside = λ fails.
      zero_least {A = IsPointOfFigure a} {B = IsPointOfFigure b} e he
      (subst (λ (n : ℕ). IsLeast (IsPointOfFigure a) (IsPointOfFigure b) n e) hm (h.outside fails));
}

-- two sets that are 0 apart have no other least distance
least_none : {A B : RationalPoint → Type 0} (m e : ℕ) → IsLeast A B 0 1 → IsLeast A B m e → m ≡ 0
least_none m e z h =
    let q = z.attained.0 in
    let r = z.attained.1 in
    let none = sym (once (scaled_distance q r)) ∙ z.attained.4 ∙ nothing (common_square q r) in
    by_lt_z (pos 0) (pos m)
    (λ l.
    absurd (against (pos m *ℤ common_square q r) (scaled_distance q r *ℤ pos e) (mul_positive (pos m) (common_square q r) l (scale_positive q r))
    (h.least q r z.attained.2 z.attained.3) (subst (λ t. t *ℤ pos e ≡ pos 0) (sym none) (nothing (pos e)))))
    (λ l. zero m l)
  where
    against : (p t : ℤ) → pos 0 <ℤ p → p ≤ℤ t → t ≡ pos 0 → ⊥
    against p t h k e = omega (arith, ints)

    zero : (m : ℕ) → pos m ≤ℤ pos 0 → m ≡ 0
    zero m h = omega (arith, ints)

-- and a meeting leaves no other gap
pub zero_of_meets : (a b : Goal) (m e : ℕ) → IsMeeting a b → IsGapOf a b m e → m ≡ 0
zero_of_meets a b m e z h =
    elim (decide_covering a b) [
      | inl c ↦ h.inside c
      | inr fails ↦ least_none {A = IsPointOfFigure a} {B = IsPointOfFigure b} m e (z.outside fails) (h.outside fails)
    ]
