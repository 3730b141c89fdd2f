-- The gap of plans is a measure: a fraction of the same value as a gap is that gap.
use Rattle.std.proofs.Common.{◌≡◌, ℕ, ◌*◌, ◌≤◌, ℤ, pos, ◌*ℤ◌, ◌-ℤ◌, [], ◌∷◌, refl, ap, sym, ◌∙◌, zero-mul}
use Rattle.exact_frac.specs.Value.{SameValue}
use Rattle.exact_frac.specs.declared.frac.Frac.{Frac}
use Rattle.sand_base.specs.declared.goal.Goal.{Goal}
use Rattle.sand_model.specs.Points.{RationalPoint}
use Rattle.sand_model.specs.FigureGap.{IsGapOf, IsFigureGap}
use Rattle.sand_model.specs.Figures.{IsPointOfFigure}
use Rattle.sand_model.specs.Gap.{IsLeast, scaled_distance, common_square}
use Rattle.sand_model.specs.Measure.{IsMeasure}
use Rattle.plane_geom.specs.Expr.{var, at, ◌⊖◌, ◌⊗◌}
use Rattle.plane_geom.proofs.Ring.{ring_using, ring_using_two}
use Rattle.plane_geom.proofs.Order.{le_by, le_from_mul, same_from_mul, mul_nonneg, difference_nonneg}
use Rattle.plane_geom.proofs.Signs.{natural, above_zero}
use Rattle.ring_geom.proofs.Measured.{measured}
use Rattle.plan_iterator.specs.Lowest.{lowest_of}
use Rattle.plan_iterator.specs.Rows.{plan_measure}
use Rattle.plan_iterator.proofs.LowestFractions.{cancelled, lowest_value}

-- a distance that is one fraction is each of its value
equal_moved : (f c m e n d : ℤ) → f *ℤ e ≡ m *ℤ c → m *ℤ d ≡ n *ℤ e → (f *ℤ d) *ℤ e ≡ (n *ℤ c) *ℤ e
equal_moved f c m e n d h same =
    ring_using_two (at (f ∷ c ∷ m ∷ e ∷ n ∷ d ∷ [])) ((var 0 ⊗ var 5) ⊗ var 3) ((var 4 ⊗ var 1) ⊗ var 3)
    (var 5) (var 0 ⊗ var 3) (var 2 ⊗ var 1) (var 1) (var 2 ⊗ var 5) (var 4 ⊗ var 3) h same refl

-- and one that is at least it is at least each
order_moved : (f c m e n d : ℤ) → m *ℤ d ≡ n *ℤ e → ((f *ℤ d) *ℤ e) -ℤ ((n *ℤ c) *ℤ e) ≡ d *ℤ ((f *ℤ e) -ℤ (m *ℤ c))
order_moved f c m e n d same =
    ring_using (at (f ∷ c ∷ m ∷ e ∷ n ∷ d ∷ [])) (((var 0 ⊗ var 5) ⊗ var 3) ⊖ ((var 4 ⊗ var 1) ⊗ var 3))
    (var 5 ⊗ ((var 0 ⊗ var 3) ⊖ (var 2 ⊗ var 1))) (var 1) (var 2 ⊗ var 5) (var 4 ⊗ var 3) same refl

-- the least distance of two sets is each fraction of its value
pub least_of_value : {A B : RationalPoint → Type 0} (m e n d : ℕ) → 1 ≤ e → SameValue m e n d → IsLeast A B m e → IsLeast A B n d
least_of_value m e n d he same h = record {
  attained =
      let t = h.attained in (
        t.0,
        t.1,
        t.2,
        t.3,
        same_from_mul _ _ (pos e) (above_zero e he)
            (equal_moved (scaled_distance t.0 t.1) (common_square t.0 t.1) (pos m) (pos e) (pos n) (pos d) t.4 (ap pos same)),
      );
  least = λ q r hq hr.
      le_from_mul (pos n *ℤ common_square q r) (scaled_distance q r *ℤ pos d) (pos e) (above_zero e he)
      (le_by _ _ _ (order_moved (scaled_distance q r) (common_square q r) (pos m) (pos e) (pos n) (pos d) (ap pos same))
      (mul_nonneg (pos d) _ (natural d) (difference_nonneg _ _ (h.least q r hq hr))));
}

-- no value but 0 has the fraction of 0
zero_of_value : (m e n d : ℕ) → 1 ≤ e → SameValue m e n d → m ≡ 0 → n ≡ 0
zero_of_value m e n d he same none =
    cancelled n 0 e he (sym same ∙ ap (λ k. k * d) none ∙ zero-mul d ∙ sym (zero-mul e))

-- the gap of two figures is each fraction of its value
pub gap_of_value : (a b : Goal) (m e n d : ℕ) → 1 ≤ e → SameValue m e n d → IsGapOf a b m e → IsGapOf a b n d
gap_of_value a b m e n d he same h = record {
  inside = λ c. zero_of_value m e n d he same (h.inside c);
  outside = λ fails. least_of_value {A = IsPointOfFigure a} {B = IsPointOfFigure b} m e n d he same (h.outside fails);
}

-- a gap in lowest terms is the gap
pub lowest_gap : (a b : Goal) (f : Frac) → IsFigureGap a b f → IsFigureGap a b (lowest_of f)
lowest_gap a b f h = gap_of_value a b f.num f.den (lowest_of f).num (lowest_of f).den f.positive (sym (lowest_value f)) h

-- the gap of plans is a measure
pub plan_measure_is : IsMeasure plan_measure
plan_measure_is a b ha hb = lowest_gap a b (measured.0 a b) (measured.1 a b ha hb)
