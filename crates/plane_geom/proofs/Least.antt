-- The least squared distance of two sets of means, told by their weights.
use Rattle.std.proofs.Common.{◌≡◌, ℕ, ◌+◌, ◌*◌, ◌<◌, ℤ, pos, negsuc, ◌+ℤ◌, ◌-ℤ◌, ◌*ℤ◌, ◌≤ℤ◌, ◌<ℤ◌, [], ◌∷◌, refl, ap, ap₂, sym, ◌∙◌, arith}
use Rattle.std.proofs.lemmas.Int.{ints}
use Rattle.sand_base.specs.declared.point.Point.{Point}
use Rattle.sand_model.specs.Points.{RationalPoint}
use Rattle.sand_model.specs.Gap.{IsLeast, scaled_distance, common_square}
use Rattle.plane_geom.specs.Expr.{var, at, ◌⊖◌, ◌⊗◌}
use Rattle.plane_geom.proofs.Ring.{ring}
use Rattle.plane_geom.proofs.Order.{mul_positive}
use Rattle.plane_geom.proofs.Apart.{distance_exchanged, common_exchanged, apart_exchanged}
use Rattle.plane_geom.proofs.Clear.{IsClear, AreClear, offset, as_long, unscaled}
use Rattle.plane_geom.proofs.Means.{IsMean, IsHull}
use Rattle.plane_geom.proofs.Signs.{natural, once}

-- some pair of points of two sets is the root of num / den apart
abbrev pub Attained : (RationalPoint → Type 0) → (RationalPoint → Type 0) → ℕ → ℕ → Type 0
Attained A B num den = (q r : RationalPoint) × A q × B r × (scaled_distance q r *ℤ pos den ≡ pos num *ℤ common_square q r)

-- along one axis, two means under a common factor
offset_is : (k l n m x y a b c d i j u v : ℤ) → k *ℤ n ≡ i +ℤ j → l *ℤ m ≡ u +ℤ v
    → k *ℤ x ≡ (i *ℤ a) +ℤ (j *ℤ b) → l *ℤ y ≡ (u *ℤ c) +ℤ (v *ℤ d)
    → (k *ℤ l) *ℤ ((x *ℤ m) -ℤ (y *ℤ n)) ≡ offset a b c d i j u v
offset_is k l n m x y a b c d i j u v tk tl ek el =
    ring (at (k ∷ l ∷ n ∷ m ∷ x ∷ y ∷ [])) ((var 0 ⊗ var 1) ⊗ (var 4 ⊗ var 3 ⊖ var 5 ⊗ var 2))
    ((var 0 ⊗ var 4) ⊗ (var 1 ⊗ var 3) ⊖ (var 1 ⊗ var 5) ⊗ (var 0 ⊗ var 2)) refl
    ∙ ap₂ (λ s t. s -ℤ t) (ap₂ (λ s t. s *ℤ t) ek tl) (ap₂ (λ s t. s *ℤ t) el tk)

-- and their denominators
sums_are : (k l n m i j u v : ℤ) → k *ℤ n ≡ i +ℤ j → l *ℤ m ≡ u +ℤ v → (k *ℤ l) *ℤ (n *ℤ m) ≡ (i +ℤ j) *ℤ (u +ℤ v)
sums_are k l n m i j u v tk tl =
    ring (at (k ∷ l ∷ n ∷ m ∷ [])) ((var 0 ⊗ var 1) ⊗ (var 2 ⊗ var 3)) ((var 0 ⊗ var 2) ⊗ (var 1 ⊗ var 3)) refl
    ∙ ap₂ (λ s t. s *ℤ t) tk tl

-- no pair of means is nearer than the bound of the weights
pub means_clear : (m e : ℤ) (a b c d : Point) (q r : RationalPoint) → pos 0 ≤ℤ e → AreClear m e a b c d → IsMean a b q → IsMean c d r
    → IsClear m e ((q.x *ℤ pos r.n) -ℤ (r.x *ℤ pos q.n)) ((q.y *ℤ pos r.n) -ℤ (r.y *ℤ pos q.n)) (pos q.n *ℤ pos r.n)
means_clear m e a b c d q r he h p s =
    unscaled m e _ _ _ (p.k *ℤ s.k) he (mul_positive p.k s.k p.positive s.positive)
    (as_long m e _ _ _ _ _ _ (h p.i p.j s.i s.j p.weights s.weights)
    (sym (offset_is p.k s.k (pos q.n) (pos r.n) q.x r.x _ _ _ _ p.i p.j s.i s.j p.total s.total p.x s.x))
    (sym (offset_is p.k s.k (pos q.n) (pos r.n) q.y r.y _ _ _ _ p.i p.j s.i s.j p.total s.total p.y s.y))
    (sym (sums_are p.k s.k (pos q.n) (pos r.n) p.i p.j s.i s.j p.total s.total)))

-- a pair that is so far apart, and a bound for all weights, make the least distance
pub least_of_clear : {A B : RationalPoint → Type 0} (a b c d : Point) (m e : ℕ) → IsHull A a b → IsHull B c d
    → Attained A B m e → AreClear (pos m) (pos e) a b c d → IsLeast A B m e
least_of_clear a b c d m e ha hb t h = record {
  attained = t;
  least = λ q r hq hr. means_clear (pos m) (pos e) a b c d q r (natural e) h (ha.into q hq) (hb.into r hr);
}

-- the mean of two grid points under natural weights
abbrev pub mean : (a b : Point) (i j : ℕ) → 0 < i + j → RationalPoint
mean a b i j h = record { x = pos (i * a.x + j * b.x); y = pos (i * a.y + j * b.y); n = i + j; positive = h }

-- it is a mean
pub mean_is : (a b : Point) (i j : ℕ) (h : 0 < i + j) → IsMean a b (mean a b i j h)
mean_is a b i j h = record {
  k = pos 1;
  i = pos i;
  j = pos j;
  positive = omega (arith, ints);
  weights = record { first = natural i; second = natural j; some = some i j h };
  total = once (pos (i + j));
  x = once (pos (i * a.x + j * b.x));
  y = once (pos (i * a.y + j * b.y));
}
  where
    some : (i j : ℕ) → 0 < i + j → pos 0 <ℤ (pos i +ℤ pos j)
    some i j h = omega (arith, ints)

-- no natural is a negative weight
not_negative : {P : Type 0} (n : ℕ) → pos 0 ≤ℤ negsuc n → P
not_negative n h = absurd (omega (arith, ints))

-- naturals whose sum is positive as an integer have a positive sum
some_weight : (i j : ℕ) → pos 0 <ℤ (pos i +ℤ pos j) → 0 < i + j
some_weight i j h = omega (arith, ints)

-- a bound for all pairs of points is one for the means under all weights
pub clear_of_bound : {A B : RationalPoint → Type 0} (a b c d : Point) (m e : ℕ) → IsHull A a b → IsHull B c d
    → ((q r : RationalPoint) → A q → B r → (pos m *ℤ common_square q r) ≤ℤ (scaled_distance q r *ℤ pos e)) → AreClear (pos m) (pos e) a b c d
clear_of_bound a b c d m e ha hb h (negsuc i) j u v wi wu = not_negative i wi.first
clear_of_bound a b c d m e ha hb h (pos i) (negsuc j) u v wi wu = not_negative j wi.second
clear_of_bound a b c d m e ha hb h (pos i) (pos j) (negsuc u) v wi wu = not_negative u wu.first
clear_of_bound a b c d m e ha hb h (pos i) (pos j) (pos u) (negsuc v) wi wu = not_negative v wu.second
clear_of_bound a b c d m e ha hb h (pos i) (pos j) (pos u) (pos v) wi wu =
    let pi = some_weight i j wi.some in
    let pu = some_weight u v wu.some in
    h (mean a b i j pi) (mean c d u v pu) (ha.back _ (mean_is a b i j pi)) (hb.back _ (mean_is c d u v pu))

-- the least distance is such a bound
pub clear_of_least : {A B : RationalPoint → Type 0} (a b c d : Point) (m e : ℕ) → IsHull A a b → IsHull B c d
    → IsLeast A B m e → AreClear (pos m) (pos e) a b c d
clear_of_least a b c d m e ha hb h = clear_of_bound a b c d m e ha hb h.least

-- some weights give a pair that is so far apart
pub attained_at : {A B : RationalPoint → Type 0} (a b c d : Point) (m e : ℕ) → IsHull A a b → IsHull B c d
    → (i j u v : ℕ) (hi : 0 < i + j) (hu : 0 < u + v)
    → scaled_distance (mean a b i j hi) (mean c d u v hu) *ℤ pos e ≡ pos m *ℤ common_square (mean a b i j hi) (mean c d u v hu) → Attained A B m e
attained_at a b c d m e ha hb i j u v hi hu h =
    (mean a b i j hi, mean c d u v hu, ha.back _ (mean_is a b i j hi), hb.back _ (mean_is c d u v hu), h)

-- the two sets exchanged
pub attained_exchanged : {A B : RationalPoint → Type 0} (m e : ℕ) → Attained A B m e → Attained B A m e
attained_exchanged m e t = (
  t.1,
  t.0,
  t.3,
  t.2,
  ap (λ s. s *ℤ pos e) (distance_exchanged t.1 t.0) ∙ t.4 ∙ ap (λ s. pos m *ℤ s) (common_exchanged t.0 t.1),
)

-- a pair of points of two sets is one of any sets that hold them
pub attained_within : {A B C D : RationalPoint → Type 0} (m e : ℕ) → ((q : RationalPoint) → A q → C q)
    → ((q : RationalPoint) → B q → D q) → Attained A B m e → Attained C D m e
attained_within m e f g t = (t.0, t.1, f t.0 t.2, g t.1 t.3, t.4)

-- the least distance of two sets is that of the two exchanged
pub least_exchanged : {A B : RationalPoint → Type 0} (m e : ℕ) → IsLeast A B m e → IsLeast B A m e
least_exchanged m e h = record {
  attained = attained_exchanged m e h.attained;
  least = λ q r hq hr. apart_exchanged m e r q (h.least r q hr hq);
}

-- and that of another set with the same points
pub least_same : {A B C : RationalPoint → Type 0} (m e : ℕ) → ((q : RationalPoint) → A q → C q) → ((q : RationalPoint) → C q → A q)
    → IsLeast A B m e → IsLeast C B m e
least_same m e f g h = record {
  attained = attained_within m e f (λ r hr. hr) h.attained;
  least = λ q r hq hr. h.least q r (g q hq) hr;
}
