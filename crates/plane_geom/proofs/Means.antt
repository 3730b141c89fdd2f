-- Rational points as weighted means of two grid points: the points of a segment are the means of its ends.
use Rattle.std.proofs.Common.{◌≡◌, ℕ, ◌<◌, min, max, ℤ, pos, ◌+ℤ◌, ◌-ℤ◌, ◌*ℤ◌, ◌≤ℤ◌, ◌<ℤ◌, [], ◌∷◌, refl, ◌∙◌, arith}
use Rattle.std.proofs.Math.IntN.{+ℤ_comm}
use Rattle.std.proofs.lemmas.Int.{ints}
use Rattle.sand_base.specs.declared.point.Point.{Point}
use Rattle.sand_base.specs.declared.segment.Segment.{Segment}
use Rattle.sand_model.specs.Points.{RationalPoint, IsPoint, IsWithin, IsOnSegment}
use Rattle.plane_geom.specs.Expr.{var, at, num, ◌⊕◌, ◌⊖◌, ◌⊗◌}
use Rattle.plane_geom.proofs.Ring.{ring_using, ring_using_two}
use Rattle.plane_geom.proofs.Order.{difference_nonneg, le_by, mul_nonneg, add_nonneg, le_from_mul, same_from_mul, pos_le}
use Rattle.plane_geom.proofs.Clear.{IsWeights, turned_weights}
use Rattle.plane_geom.proofs.Signs.{natural}

-- k times the point q is the mean of a and b under the weights i and j
pub record IsMean (a b : Point) (q : RationalPoint) : Type 0 where
  pub k : ℤ
  pub i : ℤ
  pub j : ℤ
  pub positive : pos 0 <ℤ k
  pub weights : IsWeights i j
  pub total : k *ℤ pos q.n ≡ i +ℤ j
  pub x : k *ℤ q.x ≡ (i *ℤ pos a.x) +ℤ (j *ℤ pos b.x)
  pub y : k *ℤ q.y ≡ (i *ℤ pos a.y) +ℤ (j *ℤ pos b.y)

-- a set of rational points is that of the means of two grid points
pub record IsHull (A : RationalPoint → Type 0) (a b : Point) : Type 0 where
  pub into : (q : RationalPoint) → A q → IsMean a b q
  pub back : (q : RationalPoint) → IsMean a b q → A q

-- a mean of one point with itself is that point
one_point : (k i j n x p : ℤ) → pos 0 <ℤ k → k *ℤ n ≡ i +ℤ j → k *ℤ x ≡ (i *ℤ p) +ℤ (j *ℤ p) → x ≡ n *ℤ p
one_point k i j n x p hk t e =
    same_from_mul x (n *ℤ p) k hk
    (ring_using_two (at (k ∷ i ∷ j ∷ n ∷ x ∷ p ∷ [])) (var 4 ⊗ var 0) ((var 3 ⊗ var 5) ⊗ var 0)
    (num (pos 1)) (var 0 ⊗ var 4) (var 1 ⊗ var 5 ⊕ var 2 ⊗ var 5)
    (num (pos 0) ⊖ var 5) (var 0 ⊗ var 3) (var 1 ⊕ var 2) e t refl)

-- what stands for one end of a segment is a mean of both ends
pub first_end : (a b : Point) (q : RationalPoint) → IsPoint a q → IsMean a b q
first_end a b q h = record {
  k = pos 1;
  i = pos q.n;
  j = pos 0;
  positive = omega (arith, ints);
  weights = record { first = natural q.n; second = natural 0; some = some q.n q.positive };
  total = total (pos q.n);
  x = whole q.x (pos q.n) (pos a.x) (pos b.x) h.x;
  y = whole q.y (pos q.n) (pos a.y) (pos b.y) h.y;
}
  where
    some : (n : ℕ) → 0 < n → pos 0 <ℤ (pos n +ℤ pos 0)
    some n h = omega (arith, ints)

    total : (n : ℤ) → pos 1 *ℤ n ≡ n +ℤ pos 0
    total n = omega (arith, ints)

    whole : (x n a b : ℤ) → x ≡ n *ℤ a → pos 1 *ℤ x ≡ (n *ℤ a) +ℤ (pos 0 *ℤ b)
    whole x n a b h =
        ring_using (at (x ∷ n ∷ a ∷ b ∷ [])) (num (pos 1) ⊗ var 0) (var 1 ⊗ var 2 ⊕ num (pos 0) ⊗ var 3) (num (pos 1)) (var 0)
        (var 1 ⊗ var 2) h refl

-- a mean of two points is one of them in the other order
pub mean_turned : (a b : Point) (q : RationalPoint) → IsMean a b q → IsMean b a q
mean_turned a b q m = record {
  k = m.k;
  i = m.j;
  j = m.i;
  positive = m.positive;
  weights = turned_weights m.i m.j m.weights;
  total = m.total ∙ +ℤ_comm m.i m.j;
  x = m.x ∙ +ℤ_comm (m.i *ℤ pos a.x) (m.j *ℤ pos b.x);
  y = m.y ∙ +ℤ_comm (m.i *ℤ pos a.y) (m.j *ℤ pos b.y);
}

-- what stands for the other end is such a mean too
pub second_end : (a b : Point) (q : RationalPoint) → IsPoint b q → IsMean a b q
second_end a b q h = mean_turned b a q (first_end b a q h)

-- the one point of a point
pub point_hull : (p : Point) → IsHull (IsPoint p) p p
point_hull p = record {
  into = first_end p p;
  back = λ q m. record {
    x = one_point m.k m.i m.j (pos q.n) q.x (pos p.x) m.positive m.total m.x;
    y = one_point m.k m.i m.j (pos q.n) q.y (pos p.y) m.positive m.total m.y;
  };
}

-- along one axis, a mean differs from its first point by its share of the step to the second
share : (k i j n x a b : ℤ) → k *ℤ n ≡ i +ℤ j → k *ℤ x ≡ (i *ℤ a) +ℤ (j *ℤ b) → k *ℤ (x -ℤ n *ℤ a) ≡ j *ℤ (b -ℤ a)
share k i j n x a b t e =
    ring_using_two (at (k ∷ i ∷ j ∷ n ∷ x ∷ a ∷ b ∷ [])) (var 0 ⊗ (var 4 ⊖ var 3 ⊗ var 5)) (var 2 ⊗ (var 6 ⊖ var 5))
    (num (pos 1)) (var 0 ⊗ var 4) (var 1 ⊗ var 5 ⊕ var 2 ⊗ var 6)
    (num (pos 0) ⊖ var 5) (var 0 ⊗ var 3) (var 1 ⊕ var 2) e t refl

-- two shares of one step lie on the line of the step
on_line : (k j dx dy u v : ℤ) → pos 0 <ℤ k → k *ℤ u ≡ j *ℤ dx → k *ℤ v ≡ j *ℤ dy → (dx *ℤ v) -ℤ (dy *ℤ u) ≡ pos 0
on_line k j dx dy u v hk e f =
    same_from_mul _ (pos 0) k hk
    (ring_using_two (at (k ∷ j ∷ dx ∷ dy ∷ u ∷ v ∷ [])) ((var 2 ⊗ var 5 ⊖ var 3 ⊗ var 4) ⊗ var 0) (num (pos 0) ⊗ var 0)
    (num (pos 0) ⊖ var 3) (var 0 ⊗ var 4) (var 1 ⊗ var 2)
    (var 2) (var 0 ⊗ var 5) (var 1 ⊗ var 3) e f refl)

-- a mean of two numbers is at least what both are
mean_above : (k i j n x a b low : ℤ) → pos 0 <ℤ k → IsWeights i j → k *ℤ n ≡ i +ℤ j → k *ℤ x ≡ (i *ℤ a) +ℤ (j *ℤ b)
    → low ≤ℤ a → low ≤ℤ b → (n *ℤ low) ≤ℤ x
mean_above k i j n x a b low hk w t e ha hb =
    le_from_mul (n *ℤ low) x k hk
    (le_by _ _ ((i *ℤ (a -ℤ low)) +ℤ (j *ℤ (b -ℤ low)))
    (ring_using_two (at (k ∷ i ∷ j ∷ n ∷ x ∷ a ∷ b ∷ low ∷ [])) (var 4 ⊗ var 0 ⊖ (var 3 ⊗ var 7) ⊗ var 0)
    (var 1 ⊗ (var 5 ⊖ var 7) ⊕ var 2 ⊗ (var 6 ⊖ var 7))
    (num (pos 1)) (var 0 ⊗ var 4) (var 1 ⊗ var 5 ⊕ var 2 ⊗ var 6)
    (num (pos 0) ⊖ var 7) (var 0 ⊗ var 3) (var 1 ⊕ var 2) e t refl)
    (add_nonneg _ _ (mul_nonneg _ _ w.first (difference_nonneg low a ha)) (mul_nonneg _ _ w.second (difference_nonneg low b hb))))

-- and at most what both are
mean_below : (k i j n x a b high : ℤ) → pos 0 <ℤ k → IsWeights i j → k *ℤ n ≡ i +ℤ j → k *ℤ x ≡ (i *ℤ a) +ℤ (j *ℤ b)
    → a ≤ℤ high → b ≤ℤ high → x ≤ℤ (n *ℤ high)
mean_below k i j n x a b high hk w t e ha hb =
    le_from_mul x (n *ℤ high) k hk
    (le_by _ _ ((i *ℤ (high -ℤ a)) +ℤ (j *ℤ (high -ℤ b)))
    (ring_using_two (at (k ∷ i ∷ j ∷ n ∷ x ∷ a ∷ b ∷ high ∷ [])) ((var 3 ⊗ var 7) ⊗ var 0 ⊖ var 4 ⊗ var 0)
    (var 1 ⊗ (var 7 ⊖ var 5) ⊕ var 2 ⊗ (var 7 ⊖ var 6))
    (num (pos 0) ⊖ num (pos 1)) (var 0 ⊗ var 4) (var 1 ⊗ var 5 ⊕ var 2 ⊗ var 6)
    (var 7) (var 0 ⊗ var 3) (var 1 ⊕ var 2) e t refl)
    (add_nonneg _ _ (mul_nonneg _ _ w.first (difference_nonneg a high ha)) (mul_nonneg _ _ w.second (difference_nonneg b high hb))))

-- a mean of two naturals lies between the lesser and the greater
mean_within : (k i j : ℤ) (n : ℕ) (x : ℤ) (a b : ℕ) → pos 0 <ℤ k → IsWeights i j → k *ℤ pos n ≡ i +ℤ j
    → k *ℤ x ≡ (i *ℤ pos a) +ℤ (j *ℤ pos b) → IsWithin (min a b) (max a b) n x
mean_within k i j n x a b hk w t e = record {
  above = mean_above k i j (pos n) x (pos a) (pos b) (pos (min a b)) hk w t e (pos_le _ _ (omega arith)) (pos_le _ _ (omega arith));
  below = mean_below k i j (pos n) x (pos a) (pos b) (pos (max a b)) hk w t e (pos_le _ _ (omega arith)) (pos_le _ _ (omega arith));
}

-- a mean of the ends lies on the segment
pub mean_on : (s : Segment) (q : RationalPoint) → IsMean s.a s.b q → IsOnSegment s q
mean_on s q m = record {
  line = on_line m.k m.j _ _ _ _ m.positive
      (share m.k m.i m.j (pos q.n) q.x (pos s.a.x) (pos s.b.x) m.total m.x)
      (share m.k m.i m.j (pos q.n) q.y (pos s.a.y) (pos s.b.y) m.total m.y);
  x = mean_within m.k m.i m.j q.n q.x s.a.x s.b.x m.positive m.weights m.total m.x;
  y = mean_within m.k m.i m.j q.n q.y s.a.y s.b.y m.positive m.weights m.total m.y;
}
