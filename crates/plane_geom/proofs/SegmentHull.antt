-- The points of a segment are the means of its ends.
use Rattle.std.proofs.Common.{◌≡◌, ℕ, ◌*◌, ◌<◌, min, max, ℤ, pos, ◌+ℤ◌, ◌-ℤ◌, ◌*ℤ◌, ◌≤ℤ◌, ◌<ℤ◌, [], ◌∷◌, refl, ap, ◌∙◌, subst, arith}
use Rattle.std.proofs.lemmas.Int.{ints, by_lt_z}
use Rattle.sand_base.specs.declared.segment.Segment.{Segment}
use Rattle.sand_model.specs.Points.{RationalPoint, IsWithin, IsOnSegment}
use Rattle.plane_geom.specs.Expr.{var, at, num, ◌⊕◌, ◌⊖◌, ◌⊗◌}
use Rattle.plane_geom.proofs.Ring.{ring, ring_using_two}
use Rattle.plane_geom.proofs.Order.{difference_nonneg, mul_nonneg, mul_positive, add_nonneg, both_le}
use Rattle.plane_geom.proofs.Squares.{square_nonneg, squares_zero}
use Rattle.plane_geom.proofs.Named.{identity_using}
use Rattle.plane_geom.proofs.Axis.{foot_shares}
use Rattle.plane_geom.proofs.Signs.{sum_zero}
use Rattle.plane_geom.proofs.Means.{IsMean, IsHull, first_end, mean_on}

-- a step up, and what lies between its ends
step_up : (n x a b : ℤ) → a ≤ℤ b → (n *ℤ a) ≤ℤ x → x ≤ℤ (n *ℤ b)
    → (pos 0 ≤ℤ ((b -ℤ a) *ℤ (x -ℤ (n *ℤ a)))) × (pos 0 ≤ℤ ((b -ℤ a) *ℤ ((n *ℤ b) -ℤ x)))
step_up n x a b l low high = (
  mul_nonneg (b -ℤ a) (x -ℤ (n *ℤ a)) (difference_nonneg a b l) (difference_nonneg (n *ℤ a) x low),
  mul_nonneg (b -ℤ a) ((n *ℤ b) -ℤ x) (difference_nonneg a b l) (difference_nonneg x (n *ℤ b) high),
)

-- a step down, and what lies between its ends
step_down : (n x a b : ℤ) → b ≤ℤ a → (n *ℤ b) ≤ℤ x → x ≤ℤ (n *ℤ a)
    → (pos 0 ≤ℤ ((b -ℤ a) *ℤ (x -ℤ (n *ℤ a)))) × (pos 0 ≤ℤ ((b -ℤ a) *ℤ ((n *ℤ b) -ℤ x)))
step_down n x a b l low high = (
  subst (λ t. pos 0 ≤ℤ t)
      (ring (at (n ∷ x ∷ a ∷ b ∷ [])) ((var 2 ⊖ var 3) ⊗ (var 0 ⊗ var 2 ⊖ var 1)) ((var 3 ⊖ var 2) ⊗ (var 1 ⊖ var 0 ⊗ var 2)) refl)
      (mul_nonneg (a -ℤ b) ((n *ℤ a) -ℤ x) (difference_nonneg b a l) (difference_nonneg x (n *ℤ a) high)),
  subst (λ t. pos 0 ≤ℤ t)
      (ring (at (n ∷ x ∷ a ∷ b ∷ [])) ((var 2 ⊖ var 3) ⊗ (var 1 ⊖ var 0 ⊗ var 3)) ((var 3 ⊖ var 2) ⊗ (var 0 ⊗ var 3 ⊖ var 1)) refl)
      (mul_nonneg (a -ℤ b) (x -ℤ (n *ℤ b)) (difference_nonneg b a l) (difference_nonneg (n *ℤ b) x low)),
)

-- what lies between two bounds lies on the side of the step from either of them
along_step : (n : ℕ) (x : ℤ) (a b : ℕ) → IsWithin (min a b) (max a b) n x
    → (pos 0 ≤ℤ ((pos b -ℤ pos a) *ℤ (x -ℤ (pos n *ℤ pos a)))) × (pos 0 ≤ℤ ((pos b -ℤ pos a) *ℤ ((pos n *ℤ pos b) -ℤ x)))
along_step n x a b h =
    by_lt_z (pos b) (pos a)
    (λ l.
    let e : min a b ≡ b = omega (arith, ints) in
    let f : max a b ≡ a = omega (arith, ints) in
    step_down (pos n) x (pos a) (pos b) (omega (arith, ints))
    (subst (λ (t : ℕ). pos (n * t) ≤ℤ x) e h.above) (subst (λ (t : ℕ). x ≤ℤ pos (n * t)) f h.below))
    (λ l.
    let e : min a b ≡ a = omega (arith, ints) in
    let f : max a b ≡ b = omega (arith, ints) in
    step_up (pos n) x (pos a) (pos b) l
    (subst (λ (t : ℕ). pos (n * t) ≤ℤ x) e h.above) (subst (λ (t : ℕ). x ≤ℤ pos (n * t)) f h.below))

-- along each axis, what has the foot's share of a step is the mean under the foot's weights
foot_mean : (l f u n a b : ℤ) → l *ℤ u ≡ f *ℤ (b -ℤ a) → l *ℤ (u +ℤ (n *ℤ a)) ≡ (((n *ℤ l) -ℤ f) *ℤ a) +ℤ (f *ℤ b)
foot_mean l f u n a b h =
    identity_using (l ∷ f ∷ u ∷ n ∷ a ∷ b ∷ [])
    (λ l f u n a b. (l ⊗ (u ⊕ n ⊗ a), (n ⊗ l ⊖ f) ⊗ a ⊕ f ⊗ b, num (pos 1), l ⊗ u, f ⊗ (b ⊖ a))) h refl

-- a point of a segment that has a length is a mean of its ends
long_mean : (s : Segment) (q : RationalPoint) → IsOnSegment s q
    → pos 0 <ℤ (((pos s.b.x -ℤ pos s.a.x) *ℤ (pos s.b.x -ℤ pos s.a.x)) +ℤ ((pos s.b.y -ℤ pos s.a.y) *ℤ (pos s.b.y -ℤ pos s.a.y)))
    → IsMean s.a s.b q
long_mean s q h l =
    let dx = pos s.b.x -ℤ pos s.a.x in
    let dy = pos s.b.y -ℤ pos s.a.y in
    let n = pos q.n in
    let u = q.x -ℤ (n *ℤ pos s.a.x) in
    let v = q.y -ℤ (n *ℤ pos s.a.y) in
    let long = (dx *ℤ dx) +ℤ (dy *ℤ dy) in
    let foot = (dx *ℤ u) +ℤ (dy *ℤ v) in
    let shares = foot_shares dx dy u v h.line in
    let wx = along_step q.n q.x s.a.x s.b.x h.x in
    let wy = along_step q.n q.y s.a.y s.b.y h.y in
    record {
      k = long;
      i = (n *ℤ long) -ℤ foot;
      j = foot;
      positive = l;
      weights = record {
        first = rest_sign dx dy (pos s.a.x) (pos s.b.x) (pos s.a.y) (pos s.b.y) q.x q.y n refl refl wx.1 wy.1;
        second = add_nonneg _ _ wx.0 wy.0;
        some = all_some n long foot (subst (λ t. pos 0 <ℤ t) refl (times_positive q.n long q.positive l));
      };
      total = whole long n foot;
      x = ap (λ t. long *ℤ t) (back q.x (n *ℤ pos s.a.x)) ∙ foot_mean long foot u n (pos s.a.x) (pos s.b.x) shares.0;
      y = ap (λ t. long *ℤ t) (back q.y (n *ℤ pos s.a.y)) ∙ foot_mean long foot v n (pos s.a.y) (pos s.b.y) shares.1;
    }
  where
    back : (x t : ℤ) → x ≡ (x -ℤ t) +ℤ t
    back x t = omega (arith, ints)

    whole : (l n f : ℤ) → l *ℤ n ≡ ((n *ℤ l) -ℤ f) +ℤ f
    whole l n f = ring (at (l ∷ n ∷ f ∷ [])) (var 0 ⊗ var 1) ((var 1 ⊗ var 0 ⊖ var 2) ⊕ var 2) refl

    times_positive : (n : ℕ) (l : ℤ) → 0 < n → pos 0 <ℤ l → pos 0 <ℤ (pos n *ℤ l)
    times_positive n l hn hl = mul_positive (pos n) l (omega (arith, ints)) hl

    all_some : (n l f : ℤ) → pos 0 <ℤ (n *ℤ l) → pos 0 <ℤ (((n *ℤ l) -ℤ f) +ℤ f)
    all_some n l f h = omega (arith, ints)

    rest_sign : (dx dy a b c d x y n : ℤ) → b -ℤ a ≡ dx → d -ℤ c ≡ dy
        → pos 0 ≤ℤ (dx *ℤ ((n *ℤ b) -ℤ x)) → pos 0 ≤ℤ (dy *ℤ ((n *ℤ d) -ℤ y))
        → pos 0 ≤ℤ ((n *ℤ ((dx *ℤ dx) +ℤ (dy *ℤ dy))) -ℤ ((dx *ℤ (x -ℤ (n *ℤ a))) +ℤ (dy *ℤ (y -ℤ (n *ℤ c)))))
    rest_sign dx dy a b c d x y n e f h k =
        subst (λ t. pos 0 ≤ℤ t)
        (ring_using_two (at (dx ∷ dy ∷ a ∷ b ∷ c ∷ d ∷ x ∷ y ∷ n ∷ []))
        (var 0 ⊗ (var 8 ⊗ var 3 ⊖ var 6) ⊕ var 1 ⊗ (var 8 ⊗ var 5 ⊖ var 7))
        (var 8 ⊗ (var 0 ⊗ var 0 ⊕ var 1 ⊗ var 1) ⊖ (var 0 ⊗ (var 6 ⊖ var 8 ⊗ var 2) ⊕ var 1 ⊗ (var 7 ⊖ var 8 ⊗ var 4)))
        (var 8 ⊗ var 0) (var 3 ⊖ var 2) (var 0)
        (var 8 ⊗ var 1) (var 5 ⊖ var 4) (var 1) e f refl)
        (add_nonneg _ _ h k)

-- what lies between two equal bounds is both
between_equals : (n : ℕ) (x : ℤ) (a b : ℕ) → b ≡ a → IsWithin (min a b) (max a b) n x → x ≡ pos n *ℤ pos a
between_equals n x a b l h =
    let e : min a b ≡ a = omega arith in
    let f : max a b ≡ a = omega arith in
    both_le x (pos n *ℤ pos a) (subst (λ (t : ℕ). x ≤ℤ pos (n * t)) f h.below) (subst (λ (t : ℕ). pos (n * t) ≤ℤ x) e h.above)

-- a point of a segment of length zero is both its ends
flat_mean : (s : Segment) (q : RationalPoint) → IsOnSegment s q
    → (((pos s.b.x -ℤ pos s.a.x) *ℤ (pos s.b.x -ℤ pos s.a.x)) +ℤ ((pos s.b.y -ℤ pos s.a.y) *ℤ (pos s.b.y -ℤ pos s.a.y))) ≤ℤ pos 0
    → IsMean s.a s.b q
flat_mean s q h l =
    let flat = squares_zero (pos s.b.x -ℤ pos s.a.x) (pos s.b.y -ℤ pos s.a.y)
    (sum_zero _ _ (square_nonneg (pos s.b.x -ℤ pos s.a.x)) (square_nonneg (pos s.b.y -ℤ pos s.a.y)) l) in
    first_end s.a s.b q (record {
      x = between_equals q.n q.x s.a.x s.b.x (same s.a.x s.b.x flat.0) h.x;
      y = between_equals q.n q.y s.a.y s.b.y (same s.a.y s.b.y flat.1) h.y;
    })
  where
    same : (a b : ℕ) → pos b -ℤ pos a ≡ pos 0 → b ≡ a
    same a b h = omega (arith, ints)

-- the points of a segment are the means of its ends
pub segment_hull : (s : Segment) → IsHull (IsOnSegment s) s.a s.b
segment_hull s = record {
  into = λ q h. by_lt_z (pos 0) _ (λ l. long_mean s q h l) (λ l. flat_mean s q h l);
  back = mean_on s;
}
