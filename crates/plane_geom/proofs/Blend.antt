-- Points between two rational points of a segment: the one at a given level of an axis.
use Rattle.std.proofs.Common.{◌≡◌, ℕ, ◌+◌, ◌*◌, ◌<◌, min, max, ℤ, pos, nat_abs, ◌+ℤ◌, ◌-ℤ◌, ◌*ℤ◌, ◌≤ℤ◌, ◌<ℤ◌, [], ◌∷◌, refl, sym, ◌∙◌, subst, arith}
use Rattle.std.proofs.lemmas.Int.{ints, by_lt_z}
use Rattle.sand_base.specs.declared.segment.Segment.{Segment}
use Rattle.sand_model.specs.Points.{RationalPoint, IsWithin, IsOnSegment}
use Rattle.plane_geom.specs.Expr.{var, at, num, ◌⊕◌, ◌⊖◌, ◌⊗◌}
use Rattle.plane_geom.proofs.Ring.{ring_using_two}
use Rattle.plane_geom.proofs.Order.{difference_nonneg, mul_nonneg, mul_positive, add_nonneg, pos_abs}
use Rattle.plane_geom.proofs.Inequality.{le_ring}
use Rattle.plane_geom.proofs.Axis.{Axis, horizontal, vertical, numerator}
use Rattle.plane_geom.proofs.Signs.{natural}

-- the mean of two rational points under two weights
abbrev blend : (w z : ℕ) (q r : RationalPoint) → 0 < w * q.n + z * r.n → RationalPoint
blend w z q r h = record {
  x = (pos w *ℤ q.x) +ℤ (pos z *ℤ r.x);
  y = (pos w *ℤ q.y) +ℤ (pos z *ℤ r.y);
  n = w * q.n + z * r.n;
  positive = h;
}

-- it lies in each range in which both lie
blend_within : (low high w z n m : ℕ) (x u : ℤ) → IsWithin low high n x → IsWithin low high m u
    → IsWithin low high (w * n + z * m) ((pos w *ℤ x) +ℤ (pos z *ℤ u))
blend_within low high w z n m x u h k = record {
  above = le_ring (at (pos w ∷ pos z ∷ pos n ∷ pos m ∷ x ∷ u ∷ pos low ∷ [])) ((var 0 ⊗ var 2 ⊕ var 1 ⊗ var 3) ⊗ var 6)
      (var 0 ⊗ var 4 ⊕ var 1 ⊗ var 5) (var 0 ⊗ (var 4 ⊖ var 2 ⊗ var 6) ⊕ var 1 ⊗ (var 5 ⊖ var 3 ⊗ var 6)) refl
      (add_nonneg _ _ (mul_nonneg (pos w) _ (natural w) (difference_nonneg _ _ h.above)) (mul_nonneg (pos z) _ (natural z) (difference_nonneg _ _ k.above)));
  below = le_ring (at (pos w ∷ pos z ∷ pos n ∷ pos m ∷ x ∷ u ∷ pos high ∷ [])) (var 0 ⊗ var 4 ⊕ var 1 ⊗ var 5)
      ((var 0 ⊗ var 2 ⊕ var 1 ⊗ var 3) ⊗ var 6) (var 0 ⊗ (var 2 ⊗ var 6 ⊖ var 4) ⊕ var 1 ⊗ (var 3 ⊗ var 6 ⊖ var 5)) refl
      (add_nonneg _ _ (mul_nonneg (pos w) _ (natural w) (difference_nonneg _ _ h.below)) (mul_nonneg (pos z) _ (natural z) (difference_nonneg _ _ k.below)));
}

-- it lies on each line on which both lie
blend_line : (dx dy ax ay w z n m x y u v : ℤ) → (dx *ℤ (y -ℤ (n *ℤ ay))) -ℤ (dy *ℤ (x -ℤ (n *ℤ ax))) ≡ pos 0
    → (dx *ℤ (v -ℤ (m *ℤ ay))) -ℤ (dy *ℤ (u -ℤ (m *ℤ ax))) ≡ pos 0
    → (dx *ℤ (((w *ℤ y) +ℤ (z *ℤ v)) -ℤ (((w *ℤ n) +ℤ (z *ℤ m)) *ℤ ay)))
    -ℤ (dy *ℤ (((w *ℤ x) +ℤ (z *ℤ u)) -ℤ (((w *ℤ n) +ℤ (z *ℤ m)) *ℤ ax))) ≡ pos 0
blend_line dx dy ax ay w z n m x y u v h k =
    let sum = var 4 ⊗ var 6 ⊕ var 5 ⊗ var 7 in
    ring_using_two (at (dx ∷ dy ∷ ax ∷ ay ∷ w ∷ z ∷ n ∷ m ∷ x ∷ y ∷ u ∷ v ∷ []))
    (var 0 ⊗ ((var 4 ⊗ var 9 ⊕ var 5 ⊗ var 11) ⊖ sum ⊗ var 3) ⊖ var 1 ⊗ ((var 4 ⊗ var 8 ⊕ var 5 ⊗ var 10) ⊖ sum ⊗ var 2)) (num (pos 0))
    (var 4) (var 0 ⊗ (var 9 ⊖ var 6 ⊗ var 3) ⊖ var 1 ⊗ (var 8 ⊖ var 6 ⊗ var 2)) (num (pos 0))
    (var 5) (var 0 ⊗ (var 11 ⊖ var 7 ⊗ var 3) ⊖ var 1 ⊗ (var 10 ⊖ var 7 ⊗ var 2)) (num (pos 0)) h k refl

-- it lies on each segment on which both lie
blend_on : (s : Segment) (w z : ℕ) (q r : RationalPoint) (h : 0 < w * q.n + z * r.n) → IsOnSegment s q → IsOnSegment s r
    → IsOnSegment s (blend w z q r h)
blend_on s w z q r h hq hr = record {
  line = blend_line (pos s.b.x -ℤ pos s.a.x) (pos s.b.y -ℤ pos s.a.y) (pos s.a.x) (pos s.a.y) (pos w) (pos z) (pos q.n) (pos r.n) q.x q.y
      r.x r.y hq.line hr.line;
  x = blend_within (min s.a.x s.b.x) (max s.a.x s.b.x) w z q.n r.n q.x r.x hq.x hr.x;
  y = blend_within (min s.a.y s.b.y) (max s.a.y s.b.y) w z q.n r.n q.y r.y hq.y hr.y;
}

-- along each axis, its numerator is the mean of theirs
blended : (axis : Axis) (w z : ℕ) (q r : RationalPoint) (h : 0 < w * q.n + z * r.n)
    → numerator axis (blend w z q r h) ≡ (pos w *ℤ numerator axis q) +ℤ (pos z *ℤ numerator axis r)
blended horizontal w z q r h = refl
blended vertical w z q r h = refl

-- two points of a segment on either side of a level of the axis, and one between them at the level
pub record IsCut (axis : Axis) (s : Segment) (level : ℕ) (q r p : RationalPoint) : Type 0 where
  pub on : IsOnSegment s p
  pub at_level : numerator axis p ≡ pos (p.n * level)
  pub between : (along : Axis) (low high : ℕ) → IsWithin low high q.n (numerator along q) → IsWithin low high r.n (numerator along r)
      → IsWithin low high p.n (numerator along p)

-- the weights under which a coordinate has the level
levelled : (w z n m x u l : ℤ) → w ≡ (m *ℤ l) -ℤ u → z ≡ x -ℤ (n *ℤ l) → (w *ℤ x) +ℤ (z *ℤ u) ≡ ((w *ℤ n) +ℤ (z *ℤ m)) *ℤ l
levelled w z n m x u l e f =
    ring_using_two (at (w ∷ z ∷ n ∷ m ∷ x ∷ u ∷ l ∷ [])) (var 0 ⊗ var 4 ⊕ var 1 ⊗ var 5) ((var 0 ⊗ var 2 ⊕ var 1 ⊗ var 3) ⊗ var 6)
    (var 4 ⊖ var 2 ⊗ var 6) (var 0) (var 3 ⊗ var 6 ⊖ var 5)
    (var 5 ⊖ var 3 ⊗ var 6) (var 1) (var 4 ⊖ var 2 ⊗ var 6) e f refl

-- they aren't both 0
some_weight : (w z n m : ℕ) → 0 < n → 0 < m → 0 < w + z → 0 < w * n + z * m
some_weight w z n m hn hm h =
    by_lt_z (pos 0) (pos w)
    (λ l. first w z n m (mul_positive (pos w) (pos n) l (omega (arith, ints))))
    (λ l. second w z n m (mul_positive (pos z) (pos m) (omega (arith, ints)) (omega (arith, ints))))
  where
    first : (w z n m : ℕ) → pos 0 <ℤ (pos w *ℤ pos n) → 0 < w * n + z * m
    first w z n m h = omega (arith, ints)

    second : (w z n m : ℕ) → pos 0 <ℤ (pos z *ℤ pos m) → 0 < w * n + z * m
    second w z n m h = omega (arith, ints)

-- the sum of two differences of which one is positive
sum_positive : (w z : ℕ) (l u x n : ℤ) → pos w ≡ l -ℤ u → pos z ≡ x -ℤ n → (u -ℤ l) <ℤ (x -ℤ n) → 0 < w + z
sum_positive w z l u x n e f h = omega (arith, ints)

-- between two points of a segment, one at least at the level and one at most, there is one at it
pub cut : (axis : Axis) (s : Segment) (level : ℕ) (q r : RationalPoint) → IsOnSegment s q → IsOnSegment s r
    → pos (q.n * level) ≤ℤ numerator axis q → numerator axis r ≤ℤ pos (r.n * level)
    → (numerator axis r -ℤ pos (r.n * level)) <ℤ (numerator axis q -ℤ pos (q.n * level)) → (p : RationalPoint) × IsCut axis s level q r p
cut axis s level q r hq hr high low apart =
    let x = numerator axis q in
    let u = numerator axis r in
    let w = nat_abs (pos (r.n * level) -ℤ u) in
    let z = nat_abs (x -ℤ pos (q.n * level)) in
    let ew : pos w ≡ pos (r.n * level) -ℤ u = pos_abs (pos (r.n * level) -ℤ u) (difference_nonneg u (pos (r.n * level)) low) in
    let ez : pos z ≡ x -ℤ pos (q.n * level) = pos_abs (x -ℤ pos (q.n * level)) (difference_nonneg (pos (q.n * level)) x high) in
    let h = some_weight w z q.n r.n q.positive r.positive (sum_positive w z (pos (r.n * level)) u x (pos (q.n * level)) ew ez apart) in (
      blend w z q r h,
      record {
        on = blend_on s w z q r h hq hr;
        at_level = blended axis w z q r h ∙ levelled (pos w) (pos z) (pos q.n) (pos r.n) x u (pos level) ew ez;
        between = λ along l k hy hz.
            subst (λ t. IsWithin l k (w * q.n + z * r.n) t) (sym (blended along w z q r h))
            (blend_within l k w z q.n r.n (numerator along q) (numerator along r) hy hz);
      },
    )
