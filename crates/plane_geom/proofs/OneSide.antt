-- Two segments of which one lies on one side of the other's line are nearest at an end of one of them.
use Rattle.std.proofs.Common.{◌≡◌, ℤ, pos, ◌+ℤ◌, ◌-ℤ◌, ◌*ℤ◌, ◌≤ℤ◌, ◌<ℤ◌, [], ◌∷◌, refl, ap, ◌∙◌, arith}
use Rattle.std.proofs.lemmas.Int.{ints, by_lt_z}
use Rattle.sand_base.specs.declared.point.Point.{Point}
use Rattle.plane_geom.specs.Expr.{var, at, num, ◌⊕◌, ◌⊖◌, ◌⊗◌}
use Rattle.plane_geom.proofs.Named.{identity}
use Rattle.plane_geom.proofs.Ring.{ring, ring_using_two}
use Rattle.plane_geom.proofs.Order.{difference_nonneg, mul_nonneg, mul_positive, chain_le, both_le, apart}
use Rattle.plane_geom.proofs.Inequality.{le_ring}
use Rattle.plane_geom.proofs.Squares.{square_nonneg, squares_zero}
use Rattle.plane_geom.specs.Vectors.{cross_of}
use Rattle.plane_geom.proofs.Forms as form
use Rattle.plane_geom.proofs.Clear.{AreClear, offset, as_long, turn_first, turn_second, exchange}
use Rattle.plane_geom.proofs.Descent.{OnLine, long, drawn_together}
use Rattle.plane_geom.proofs.Signs.{weak, sum_zero, no_step}

-- no end of either segment is nearer to the other segment than the root of m / e
pub record EndsClear (m e : ℤ) (a b c d : Point) : Type 0 where
  pub first : AreClear m e a a c d
  pub second : AreClear m e b b c d
  pub third : AreClear m e a b c c
  pub fourth : AreClear m e a b d d

-- the same, with the first segment turned round
turned_ends : (m e : ℤ) (a b c d : Point) → EndsClear m e a b c d → EndsClear m e b a c d
turned_ends m e a b c d h = record {
  first = h.second;
  second = h.first;
  third = turn_first m e a b c c h.third;
  fourth = turn_first m e a b d d h.fourth;
}

-- the same, with the second segment turned round
other_ends : (m e : ℤ) (a b c d : Point) → EndsClear m e a b c d → EndsClear m e a b d c
other_ends m e a b c d h = record {
  first = turn_second m e a a c d h.first;
  second = turn_second m e b b c d h.second;
  third = h.fourth;
  fourth = h.third;
}

-- the same, with the two segments exchanged
pub exchanged_ends : (m e : ℤ) (a b c d : Point) → EndsClear m e a b c d → EndsClear m e c d a b
exchanged_ends m e a b c d h = record {
  first = exchange m e a b c c h.third;
  second = exchange m e a b d d h.fourth;
  third = exchange m e a a c d h.first;
  fourth = exchange m e b b c d h.second;
}

-- across the first segment, the difference of two means is the mean of the second segment's heights
tilt : (ax ay bx by cx cy dx dy i j u v : ℤ)
    → ((bx -ℤ ax) *ℤ offset ay by cy dy i j u v) -ℤ ((by -ℤ ay) *ℤ offset ax bx cx dx i j u v)
    ≡ pos 0 -ℤ ((i +ℤ j)
    *ℤ ((u *ℤ (((bx -ℤ ax) *ℤ (cy -ℤ ay)) -ℤ ((by -ℤ ay) *ℤ (cx -ℤ ax))))
    +ℤ (v *ℤ (((bx -ℤ ax) *ℤ (dy -ℤ ay)) -ℤ ((by -ℤ ay) *ℤ (dx -ℤ ax))))))
tilt ax ay bx by cx cy dx dy i j u v =
    identity (ax ∷ ay ∷ bx ∷ by ∷ cx ∷ cy ∷ dx ∷ dy ∷ i ∷ j ∷ u ∷ v ∷ [])
    (λ ax ay bx by cx cy dx dy i j u v. (
      (bx ⊖ ax) ⊗ form.offset ay by cy dy i j u v ⊖ (by ⊖ ay) ⊗ form.offset ax bx cx dx i j u v,
      num (pos 0) ⊖ (i ⊕ j) ⊗ (u ⊗ form.cross ax ay bx by cx cy ⊕ v ⊗ form.cross ax ay bx by dx dy),
    )) refl

-- the drawn point's height is the drawn sum of two heights
level : (x y k al cx cy gx gy : ℤ)
    → (x *ℤ ((k *ℤ cy) +ℤ (al *ℤ gy))) -ℤ (y *ℤ ((k *ℤ cx) +ℤ (al *ℤ gx)))
    ≡ (k *ℤ ((x *ℤ cy) -ℤ (y *ℤ cx))) +ℤ (al *ℤ ((x *ℤ gy) -ℤ (y *ℤ gx)))
level x y k al cx cy gx gy =
    ring (at (x ∷ y ∷ k ∷ al ∷ cx ∷ cy ∷ gx ∷ gy ∷ []))
    (var 0 ⊗ (var 2 ⊗ var 5 ⊕ var 3 ⊗ var 7) ⊖ var 1 ⊗ (var 2 ⊗ var 4 ⊕ var 3 ⊗ var 6))
    (var 2 ⊗ (var 0 ⊗ var 5 ⊖ var 1 ⊗ var 4) ⊕ var 3 ⊗ (var 0 ⊗ var 7 ⊖ var 1 ⊗ var 6)) refl

-- the mean of the second segment's heights, times the sum of weights
abbrev height : Point → Point → Point → Point → ℤ → ℤ → ℤ
height a b c d u v = (u *ℤ cross_of a b c) +ℤ (v *ℤ cross_of a b d)

-- the drawn point lies on the line where its height is none
on_line : (a b c d : Point) (i j u v al be : ℤ)
    → ((be *ℤ ((i +ℤ j) *ℤ (u +ℤ v))) *ℤ cross_of a b c) +ℤ (al *ℤ (pos 0 -ℤ ((i +ℤ j) *ℤ height a b c d u v))) ≡ pos 0
    → OnLine a b c d i j u v al be
on_line a b c d i j u v al be h =
    level (pos b.x -ℤ pos a.x) (pos b.y -ℤ pos a.y) (be *ℤ ((i +ℤ j) *ℤ (u +ℤ v))) al (pos c.x -ℤ pos a.x) (pos c.y -ℤ pos a.y)
    (offset (pos a.x) (pos b.x) (pos c.x) (pos d.x) i j u v) (offset (pos a.y) (pos b.y) (pos c.y) (pos d.y) i j u v)
    ∙ ap (λ t. ((be *ℤ ((i +ℤ j) *ℤ (u +ℤ v))) *ℤ cross_of a b c) +ℤ (al *ℤ t))
    (tilt (pos a.x) (pos a.y) (pos b.x) (pos b.y) (pos c.x) (pos c.y) (pos d.x) (pos d.y) i j u v)
    ∙ h

-- the height of c is drawn to none by its own share of the mean height
drawn_down : (s t m hc : ℤ) → ((m *ℤ (s *ℤ t)) *ℤ hc) +ℤ ((t *ℤ hc) *ℤ (pos 0 -ℤ (s *ℤ m))) ≡ pos 0
drawn_down s t m hc =
    ring (at (s ∷ t ∷ m ∷ hc ∷ []))
    ((var 2 ⊗ (var 0 ⊗ var 1)) ⊗ var 3 ⊕ (var 1 ⊗ var 3) ⊗ (num (pos 0) ⊖ var 0 ⊗ var 2)) (num (pos 0)) refl

-- where c and the mean lie on the line, nothing need be drawn
both_down : (n s m hc : ℤ) → hc ≡ pos 0 → m ≡ pos 0 → ((pos 1 *ℤ n) *ℤ hc) +ℤ (pos 1 *ℤ (pos 0 -ℤ (s *ℤ m))) ≡ pos 0
both_down n s m hc h k =
    ring_using_two (at (n ∷ s ∷ m ∷ hc ∷ []))
    ((num (pos 1) ⊗ var 0) ⊗ var 3 ⊕ num (pos 1) ⊗ (num (pos 0) ⊖ var 1 ⊗ var 2)) (num (pos 0))
    (var 0) (var 3) (num (pos 0)) (num (pos 0) ⊖ var 1) (var 2) (num (pos 0)) h k refl

-- the lower height's share is at most the mean
lower_share : (u v hc hd : ℤ) → pos 0 ≤ℤ v → hc ≤ℤ hd → ((u +ℤ v) *ℤ hc) ≤ℤ ((u *ℤ hc) +ℤ (v *ℤ hd))
lower_share u v hc hd hv h =
    le_ring (at (u ∷ v ∷ hc ∷ hd ∷ [])) ((var 0 ⊕ var 1) ⊗ var 2) (var 0 ⊗ var 2 ⊕ var 1 ⊗ var 3) (var 1 ⊗ (var 3 ⊖ var 2)) refl
    (mul_nonneg v (hd -ℤ hc) hv (difference_nonneg hc hd h))

-- a factor of a product that isn't positive is 0, where it isn't negative and the other is positive
no_share : (t h : ℤ) → pos 0 <ℤ t → pos 0 ≤ℤ h → (t *ℤ h) ≤ℤ pos 0 → h ≡ pos 0
no_share t h ht hh k = by_lt_z (pos 0) h (λ p. apart (pos 0) (t *ℤ h) (mul_positive t h ht p) k) (λ p. both_le h (pos 0) p hh)

-- a pair of means, where the first segment has a length and c is the lower end of the second
lower_pair : (m e : ℤ) (a b c d : Point) → pos 0 ≤ℤ e → EndsClear m e a b c d → pos 0 <ℤ long a b → pos 0 ≤ℤ cross_of a b c
    → cross_of a b c ≤ℤ cross_of a b d → AreClear m e a b c d
lower_pair m e a b c d he h hl hc hd i j u v wi wu =
    let share = lower_share u v (cross_of a b c) (cross_of a b d) wu.second hd in
    by_lt_z (pos 0) (height a b c d u v)
    (λ up.
    drawn_together m e a b c d i j u v ((u +ℤ v) *ℤ cross_of a b c) (height a b c d u v) he h.first h.second h.third
    (record { first = wi; second = wu; some = mul_nonneg (u +ℤ v) (cross_of a b c) (weak (pos 0) (u +ℤ v) wu.some) hc; most = share; whole = up })
    hl (on_line a b c d i j u v ((u +ℤ v) *ℤ cross_of a b c) (height a b c d u v)
    (drawn_down (i +ℤ j) (u +ℤ v) (height a b c d u v) (cross_of a b c))))
    (λ down.
    let low : cross_of a b c ≡ pos 0 = no_share (u +ℤ v) (cross_of a b c) wu.some hc (chain_le _ _ _ share down) in
    drawn_together m e a b c d i j u v (pos 1) (pos 1) he h.first h.second h.third
    (record { first = wi; second = wu; some = omega (arith, ints); most = omega (arith, ints); whole = omega (arith, ints) })
    hl (on_line a b c d i j u v (pos 1) (pos 1)
    (both_down ((i +ℤ j) *ℤ (u +ℤ v)) (i +ℤ j) (height a b c d u v) (cross_of a b c) low
    (both_le _ _ down (chain_le _ _ _ (mul_nonneg (u +ℤ v) (cross_of a b c) (weak (pos 0) (u +ℤ v) wu.some) hc) share)))))

-- a pair of means, where the first segment is one point
flat_pair : (m e : ℤ) (a b c d : Point) → AreClear m e a a c d → long a b ≤ℤ pos 0 → AreClear m e a b c d
flat_pair m e a b c d h hl i j u v wi wu =
    let flat = squares_zero (pos b.x -ℤ pos a.x) (pos b.y -ℤ pos a.y)
    (sum_zero _ _ (square_nonneg (pos b.x -ℤ pos a.x)) (square_nonneg (pos b.y -ℤ pos a.y)) hl) in
    as_long m e _ _ _ _ _ _ (h i j u v wi wu)
    (ap (λ t. offset (pos a.x) t (pos c.x) (pos d.x) i j u v) (no_step (pos a.x) (pos b.x) flat.0))
    (ap (λ t. offset (pos a.y) t (pos c.y) (pos d.y) i j u v) (no_step (pos a.y) (pos b.y) flat.1)) refl

-- where c is the lower end of a segment that lies to the left of the first
lower_clear : (m e : ℤ) (a b c d : Point) → pos 0 ≤ℤ e → EndsClear m e a b c d → pos 0 ≤ℤ cross_of a b c
    → cross_of a b c ≤ℤ cross_of a b d → AreClear m e a b c d
lower_clear m e a b c d he h hc hd =
    by_lt_z (pos 0) (long a b) (λ l. lower_pair m e a b c d he h l hc hd) (λ l. flat_pair m e a b c d h.first l)

-- where the second segment lies to the left of the first
pub left_clear : (m e : ℤ) (a b c d : Point) → pos 0 ≤ℤ e → EndsClear m e a b c d → pos 0 ≤ℤ cross_of a b c → pos 0 ≤ℤ cross_of a b d
    → AreClear m e a b c d
left_clear m e a b c d he h hc hd =
    by_lt_z (cross_of a b d) (cross_of a b c)
    (λ l. turn_second m e a b d c (lower_clear m e a b d c he (other_ends m e a b c d h) hd (weak _ _ l)))
    (λ l. lower_clear m e a b c d he h hc l)

-- seen from the other end, heights change their sign
cross_turned : (a b p : Point) → cross_of b a p ≡ pos 0 -ℤ cross_of a b p
cross_turned a b p = plain (pos a.x) (pos a.y) (pos b.x) (pos b.y) (pos p.x) (pos p.y)
  where
    plain : (ax ay bx by px py : ℤ)
        → ((ax -ℤ bx) *ℤ (py -ℤ by)) -ℤ ((ay -ℤ by) *ℤ (px -ℤ bx))
        ≡ pos 0 -ℤ (((bx -ℤ ax) *ℤ (py -ℤ ay)) -ℤ ((by -ℤ ay) *ℤ (px -ℤ ax)))
    plain ax ay bx by px py =
        ring (at (ax ∷ ay ∷ bx ∷ by ∷ px ∷ py ∷ []))
        ((var 0 ⊖ var 2) ⊗ (var 5 ⊖ var 3) ⊖ (var 1 ⊖ var 3) ⊗ (var 4 ⊖ var 2))
        (num (pos 0) ⊖ ((var 2 ⊖ var 0) ⊗ (var 5 ⊖ var 1) ⊖ (var 3 ⊖ var 1) ⊗ (var 4 ⊖ var 0))) refl

-- where the second segment lies to the right of the first
pub right_clear : (m e : ℤ) (a b c d : Point) → pos 0 ≤ℤ e → EndsClear m e a b c d → cross_of a b c ≤ℤ pos 0 → cross_of a b d ≤ℤ pos 0
    → AreClear m e a b c d
right_clear m e a b c d he h hc hd =
    turn_first m e b a c d
    (left_clear m e b a c d he (turned_ends m e a b c d h) (turned _ _ (cross_turned a b c) hc) (turned _ _ (cross_turned a b d) hd))
  where
    turned : (s t : ℤ) → s ≡ pos 0 -ℤ t → t ≤ℤ pos 0 → pos 0 ≤ℤ s
    turned s t e h = omega (arith, ints)
