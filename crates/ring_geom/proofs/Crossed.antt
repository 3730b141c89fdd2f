-- An edge with one end above a level has a point at the level, and that point says for each column whether the edge is crossed.
use Rattle.std.proofs.Common.{◌≡◌, inl, inr, ℕ, ◌*◌, ◌<◌, ◌≤◌, ℤ, pos, ◌-ℤ◌, ◌*ℤ◌, ◌≤ℤ◌, ◌<ℤ◌, Bool, true, false, not, ◌&&◌, ◌||◌, [], ◌∷◌, refl, ap₂, sym, ◌∙◌, subst, arith}
use Rattle.std.specs.Prelude.{nat_lt, int_lt}
use Rattle.std.proofs.lemmas.Bool.{cases_Bool, ltb-true, ltb-false, false≢true}
use Rattle.std.proofs.lemmas.Int.{ints, by_lt_z}
use Rattle.sand_base.specs.declared.point.Point.{Point}
use Rattle.sand_base.specs.declared.segment.Segment.{Segment}
use Rattle.sand_model.specs.Points.{RationalPoint, IsOnSegment}
use Rattle.sand_model.specs.Rings.{grid, is_crossed, differ}
use Rattle.plane_geom.specs.Expr.{var, num, at, ◌⊖◌, ◌⊗◌}
use Rattle.plane_geom.proofs.Ring.{ring_using_two}
use Rattle.plane_geom.proofs.Order.{mul_lt, lt_from_mul, difference_positive}
use Rattle.plane_geom.proofs.Axis.{vertical}
use Rattle.plane_geom.proofs.Blend.{cut}
use Rattle.plane_geom.proofs.Means.{mean_on, first_end, second_end}
use Rattle.plane_geom.proofs.GapOfPoints.{spot_is}
use Rattle.plane_geom.proofs.Signs.{weak, above_zero}

-- a point of the segment at the level, which lies to the right of each column from which the segment is crossed there
pub record Crosses (s : Segment) (y : ℕ) : Type 0 where
  pub q : RationalPoint
  pub on : IsOnSegment s q
  pub level : q.y ≡ pos (q.n * y)
  pub side : (x : ℕ) → is_crossed (record { x = x; y = y }) s ≡ int_lt (pos (q.n * x)) q.x

-- tests of two orders are one where the orders are
pub same_test : (p q r s : ℤ) → (p <ℤ q → r <ℤ s) → (r <ℤ s → p <ℤ q) → int_lt p q ≡ int_lt r s
same_test p q r s f g =
    by_lt_z p q (λ h. yes p q h ∙ sym (yes r s (f h)))
    (λ h. no p q h ∙ sym (by_lt_z r s (λ k. absurd (against p q (g k) h)) (λ k. no r s k)))
  where
    yes : (p q : ℤ) → p <ℤ q → int_lt p q ≡ true
    yes p q h = grind (arith, ints)

    no : (p q : ℤ) → q ≤ℤ p → int_lt p q ≡ false
    no p q h = grind (arith, ints)

    against : (p q : ℤ) → p <ℤ q → q ≤ℤ p → ⊥
    against p q h k = omega (arith, ints)

-- a difference with a positive factor has the sign of another with a positive factor
same_side : (l r u v dy n : ℤ) → pos 0 <ℤ dy → pos 0 <ℤ n → (v -ℤ u) *ℤ dy ≡ (r -ℤ l) *ℤ n → int_lt l r ≡ int_lt u v
same_side l r u v dy n hd hn e =
    same_test l r u v
    (λ h. from_sign v u (positive (v -ℤ u) dy hd (subst (λ t. pos 0 <ℤ t) (sym e) (times (r -ℤ l) n hn (difference_positive l r h)))))
    (λ h. from_sign r l (positive (r -ℤ l) n hn (subst (λ t. pos 0 <ℤ t) e (times (v -ℤ u) dy hd (difference_positive u v h)))))
  where
    from_sign : (a b : ℤ) → pos 0 <ℤ (a -ℤ b) → b <ℤ a
    from_sign a b h = omega (arith, ints)

    times : (a c : ℤ) → pos 0 <ℤ c → pos 0 <ℤ a → pos 0 <ℤ (a *ℤ c)
    times a c hc ha = from_zero (pos 0 *ℤ c) (a *ℤ c) (zero_times c) (mul_lt (pos 0) a c hc ha)
      where
        zero_times : (c : ℤ) → pos 0 *ℤ c ≡ pos 0
        zero_times c = omega (arith, ints)

        from_zero : (p q : ℤ) → p ≡ pos 0 → p <ℤ q → pos 0 <ℤ q
        from_zero p q e h = omega (arith, ints)

    positive : (a c : ℤ) → pos 0 <ℤ c → pos 0 <ℤ (a *ℤ c) → pos 0 <ℤ a
    positive a c hc h = lt_from_mul (pos 0) a c (weak _ _ hc) (to_zero (pos 0 *ℤ c) (a *ℤ c) (zero_times c) h)
      where
        zero_times : (c : ℤ) → pos 0 *ℤ c ≡ pos 0
        zero_times c = omega (arith, ints)

        to_zero : (p q : ℤ) → p ≡ pos 0 → pos 0 <ℤ q → p <ℤ q
        to_zero p q e h = omega (arith, ints)

-- on the line from a to b, (u - n x) times its height is n times the difference of the two products of `rises_over`
rising : (ax ay bx by x y u w n : ℤ) → ((bx -ℤ ax) *ℤ (w -ℤ (n *ℤ ay))) -ℤ ((by -ℤ ay) *ℤ (u -ℤ (n *ℤ ax))) ≡ pos 0 → w ≡ n *ℤ y
    → (u -ℤ (n *ℤ x)) *ℤ (by -ℤ ay) ≡ (((y -ℤ ay) *ℤ (bx -ℤ ax)) -ℤ ((x -ℤ ax) *ℤ (by -ℤ ay))) *ℤ n
rising ax ay bx by x y u w n h k =
    let dx = var 2 ⊖ var 0 in
    let dy = var 3 ⊖ var 1 in
    ring_using_two (at (ax ∷ ay ∷ bx ∷ by ∷ x ∷ y ∷ u ∷ w ∷ n ∷ [])) ((var 6 ⊖ var 8 ⊗ var 4) ⊗ dy)
    (((var 5 ⊖ var 1) ⊗ dx ⊖ (var 4 ⊖ var 0) ⊗ dy) ⊗ var 8)
    (num (pos 0) ⊖ num (pos 1)) (dx ⊗ (var 7 ⊖ var 8 ⊗ var 1) ⊖ dy ⊗ (var 6 ⊖ var 8 ⊗ var 0)) (num (pos 0))
    dx (var 7) (var 8 ⊗ var 5) h k refl

-- the same, told from the other end
falling : (ax ay bx by x y u w n : ℤ) → ((bx -ℤ ax) *ℤ (w -ℤ (n *ℤ ay))) -ℤ ((by -ℤ ay) *ℤ (u -ℤ (n *ℤ ax))) ≡ pos 0 → w ≡ n *ℤ y
    → (u -ℤ (n *ℤ x)) *ℤ (ay -ℤ by) ≡ (((y -ℤ by) *ℤ (ax -ℤ bx)) -ℤ ((x -ℤ bx) *ℤ (ay -ℤ by))) *ℤ n
falling ax ay bx by x y u w n h k =
    let dx = var 2 ⊖ var 0 in
    let dy = var 3 ⊖ var 1 in
    ring_using_two (at (ax ∷ ay ∷ bx ∷ by ∷ x ∷ y ∷ u ∷ w ∷ n ∷ [])) ((var 6 ⊖ var 8 ⊗ var 4) ⊗ (var 1 ⊖ var 3))
    (((var 5 ⊖ var 3) ⊗ (var 0 ⊖ var 2) ⊖ (var 4 ⊖ var 2) ⊗ (var 1 ⊖ var 3)) ⊗ var 8)
    (num (pos 1)) (dx ⊗ (var 7 ⊖ var 8 ⊗ var 1) ⊖ dy ⊗ (var 6 ⊖ var 8 ⊗ var 0)) (num (pos 0))
    (num (pos 0) ⊖ dx) (var 7) (var 8 ⊗ var 5) h k refl

-- of an edge that rises over the level, the first order decides
up_tests : (a b c d : Bool) → a ≡ false → b ≡ true → ((not a && (b && c)) || (not b && (a && d))) ≡ c
up_tests a b c d e f =
    ap₂ (λ s t. (not s && (t && c)) || (not t && (s && d))) e f ∙ plain c
  where
    plain : (c : Bool) → ((not false && (true && c)) || (not true && (false && d))) ≡ c
    plain false = refl
    plain true = refl

-- and of one that falls, the second
down_tests : (a b c d : Bool) → a ≡ true → b ≡ false → ((not a && (b && c)) || (not b && (a && d))) ≡ d
down_tests a b c d e f = ap₂ (λ s t. (not s && (t && c)) || (not t && (s && d))) e f

-- an edge with both ends on one side of the level isn't crossed
flat_tests : (a b c d : Bool) → differ a b ≡ false → ((not a && (b && c)) || (not b && (a && d))) ≡ false
flat_tests false false c d h = refl
flat_tests false true c d h = absurd (false≢true (sym h))
flat_tests true false c d h = absurd (false≢true (sym h))
flat_tests true true c d h = refl

-- an edge with both ends above the ray, or neither, isn't crossed
pub uncrossed : (s : Segment) (v : Point) → differ (nat_lt v.y s.a.y) (nat_lt v.y s.b.y) ≡ false → is_crossed v s ≡ false
uncrossed s v h = flat_tests (nat_lt v.y s.a.y) (nat_lt v.y s.b.y) _ _ h

-- the ends of a segment as rational points of it
pub first_on : (s : Segment) → IsOnSegment s (grid s.a)
first_on s = mean_on s (grid s.a) (first_end s.a s.b (grid s.a) (spot_is s.a))

-- and the other one
pub second_on : (s : Segment) → IsOnSegment s (grid s.b)
second_on s = mean_on s (grid s.b) (second_end s.a s.b (grid s.b) (spot_is s.b))

-- what is above a level stands above it as an integer, and what isn't, not
above_level : (y h : ℕ) → y < h → pos (1 * y) <ℤ pos h
above_level y h l = omega (arith, ints)

below_level : (y h : ℕ) → h ≤ y → pos h ≤ℤ pos (1 * y)
below_level y h l = omega (arith, ints)

-- one is above, the other is not
spread : (p q y z : ℤ) → z <ℤ q → p ≤ℤ y → (p -ℤ y) <ℤ (q -ℤ z)
spread p q y z h k = omega (arith, ints)

-- a positive height
height : (y a b : ℕ) → a ≤ y → y < b → pos 0 <ℤ (pos b -ℤ pos a)
height y a b h k = omega (arith, ints)

-- the two products that `rises_over` compares
abbrev run : Point → ℕ → ℕ → Point → ℤ
run a x y b = (pos x -ℤ pos a.x) *ℤ (pos b.y -ℤ pos a.y)

abbrev rise : Point → ℕ → ℕ → Point → ℤ
rise a x y b = (pos y -ℤ pos a.y) *ℤ (pos b.x -ℤ pos a.x)

-- their order
abbrev is_right : Point → ℕ → ℕ → Point → Bool
is_right a x y b = int_lt (run a x y b) (rise a x y b)

-- an edge from below the level to above it
rising_crosses : (s : Segment) (y : ℕ) → nat_lt y s.a.y ≡ false → nat_lt y s.b.y ≡ true → Crosses s y
rising_crosses s y e f =
    let low = ltb-false y s.a.y e in
    let high = ltb-true y s.b.y f in
    let c = cut vertical s y (grid s.b) (grid s.a) (second_on s) (first_on s) (weak _ _ (above_level y s.b.y high)) (below_level y s.a.y low)
    (spread _ _ _ _ (above_level y s.b.y high) (below_level y s.a.y low)) in
    record {
      q = c.0;
      on = c.1.on;
      level = c.1.at_level;
      side = λ x.
          up_tests (nat_lt y s.a.y) (nat_lt y s.b.y) (is_right s.a x y s.b) (is_right s.b x y s.a) e f
          ∙ same_side (run s.a x y s.b) (rise s.a x y s.b) (pos (c.0.n * x)) c.0.x (pos s.b.y -ℤ pos s.a.y) (pos c.0.n) (height y s.a.y s.b.y low high)
          (above_zero c.0.n c.0.positive)
          (rising (pos s.a.x) (pos s.a.y) (pos s.b.x) (pos s.b.y) (pos x) (pos y) c.0.x c.0.y (pos c.0.n) c.1.on.line c.1.at_level);
    }

-- an edge from above the level to below it
falling_crosses : (s : Segment) (y : ℕ) → nat_lt y s.a.y ≡ true → nat_lt y s.b.y ≡ false → Crosses s y
falling_crosses s y e f =
    let high = ltb-true y s.a.y e in
    let low = ltb-false y s.b.y f in
    let c = cut vertical s y (grid s.a) (grid s.b) (first_on s) (second_on s) (weak _ _ (above_level y s.a.y high)) (below_level y s.b.y low)
    (spread _ _ _ _ (above_level y s.a.y high) (below_level y s.b.y low)) in
    record {
      q = c.0;
      on = c.1.on;
      level = c.1.at_level;
      side = λ x.
          down_tests (nat_lt y s.a.y) (nat_lt y s.b.y) (is_right s.a x y s.b) (is_right s.b x y s.a) e f
          ∙ same_side (run s.b x y s.a) (rise s.b x y s.a) (pos (c.0.n * x)) c.0.x (pos s.a.y -ℤ pos s.b.y) (pos c.0.n) (height y s.b.y s.a.y low high)
          (above_zero c.0.n c.0.positive)
          (falling (pos s.a.x) (pos s.a.y) (pos s.b.x) (pos s.b.y) (pos x) (pos y) c.0.x c.0.y (pos c.0.n) c.1.on.line c.1.at_level);
    }

-- an edge with just one end above the level has such a point
pub crossing : (s : Segment) (y : ℕ) → differ (nat_lt y s.a.y) (nat_lt y s.b.y) ≡ true → Crosses s y
crossing s y h =
    elim (cases_Bool (nat_lt y s.a.y)) [
      | inl a ↦ elim (cases_Bool (nat_lt y s.b.y)) [
        | inl b ↦ absurd (false≢true (sym (ap₂ differ a b) ∙ h))
        | inr b ↦ falling_crosses s y a b
      ]
      | inr a ↦ elim (cases_Bool (nat_lt y s.b.y)) [
        | inl b ↦ rising_crosses s y a b
        | inr b ↦ absurd (false≢true (sym (ap₂ differ a b) ∙ h))
      ]
    ]
