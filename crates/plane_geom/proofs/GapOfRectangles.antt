-- Two rectangles: along each axis their ranges are as far apart as their nearest ends.
use Rattle.std.proofs.Common.{◌≡◌, ℕ, ◌*◌, ◌≤◌, min, max, ℤ, pos, ◌+ℤ◌, ◌-ℤ◌, ◌*ℤ◌, ◌≤ℤ◌, [], ◌∷◌, refl, ap₂, sym, ◌∙◌, subst, arith}
use Rattle.std.proofs.lemmas.Int.{ints, by_lt_z}
use Rattle.sand_base.specs.declared.point.Point.{Point}
use Rattle.sand_base.specs.declared.rect.Rect.{Rect}
use Rattle.sand_model.specs.Points.{IsPoint, IsWithin, IsInRect}
use Rattle.sand_model.specs.Gap.{IsLeast, scaled_distance, common_square}
use Rattle.plane_geom.specs.Expr.{var, at, num, ◌⊕◌, ◌⊖◌, ◌⊗◌}
use Rattle.plane_geom.proofs.Ring.{ring}
use Rattle.plane_geom.proofs.Order.{difference_nonneg, mul_nonneg, add_nonneg, both_le}
use Rattle.plane_geom.proofs.Inequality.{le_ring}
use Rattle.plane_geom.proofs.Squares.{square_nonneg, square_le}
use Rattle.plane_geom.specs.Rectangles.{range_gap}
use Rattle.plane_geom.specs.Vectors.{dot_of}
use Rattle.plane_geom.proofs.Least.{least_same}
use Rattle.plane_geom.proofs.GapOfPoints.{spot, spot_is, points_apart, over_one}
use Rattle.plane_geom.proofs.Signs.{natural, same_le}

-- where g is the way from a up to b, what lies at most at a and at least at b is at least g apart, over any denominators
way_up : (g n m x u a b : ℤ) → g ≡ b -ℤ a → pos 0 ≤ℤ g → pos 0 ≤ℤ n → pos 0 ≤ℤ m → x ≤ℤ (n *ℤ a) → (m *ℤ b) ≤ℤ u
    → ((g *ℤ g) *ℤ ((n *ℤ m) *ℤ (n *ℤ m))) ≤ℤ (((x *ℤ m) -ℤ (u *ℤ n)) *ℤ ((x *ℤ m) -ℤ (u *ℤ n)))
way_up g n m x u a b e hg hn hm hx hu =
    let same =
    ring (at (g ∷ n ∷ m ∷ [])) ((var 0 ⊗ (var 1 ⊗ var 2)) ⊗ (var 0 ⊗ (var 1 ⊗ var 2)))
    ((var 0 ⊗ var 0) ⊗ ((var 1 ⊗ var 2) ⊗ (var 1 ⊗ var 2))) refl in
    let back =
    ring (at (x ∷ m ∷ u ∷ n ∷ [])) ((var 2 ⊗ var 3 ⊖ var 0 ⊗ var 1) ⊗ (var 2 ⊗ var 3 ⊖ var 0 ⊗ var 1))
    ((var 0 ⊗ var 1 ⊖ var 2 ⊗ var 3) ⊗ (var 0 ⊗ var 1 ⊖ var 2 ⊗ var 3)) refl in
    subst (λ t. t ≤ℤ (((x *ℤ m) -ℤ (u *ℤ n)) *ℤ ((x *ℤ m) -ℤ (u *ℤ n)))) same
    (subst (λ t. ((g *ℤ (n *ℤ m)) *ℤ (g *ℤ (n *ℤ m))) ≤ℤ t) back
    (square_le (g *ℤ (n *ℤ m)) ((u *ℤ n) -ℤ (x *ℤ m)) (mul_nonneg g (n *ℤ m) hg (mul_nonneg n m hn hm))
    (subst (λ t. (t *ℤ (n *ℤ m)) ≤ℤ ((u *ℤ n) -ℤ (x *ℤ m))) (sym e)
    (le_ring (at (n ∷ m ∷ x ∷ u ∷ a ∷ b ∷ [])) ((var 5 ⊖ var 4) ⊗ (var 0 ⊗ var 1)) (var 3 ⊗ var 0 ⊖ var 2 ⊗ var 1)
    (var 0 ⊗ (var 3 ⊖ var 1 ⊗ var 5) ⊕ var 1 ⊗ (var 0 ⊗ var 4 ⊖ var 2)) refl
    (add_nonneg _ _ (mul_nonneg n _ hn (difference_nonneg _ _ hu)) (mul_nonneg m _ hm (difference_nonneg _ _ hx)))))))

-- the same, with the two exchanged
way_down : (g n m x u a b : ℤ) → g ≡ a -ℤ b → pos 0 ≤ℤ g → pos 0 ≤ℤ n → pos 0 ≤ℤ m → (n *ℤ a) ≤ℤ x → u ≤ℤ (m *ℤ b)
    → ((g *ℤ g) *ℤ ((n *ℤ m) *ℤ (n *ℤ m))) ≤ℤ (((x *ℤ m) -ℤ (u *ℤ n)) *ℤ ((x *ℤ m) -ℤ (u *ℤ n)))
way_down g n m x u a b e hg hn hm hx hu =
    subst (λ t. ((g *ℤ g) *ℤ ((n *ℤ m) *ℤ (n *ℤ m))) ≤ℤ t)
    (ring (at (x ∷ m ∷ u ∷ n ∷ [])) ((var 2 ⊗ var 3 ⊖ var 0 ⊗ var 1) ⊗ (var 2 ⊗ var 3 ⊖ var 0 ⊗ var 1))
    ((var 0 ⊗ var 1 ⊖ var 2 ⊗ var 3) ⊗ (var 0 ⊗ var 1 ⊖ var 2 ⊗ var 3)) refl)
    (subst (λ t. ((g *ℤ g) *ℤ (t *ℤ t)) ≤ℤ (((u *ℤ n) -ℤ (x *ℤ m)) *ℤ ((u *ℤ n) -ℤ (x *ℤ m))))
    (ring (at (m ∷ n ∷ [])) (var 0 ⊗ var 1) (var 1 ⊗ var 0) refl)
    (way_up g m n u x b a e hg hm hn hu hx))

-- no way is at most any
no_way : (g n x : ℤ) → g ≡ pos 0 → ((g *ℤ g) *ℤ n) ≤ℤ (x *ℤ x)
no_way g n x e =
    subst (λ t. ((t *ℤ t) *ℤ n) ≤ℤ (x *ℤ x)) (sym e)
    (le_ring (at (n ∷ x ∷ [])) ((num (pos 0) ⊗ num (pos 0)) ⊗ var 0) (var 1 ⊗ var 1) (var 1 ⊗ var 1) refl (square_nonneg x))

-- along one axis, what lies in two ranges is at least as far apart as the ranges are
range_clear : (a b c d n m : ℕ) (x u : ℤ) → a ≤ b → c ≤ d → IsWithin a b n x → IsWithin c d m u
    → ((pos (range_gap a b c d) *ℤ pos (range_gap a b c d)) *ℤ ((pos n *ℤ pos m) *ℤ (pos n *ℤ pos m)))
    ≤ℤ (((x *ℤ pos m) -ℤ (u *ℤ pos n)) *ℤ ((x *ℤ pos m) -ℤ (u *ℤ pos n)))
range_clear a b c d n m x u h k hx hu =
    by_lt_z (pos b) (pos c)
    (λ l.
    way_up (pos (range_gap a b c d)) (pos n) (pos m) x u (pos b) (pos c) (omega (arith, ints)) (natural _) (natural n) (natural m)
    hx.below hu.above)
    (λ l.
    by_lt_z (pos d) (pos a)
    (λ r.
    way_down (pos (range_gap a b c d)) (pos n) (pos m) x u (pos a) (pos d) (omega (arith, ints)) (natural _) (natural n) (natural m)
    hx.above hu.below)
    (λ r. no_way (pos (range_gap a b c d)) ((pos n *ℤ pos m) *ℤ (pos n *ℤ pos m)) _ (omega (arith, ints))))

-- the nearest coordinate of the first range to the second
abbrev near : ℕ → ℕ → ℕ → ℕ
near a b c = min b (max a c)

-- it lies in its range
near_in : (a b c : ℕ) → a ≤ b → IsWithin a b 1 (pos (near a b c))
near_in a b c h = record { above = low a (near a b c) (omega arith); below = high (near a b c) b (omega arith) }
  where
    low : (p q : ℕ) → p ≤ q → pos (1 * p) ≤ℤ pos q
    low p q h = omega (arith, ints)

    high : (p q : ℕ) → p ≤ q → pos p ≤ℤ pos (1 * q)
    high p q h = omega (arith, ints)

-- the nearest coordinates of two ranges are as far apart as the ranges
near_gap : (a b c d : ℕ) → a ≤ b → c ≤ d
    → (pos (near c d a) -ℤ pos (near a b c)) *ℤ (pos (near c d a) -ℤ pos (near a b c)) ≡ pos (range_gap a b c d) *ℤ pos (range_gap a b c d)
near_gap a b c d h k =
    by_lt_z (pos b) (pos c)
    (λ l.
    let e : pos (near c d a) -ℤ pos (near a b c) ≡ pos (range_gap a b c d) = omega (arith, ints) in
    ap₂ (λ s t. s *ℤ t) e e)
    (λ l.
    let e : pos (near c d a) -ℤ pos (near a b c) ≡ pos 0 -ℤ pos (range_gap a b c d) = omega (arith, ints) in
    ap₂ (λ s t. s *ℤ t) e e ∙ back (pos (range_gap a b c d)))
  where
    back : (g : ℤ) → (pos 0 -ℤ g) *ℤ (pos 0 -ℤ g) ≡ g *ℤ g
    back g = ring (at (g ∷ [])) ((num (pos 0) ⊖ var 0) ⊗ (num (pos 0) ⊖ var 0)) (var 0 ⊗ var 0) refl

-- how far two rectangles are apart in x
abbrev pub across : Rect → Rect → ℕ
across a b = range_gap a.low.x a.high.x b.low.x b.high.x

-- and in y
abbrev pub up : Rect → Rect → ℕ
up a b = range_gap a.low.y a.high.y b.low.y b.high.y

-- two rectangles are as far apart as their ranges along both axes
pub rects_least : (a b : Rect) (m e : ℕ) → a.low.x ≤ a.high.x → a.low.y ≤ a.high.y → b.low.x ≤ b.high.x → b.low.y ≤ b.high.y
    → pos m ≡ (pos (across a b) *ℤ pos (across a b)) +ℤ (pos (up a b) *ℤ pos (up a b)) → e ≡ 1 → IsLeast (IsInRect a) (IsInRect b) m e
rects_least a b m e hax hay hbx hby hm he =
    let p : Point = record { x = near a.low.x a.high.x b.low.x; y = near a.low.y a.high.y b.low.y } in
    let q : Point = record { x = near b.low.x b.high.x a.low.x; y = near b.low.y b.high.y a.low.y } in
    record {
      attained = (
        spot p,
        spot q,
        record { x = near_in a.low.x a.high.x b.low.x hax; y = near_in a.low.y a.high.y b.low.y hay },
        record { x = near_in b.low.x b.high.x a.low.x hbx; y = near_in b.low.y b.high.y a.low.y hby },
        over_one (scaled_distance (spot p) (spot q)) (dot_of p q q) (common_square (spot p) (spot q)) m e
            (points_apart p q (spot p) (spot q) (spot_is p) (spot_is q))
            (hm
            ∙ sym (ap₂ (λ s t. s +ℤ t) (near_gap a.low.x a.high.x b.low.x b.high.x hax hbx) (near_gap a.low.y a.high.y b.low.y b.high.y hay hby)))
            he,
      );
      least = λ q r hq hr.
          plain (pos (across a b) *ℤ pos (across a b)) (pos (up a b) *ℤ pos (up a b)) ((pos q.n *ℤ pos r.n) *ℤ (pos q.n *ℤ pos r.n)) _ _ m e hm he
          (range_clear a.low.x a.high.x b.low.x b.high.x q.n r.n q.x r.x hax hbx hq.x hr.x)
          (range_clear a.low.y a.high.y b.low.y b.high.y q.n r.n q.y r.y hay hby hq.y hr.y);
    }
  where
    total : (g h k x y : ℤ) → (g *ℤ k) ≤ℤ x → (h *ℤ k) ≤ℤ y → ((g +ℤ h) *ℤ k) ≤ℤ ((x +ℤ y) *ℤ pos 1)
    total g h k x y hx hy =
        le_ring (at (g ∷ h ∷ k ∷ x ∷ y ∷ [])) ((var 0 ⊕ var 1) ⊗ var 2) ((var 3 ⊕ var 4) ⊗ num (pos 1))
        ((var 3 ⊖ var 0 ⊗ var 2) ⊕ (var 4 ⊖ var 1 ⊗ var 2)) refl (add_nonneg _ _ (difference_nonneg _ _ hx) (difference_nonneg _ _ hy))

    plain : (g h k x y : ℤ) (m e : ℕ) → pos m ≡ g +ℤ h → e ≡ 1 → (g *ℤ k) ≤ℤ x → (h *ℤ k) ≤ℤ y
        → (pos m *ℤ k) ≤ℤ ((x +ℤ y) *ℤ pos e)
    plain g h k x y m e hm he hx hy =
        subst (λ t. (t *ℤ k) ≤ℤ ((x +ℤ y) *ℤ pos e)) (sym hm)
        (subst (λ (t : ℕ). ((g +ℤ h) *ℤ k) ≤ℤ ((x +ℤ y) *ℤ pos t)) (sym he) (total g h k x y hx hy))

-- a point is the rectangle with it as both corners
pub point_rect_least : (p : Point) (r : Rect) (m e : ℕ) → IsLeast (IsInRect (record { low = p; high = p })) (IsInRect r) m e
    → IsLeast (IsPoint p) (IsInRect r) m e
point_rect_least p r m e h =
    least_same m e
    (λ q hq. record { x = both_le _ _ hq.x.below hq.x.above; y = both_le _ _ hq.y.below hq.y.above })
    (λ q hq. record { x = equal p.x q.n q.x hq.x; y = equal p.y q.n q.y hq.y }) h
  where
    equal : (a n : ℕ) (x : ℤ) → x ≡ pos (n * a) → IsWithin a a n x
    equal a n x e = record { above = same_le _ _ (sym e); below = same_le _ _ e }
