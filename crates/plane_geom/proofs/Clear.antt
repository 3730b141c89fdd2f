-- No pair of weighted means of two pairs of points is nearer than a fraction: the one notion of the geometry's proofs.
use Rattle.std.proofs.Common.{◌≡◌, ℤ, pos, ◌+ℤ◌, ◌-ℤ◌, ◌*ℤ◌, neg_ℤ, ◌≤ℤ◌, ◌<ℤ◌, [], ◌∷◌, refl, subst, arith}
use Rattle.std.proofs.lemmas.Int.{ints}
use Rattle.sand_base.specs.declared.point.Point.{Point}
use Rattle.plane_geom.specs.Expr.{var, at, num, neg, ◌⊕◌, ◌⊖◌, ◌⊗◌}
use Rattle.plane_geom.proofs.Ring.{ring}
use Rattle.plane_geom.proofs.Order.{difference_nonneg, mul_nonneg, mul_positive, mul_le, add_nonneg, chain_le}
use Rattle.plane_geom.proofs.Named.{inequality, inequality_scaled}
use Rattle.plane_geom.proofs.Squares.{square_nonneg}
use Rattle.plane_geom.proofs.Forms as form
use Rattle.plane_geom.proofs.Signs.{weak}

-- the vector (x, y), over the denominator k, is at least as long as the root of m / e
abbrev pub IsClear : ℤ → ℤ → ℤ → ℤ → ℤ → Type 0
IsClear m e x y k = (m *ℤ (k *ℤ k)) ≤ℤ (((x *ℤ x) +ℤ (y *ℤ y)) *ℤ e)

-- an equal vector over an equal denominator is as long
pub as_long : (m e x y k x' y' k' : ℤ) → IsClear m e x y k → x ≡ x' → y ≡ y' → k ≡ k' → IsClear m e x' y' k'
as_long m e x y k x' y' k' h p q r =
    subst (λ t. IsClear m e x' y' t) r (subst (λ t. IsClear m e x' t k) q (subst (λ t. IsClear m e t y k) p h))

-- so is the opposite vector
pub opposite : (m e x y k : ℤ) → IsClear m e (neg_ℤ x) (neg_ℤ y) k → IsClear m e x y k
opposite m e x y k h =
    subst (λ t. (m *ℤ (k *ℤ k)) ≤ℤ (t *ℤ e))
    (ring (at (x ∷ y ∷ [])) (neg (var 0) ⊗ neg (var 0) ⊕ neg (var 1) ⊗ neg (var 1)) (var 0 ⊗ var 0 ⊕ var 1 ⊗ var 1) refl) h

-- a vector that a factor of at most 1, which is t / s, brings to such a length was itself as long
pub shrunk : (m e x y k t s : ℤ) → pos 0 ≤ℤ e → pos 0 ≤ℤ t → t ≤ℤ s → pos 0 <ℤ s
    → IsClear m e (t *ℤ x) (t *ℤ y) (s *ℤ k) → IsClear m e x y k
shrunk m e x y k t s he ht hts hs h =
    inequality_scaled (m ∷ e ∷ x ∷ y ∷ k ∷ t ∷ s ∷ [])
    (λ m e x y k t s.
    let long = form.squares x y ⊗ e in (
      m ⊗ (k ⊗ k),
      long,
      s ⊗ s,
      (form.squares (t ⊗ x) (t ⊗ y) ⊗ e ⊖ m ⊗ ((s ⊗ k) ⊗ (s ⊗ k))) ⊕ ((s ⊖ t) ⊗ (s ⊕ t)) ⊗ long,
    )) refl
    (mul_positive s s hs hs)
    (add_nonneg _ _ (difference_nonneg _ _ h)
    (mul_nonneg _ _ (mul_nonneg _ _ (difference_nonneg t s hts) (both t s ht hs))
    (mul_nonneg _ _ (add_nonneg _ _ (square_nonneg x) (square_nonneg y)) he)))
  where
    both : (t s : ℤ) → pos 0 ≤ℤ t → pos 0 <ℤ s → pos 0 ≤ℤ (s +ℤ t)
    both t s ht hs = omega (arith, ints)

-- a common positive factor changes nothing
pub unscaled : (m e x y k s : ℤ) → pos 0 ≤ℤ e → pos 0 <ℤ s → IsClear m e (s *ℤ x) (s *ℤ y) (s *ℤ k) → IsClear m e x y k
unscaled m e x y k s he hs h = shrunk m e x y k s s he (weak (pos 0) s hs) (same s) hs h
  where
    same : (s : ℤ) → s ≤ℤ s
    same s = omega (arith, ints)

-- a common factor keeps a vector long enough
pub raised : (m e x y k r : ℤ) → IsClear m e x y k → IsClear m e (r *ℤ x) (r *ℤ y) (r *ℤ k)
raised m e x y k r h =
    inequality (m ∷ e ∷ x ∷ y ∷ k ∷ r ∷ [])
    (λ m e x y k r. (
      m ⊗ ((r ⊗ k) ⊗ (r ⊗ k)),
      form.squares (r ⊗ x) (r ⊗ y) ⊗ e,
      (r ⊗ r) ⊗ (form.squares x y ⊗ e ⊖ m ⊗ (k ⊗ k)),
    )) refl
    (mul_nonneg _ _ (square_nonneg r) (difference_nonneg _ _ h))

-- what is at least as long as a vector that is long enough is long enough
pub farther : (m e x y x' y' k : ℤ) → pos 0 ≤ℤ e → IsClear m e x y (pos 1)
    → (((x *ℤ x) +ℤ (y *ℤ y)) *ℤ (k *ℤ k)) ≤ℤ ((x' *ℤ x') +ℤ (y' *ℤ y')) → IsClear m e x' y' k
farther m e x y x' y' k he h scaled_distance =
    chain_le _ _ _
    (inequality (m ∷ e ∷ k ∷ ((x *ℤ x) +ℤ (y *ℤ y)) ∷ [])
    (λ m e k l. (m ⊗ (k ⊗ k), (l ⊗ (k ⊗ k)) ⊗ e, (k ⊗ k) ⊗ (l ⊗ e ⊖ m ⊗ (num (pos 1) ⊗ num (pos 1))))) refl
    (mul_nonneg _ _ (square_nonneg k) (difference_nonneg _ _ h)))
    (mul_le _ _ e he scaled_distance)

-- two weights, not both 0
pub record IsWeights (i j : ℤ) : Type 0 where
  pub first : pos 0 ≤ℤ i
  pub second : pos 0 ≤ℤ j
  pub some : pos 0 <ℤ (i +ℤ j)

-- along one axis, the way from the mean of c and e under u and v to that of a and b under i and j, times both sums of weights
abbrev pub offset : ℤ → ℤ → ℤ → ℤ → ℤ → ℤ → ℤ → ℤ → ℤ
offset a b c e i j u v = (((i *ℤ a) +ℤ (j *ℤ b)) *ℤ (u +ℤ v)) -ℤ (((u *ℤ c) +ℤ (v *ℤ e)) *ℤ (i +ℤ j))

-- means of a and b, and of c and d, are at least the root of m / e apart
abbrev pub AreClear : ℤ → ℤ → Point → Point → Point → Point → Type 0
AreClear m e a b c d =
    (i j u v : ℤ) → IsWeights i j → IsWeights u v
    → IsClear m e (offset (pos a.x) (pos b.x) (pos c.x) (pos d.x) i j u v) (offset (pos a.y) (pos b.y) (pos c.y) (pos d.y) i j u v)
    ((i +ℤ j) *ℤ (u +ℤ v))

-- the weights, the other way round
pub turned_weights : (i j : ℤ) → IsWeights i j → IsWeights j i
turned_weights i j h = record { first = h.second; second = h.first; some = other i j h.some }
  where
    other : (i j : ℤ) → pos 0 <ℤ (i +ℤ j) → pos 0 <ℤ (j +ℤ i)
    other i j h = omega (arith, ints)

-- along one axis, the first two points and their weights, the other way round
pub turned_offset : (a b c d i j u v : ℤ) → offset a b c d j i u v ≡ offset b a c d i j u v
turned_offset a b c d i j u v =
    let va = var 0 in
    let vb = var 1 in
    let other = (var 6 ⊗ var 2 ⊕ var 7 ⊗ var 3) in
    ring (at (a ∷ b ∷ c ∷ d ∷ i ∷ j ∷ u ∷ v ∷ []))
    ((var 5 ⊗ va ⊕ var 4 ⊗ vb) ⊗ (var 6 ⊕ var 7) ⊖ other ⊗ (var 5 ⊕ var 4))
    ((var 4 ⊗ vb ⊕ var 5 ⊗ va) ⊗ (var 6 ⊕ var 7) ⊖ other ⊗ (var 4 ⊕ var 5)) refl

-- and their denominators
pub turned_sums : (i j u v : ℤ) → (j +ℤ i) *ℤ (u +ℤ v) ≡ (i +ℤ j) *ℤ (u +ℤ v)
turned_sums i j u v = ring (at (i ∷ j ∷ u ∷ v ∷ [])) ((var 1 ⊕ var 0) ⊗ (var 2 ⊕ var 3)) ((var 0 ⊕ var 1) ⊗ (var 2 ⊕ var 3)) refl

-- the first two points, the other way round
pub turn_first : (m e : ℤ) (a b c d : Point) → AreClear m e a b c d → AreClear m e b a c d
turn_first m e a b c d h i j u v wi wu =
    as_long m e _ _ _ _ _ _ (h j i u v (turned_weights i j wi) wu) (turned_offset (pos a.x) (pos b.x) (pos c.x) (pos d.x) i j u v)
    (turned_offset (pos a.y) (pos b.y) (pos c.y) (pos d.y) i j u v) (turned_sums i j u v)

-- the two pairs, exchanged
pub exchange : (m e : ℤ) (a b c d : Point) → AreClear m e a b c d → AreClear m e c d a b
exchange m e a b c d h i j u v wi wu =
    opposite m e _ _ _
    (as_long _ _ _ _ _ _ _ _ (h u v i j wu wi) (one (pos a.x) (pos b.x) (pos c.x) (pos d.x) i j u v)
    (one (pos a.y) (pos b.y) (pos c.y) (pos d.y) i j u v) (sums i j u v))
  where
    one : (a b c d i j u v : ℤ) → offset a b c d u v i j ≡ neg_ℤ (offset c d a b i j u v)
    one a b c d i j u v =
        let left = (var 6 ⊗ var 0 ⊕ var 7 ⊗ var 1) ⊗ (var 4 ⊕ var 5) in
        let right = (var 4 ⊗ var 2 ⊕ var 5 ⊗ var 3) ⊗ (var 6 ⊕ var 7) in
        ring (at (a ∷ b ∷ c ∷ d ∷ i ∷ j ∷ u ∷ v ∷ [])) (left ⊖ right) (neg (right ⊖ left)) refl

    sums : (i j u v : ℤ) → (u +ℤ v) *ℤ (i +ℤ j) ≡ (i +ℤ j) *ℤ (u +ℤ v)
    sums i j u v = ring (at (i ∷ j ∷ u ∷ v ∷ [])) ((var 2 ⊕ var 3) ⊗ (var 0 ⊕ var 1)) ((var 0 ⊕ var 1) ⊗ (var 2 ⊕ var 3)) refl

-- the second two points, the other way round
pub turn_second : (m e : ℤ) (a b c d : Point) → AreClear m e a b c d → AreClear m e a b d c
turn_second m e a b c d h = exchange m e d c a b (turn_first m e c d a b (exchange m e a b c d h))
