-- Two rational points that are so far apart as a fraction says.
use Rattle.std.proofs.Common.{◌≡◌, ℕ, ◌*◌, ◌<◌, ℤ, pos, ◌+ℤ◌, ◌-ℤ◌, ◌*ℤ◌, ◌≤ℤ◌, ◌<ℤ◌, [], ◌∷◌, refl, sym, subst, arith}
use Rattle.std.proofs.lemmas.Int.{ints, by_lt_z}
use Rattle.sand_model.specs.Points.{RationalPoint}
use Rattle.sand_model.specs.Gap.{scaled_distance, common_square}
use Rattle.plane_geom.specs.Expr.{num, ◌⊖◌, ◌⊗◌}
use Rattle.plane_geom.proofs.Named.{identity, inequality}
use Rattle.plane_geom.proofs.Order.{mul_nonneg, mul_positive, add_nonneg}
use Rattle.plane_geom.proofs.Squares.{square_nonneg}
use Rattle.plane_geom.proofs.Forms as form
use Rattle.plane_geom.proofs.Signs.{natural, above_zero}

-- two rational points are at least the root of m / e apart
abbrev pub AreApart : ℕ → ℕ → RationalPoint → RationalPoint → Type 0
AreApart m e q z = (pos m *ℤ common_square q z) ≤ℤ (scaled_distance q z *ℤ pos e)

-- a point is no way from itself
pub itself : (q : RationalPoint) (e : ℤ) → scaled_distance q q *ℤ e ≡ pos 0
itself q e =
    identity (q.x ∷ q.y ∷ pos q.n ∷ e ∷ []) (λ x y n e. (form.squares (x ⊗ n ⊖ x ⊗ n) (y ⊗ n ⊖ y ⊗ n) ⊗ e, num (pos 0))) refl

-- so a bound is 0 where a point is apart from itself
pub met : (m e : ℕ) (q : RationalPoint) → AreApart m e q q → m ≡ 0
met m e q h =
    by_lt_z (pos 0) (pos m)
    (λ l.
    absurd (against _ (mul_positive (pos m) (common_square q q) l (mul_positive _ _ (above q.n q.positive) (above q.n q.positive)))
    (subst (λ t. (pos m *ℤ common_square q q) ≤ℤ t) (itself q (pos e)) h)))
    (λ l. omega (arith, ints))
  where
    above : (n : ℕ) → 0 < n → pos 0 <ℤ pos (n * n)
    above n h = mul_positive (pos n) (pos n) (above_zero n h) (above_zero n h)

    against : (p : ℤ) → pos 0 <ℤ p → p ≤ℤ pos 0 → ⊥
    against p h k = omega (arith, ints)

-- and a bound of 0 is no bound
pub no_bound : (m e : ℕ) (q z : RationalPoint) → m ≡ 0 → AreApart m e q z
no_bound m e q z h =
    subst (λ (t : ℕ). AreApart t e q z) (sym h)
    (plain ((q.x *ℤ pos z.n) -ℤ (z.x *ℤ pos q.n)) ((q.y *ℤ pos z.n) -ℤ (z.y *ℤ pos q.n)) (common_square q z) (pos e) (natural e))
  where
    plain : (x y k e : ℤ) → pos 0 ≤ℤ e → (pos 0 *ℤ k) ≤ℤ (((x *ℤ x) +ℤ (y *ℤ y)) *ℤ e)
    plain x y k e he =
        inequality (x ∷ y ∷ k ∷ e ∷ []) (λ x y k e. (num (pos 0) ⊗ k, form.squares x y ⊗ e, form.squares x y ⊗ e)) refl
        (mul_nonneg _ _ (add_nonneg _ _ (square_nonneg x) (square_nonneg y)) he)

-- two points are as far apart as the two exchanged
pub distance_exchanged : (q r : RationalPoint) → scaled_distance q r ≡ scaled_distance r q
distance_exchanged q r =
    identity (q.x ∷ q.y ∷ pos q.n ∷ r.x ∷ r.y ∷ pos r.n ∷ [])
    (λ x y n u v m. (form.squares (x ⊗ m ⊖ u ⊗ n) (y ⊗ m ⊖ v ⊗ n), form.squares (u ⊗ n ⊖ x ⊗ m) (v ⊗ n ⊖ y ⊗ m))) refl

-- over the same denominators
pub common_exchanged : (q r : RationalPoint) → common_square q r ≡ common_square r q
common_exchanged q r = identity (pos q.n ∷ pos r.n ∷ []) (λ n m. ((n ⊗ m) ⊗ (n ⊗ m), (m ⊗ n) ⊗ (m ⊗ n))) refl

-- and so is a bound
pub apart_exchanged : (m e : ℕ) (q r : RationalPoint) → AreApart m e q r → AreApart m e r q
apart_exchanged m e q r h =
    subst (λ t. (pos m *ℤ common_square r q) ≤ℤ (t *ℤ pos e)) (distance_exchanged q r)
    (subst (λ t. (pos m *ℤ t) ≤ℤ (scaled_distance q r *ℤ pos e)) (common_exchanged q r) h)
