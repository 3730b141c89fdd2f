-- How `ring` is called, with names for its variables and without, what it takes and what it refuses.
use Rattle.std.proofs.Common.{◌≡◌, ℕ, ◌*◌, false, ℤ, pos, ◌+ℤ◌, ◌-ℤ◌, ◌*ℤ◌, neg_ℤ, ◌≤ℤ◌, [], ◌∷◌, refl}
use Rattle.plane_geom.specs.Expr.{var, num, neg, at, ◌⊕◌, ◌⊖◌, ◌⊗◌}
use Rattle.plane_geom.specs.Poly.{is_identity}
use Rattle.plane_geom.proofs.Ring.{ring, ring_using}
use Rattle.plane_geom.proofs.Inequality.{le_ring}
use Rattle.plane_geom.proofs.Named.{identity}
use Rattle.plane_geom.proofs.Squares.{square_nonneg}

-- Lagrange's identity in the plane: (a b + c d)^2 + (a d - c b)^2 = (a^2 + c^2) (b^2 + d^2)
lagrange : (a b c d : ℤ) → (a *ℤ b +ℤ c *ℤ d) *ℤ (a *ℤ b +ℤ c *ℤ d) +ℤ (a *ℤ d -ℤ c *ℤ b) *ℤ (a *ℤ d -ℤ c *ℤ b) ≡ (a *ℤ a +ℤ c *ℤ c) *ℤ (b *ℤ b +ℤ d *ℤ d)
lagrange a b c d =
    identity (a ∷ b ∷ c ∷ d ∷ [])
    (λ a b c d.
    let dot = a ⊗ b ⊕ c ⊗ d in
    let cross = a ⊗ d ⊖ c ⊗ b in
    (dot ⊗ dot ⊕ cross ⊗ cross, (a ⊗ a ⊕ c ⊗ c) ⊗ (b ⊗ b ⊕ d ⊗ d))) refl

-- with a known equation: from a d = c b, (a b + c d)^2 = (a^2 + c^2) (b^2 + d^2)
along_one_line : (a b c d : ℤ) → a *ℤ d ≡ c *ℤ b → (a *ℤ b +ℤ c *ℤ d) *ℤ (a *ℤ b +ℤ c *ℤ d) ≡ (a *ℤ a +ℤ c *ℤ c) *ℤ (b *ℤ b +ℤ d *ℤ d)
along_one_line a b c d h =
    let x = var 0 in
    let y = var 1 in
    let z = var 2 in
    let w = var 3 in
    let dot = x ⊗ y ⊕ z ⊗ w in
    ring_using (at (a ∷ b ∷ c ∷ d ∷ [])) (dot ⊗ dot) ((x ⊗ x ⊕ z ⊗ z) ⊗ (y ⊗ y ⊕ w ⊗ w)) (neg (x ⊗ w ⊖ z ⊗ y)) (x ⊗ w) (z ⊗ y) h refl

-- an inequality from one identity: 2 a b ≤ a^2 + b^2, since the difference is (a - b)^2
two_products : (a b : ℤ) → (pos 2 *ℤ (a *ℤ b)) ≤ℤ (a *ℤ a +ℤ b *ℤ b)
two_products a b =
    let x = var 0 in
    let y = var 1 in
    le_ring (at (a ∷ b ∷ [])) (num (pos 2) ⊗ (x ⊗ y)) (x ⊗ x ⊕ y ⊗ y) ((x ⊖ y) ⊗ (x ⊖ y)) refl (square_nonneg (a -ℤ b))

-- a natural goes in as `pos n`, and a product of naturals as the product: pos (m n) is pos m * pos n by computation
naturals : (m n : ℕ) (a : ℤ) → pos (m * n) *ℤ (a -ℤ pos 1) ≡ neg_ℤ (pos n) *ℤ (pos m -ℤ pos m *ℤ a)
naturals m n a =
    let x = var 0 in
    let y = var 1 in
    let z = var 2 in
    ring (at (pos m ∷ pos n ∷ a ∷ [])) (x ⊗ y ⊗ (z ⊖ num (pos 1))) (neg y ⊗ (x ⊖ x ⊗ z)) refl

-- a false identity fails the test: (a + b)^2 is not a^2 + b^2
refused : is_identity ((var 0 ⊕ var 1) ⊗ (var 0 ⊕ var 1)) (var 0 ⊗ var 0 ⊕ var 1 ⊗ var 1) ≡ false
refused = refl
