-- Squares of integers and their order, and products that are 0.
use Rattle.std.proofs.Common.{◌≡◌, ◌⊎◌, zero, suc, ◌*◌, ℤ, pos, negsuc, ◌+ℤ◌, ◌-ℤ◌, ◌*ℤ◌, nat_abs, ◌≤ℤ◌, ◌<ℤ◌, [], ◌∷◌, refl, inl, inr, arith}
use Rattle.std.proofs.lemmas.Int.{ints, by_lt_z}
use Rattle.plane_geom.specs.Expr.{var, at, ◌⊕◌, ◌⊖◌, ◌⊗◌}
use Rattle.plane_geom.proofs.Ring.{ring}
use Rattle.plane_geom.proofs.Order.{le_by, lt_by, difference_nonneg, difference_positive, mul_nonneg, mul_positive, mul_le_mul, chain_le, apart}

-- a square isn't negative
pub square_nonneg : (a : ℤ) → pos 0 ≤ℤ (a *ℤ a)
square_nonneg (pos a) = omega (arith, ints)
square_nonneg (negsuc a) = omega (arith, ints)

-- a square is positive but at 0
pub square_positive : (a : ℤ) → ¬ (a ≡ pos 0) → pos 0 <ℤ (a *ℤ a)
square_positive (pos zero) h = absurd (h refl)
square_positive (pos (suc a)) h = omega (arith, ints)
square_positive (negsuc a) h = omega (arith, ints)

-- squares of integers that aren't negative keep ≤
pub square_le : (a b : ℤ) → pos 0 ≤ℤ a → a ≤ℤ b → (a *ℤ a) ≤ℤ (b *ℤ b)
square_le a b ha h = mul_le_mul a b a b (chain_le (pos 0) a b ha h) ha h h

-- and they keep <
pub square_lt : (a b : ℤ) → pos 0 ≤ℤ a → a <ℤ b → (a *ℤ a) <ℤ (b *ℤ b)
square_lt a b ha h =
    let x = var 0 in
    let y = var 1 in
    let e : b *ℤ b -ℤ a *ℤ a ≡ (b -ℤ a) *ℤ (b +ℤ a) = ring (at (a ∷ b ∷ [])) (y ⊗ y ⊖ x ⊗ x) ((y ⊖ x) ⊗ (y ⊕ x)) refl in
    lt_by (a *ℤ a) (b *ℤ b) _ e (mul_positive (b -ℤ a) (b +ℤ a) (difference_positive a b h) (raised a b ha h))
  where
    raised : (a b : ℤ) → pos 0 ≤ℤ a → a <ℤ b → pos 0 <ℤ (b +ℤ a)
    raised a b h k = omega (arith, ints)

-- an integer between -b and b has a square of at most b's
pub square_le_abs : (a b : ℤ) → a ≤ℤ b → (pos 0 -ℤ b) ≤ℤ a → (a *ℤ a) ≤ℤ (b *ℤ b)
square_le_abs a b h k =
    let x = var 0 in
    let y = var 1 in
    let e : b *ℤ b -ℤ a *ℤ a ≡ (b -ℤ a) *ℤ (b +ℤ a) = ring (at (a ∷ b ∷ [])) (y ⊗ y ⊖ x ⊗ x) ((y ⊖ x) ⊗ (y ⊕ x)) refl in
    le_by (a *ℤ a) (b *ℤ b) _ e (mul_nonneg (b -ℤ a) (b +ℤ a) (difference_nonneg a b h) (raised a b k))
  where
    raised : (a b : ℤ) → (pos 0 -ℤ b) ≤ℤ a → pos 0 ≤ℤ (b +ℤ a)
    raised a b h = omega (arith, ints)

-- squares of integers that aren't negative give ≤ back
pub le_from_square : (a b : ℤ) → pos 0 ≤ℤ b → (a *ℤ a) ≤ℤ (b *ℤ b) → a ≤ℤ b
le_from_square a b hb h =
    by_lt_z b a (λ k. apart (b *ℤ b) (a *ℤ a) (square_lt b a hb k) h) (λ k. k)

-- the square of the absolute value is the square
pub square_abs : (a : ℤ) → pos (nat_abs a * nat_abs a) ≡ a *ℤ a
square_abs (pos n) = refl
square_abs (negsuc n) = refl

-- one factor of a product that is 0 is 0
pub zero_product : (a b : ℤ) → a *ℤ b ≡ pos 0 → (a ≡ pos 0) ⊎ (b ≡ pos 0)
zero_product (pos zero) b e = inl refl
zero_product (pos (suc a)) (pos zero) e = inr refl
zero_product (pos (suc a)) (pos (suc b)) e = absurd (omega (arith, ints))
zero_product (pos (suc a)) (negsuc b) e = absurd (omega (arith, ints))
zero_product (negsuc a) (pos zero) e = inr refl
zero_product (negsuc a) (pos (suc b)) e = absurd (omega (arith, ints))
zero_product (negsuc a) (negsuc b) e = absurd (omega (arith, ints))

-- a square is 0 only at 0
pub square_zero : (a : ℤ) → a *ℤ a ≡ pos 0 → a ≡ pos 0
square_zero a e = elim (zero_product a a e) [ inl h ↦ h | inr h ↦ h ]

-- a sum of two squares is 0 only where both are
pub squares_zero : (a b : ℤ) → a *ℤ a +ℤ b *ℤ b ≡ pos 0 → (a ≡ pos 0) × (b ≡ pos 0)
squares_zero a b e = (
  square_zero a (none (a *ℤ a) (b *ℤ b) (square_nonneg a) (square_nonneg b) e).0,
  square_zero b (none (a *ℤ a) (b *ℤ b) (square_nonneg a) (square_nonneg b) e).1,
)
  where
    none : (p q : ℤ) → pos 0 ≤ℤ p → pos 0 ≤ℤ q → p +ℤ q ≡ pos 0 → (p ≡ pos 0) × (q ≡ pos 0)
    none p q hp hq e = (omega (arith, ints), omega (arith, ints))
