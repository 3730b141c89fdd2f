-- The order of the integers under differences and products.
use Rattle.std.proofs.Common.{◌≡◌, ◌⊎◌, ℕ, zero, suc, ◌≤◌, ℤ, pos, negsuc, ◌+ℤ◌, ◌-ℤ◌, ◌*ℤ◌, nat_abs, ◌≤ℤ◌, ◌<ℤ◌, [], ◌∷◌, refl, sym, inl, inr, arith}
use Rattle.std.proofs.lemmas.Int.{ints, by_lt_z}
use Rattle.plane_geom.specs.Expr.{var, num, at, ◌⊕◌, ◌⊖◌, ◌⊗◌}
use Rattle.plane_geom.proofs.Ring.{ring}

-- a ≤ b, since b - a is d, which isn't negative
pub le_by : (a b d : ℤ) → b -ℤ a ≡ d → pos 0 ≤ℤ d → a ≤ℤ b
le_by a b d e h = omega (arith, ints)

-- a < b, since b - a is d, which is positive
pub lt_by : (a b d : ℤ) → b -ℤ a ≡ d → pos 0 <ℤ d → a <ℤ b
lt_by a b d e h = omega (arith, ints)

-- b - a isn't negative where a ≤ b
pub difference_nonneg : (a b : ℤ) → a ≤ℤ b → pos 0 ≤ℤ (b -ℤ a)
difference_nonneg a b h = omega (arith, ints)

-- b - a is positive where a < b
pub difference_positive : (a b : ℤ) → a <ℤ b → pos 0 <ℤ (b -ℤ a)
difference_positive a b h = omega (arith, ints)

-- a sum of integers that aren't negative isn't negative
pub add_nonneg : (a b : ℤ) → pos 0 ≤ℤ a → pos 0 ≤ℤ b → pos 0 ≤ℤ (a +ℤ b)
add_nonneg a b ha hb = omega (arith, ints)

-- from a ≤ b and b ≤ c, a ≤ c
pub chain_le : (a b c : ℤ) → a ≤ℤ b → b ≤ℤ c → a ≤ℤ c
chain_le a b c h k = omega (arith, ints)

-- two integers that bound each other are equal
pub both_le : (a b : ℤ) → a ≤ℤ b → b ≤ℤ a → a ≡ b
both_le a b h k = omega (arith, ints)

-- one of two integers is at most the other
pub le_or_le : (a b : ℤ) → (a ≤ℤ b) ⊎ (b ≤ℤ a)
le_or_le a b = by_lt_z a b (λ h. inl (omega (arith, ints))) (λ h. inr h)

-- p < q and q ≤ p can't both hold
pub apart : {P : Type 0} (p q : ℤ) → p <ℤ q → q ≤ℤ p → P
apart p q h k = absurd (omega (arith, ints))

-- a product of integers that aren't negative isn't negative
pub mul_nonneg : (a b : ℤ) → pos 0 ≤ℤ a → pos 0 ≤ℤ b → pos 0 ≤ℤ (a *ℤ b)
mul_nonneg (pos a) (pos b) ha hb = omega (arith, ints)
mul_nonneg (pos a) (negsuc b) ha hb = omega (arith, ints)
mul_nonneg (negsuc a) b ha hb = omega (arith, ints)

-- a product of positive integers is positive
pub mul_positive : (a b : ℤ) → pos 0 <ℤ a → pos 0 <ℤ b → pos 0 <ℤ (a *ℤ b)
mul_positive (pos zero) b ha hb = omega (arith, ints)
mul_positive (pos (suc a)) (pos zero) ha hb = omega (arith, ints)
mul_positive (pos (suc a)) (pos (suc b)) ha hb = omega (arith, ints)
mul_positive (pos (suc a)) (negsuc b) ha hb = omega (arith, ints)
mul_positive (negsuc a) b ha hb = omega (arith, ints)

-- (b - a) c = b c - a c
pub times_difference : (a b c : ℤ) → b *ℤ c -ℤ a *ℤ c ≡ (b -ℤ a) *ℤ c
times_difference a b c =
    let x = var 0 in
    let y = var 1 in
    let z = var 2 in
    ring (at (a ∷ b ∷ c ∷ [])) (y ⊗ z ⊖ x ⊗ z) ((y ⊖ x) ⊗ z) refl

-- a factor that isn't negative keeps ≤
pub mul_le : (a b c : ℤ) → pos 0 ≤ℤ c → a ≤ℤ b → (a *ℤ c) ≤ℤ (b *ℤ c)
mul_le a b c hc h = le_by (a *ℤ c) (b *ℤ c) _ (times_difference a b c) (mul_nonneg (b -ℤ a) c (difference_nonneg a b h) hc)

-- a positive factor keeps <
pub mul_lt : (a b c : ℤ) → pos 0 <ℤ c → a <ℤ b → (a *ℤ c) <ℤ (b *ℤ c)
mul_lt a b c hc h = lt_by (a *ℤ c) (b *ℤ c) _ (times_difference a b c) (mul_positive (b -ℤ a) c (difference_positive a b h) hc)

-- (b d - a c) as the sum of what each factor adds
both_differences : (a b c d : ℤ) → b *ℤ d -ℤ a *ℤ c ≡ (b -ℤ a) *ℤ c +ℤ b *ℤ (d -ℤ c)
both_differences a b c d =
    let x = var 0 in
    let y = var 1 in
    let z = var 2 in
    let w = var 3 in
    ring (at (a ∷ b ∷ c ∷ d ∷ [])) (y ⊗ w ⊖ x ⊗ z) ((y ⊖ x) ⊗ z ⊕ y ⊗ (w ⊖ z)) refl

-- products of bounds bound the product
pub mul_le_mul : (a b c d : ℤ) → pos 0 ≤ℤ b → pos 0 ≤ℤ c → a ≤ℤ b → c ≤ℤ d → (a *ℤ c) ≤ℤ (b *ℤ d)
mul_le_mul a b c d hb hc h k =
    le_by (a *ℤ c) (b *ℤ d) _ (both_differences a b c d)
    (add_nonneg ((b -ℤ a) *ℤ c) (b *ℤ (d -ℤ c))
    (mul_nonneg (b -ℤ a) c (difference_nonneg a b h) hc)
    (mul_nonneg b (d -ℤ c) hb (difference_nonneg c d k)))

-- a positive factor may be dropped from ≤
pub le_from_mul : (a b c : ℤ) → pos 0 <ℤ c → (a *ℤ c) ≤ℤ (b *ℤ c) → a ≤ℤ b
le_from_mul a b c hc h = by_lt_z b a (λ k. apart (b *ℤ c) (a *ℤ c) (mul_lt b a c hc k) h) (λ k. k)

-- a factor that isn't negative may be dropped from <
pub lt_from_mul : (a b c : ℤ) → pos 0 ≤ℤ c → (a *ℤ c) <ℤ (b *ℤ c) → a <ℤ b
lt_from_mul a b c hc h = by_lt_z a b (λ k. k) (λ k. apart (a *ℤ c) (b *ℤ c) h (mul_le b a c hc k))

-- and a positive one from ≡
pub same_from_mul : (a b c : ℤ) → pos 0 <ℤ c → a *ℤ c ≡ b *ℤ c → a ≡ b
same_from_mul a b c hc e = both_le a b (le_from_mul a b c hc (of_same (a *ℤ c) (b *ℤ c) e)) (le_from_mul b a c hc (of_same (b *ℤ c) (a *ℤ c) (sym e)))
  where
    of_same : (p q : ℤ) → p ≡ q → p ≤ℤ q
    of_same p q e = omega (arith, ints)

-- a product with a positive factor isn't negative only where the other factor isn't
pub nonneg_from_mul : (a c : ℤ) → pos 0 <ℤ c → pos 0 ≤ℤ (a *ℤ c) → pos 0 ≤ℤ a
nonneg_from_mul a c hc h = le_from_mul (pos 0) a c hc (from_zero (pos 0 *ℤ c) (a *ℤ c) (nothing c) h)
  where
    nothing : (c : ℤ) → pos 0 *ℤ c ≡ pos 0
    nothing c = ring (at (c ∷ [])) (num (pos 0) ⊗ var 0) (num (pos 0)) refl

    from_zero : (p q : ℤ) → p ≡ pos 0 → pos 0 ≤ℤ q → p ≤ℤ q
    from_zero p q e h = omega (arith, ints)

-- an order of naturals is one of integers
pub pos_le : (m n : ℕ) → m ≤ n → pos m ≤ℤ pos n
pos_le m n h = omega (arith, ints)

-- and the other way round
pub le_pos : (m n : ℕ) → pos m ≤ℤ pos n → m ≤ n
le_pos m n h = omega (arith, ints)

-- an integer that isn't negative is a natural
pub pos_abs : (a : ℤ) → pos 0 ≤ℤ a → pos (nat_abs a) ≡ a
pos_abs (pos n) h = refl
pos_abs (negsuc n) h = absurd (omega (arith, ints))
