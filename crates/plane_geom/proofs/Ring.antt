-- Polynomial identities over the integers, by computation, with or without known equations.
use Rattle.std.proofs.Common.{◌≡◌, ℕ, true, ℤ, pos, ◌+ℤ◌, ◌-ℤ◌, ◌*ℤ◌, sym, ap, ◌∙◌, arith}
use Rattle.std.proofs.Math.IntN.{*ℤ-zero}
use Rattle.std.proofs.lemmas.Int.{ints}
use Rattle.plane_geom.specs.Expr.{Expr, minus, value, ◌⊕◌, ◌⊖◌, ◌⊗◌}
use Rattle.plane_geom.specs.Poly.{norm, is_identity}
use Rattle.plane_geom.proofs.PolynomialValues.{is_zero_value, norm_value}

-- integers whose difference is 0 are equal
same_of_difference : (a b : ℤ) → a -ℤ b ≡ pos 0 → a ≡ b
same_of_difference a b e = omega (arith, ints)

-- and the other way round
difference_of_same : (a b : ℤ) → a ≡ b → a -ℤ b ≡ pos 0
difference_of_same a b e = omega (arith, ints)

-- a sum of two integers that are 0 is 0
none_and_none : (a b : ℤ) → a ≡ pos 0 → b ≡ pos 0 → a +ℤ b ≡ pos 0
none_and_none a b e f = omega (arith, ints)

-- c (a - b) is 0 where a and b are equal
times_none : (c a b : ℤ) → a ≡ b → c *ℤ (a -ℤ b) ≡ pos 0
times_none c a b e = ap (λ t. c *ℤ t) (difference_of_same a b e) ∙ *ℤ-zero c

module _ (env : ℕ → ℤ) where
  -- two expressions that multiply out to the same polynomial have the same value: `ring env e f refl`
  pub ring : (e f : Expr) → is_identity e f ≡ true → value env e ≡ value env f
  ring e f t =
      same_of_difference (value env e) (value env f) (sym (norm_value (minus e f) env) ∙ is_zero_value (norm (minus e f)) env t)

  -- e and f have the same value where p and q have, since e - f = c (p - q): `ring_using env e f c p q h refl`
  pub ring_using : (e f c p q : Expr) → value env p ≡ value env q → is_identity (e ⊖ f) (c ⊗ (p ⊖ q)) ≡ true → value env e ≡ value env f
  ring_using e f c p q h t =
      same_of_difference (value env e) (value env f)
      (ring (e ⊖ f) (c ⊗ (p ⊖ q)) t ∙ times_none (value env c) (value env p) (value env q) h)

  -- the same with two equations: e - f = c (p - q) + d (r - s)
  pub ring_using_two : (e f c p q d r s : Expr) → value env p ≡ value env q → value env r ≡ value env s
      → is_identity (e ⊖ f) (c ⊗ (p ⊖ q) ⊕ d ⊗ (r ⊖ s)) ≡ true → value env e ≡ value env f
  ring_using_two e f c p q d r s h k t =
      same_of_difference (value env e) (value env f)
      (ring (e ⊖ f) (c ⊗ (p ⊖ q) ⊕ d ⊗ (r ⊖ s)) t
      ∙ none_and_none _ _ (times_none (value env c) (value env p) (value env q) h) (times_none (value env d) (value env r) (value env s) k))
