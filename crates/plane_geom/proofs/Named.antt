-- Identities and inequalities whose variables have names: their expressions are a function of the variables.
use Rattle.std.proofs.Common.{◌≡◌, ℕ, suc, true, ℤ, pos, ◌≤ℤ◌, ◌<ℤ◌, List, [], ◌∷◌}
use Rattle.plane_geom.specs.Expr.{Expr, var, at, value, ◌⊖◌, ◌⊗◌}
use Rattle.plane_geom.specs.Poly.{is_identity}
use Rattle.plane_geom.proofs.Ring.{ring, ring_using}
use Rattle.plane_geom.proofs.Inequality.{le_ring, le_ring_scaled}

-- a function of as many expressions as there are integers
abbrev pub Of : Type 0 → List ℤ → Type 0
Of R [] = R
Of R (x ∷ xs) = Expr → Of R xs

-- what it gives for variable i and those after it
abbrev pub of_variables : {R : Type 0} → ℕ → (xs : List ℤ) → Of R xs → R
of_variables i [] f = f
of_variables i (x ∷ xs) f = of_variables (suc i) xs (f (var i))

module _ (xs : List ℤ) where
  -- `ring` with names: `identity (a ∷ b ∷ []) (λ a b. (e, f)) refl`
  pub identity : (g : Of (Expr × Expr) xs) → let t = of_variables 0 xs g in is_identity t.0 t.1 ≡ true → value (at xs) t.0 ≡ value (at xs) t.1
  identity g h = let t = of_variables 0 xs g in ring (at xs) t.0 t.1 h

  -- `ring_using` with names: `identity_using (a ∷ b ∷ []) (λ a b. (e, f, c, p, q)) h refl`
  pub identity_using : (g : Of (Expr × Expr × Expr × Expr × Expr) xs)
      → let t = of_variables 0 xs g in value (at xs) t.3 ≡ value (at xs) t.4 → is_identity (t.0 ⊖ t.1) (t.2 ⊗ (t.3 ⊖ t.4)) ≡ true
      → value (at xs) t.0 ≡ value (at xs) t.1
  identity_using g k h = let t = of_variables 0 xs g in ring_using (at xs) t.0 t.1 t.2 t.3 t.4 k h

  -- `le_ring` with names: `inequality (a ∷ b ∷ []) (λ a b. (e, f, s)) refl h`
  pub inequality : (g : Of (Expr × Expr × Expr) xs)
      → let t = of_variables 0 xs g in is_identity (t.1 ⊖ t.0) t.2 ≡ true → pos 0 ≤ℤ value (at xs) t.2 → value (at xs) t.0 ≤ℤ value (at xs) t.1
  inequality g h k = let t = of_variables 0 xs g in le_ring (at xs) t.0 t.1 t.2 h k

  -- `le_ring_scaled` with names: `inequality_scaled (a ∷ b ∷ []) (λ a b. (e, f, m, s)) refl hm h`
  pub inequality_scaled : (g : Of (Expr × Expr × Expr × Expr) xs)
      → let t = of_variables 0 xs g in is_identity ((t.1 ⊖ t.0) ⊗ t.2) t.3 ≡ true → pos 0 <ℤ value (at xs) t.2 → pos 0 ≤ℤ value (at xs) t.3
      → value (at xs) t.0 ≤ℤ value (at xs) t.1
  inequality_scaled g h hm k = let t = of_variables 0 xs g in le_ring_scaled (at xs) t.0 t.1 t.2 t.3 h hm k
