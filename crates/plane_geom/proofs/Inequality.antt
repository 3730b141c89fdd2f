-- An inequality of two expressions, from one identity and a sign.
use Rattle.std.proofs.Common.{◌≡◌, ℕ, true, ℤ, pos, ◌*ℤ◌, ◌≤ℤ◌, ◌<ℤ◌, ◌∙◌}
use Rattle.plane_geom.specs.Expr.{Expr, value, ◌⊖◌, ◌⊗◌}
use Rattle.plane_geom.specs.Poly.{is_identity}
use Rattle.plane_geom.proofs.Ring.{ring}
use Rattle.plane_geom.proofs.Order.{le_by, lt_by, le_from_mul, times_difference}

module _ (env : ℕ → ℤ) where
  -- e ≤ f, since f - e = s, which isn't negative: `le_ring env e f s refl h`
  pub le_ring : (e f s : Expr) → is_identity (f ⊖ e) s ≡ true → pos 0 ≤ℤ value env s → value env e ≤ℤ value env f
  le_ring e f s t h = le_by (value env e) (value env f) (value env s) (ring env (f ⊖ e) s t) h

  -- e < f, since f - e = s, which is positive
  pub lt_ring : (e f s : Expr) → is_identity (f ⊖ e) s ≡ true → pos 0 <ℤ value env s → value env e <ℤ value env f
  lt_ring e f s t h = lt_by (value env e) (value env f) (value env s) (ring env (f ⊖ e) s t) h

  -- e ≤ f, since (f - e) m = s, which isn't negative, and m is positive: `le_ring_scaled env e f m s refl hm h`
  pub le_ring_scaled : (e f m s : Expr) → is_identity ((f ⊖ e) ⊗ m) s ≡ true → pos 0 <ℤ value env m → pos 0 ≤ℤ value env s
      → value env e ≤ℤ value env f
  le_ring_scaled e f m s t hm h =
      le_from_mul (value env e) (value env f) (value env m) hm
      (le_by (value env e *ℤ value env m) (value env f *ℤ value env m) (value env s)
      (times_difference (value env e) (value env f) (value env m) ∙ ring env ((f ⊖ e) ⊗ m) s t) h)
