-- The law of the test: two expressions that pass it have one value, whatever their variables are worth.
use Rattle.std.specs.Prelude.{◌≡◌, ℕ, ℤ, true}
use Rattle.plane_geom.specs.Expr.{Expr, value}
use Rattle.plane_geom.specs.Poly.{is_identity}

-- expressions that multiply out to the same polynomial have the same value everywhere
abbrev pub RingIsSound : Type 0
RingIsSound = (env : ℕ → ℤ) (e f : Expr) → is_identity e f ≡ true → value env e ≡ value env f
