-- Of two fractions there is a lesser one.
use Rattle.std.proofs.Common.{inl, inr, ℕ, ◌*◌, ◌<◌, ◌≤◌, refl, arith}
use Rattle.std.proofs.Math.Nat.{le_refl}
use Rattle.std.proofs.lemmas.Bool.{cases_lt}
use Rattle.exact_frac.specs.Lesser.{IsLesser}
use Rattle.exact_frac.specs.declared.frac.Frac.{Frac}

-- the first, where its cross product is less, and else the second
pub lesser : (f g : Frac) → (h : Frac) × IsLesser f g h
lesser f g =
    elim (cases_lt (f.num * g.den) (g.num * f.den)) [
      | inl l ↦ (f, record { one = inl refl; first = le_refl _; second = weak _ _ l })
      | inr l ↦ (g, record { one = inr refl; first = l; second = le_refl _ })
    ]
  where
    weak : (m n : ℕ) → m < n → m ≤ n
    weak m n h = omega arith
