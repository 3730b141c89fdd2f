-- The lesser of two fractions, by their values.
use Rattle.std.specs.Prelude.{◌≡◌, ◌⊎◌, ◌*◌, ◌≤◌}
use Rattle.exact_frac.specs.declared.frac.Frac.{Frac}

-- the value of the first fraction is at most that of the second
abbrev pub IsAtMost : Frac → Frac → Type 0
IsAtMost x y = x.num * y.den ≤ y.num * x.den

-- the fraction is one of two, and its value is at most those of both
pub record IsLesser (x y lesser : Frac) : Type 0 where
  pub one : (lesser ≡ x) ⊎ (lesser ≡ y)
  pub first : IsAtMost lesser x
  pub second : IsAtMost lesser y
