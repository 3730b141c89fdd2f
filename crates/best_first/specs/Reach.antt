-- Gaps by their values, and how far a search reaches (its search radius).
use Rattle.std.specs.Prelude.{◌≡◌, ℕ, ◌*◌, ◌≤◌, ◌<◌, Bool, true, nat_le, Option, None, Some}
use Rattle.std.specs.declared.cmp.Ordering.TheVariants.{Equal}
use Rattle.exact_frac.specs.declared.frac.Frac.{Frac}
use Rattle.exact_frac.specs.Frac.{value_cmp}

-- the two gaps have one value, whatever their parts
abbrev pub IsSameGap : Frac → Frac → Type 0
IsSameGap g h = value_cmp g h ≡ Equal

-- the value of g is at most that of h
abbrev pub IsAtMost : Frac → Frac → Type 0
IsAtMost g h = g.num * h.den ≤ h.num * g.den

-- the value of g is below that of h
abbrev pub IsBelow : Frac → Frac → Type 0
IsBelow g h = g.num * h.den < h.num * g.den

-- whether the gap is within the ceiling, a distance that is None where there is no ceiling
abbrev pub within : Option ℕ → Frac → Bool
within None gap = true
within (Some most) gap = nat_le gap.num (most * most * gap.den)

-- whether the gap is at most this one
abbrev pub up_to : Frac → Frac → Bool
up_to most gap = nat_le (gap.num * most.den) (most.num * gap.den)

-- A test of gaps is a reach: what it takes in, it takes in with all that is nearer.
abbrev pub IsReach : (Frac → Bool) → Type 0
IsReach reach = (g h : Frac) → IsAtMost g h → reach h ≡ true → reach g ≡ true
