-- The value of a fraction num/den, told by cross products, with no division.
use Rattle.std.specs.Prelude.{◌≡◌, ℕ, ◌*◌}
use Rattle.std.specs.Ordering.{nat_cmp}
use Rattle.std.specs.declared.cmp.Ordering.{Ordering}

-- the order of the values of x and y, whose fractions num and den read off
abbrev pub by_value : {K : Type 0} → (K → ℕ) → (K → ℕ) → K → K → Ordering
by_value num den x y = nat_cmp (num x * den y) (num y * den x)

-- num/den and n/d are one number
abbrev pub SameValue : ℕ → ℕ → ℕ → ℕ → Type 0
SameValue num den n d = num * d ≡ n * den
