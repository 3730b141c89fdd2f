-- The least squared distance between the points of two sets.
use Rattle.std.specs.Prelude.{◌≡◌, ℕ, ℤ, ◌*◌, pos, ◌+ℤ◌, ◌-ℤ◌, ◌*ℤ◌, ◌≤ℤ◌}
use Rattle.sand_model.specs.Points.{RationalPoint}

-- a whole number, squared
abbrev pub square : ℤ → ℤ
square a = a *ℤ a

-- the squared distance of two rational points, times `common_square`
abbrev pub scaled_distance : RationalPoint → RationalPoint → ℤ
scaled_distance q r =
    square ((q.x *ℤ pos r.n) -ℤ (r.x *ℤ pos q.n)) +ℤ square ((q.y *ℤ pos r.n) -ℤ (r.y *ℤ pos q.n))

-- the product of both denominators, squared
abbrev pub common_square : RationalPoint → RationalPoint → ℤ
common_square q r = square (pos (q.n * r.n))

-- num / den is the least squared distance of two sets of points: some pair is that far apart, and no pair is nearer
pub record IsLeast (A B : RationalPoint → Type 0) (num den : ℕ) : Type 0 where
  pub attained : (q r : RationalPoint) × A q × B r × (scaled_distance q r *ℤ pos den ≡ pos num *ℤ common_square q r)
  pub least : (q r : RationalPoint) → A q → B r → (pos num *ℤ common_square q r) ≤ℤ (scaled_distance q r *ℤ pos den)
