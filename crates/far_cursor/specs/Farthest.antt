-- Farthest first: the greatest distance of a point from a rectangle, and keys, which turn the order of distances round.
-- After G. R. Hjaltason and H. Samet (1999), who search farthest first by upper bounds in place of lower ones.
use Rattle.std.specs.Prelude.{ℕ, ◌+◌, ◌*◌, ◌-◌, ◌^◌, ◌≤◌, max, List, [], ◌∷◌, map}
use Rattle.std.specs.Int.{abs_diff}
use Rattle.exact_frac.specs.declared.TheConstants.{MAX_DEN}
use Rattle.exact_frac.specs.declared.frac.Frac.{Frac}
use Rattle.std.proofs.Common.{lit≤}
use Rattle.sand_base.specs.declared.TheConstants.{COORDINATE_BITS}
use Rattle.sand_base.specs.declared.goal.Goal.TheVariants as figure
use Rattle.sand_base.specs.declared.point.Point.{Point}
use Rattle.sand_base.specs.declared.rect.Rect.{Rect}
use Rattle.sand_model.specs.Figures.{vertices_of}
use Rattle.far_cursor.specs.KeyBounds.{key_fits}

-- the squared distance of two grid points
abbrev pub spot_gap : Point → Point → ℕ
spot_gap p q = abs_diff p.x q.x * abs_diff p.x q.x + abs_diff p.y q.y * abs_diff p.y q.y

-- the greatest of some numbers
abbrev pub greatest_of : List ℕ → ℕ
greatest_of [] = 0
greatest_of (n ∷ ns) = max n (greatest_of ns)

-- the greatest squared distance of a point from a corner of a rectangle
abbrev pub farthest : Point → Rect → ℕ
farthest p r = greatest_of (map (spot_gap p) (vertices_of (figure.Rect r)))

-- the greater distance of a coordinate from the two ends of a range
abbrev pub end_gap : ℕ → ℕ → ℕ → ℕ
end_gap c low high = max (abs_diff c low) (abs_diff c high)

-- the squared length of the diagonal of the plane: no squared distance in it is greater
abbrev pub diagonal : ℕ
diagonal = 2 ^ (2 * COORDINATE_BITS + 1)

-- the key of the distance num/den: what it lacks to the diagonal, so that the farthest has the least key
abbrev pub far_key : (num den : ℕ) → 1 ≤ den → den ≤ MAX_DEN → Frac
far_key num den positive fits = record {
  num = diagonal * den - num;
  den = den;
  small = key_fits num den fits;
  positive = positive;
  fits = fits;
}

-- the key of a distance
abbrev pub key_of_gap : Frac → Frac
key_of_gap gap = far_key gap.num gap.den gap.positive gap.fits

-- the key of a rectangle: that of the greatest distance from it
abbrev pub key_of_rect : Point → Rect → Frac
key_of_rect p r = far_key (farthest p r) 1 (lit≤ tt) (lit≤ tt)
