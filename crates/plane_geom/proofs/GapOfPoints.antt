-- Two points: every pair of rational points that stand for them is as far apart as they are.
use Rattle.std.proofs.Common.{◌≡◌, ℕ, ◌*◌, ◌≤◌, ℤ, pos, ◌+ℤ◌, ◌-ℤ◌, ◌*ℤ◌, [], ◌∷◌, refl, ap, ap₂, sym, ◌∙◌, lit<, arith}
use Rattle.std.specs.Int.{abs_diff}
use Rattle.std.proofs.lemmas.Int.{ints}
use Rattle.sand_base.specs.declared.point.Point.{Point}
use Rattle.sand_model.specs.Points.{RationalPoint, IsPoint}
use Rattle.sand_model.specs.Gap.{IsLeast, square, scaled_distance, common_square}
use Rattle.plane_geom.specs.Expr.{var, at, num, ◌⊕◌, ◌⊖◌, ◌⊗◌}
use Rattle.plane_geom.proofs.Ring.{ring, ring_using_two}
use Rattle.plane_geom.specs.Vectors.{dot_of}
use Rattle.plane_geom.proofs.Signs.{same_le}

-- a grid point as a rational point
abbrev pub spot : Point → RationalPoint
spot p = record { x = pos p.x; y = pos p.y; n = 1; positive = lit< tt }

-- it stands for the grid point
pub spot_is : (p : Point) → IsPoint p (spot p)
spot_is p = record { x = once p.x; y = once p.y }
  where
    once : (n : ℕ) → pos n ≡ pos (1 * n)
    once n = let e : n ≡ 1 * n = omega arith in ap pos e

-- the difference along one axis, where both sides are multiples of grid coordinates
axis : (x n a u m b : ℤ) → x ≡ n *ℤ a → u ≡ m *ℤ b → x *ℤ m -ℤ u *ℤ n ≡ (n *ℤ m) *ℤ (a -ℤ b)
axis x n a u m b h k =
    ring_using_two (at (x ∷ n ∷ a ∷ u ∷ m ∷ b ∷ []))
    (var 0 ⊗ var 4 ⊖ var 3 ⊗ var 1) ((var 1 ⊗ var 4) ⊗ (var 2 ⊖ var 5))
    (var 4) (var 0) (var 1 ⊗ var 2)
    (num (pos 0) ⊖ var 1) (var 3) (var 4 ⊗ var 5) h k refl

-- the squares of both differences, over one common factor
both_axes : (s a b c d : ℤ) → square (s *ℤ (a -ℤ b)) +ℤ square (s *ℤ (c -ℤ d))
    ≡ (((b -ℤ a) *ℤ (b -ℤ a)) +ℤ ((d -ℤ c) *ℤ (d -ℤ c))) *ℤ square s
both_axes s a b c d =
    let left = var 0 ⊗ (var 1 ⊖ var 2) in
    let right = var 0 ⊗ (var 3 ⊖ var 4) in
    let across = var 2 ⊖ var 1 in
    let up = var 4 ⊖ var 3 in
    ring (at (s ∷ a ∷ b ∷ c ∷ d ∷ [])) (left ⊗ left ⊕ right ⊗ right) ((across ⊗ across ⊕ up ⊗ up) ⊗ (var 0 ⊗ var 0)) refl

-- two rational points that stand for a and b are as far apart as a and b
pub points_apart : (a b : Point) (q r : RationalPoint) → IsPoint a q → IsPoint b r → scaled_distance q r ≡ dot_of a b b *ℤ common_square q r
points_apart a b q r h k =
    ap₂ (λ u v. square u +ℤ square v)
    (axis q.x (pos q.n) (pos a.x) r.x (pos r.n) (pos b.x) h.x k.x)
    (axis q.y (pos q.n) (pos a.y) r.y (pos r.n) (pos b.y) h.y k.y)
    ∙ both_axes (pos (q.n * r.n)) (pos a.x) (pos b.x) (pos a.y) (pos b.y)

-- a whole distance as the fraction over 1
pub over_one : (f d c : ℤ) (n e : ℕ) → f ≡ d *ℤ c → pos n ≡ d → e ≡ 1 → f *ℤ pos e ≡ pos n *ℤ c
over_one f d c n e h k l = ap₂ (λ t u. t *ℤ pos u) h l ∙ one (d *ℤ c) ∙ ap (λ t. t *ℤ c) (sym k)
  where
    one : (t : ℤ) → t *ℤ pos 1 ≡ t
    one t = omega (arith, ints)

-- the squared length of the step is the gap of the two points
pub points_least : (a b : Point) (n e : ℕ) → pos n ≡ dot_of a b b → e ≡ 1 → IsLeast (IsPoint a) (IsPoint b) n e
points_least a b n e h k = record {
  attained = (spot a, spot b, spot_is a, spot_is b, same (spot a) (spot b) (spot_is a) (spot_is b));
  least = λ q r hq hr. same_le _ _ (sym (same q r hq hr));
}
  where
    same : (q r : RationalPoint) → IsPoint a q → IsPoint b r → scaled_distance q r *ℤ pos e ≡ pos n *ℤ common_square q r
    same q r hq hr = over_one (scaled_distance q r) (dot_of a b b) (common_square q r) n e (points_apart a b q r hq hr) h k

-- two coordinates up to a bound are at most the bound apart
pub apart_short : (r a b m : ℕ) → r ≡ abs_diff a b → a ≤ m → b ≤ m → r ≤ m
apart_short r a b m e ha hb = omega arith
