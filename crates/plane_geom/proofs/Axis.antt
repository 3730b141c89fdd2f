-- The two axes: what holds along x and along y is told once, over an axis.
use Rattle.std.proofs.Common.{◌≡◌, ℕ, ℤ, pos, ◌+ℤ◌, ◌-ℤ◌, ◌*ℤ◌, [], ◌∷◌, refl}
use Rattle.sand_base.specs.declared.point.Point.{Point}
use Rattle.sand_base.specs.declared.rect.Rect.{Rect}
use Rattle.sand_model.specs.Points.{RationalPoint, IsWithin, IsInRect}
use Rattle.plane_geom.specs.Expr.{num, ◌⊕◌, ◌⊖◌, ◌⊗◌}
use Rattle.plane_geom.proofs.Named.{identity_using}
use Rattle.plane_geom.proofs.Forms as form

-- along x, or along y
pub data Axis : Type 0 where
  horizontal : Axis
  vertical : Axis

-- the other one
abbrev pub other : Axis → Axis
other horizontal = vertical
other vertical = horizontal

-- the coordinate of a grid point along the axis
abbrev pub coordinate : Axis → Point → ℕ
coordinate horizontal p = p.x
coordinate vertical p = p.y

-- the numerator of that of a rational point
abbrev pub numerator : Axis → RationalPoint → ℤ
numerator horizontal q = q.x
numerator vertical q = q.y

-- a value of the axis between the corners of the rectangle
abbrev pub IsInRange : Axis → Rect → RationalPoint → Type 0
IsInRange axis r q = IsWithin (coordinate axis r.low) (coordinate axis r.high) q.n (numerator axis q)

-- a point of the rectangle lies in its range along each axis
pub in_range : (axis : Axis) (r : Rect) (q : RationalPoint) → IsInRect r q → IsInRange axis r q
in_range horizontal r q h = h.x
in_range vertical r q h = h.y

-- and what lies in both ranges is a point of it
pub in_both : (axis : Axis) (r : Rect) (q : RationalPoint) → IsInRange axis r q → IsInRange (other axis) r q → IsInRect r q
in_both horizontal r q h k = record { x = h; y = k }
in_both vertical r q h k = record { x = k; y = h }

-- on the line of a step, a way has the same share of the step along both axes: that of its foot
pub foot_shares : (dx dy u v : ℤ) → (dx *ℤ v) -ℤ (dy *ℤ u) ≡ pos 0
    → (((dx *ℤ dx) +ℤ (dy *ℤ dy)) *ℤ u ≡ ((dx *ℤ u) +ℤ (dy *ℤ v)) *ℤ dx)
    × (((dx *ℤ dx) +ℤ (dy *ℤ dy)) *ℤ v ≡ ((dx *ℤ u) +ℤ (dy *ℤ v)) *ℤ dy)
foot_shares dx dy u v h =
    let xs = dx ∷ dy ∷ u ∷ v ∷ [] in (
      identity_using xs
          (λ dx dy u v. (form.squares dx dy ⊗ u, (dx ⊗ u ⊕ dy ⊗ v) ⊗ dx, num (pos 0) ⊖ dy, dx ⊗ v ⊖ dy ⊗ u, num (pos 0))) h refl,
      identity_using xs (λ dx dy u v. (form.squares dx dy ⊗ v, (dx ⊗ u ⊕ dy ⊗ v) ⊗ dy, dx, dx ⊗ v ⊖ dy ⊗ u, num (pos 0))) h refl,
    )
