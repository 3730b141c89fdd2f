-- Products of the steps from one grid point to two others.
use Rattle.std.specs.Prelude.{ℤ, pos, ◌+ℤ◌, ◌-ℤ◌, ◌*ℤ◌}
use Rattle.sand_base.specs.declared.point.Point.{Point}

-- the dot product of a - o and b - o
abbrev pub dot_of : Point → Point → Point → ℤ
dot_of o a b =
    ((pos a.x -ℤ pos o.x) *ℤ (pos b.x -ℤ pos o.x)) +ℤ ((pos a.y -ℤ pos o.y) *ℤ (pos b.y -ℤ pos o.y))

-- the cross product of a - o and b - o
abbrev pub cross_of : Point → Point → Point → ℤ
cross_of o a b =
    ((pos a.x -ℤ pos o.x) *ℤ (pos b.y -ℤ pos o.y)) -ℤ ((pos a.y -ℤ pos o.y) *ℤ (pos b.x -ℤ pos o.x))
