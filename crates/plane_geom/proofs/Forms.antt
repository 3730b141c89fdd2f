-- Words of the geometry on expressions, so that identities can be told in them.
use Rattle.plane_geom.specs.Expr.{Expr, ◌⊕◌, ◌⊖◌, ◌⊗◌}

-- the sum of two squares
abbrev pub squares : Expr → Expr → Expr
squares x y = x ⊗ x ⊕ y ⊗ y

-- the cross product of a - o and b - o, from the coordinates of the three
abbrev pub cross : Expr → Expr → Expr → Expr → Expr → Expr → Expr
cross ox oy ax ay bx by = (ax ⊖ ox) ⊗ (by ⊖ oy) ⊖ (ay ⊖ oy) ⊗ (bx ⊖ ox)

-- `offset`: along one axis, the way between two means
abbrev pub offset : Expr → Expr → Expr → Expr → Expr → Expr → Expr → Expr → Expr
offset a b c e i j u v = (i ⊗ a ⊕ j ⊗ b) ⊗ (u ⊕ v) ⊖ (u ⊗ c ⊕ v ⊗ e) ⊗ (i ⊕ j)

-- `drawn`: along one axis, what the drawn point has from the first end
abbrev pub drawn : Expr → Expr → Expr → Expr → Expr → Expr
drawn k al a c g = k ⊗ (c ⊖ a) ⊕ al ⊗ g
