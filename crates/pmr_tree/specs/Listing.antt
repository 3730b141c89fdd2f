-- What the entries of a leaf list: ids, each with its rough shape.
use Rattle.std.specs.Prelude.{ℕ, ◌+◌, ◌/◌, ◌%◌, ◌^◌, cond, List, map, filter, not, nat_eq, min, max}
use Rattle.sand_base.specs.declared.TheConstants.{COORDINATE_BITS}
use Rattle.sand_base.specs.declared.point.Point.{Point}
use Rattle.sand_base.specs.declared.rect.Rect.{Rect}
use Rattle.sand_base.specs.declared.rough.Rough.{Rough}
use Rattle.sand_base.specs.declared.rough.Rough.TheVariants as rough
use Rattle.pmr_tree.specs.Keys.{id_in}
use Rattle.pmr_tree.specs.declared.listed.Listed.{Listed}

-- a key with its value
abbrev pub Pair : Type 0
Pair = ℕ × ℕ

-- a coordinate of the plane in a value, from this bit on
abbrev pub coordinate_in : ℕ → ℕ → ℕ
coordinate_in value bit = value / 2 ^ bit % 2 ^ COORDINATE_BITS

-- a point in a value: y from this bit on, and x behind it
abbrev pub point_in : ℕ → ℕ → Point
point_in value bit = record { x = coordinate_in value (bit + 31); y = coordinate_in value bit }

-- the least closed rectangle that has both points
abbrev pub rect_round : Point → Point → Rect
rect_round p q = record {
  low = record { x = min p.x q.x; y = min p.y q.y };
  high = record { x = max p.x q.x; y = max p.y q.y };
}

-- the rough shape of a value; a value that no shape has gives some rough shape in the plane
abbrev pub rough_in : ℕ → Rough
rough_in value =
    cond (nat_eq (value / 2 ^ 124) 2) (rough.Segment (record { a = point_in value 62; b = point_in value 0 }))
    (cond (nat_eq (value / 2 ^ 124) 3) (rough.Bound (rect_round (point_in value 62) (point_in value 0))) (rough.Point (point_in value 62)))

-- the ids among the entries of a leaf, with their rough shapes
abbrev pub listed_in : List Pair → List Listed
listed_in es = filter (λ l. not (nat_eq l.id 0)) (map (λ e. record { id = id_in e.0; rough = rough_in e.1 }) es)
