-- The edges of a ring, and which grid points lie inside it: even-odd, by the edges that a ray to the right crosses.
use Rattle.std.specs.Prelude.{◌⊎◌, pos, ◌-ℤ◌, ◌*ℤ◌, int_lt, nat_lt, Bool, true, false, not, ◌&&◌, ◌||◌, IsTrue, List, [], ◌∷◌}
use Rattle.std.proofs.Common.{lit<}
use Rattle.sand_base.specs.declared.point.Point.{Point}
use Rattle.sand_base.specs.declared.segment.Segment.{Segment}
use Rattle.sand_model.specs.Points.{RationalPoint, IsOnSegment}

-- some term of the list has the property
abbrev pub SomeOf : {A : Type 0} → (A → Type 0) → List A → Type 0
SomeOf P [] = ⊥
SomeOf P (x ∷ xs) = P x ⊎ SomeOf P xs

-- each term of the list has the property
abbrev pub EachOf : {A : Type 0} → (A → Type 0) → List A → Type 0
EachOf P [] = Unit {0}
EachOf P (x ∷ xs) = P x × EachOf P xs

-- a grid point as a rational point
abbrev pub grid : Point → RationalPoint
grid p = record { x = pos p.x; y = pos p.y; n = 1; positive = lit< tt }

-- the segments from a point to the first of the others, from that to the next, and so on
abbrev pub chain : Point → List Point → List Segment
chain from [] = []
chain from (to ∷ rest) = record { a = from; b = to } ∷ chain to rest

-- the last of some points that begin with the first
abbrev pub last_of : Point → List Point → Point
last_of first [] = first
last_of first (next ∷ rest) = last_of next rest

-- the edges of a ring: from the last vertex to the first, and from each to the next
abbrev pub edges : List Point → List Segment
edges [] = []
edges (first ∷ rest) = chain (last_of first rest) (first ∷ rest)

-- the rational point lies on an edge of the ring
abbrev pub IsOnRing : List Point → RationalPoint → Type 0
IsOnRing ring q = SomeOf (λ s. IsOnSegment s q) (edges ring)

-- a is at most as high as v, b is higher, and the edge from a to b crosses v's height to the right of v
abbrev pub rises_over : Point → Point → Point → Bool
rises_over v a b =
    not (nat_lt v.y a.y)
    && (nat_lt v.y b.y
    && int_lt ((pos v.x -ℤ pos a.x) *ℤ (pos b.y -ℤ pos a.y)) ((pos v.y -ℤ pos a.y) *ℤ (pos b.x -ℤ pos a.x)))

-- the ray from v to the right crosses the edge: just one end lies above the ray, and the crossing to the right of v
abbrev pub is_crossed : Point → Segment → Bool
is_crossed v s = rises_over v s.a s.b || rises_over v s.b s.a

-- just one of the two is true
abbrev pub differ : Bool → Bool → Bool
differ false b = b
differ true b = not b

-- the test holds of an odd number of terms
abbrev pub is_odd : {A : Type 0} → (A → Bool) → List A → Bool
is_odd test [] = false
is_odd test (x ∷ xs) = differ (test x) (is_odd test xs)

-- the grid point lies on an edge of the ring, or the ray from it to the right crosses an odd number of edges
abbrev pub IsInside : List Point → Point → Type 0
IsInside ring v = IsOnRing ring (grid v) ⊎ IsTrue (is_odd (is_crossed v) (edges ring))
