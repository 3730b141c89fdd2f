-- Points that can be the border of a polygon, as a test.
use Rattle.std.proofs.Common.{◌≡◌, ◌^◌, Bool, true, false, ◌&&◌, leb, ltb, List, [], ◌∷◌, length, refl}
use Rattle.std.specs.Prelude.{All}
use Rattle.std.specs.List.{list_all}
use Rattle.std.proofs.lemmas.Bool.{and_parts, and_from, cond-true, cond-false, le-leb, leb-true, lt-ltb, ltb-true, false_from_ne_true}
use Rattle.std.proofs.lemmas.List.Elements.{All-nil, All-cons, All-head, All-tail}
use Rattle.sand_base.specs.Grid.{IsInPlane, IsRing}
use Rattle.sand_base.specs.declared.TheConstants.{COORDINATE_BITS}
use Rattle.sand_base.specs.declared.point.Point.{Point}
use Rattle.sand_base.specs.declared.shape.Shape.TheVariants as shape
use Rattle.script_text.specs.Rules.{is_ring, polygon}

-- the point is in the plane
abbrev in_plane : Point → Bool
in_plane p = ltb p.x (2 ^ COORDINATE_BITS) && ltb p.y (2 ^ COORDINATE_BITS)

-- all are
all-in : (ps : List Point) → All IsInPlane ps → list_all in_plane ps ≡ true
all-in [] h = refl
all-in (p ∷ ps) h =
    let first = All-head IsInPlane p ps h in
    and_from (in_plane p) (list_all in_plane ps) (and_from _ _ (lt-ltb p.x (2 ^ COORDINATE_BITS) first.x) (lt-ltb p.y (2 ^ COORDINATE_BITS) first.y)) (all-in ps (All-tail IsInPlane p ps h))

in-all : (ps : List Point) → list_all in_plane ps ≡ true → All IsInPlane ps
in-all [] h = All-nil IsInPlane
in-all (p ∷ ps) h =
    let two = and_parts (in_plane p) (list_all in_plane ps) h in
    let first = and_parts _ _ two.0 in
    All-cons IsInPlane p ps (record { x = ltb-true p.x (2 ^ COORDINATE_BITS) first.0; y = ltb-true p.y (2 ^ COORDINATE_BITS) first.1 }) (in-all ps two.1)

-- a ring passes the test
pub ring-passes : (ps : List Point) → IsRing ps → is_ring ps ≡ true
ring-passes ps h =
    and_from (leb 3 (length ps) && leb (length ps) 64) (list_all in_plane ps) (and_from _ _ (le-leb 3 (length ps) h.fewest) (le-leb (length ps) 64 h.most)) (all-in ps h.in_plane)

-- what passes it is a ring
pub passes-ring : (ps : List Point) → is_ring ps ≡ true → IsRing ps
passes-ring ps h =
    let two = and_parts (leb 3 (length ps) && leb (length ps) 64) (list_all in_plane ps) h in
    let sizes = and_parts (leb 3 (length ps)) (leb (length ps) 64) two.0 in
    record { fewest = leb-true 3 (length ps) sizes.0; most = leb-true (length ps) 64 sizes.1; in_plane = in-all ps two.1 }

-- what is no ring doesn't pass
pub no-ring : (ps : List Point) → (IsRing ps → ⊥) → is_ring ps ≡ false
no-ring ps h = false_from_ne_true (is_ring ps) (λ k. h (passes-ring ps k))

-- the polygon with a ring, and what stands for it where there is none
pub polygon-ring : (ps : List Point) → IsRing ps → polygon ps ≡ shape.Polygon ps
polygon-ring ps h = cond-true (is_ring ps) _ _ (ring-passes ps h)

pub polygon-none : (ps : List Point) → (IsRing ps → ⊥) → polygon ps ≡ shape.Point (record { x = 0; y = 0 })
polygon-none ps h = cond-false (is_ring ps) _ _ (no-ring ps h)
