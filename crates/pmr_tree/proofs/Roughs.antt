-- The rough shape of a value.
use Rattle.std.proofs.Common.{◌≡◌, ℕ, suc, ◌+◌, ◌/◌, ◌^◌, ◌<◌, ◌≤◌, Bool, true, false, cond, List, [], ◌∷◌, sym, ◌∙◌, ap, ap₂, subst, arith}
use Rattle.std.specs.Prelude.{nat_eq, min, max, All}
use Rattle.sand_base.specs.Plane.{IsInPlane, IsShapeInPlane, IsRectInPlane}
use Rattle.sand_base.specs.declared.TheConstants.{COORDINATE_BITS}
use Rattle.sand_base.specs.declared.point.Point.{Point}
use Rattle.sand_base.specs.declared.rect.Rect.{Rect}
use Rattle.sand_base.specs.declared.segment.Segment.{Segment}
use Rattle.sand_base.specs.declared.rough.Rough.TheVariants as rough
use Rattle.sand_base.specs.declared.shape.Shape.{Shape}
use Rattle.sand_base.specs.declared.shape.Shape.TheVariants as shape
use Rattle.sand_model.specs.Nodes.{rough_figure, bound_from}
use Rattle.pmr_tree.specs.Entries.{packed, value_of, figure_of, IsRoughInPlane}
use Rattle.pmr_tree.specs.Listing.{coordinate_in, point_in, rect_round, rough_in}

coordinate_small : (value bit : ℕ) → coordinate_in value bit < 2 ^ COORDINATE_BITS
coordinate_small value bit = omega arith

point_in_plane : (value bit : ℕ) → IsInPlane (point_in value bit)
point_in_plane value bit = record { x = coordinate_small value (bit + 31); y = coordinate_small value bit }

round_in_plane : (p q : Point) → IsInPlane p → IsInPlane q → IsRectInPlane (rect_round p q)
round_in_plane p q h k = record {
  low = record { x = omega (arith, h.x, k.x); y = omega (arith, h.y, k.y) };
  high = record { x = omega (arith, h.x, k.x); y = omega (arith, h.y, k.y) };
  x = omega arith;
  y = omega arith;
}

-- it lies in the plane, whatever the value
pub rough_in_plane : (value : ℕ) → IsRoughInPlane (rough_in value)
rough_in_plane value = go (nat_eq (value / 2 ^ 124) 2) (nat_eq (value / 2 ^ 124) 3) where
  a : IsInPlane (point_in value 62)
  a = point_in_plane value 62

  b : IsInPlane (point_in value 0)
  b = point_in_plane value 0

  go : (s r : Bool) → IsRoughInPlane (cond s (rough.Segment (record { a = point_in value 62; b = point_in value 0 }))
      (cond r (rough.Bound (rect_round (point_in value 62) (point_in value 0))) (rough.Point (point_in value 62))))
  go true r = record { a = a; b = b }
  go false true = round_in_plane (point_in value 62) (point_in value 0) a b
  go false false = a

-- the parts of a value whose coordinates lie in the plane
record Parts (tag a b c d value : ℕ) : Type 0 where
  tag_is : value / 2 ^ 124 ≡ tag
  first : coordinate_in value 93 ≡ a
  second : coordinate_in value 62 ≡ b
  third : coordinate_in value 31 ≡ c
  fourth : coordinate_in value 0 ≡ d

parts : (tag a b c d : ℕ) → a < 2 ^ COORDINATE_BITS → b < 2 ^ COORDINATE_BITS → c < 2 ^ COORDINATE_BITS → d < 2 ^ COORDINATE_BITS → Parts tag a b c d (packed tag a b c d)
parts tag a b c d ha hb hc hd = record {
  tag_is = omega (arith, ha, hb, hc, hd);
  first = omega (arith, ha, hb, hc, hd);
  second = omega (arith, ha, hb, hc, hd);
  third = omega (arith, ha, hb, hc, hd);
  fourth = omega (arith, ha, hb, hc, hd);
}

abbrev point_of : ℕ → ℕ → Point
point_of x y = record { x = x; y = y }

abbrev rect_of : Point → Point → Rect
rect_of p q = record { low = p; high = q }

point_is : (x y x' y' : ℕ) → x ≡ x' → y ≡ y' → point_of x y ≡ point_of x' y'
point_is x y x' y' e f = cc

back_point : (p : Point) → IsInPlane p → (value : ℕ) → value ≡ packed 1 p.x p.y 0 0 → rough_in value ≡ rough.Point p
back_point p h value e =
    let k = subst (Parts 1 p.x p.y 0 0) (sym e) (parts 1 p.x p.y 0 0 h.x h.y (omega arith) (omega arith)) in
    let no : nat_eq (value / 2 ^ 124) 2 ≡ false = ap (λ t. nat_eq t 2) k.tag_is in
    let nor : nat_eq (value / 2 ^ 124) 3 ≡ false = ap (λ t. nat_eq t 3) k.tag_is in
    let at : point_in value 62 ≡ p = point_is (coordinate_in value 93) (coordinate_in value 62) p.x p.y k.first k.second in
    rw (no, nor) (ap (λ q. rough.Point q) at)

back_segment : (s : Segment) → IsInPlane s.a → IsInPlane s.b → (value : ℕ) → value ≡ packed 2 s.a.x s.a.y s.b.x s.b.y → rough_in value ≡ rough.Segment s
back_segment s h i value e =
    let k = subst (Parts 2 s.a.x s.a.y s.b.x s.b.y) (sym e) (parts 2 s.a.x s.a.y s.b.x s.b.y h.x h.y i.x i.y) in
    let yes : nat_eq (value / 2 ^ 124) 2 ≡ true = ap (λ t. nat_eq t 2) k.tag_is in
    let a : point_in value 62 ≡ s.a = point_is (coordinate_in value 93) (coordinate_in value 62) s.a.x s.a.y k.first k.second in
    let b : point_in value 0 ≡ s.b = point_is (coordinate_in value 31) (coordinate_in value 0) s.b.x s.b.y k.third k.fourth in
    rw yes (ap₂ (λ p q. rough.Segment (record { a = p; b = q })) a b)

round_is : (r : Rect) → r.low.x ≤ r.high.x → r.low.y ≤ r.high.y → rect_round r.low r.high ≡ r
round_is r h k =
    let a : min r.low.x r.high.x ≡ r.low.x = omega (arith, h) in
    let b : min r.low.y r.high.y ≡ r.low.y = omega (arith, k) in
    let c : max r.low.x r.high.x ≡ r.high.x = omega (arith, h) in
    let d : max r.low.y r.high.y ≡ r.high.y = omega (arith, k) in
    ap₂ rect_of (point_is (min r.low.x r.high.x) (min r.low.y r.high.y) r.low.x r.low.y a b) (point_is (max r.low.x r.high.x) (max r.low.y r.high.y) r.high.x r.high.y c d)

back_bound : (r : Rect) → IsRectInPlane r → (value : ℕ) → value ≡ packed 3 r.low.x r.low.y r.high.x r.high.y → rough_in value ≡ rough.Bound r
back_bound r h value e =
    let k = subst (Parts 3 r.low.x r.low.y r.high.x r.high.y) (sym e) (parts 3 r.low.x r.low.y r.high.x r.high.y h.low.x h.low.y h.high.x h.high.y) in
    let no : nat_eq (value / 2 ^ 124) 2 ≡ false = ap (λ t. nat_eq t 2) k.tag_is in
    let yes : nat_eq (value / 2 ^ 124) 3 ≡ true = ap (λ t. nat_eq t 3) k.tag_is in
    let a : point_in value 62 ≡ r.low = point_is (coordinate_in value 93) (coordinate_in value 62) r.low.x r.low.y k.first k.second in
    let b : point_in value 0 ≡ r.high = point_is (coordinate_in value 31) (coordinate_in value 0) r.high.x r.high.y k.third k.fourth in
    rw (no, yes) (ap (λ q. rough.Bound q) (ap₂ rect_round a b ∙ round_is r h.x h.y))

-- the bounding rectangle of points in the plane lies in the plane
bound_in_plane : (first : Point) (more : List Point) → All IsInPlane (first ∷ more) → IsRectInPlane (bound_from first more)
bound_in_plane first [] h = let p = h 0 first (omega arith) in record { low = p; high = p; x = omega arith; y = omega arith }
bound_in_plane first (next ∷ more) h =
    let p = h 0 first (omega arith) in
    let r = bound_in_plane next more (λ k d l. h (suc k) d (omega (arith, l))) in record {
      low = record { x = omega (arith, p.x, r.low.x); y = omega (arith, p.y, r.low.y) };
      high = record { x = omega (arith, p.x, r.high.x); y = omega (arith, p.y, r.high.y) };
      x = omega (arith, r.x);
      y = omega (arith, r.y);
    }

-- the value of a rough shape gives it back
pub rough_back : (s : Shape) → IsShapeInPlane s → (value : ℕ) → value ≡ value_of (rough_figure s) → figure_of (rough_in value) ≡ rough_figure s
unfolding value_of
rough_back (shape.Point p) h value e = ap figure_of (back_point p h value e)
rough_back (shape.Segment s) h value e = ap figure_of (back_segment s h.a h.b value e)
rough_back (shape.Polygon []) h value e = absurd (omega (arith, h.fewest))
rough_back (shape.Polygon (first ∷ more)) h value e = ap figure_of (back_bound (bound_from first more) (bound_in_plane first more h.in_plane) value e)
