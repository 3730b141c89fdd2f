-- A grid point lies on a segment where it lies on the line of the segment and in the box round it.
use Rattle.std.proofs.Common.{◌≡◌, ℕ, ◌*◌, ◌≤◌, min, max, ℤ, pos, ◌-ℤ◌, ◌*ℤ◌, ◌≤ℤ◌, [], ◌∷◌, refl, ap, sym, ◌∙◌, subst, arith}
use Rattle.std.proofs.Math.Nat.{mul-le-mul_left}
use Rattle.std.proofs.lemmas.Int.{ints}
use Rattle.sand_base.specs.declared.point.Point.{Point}
use Rattle.sand_base.specs.declared.segment.Segment.{Segment}
use Rattle.sand_model.specs.Points.{RationalPoint, IsPoint, IsWithin, cross_at}
use Rattle.plane_geom.specs.Expr.{var, at, num, ◌⊖◌, ◌⊗◌}
use Rattle.plane_geom.proofs.Ring.{ring_using_two}
use Rattle.plane_geom.specs.Incidence.{IsBetween, IsInBox, LiesOn}
use Rattle.plane_geom.specs.Vectors.{cross_of}
use Rattle.plane_geom.proofs.GapOfPoints.{spot, spot_is}
use Rattle.plane_geom.proofs.Signs.{once}

-- the cross product at what stands for p is the one at p, times the denominator
line_is : (a b p : Point) (q : RationalPoint) → IsPoint p q → cross_at a b q ≡ pos q.n *ℤ cross_of a b p
line_is a b p q h = plain (pos b.x -ℤ pos a.x) (pos b.y -ℤ pos a.y) (pos q.n) q.x q.y (pos p.x) (pos p.y) (pos a.x) (pos a.y) h.x h.y
  where
    plain : (dx dy n x y px py ax ay : ℤ) → x ≡ n *ℤ px → y ≡ n *ℤ py
        → (dx *ℤ (y -ℤ (n *ℤ ay))) -ℤ (dy *ℤ (x -ℤ (n *ℤ ax))) ≡ n *ℤ ((dx *ℤ (py -ℤ ay)) -ℤ (dy *ℤ (px -ℤ ax)))
    plain dx dy n x y px py ax ay h k =
        ring_using_two (at (dx ∷ dy ∷ n ∷ x ∷ y ∷ px ∷ py ∷ ax ∷ ay ∷ []))
        (var 0 ⊗ (var 4 ⊖ var 2 ⊗ var 8) ⊖ var 1 ⊗ (var 3 ⊖ var 2 ⊗ var 7))
        (var 2 ⊗ (var 0 ⊗ (var 6 ⊖ var 8) ⊖ var 1 ⊗ (var 5 ⊖ var 7)))
        (num (pos 0) ⊖ var 1) (var 3) (var 2 ⊗ var 5)
        (var 0) (var 4) (var 2 ⊗ var 6) h k refl

-- a coordinate between two bounds is so over each denominator
within : (a b v n : ℕ) (x : ℤ) → x ≡ pos (n * v) → IsBetween a b v → IsWithin (min a b) (max a b) n x
within a b v n x e h = record {
  above = subst (λ t. pos (n * min a b) ≤ℤ t) (sym e) (in_order (mul-le-mul_left n h.above));
  below = subst (λ t. t ≤ℤ pos (n * max a b)) (sym e) (in_order (mul-le-mul_left n h.below));
}
  where
    in_order : {p q : ℕ} → p ≤ q → pos p ≤ℤ pos q
    in_order h = omega (arith, ints)

-- a point of the line in the box lies on the segment
pub lies_on : (p : Point) (s : Segment) → cross_of s.a s.b p ≡ pos 0 → IsInBox p s → LiesOn p s
lies_on p s e h q hq = record {
  line = line_is s.a s.b p q hq ∙ ap (λ t. pos q.n *ℤ t) e ∙ none (pos q.n);
  x = within s.a.x s.b.x p.x q.n q.x hq.x h.x;
  y = within s.a.y s.b.y p.y q.n q.y hq.y h.y;
}
  where
    none : (n : ℤ) → n *ℤ pos 0 ≡ pos 0
    none n = omega (arith, ints)

-- a point of the segment is on its line
pub on_its_line : (p : Point) (s : Segment) → LiesOn p s → cross_of s.a s.b p ≡ pos 0
on_its_line p s h =
    sym (once (cross_of s.a s.b p)) ∙ sym (line_is s.a s.b p (spot p) (spot_is p)) ∙ (h (spot p) (spot_is p)).line

-- and in its box
pub in_its_box : (p : Point) (s : Segment) → LiesOn p s → IsInBox p s
in_its_box p s h =
    let on = h (spot p) (spot_is p) in
    record { x = whole s.a.x s.b.x p.x on.x; y = whole s.a.y s.b.y p.y on.y }
  where
    back : (a b v : ℕ) → pos (1 * a) ≤ℤ pos v → pos v ≤ℤ pos (1 * b) → (a ≤ v) × (v ≤ b)
    back a b v h k = (omega (arith, ints), omega (arith, ints))

    whole : (a b v : ℕ) → IsWithin (min a b) (max a b) 1 (pos v) → IsBetween a b v
    whole a b v w = let t = back (min a b) (max a b) v w.above w.below in record { above = t.0; below = t.1 }
