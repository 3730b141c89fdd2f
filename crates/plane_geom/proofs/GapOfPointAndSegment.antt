-- A point and a segment: the nearest point is an end that the point lies behind, or the foot of the height.
use Rattle.std.proofs.Common.{◌≡◌, ℕ, ◌+◌, ◌<◌, ℤ, pos, ◌+ℤ◌, ◌-ℤ◌, ◌*ℤ◌, ◌≤ℤ◌, ◌<ℤ◌, [], ◌∷◌, refl, ap, ap₂, sym, ◌∙◌, subst, lit<, nat_abs, arith}
use Rattle.std.proofs.lemmas.Int.{ints}
use Rattle.sand_base.specs.declared.point.Point.{Point}
use Rattle.sand_base.specs.declared.segment.Segment.{Segment}
use Rattle.sand_model.specs.Points.{IsPoint, IsOnSegment}
use Rattle.sand_model.specs.Gap.{IsLeast}
use Rattle.plane_geom.specs.Expr.{var, at, num, ◌⊕◌, ◌⊖◌, ◌⊗◌}
use Rattle.plane_geom.proofs.Ring.{ring}
use Rattle.plane_geom.proofs.Order.{mul_nonneg, add_nonneg, pos_abs}
use Rattle.plane_geom.proofs.Named.{inequality}
use Rattle.plane_geom.proofs.Squares.{square_nonneg}
use Rattle.plane_geom.specs.Vectors.{dot_of, cross_of}
use Rattle.plane_geom.proofs.Clear.{IsClear, IsWeights, AreClear, offset, as_long, farther, turn_second}
use Rattle.plane_geom.proofs.Forms as form
use Rattle.plane_geom.proofs.Means.{point_hull, mean_on, first_end, second_end}
use Rattle.plane_geom.proofs.SegmentHull.{segment_hull}
use Rattle.plane_geom.proofs.Least.{least_of_clear, clear_of_least, attained_at, attained_within}
use Rattle.plane_geom.proofs.Signs.{natural, once, turned_sign}

-- along one axis, the way from a mean of a and b to a multiple of p, told from a
from_first : (p a b i j u v : ℤ) → offset p p a b i j u v ≡ (i +ℤ j) *ℤ (((u +ℤ v) *ℤ (p -ℤ a)) -ℤ (v *ℤ (b -ℤ a)))
from_first p a b i j u v =
    ring (at (p ∷ a ∷ b ∷ i ∷ j ∷ u ∷ v ∷ []))
    ((var 3 ⊗ var 0 ⊕ var 4 ⊗ var 0) ⊗ (var 5 ⊕ var 6) ⊖ (var 5 ⊗ var 1 ⊕ var 6 ⊗ var 2) ⊗ (var 3 ⊕ var 4))
    ((var 3 ⊕ var 4) ⊗ ((var 5 ⊕ var 6) ⊗ (var 0 ⊖ var 1) ⊖ var 6 ⊗ (var 2 ⊖ var 1))) refl

-- from a point behind the first end, every mean is at least as far as that end
behind_far : (s u v dx dy px py : ℤ) → pos 0 ≤ℤ u → pos 0 ≤ℤ v → ((dx *ℤ px) +ℤ (dy *ℤ py)) ≤ℤ pos 0
    → (((px *ℤ px) +ℤ (py *ℤ py)) *ℤ ((s *ℤ (u +ℤ v)) *ℤ (s *ℤ (u +ℤ v))))
    ≤ℤ (((s *ℤ (((u +ℤ v) *ℤ px) -ℤ (v *ℤ dx))) *ℤ (s *ℤ (((u +ℤ v) *ℤ px) -ℤ (v *ℤ dx))))
    +ℤ ((s *ℤ (((u +ℤ v) *ℤ py) -ℤ (v *ℤ dy))) *ℤ (s *ℤ (((u +ℤ v) *ℤ py) -ℤ (v *ℤ dy)))))
behind_far s u v dx dy px py hu hv h =
    inequality (s ∷ u ∷ v ∷ dx ∷ dy ∷ px ∷ py ∷ [])
    (λ s u v dx dy px py.
    let k = s ⊗ (u ⊕ v) in (
      form.squares px py ⊗ (k ⊗ k),
      form.squares (s ⊗ ((u ⊕ v) ⊗ px ⊖ v ⊗ dx)) (s ⊗ ((u ⊕ v) ⊗ py ⊖ v ⊗ dy)),
      (s ⊗ s) ⊗ ((v ⊗ v) ⊗ form.squares dx dy ⊕ (num (pos 2) ⊗ ((u ⊕ v) ⊗ v)) ⊗ (num (pos 0) ⊖ (dx ⊗ px ⊕ dy ⊗ py))),
    )) refl
    (mul_nonneg _ _ (square_nonneg s)
    (add_nonneg _ _ (mul_nonneg _ _ (square_nonneg v) (add_nonneg _ _ (square_nonneg dx) (square_nonneg dy)))
    (mul_nonneg _ _ (mul_nonneg (pos 2) _ (omega (arith, ints)) (mul_nonneg _ _ (add_nonneg u v hu hv) hv)) (turned_sign _ h))))

-- a point behind the first end of a segment is as far from the segment as from that end
behind_clear : (m e : ℤ) (p a b : Point) → pos 0 ≤ℤ e
    → IsClear m e (pos p.x -ℤ pos a.x) (pos p.y -ℤ pos a.y) (pos 1) → dot_of a b p ≤ℤ pos 0 → AreClear m e p p a b
behind_clear m e p a b he h behind i j u v wi wu =
    as_long m e _ _ _ _ _ _
    (farther m e _ _ _ _ _ he h
    (behind_far (i +ℤ j) u v (pos b.x -ℤ pos a.x) (pos b.y -ℤ pos a.y) (pos p.x -ℤ pos a.x) (pos p.y -ℤ pos a.y) wu.first wu.second behind))
    (sym (from_first (pos p.x) (pos a.x) (pos b.x) i j u v)) (sym (from_first (pos p.y) (pos a.y) (pos b.y) i j u v)) refl

-- no point of the line is nearer than the height over it
foot_far : (s u v dx dy px py : ℤ)
    → ((((dx *ℤ py) -ℤ (dy *ℤ px)) *ℤ ((dx *ℤ py) -ℤ (dy *ℤ px))) *ℤ ((s *ℤ (u +ℤ v)) *ℤ (s *ℤ (u +ℤ v))))
    ≤ℤ ((((s *ℤ (((u +ℤ v) *ℤ px) -ℤ (v *ℤ dx))) *ℤ (s *ℤ (((u +ℤ v) *ℤ px) -ℤ (v *ℤ dx))))
    +ℤ ((s *ℤ (((u +ℤ v) *ℤ py) -ℤ (v *ℤ dy))) *ℤ (s *ℤ (((u +ℤ v) *ℤ py) -ℤ (v *ℤ dy))))) *ℤ ((dx *ℤ dx) +ℤ (dy *ℤ dy)))
foot_far s u v dx dy px py =
    inequality (s ∷ u ∷ v ∷ dx ∷ dy ∷ px ∷ py ∷ [])
    (λ s u v dx dy px py.
    let x = s ⊗ ((u ⊕ v) ⊗ px ⊖ v ⊗ dx) in
    let y = s ⊗ ((u ⊕ v) ⊗ py ⊖ v ⊗ dy) in
    let cross = dx ⊗ py ⊖ dy ⊗ px in
    let shift = dx ⊗ x ⊕ dy ⊗ y in (
      (cross ⊗ cross) ⊗ ((s ⊗ (u ⊕ v)) ⊗ (s ⊗ (u ⊕ v))),
      form.squares x y ⊗ form.squares dx dy,
      shift ⊗ shift,
    )) refl (square_nonneg _)

-- the height over a segment's line bounds the distance of all its points
foot_clear : (p a b : Point) → AreClear (cross_of a b p *ℤ cross_of a b p) (dot_of a b b) p p a b
foot_clear p a b i j u v wi wu =
    as_long (cross_of a b p *ℤ cross_of a b p) (dot_of a b b) _ _ _ _ _ _
    (foot_far (i +ℤ j) u v (pos b.x -ℤ pos a.x) (pos b.y -ℤ pos a.y) (pos p.x -ℤ pos a.x) (pos p.y -ℤ pos a.y))
    (sym (from_first (pos p.x) (pos a.x) (pos b.x) i j u v)) (sym (from_first (pos p.y) (pos a.y) (pos b.y) i j u v)) refl

-- the squared distance of the foot: the square of the cross product over that of the length
foot_exact : (dx dy px py l f : ℤ) → l ≡ (dx *ℤ dx) +ℤ (dy *ℤ dy) → f ≡ (dx *ℤ px) +ℤ (dy *ℤ py)
    → ((((l *ℤ px) -ℤ (f *ℤ dx)) *ℤ ((l *ℤ px) -ℤ (f *ℤ dx))) +ℤ (((l *ℤ py) -ℤ (f *ℤ dy)) *ℤ ((l *ℤ py) -ℤ (f *ℤ dy)))) *ℤ l
    ≡ (((dx *ℤ py) -ℤ (dy *ℤ px)) *ℤ ((dx *ℤ py) -ℤ (dy *ℤ px))) *ℤ (l *ℤ l)
foot_exact dx dy px py l f e g =
    subst
    (λ t. ((((t *ℤ px) -ℤ (f *ℤ dx)) *ℤ ((t *ℤ px) -ℤ (f *ℤ dx))) +ℤ (((t *ℤ py) -ℤ (f *ℤ dy)) *ℤ ((t *ℤ py) -ℤ (f *ℤ dy)))) *ℤ t
    ≡ (((dx *ℤ py) -ℤ (dy *ℤ px)) *ℤ ((dx *ℤ py) -ℤ (dy *ℤ px))) *ℤ (t *ℤ t))
    (sym e)
    (subst
    (λ t. ((((long *ℤ px) -ℤ (t *ℤ dx)) *ℤ ((long *ℤ px) -ℤ (t *ℤ dx))) +ℤ (((long *ℤ py) -ℤ (t *ℤ dy)) *ℤ ((long *ℤ py) -ℤ (t *ℤ dy)))) *ℤ long
    ≡ (((dx *ℤ py) -ℤ (dy *ℤ px)) *ℤ ((dx *ℤ py) -ℤ (dy *ℤ px))) *ℤ (long *ℤ long))
    (sym g)
    (let l = var 0 ⊗ var 0 ⊕ var 1 ⊗ var 1 in
    let f = var 0 ⊗ var 2 ⊕ var 1 ⊗ var 3 in
    let x = l ⊗ var 2 ⊖ f ⊗ var 0 in
    let y = l ⊗ var 3 ⊖ f ⊗ var 1 in
    let cross = var 0 ⊗ var 3 ⊖ var 1 ⊗ var 2 in
    ring (at (dx ∷ dy ∷ px ∷ py ∷ [])) ((x ⊗ x ⊕ y ⊗ y) ⊗ l) ((cross ⊗ cross) ⊗ (l ⊗ l)) refl))
  where
    long : ℤ
    long = (dx *ℤ dx) +ℤ (dy *ℤ dy)

-- the way from the foot to the point, along one axis
foot_offset : (p a b u v l f : ℤ) → u +ℤ v ≡ l → v ≡ f → offset p p a b (pos 1) (pos 0) u v ≡ (l *ℤ (p -ℤ a)) -ℤ (f *ℤ (b -ℤ a))
foot_offset p a b u v l f e g =
    from_first p a b (pos 1) (pos 0) u v ∙ ap₂ (λ s t. pos 1 *ℤ ((s *ℤ (p -ℤ a)) -ℤ (t *ℤ (b -ℤ a)))) e g
    ∙ once ((l *ℤ (p -ℤ a)) -ℤ (f *ℤ (b -ℤ a)))

-- an equal factor
times_same : (s t l : ℤ) → t ≡ l → s *ℤ t ≡ s *ℤ l
times_same s t l h = ap (λ x. s *ℤ x) h

-- under the foot's weights, the point is so far from the segment
foot_apart : (p a b : Point) (u v m e : ℤ) → u +ℤ v ≡ dot_of a b b → v ≡ dot_of a b p → m ≡ cross_of a b p *ℤ cross_of a b p
    → e ≡ dot_of a b b
    → ((offset (pos p.x) (pos p.x) (pos a.x) (pos b.x) (pos 1) (pos 0) u v *ℤ offset (pos p.x) (pos p.x) (pos a.x) (pos b.x) (pos 1) (pos 0) u v)
    +ℤ (offset (pos p.y) (pos p.y) (pos a.y) (pos b.y) (pos 1) (pos 0) u v *ℤ offset (pos p.y) (pos p.y) (pos a.y) (pos b.y) (pos 1) (pos 0) u v)) *ℤ e
    ≡ m *ℤ ((pos 1 *ℤ (u +ℤ v)) *ℤ (pos 1 *ℤ (u +ℤ v)))
foot_apart p a b u v m e hl hf hm he =
    let l = dot_of a b b in
    let f = dot_of a b p in
    ap₂ (λ x y. ((x *ℤ x) +ℤ (y *ℤ y)) *ℤ e)
    (foot_offset (pos p.x) (pos a.x) (pos b.x) u v l f hl hf) (foot_offset (pos p.y) (pos a.y) (pos b.y) u v l f hl hf)
    ∙ times_same _ e l he
    ∙ foot_exact (pos b.x -ℤ pos a.x) (pos b.y -ℤ pos a.y) (pos p.x -ℤ pos a.x) (pos p.y -ℤ pos a.y) l f refl refl
    ∙ sym (ap₂ (λ s t. s *ℤ (t *ℤ t)) hm (once (u +ℤ v) ∙ hl))

-- the least distance of two points bounds the step between them
two_points : (p a : Point) (m e : ℕ) → IsLeast (IsPoint p) (IsPoint a) m e
    → IsClear (pos m) (pos e) (pos p.x -ℤ pos a.x) (pos p.y -ℤ pos a.y) (pos 1)
two_points p a m e h =
    let one : IsWeights (pos 1) (pos 0) = record { first = omega (arith, ints); second = omega (arith, ints); some = omega (arith, ints) } in
    as_long (pos m) (pos e) _ _ (pos 1) _ _ _
    (clear_of_least p p a a m e (point_hull p) (point_hull a) h (pos 1) (pos 0) (pos 1) (pos 0) one one)
    (step (pos p.x) (pos a.x)) (step (pos p.y) (pos a.y)) refl
  where
    step : (p a : ℤ) → offset p p a a (pos 1) (pos 0) (pos 1) (pos 0) ≡ p -ℤ a
    step p a =
        let one = num (pos 1) in
        let none = num (pos 0) in
        ring (at (p ∷ a ∷ [])) ((one ⊗ var 0 ⊕ none ⊗ var 0) ⊗ (one ⊕ none) ⊖ (one ⊗ var 1 ⊕ none ⊗ var 1) ⊗ (one ⊕ none))
        (var 0 ⊖ var 1) refl

-- a point beyond the second end lies behind it, seen from that end
from_other : (a b p : Point) → dot_of a b b ≤ℤ dot_of a b p → dot_of b a p ≤ℤ pos 0
from_other a b p h =
    turned _ _ _ (same (pos a.x) (pos a.y) (pos b.x) (pos b.y) (pos p.x) (pos p.y)) h
  where
    turned : (t f l : ℤ) → t ≡ l -ℤ f → l ≤ℤ f → t ≤ℤ pos 0
    turned t f l e h = omega (arith, ints)

    same : (ax ay bx by px py : ℤ)
        → ((ax -ℤ bx) *ℤ (px -ℤ bx)) +ℤ ((ay -ℤ by) *ℤ (py -ℤ by))
        ≡ (((bx -ℤ ax) *ℤ (bx -ℤ ax)) +ℤ ((by -ℤ ay) *ℤ (by -ℤ ay)))
        -ℤ (((bx -ℤ ax) *ℤ (px -ℤ ax)) +ℤ ((by -ℤ ay) *ℤ (py -ℤ ay)))
    same ax ay bx by px py =
        let dx = var 2 ⊖ var 0 in
        let dy = var 3 ⊖ var 1 in
        ring (at (ax ∷ ay ∷ bx ∷ by ∷ px ∷ py ∷ []))
        ((var 0 ⊖ var 2) ⊗ (var 4 ⊖ var 2) ⊕ (var 1 ⊖ var 3) ⊗ (var 5 ⊖ var 3))
        ((dx ⊗ dx ⊕ dy ⊗ dy) ⊖ (dx ⊗ (var 4 ⊖ var 0) ⊕ dy ⊗ (var 5 ⊖ var 1))) refl

-- the first end is the nearest point of a segment to a point that lies behind it
pub behind_least : (p : Point) (s : Segment) (m e : ℕ) → IsLeast (IsPoint p) (IsPoint s.a) m e → dot_of s.a s.b p ≤ℤ pos 0
    → IsLeast (IsPoint p) (IsOnSegment s) m e
behind_least p s m e h behind =
    least_of_clear p p s.a s.b m e (point_hull p) (segment_hull s)
    (attained_within m e (λ q hq. hq) (λ r hr. mean_on s r (first_end s.a s.b r hr)) h.attained)
    (behind_clear (pos m) (pos e) p s.a s.b (natural e) (two_points p s.a m e h) behind)

-- the second end is the nearest point of a segment to a point that lies beyond it
pub beyond_least : (p : Point) (s : Segment) (m e : ℕ) → IsLeast (IsPoint p) (IsPoint s.b) m e
    → dot_of s.a s.b s.b ≤ℤ dot_of s.a s.b p → IsLeast (IsPoint p) (IsOnSegment s) m e
beyond_least p s m e h beyond =
    least_of_clear p p s.a s.b m e (point_hull p) (segment_hull s)
    (attained_within m e (λ q hq. hq) (λ r hr. mean_on s r (second_end s.a s.b r hr)) h.attained)
    (turn_second (pos m) (pos e) p p s.b s.a
    (behind_clear (pos m) (pos e) p s.b s.a (natural e) (two_points p s.b m e h)
    (from_other s.a s.b p beyond)))

-- the foot of the height is the nearest point of a segment to a point between its ends
pub foot_least : (p : Point) (s : Segment) (m e : ℕ) → pos 0 ≤ℤ dot_of s.a s.b p → dot_of s.a s.b p <ℤ dot_of s.a s.b s.b
    → pos m ≡ cross_of s.a s.b p *ℤ cross_of s.a s.b p → pos e ≡ dot_of s.a s.b s.b → IsLeast (IsPoint p) (IsOnSegment s) m e
foot_least p s m e h k hm he =
    let f = nat_abs (dot_of s.a s.b p) in
    let g = nat_abs (dot_of s.a s.b s.b -ℤ dot_of s.a s.b p) in
    let hf : pos f ≡ dot_of s.a s.b p = pos_abs _ h in
    let hg : pos g ≡ dot_of s.a s.b s.b -ℤ dot_of s.a s.b p = pos_abs _ (weak_difference _ _ k) in
    let sum : pos g +ℤ pos f ≡ dot_of s.a s.b s.b = both _ _ _ _ hg hf in
    least_of_clear p p s.a s.b m e (point_hull p) (segment_hull s)
    (attained_at p p s.a s.b m e (point_hull p) (segment_hull s) 1 0 g f (lit< tt)
    (some g f _ _ sum h k)
    (foot_apart p s.a s.b (pos g) (pos f) (pos m) (pos e) sum hf hm he))
    (subst (λ t. AreClear t (pos e) p p s.a s.b) (sym hm)
    (subst (λ t. AreClear (cross_of s.a s.b p *ℤ cross_of s.a s.b p) t p p s.a s.b) (sym he) (foot_clear p s.a s.b)))
  where
    weak_difference : (a b : ℤ) → a <ℤ b → pos 0 ≤ℤ (b -ℤ a)
    weak_difference a b h = omega (arith, ints)

    both : (g f l d : ℤ) → g ≡ l -ℤ d → f ≡ d → g +ℤ f ≡ l
    both g f l d h k = omega (arith, ints)

    some : (g f : ℕ) (l d : ℤ) → pos g +ℤ pos f ≡ l → pos 0 ≤ℤ d → d <ℤ l → 0 < g + f
    some g f l d e h k = omega (arith, ints)
