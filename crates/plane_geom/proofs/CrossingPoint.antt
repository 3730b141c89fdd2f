-- Two segments that cross properly share the point where their lines meet.
use Rattle.std.proofs.Common.{◌≡◌, inl, inr, ℕ, ◌+◌, ◌*◌, ◌<◌, ℤ, pos, nat_abs, ◌+ℤ◌, ◌-ℤ◌, ◌*ℤ◌, ◌≤ℤ◌, ◌<ℤ◌, [], ◌∷◌, refl, ap₂, sym, ◌∙◌, subst, arith}
use Rattle.std.proofs.lemmas.Int.{ints}
use Rattle.sand_base.specs.declared.point.Point.{Point}
use Rattle.sand_base.specs.declared.segment.Segment.{Segment}
use Rattle.sand_model.specs.Points.{RationalPoint, IsOnSegment}
use Rattle.sand_model.specs.Gap.{IsLeast, square, common_square}
use Rattle.plane_geom.specs.Expr.{Expr, var, at, num, ◌⊕◌, ◌⊖◌, ◌⊗◌}
use Rattle.plane_geom.proofs.Ring.{ring}
use Rattle.plane_geom.proofs.Named.{identity}
use Rattle.plane_geom.proofs.Order.{add_nonneg, pos_abs}
use Rattle.plane_geom.proofs.Inequality.{le_ring}
use Rattle.plane_geom.proofs.Squares.{square_nonneg}
use Rattle.plane_geom.specs.Crossing.{Cross}
use Rattle.plane_geom.specs.Vectors.{cross_of}
use Rattle.plane_geom.proofs.Clear.{offset}
use Rattle.plane_geom.proofs.Forms as form
use Rattle.plane_geom.proofs.SegmentHull.{segment_hull}
use Rattle.plane_geom.proofs.Least.{Attained, attained_at, attained_exchanged}
use Rattle.plane_geom.proofs.Signs.{weak, turned_sign}

-- under the heights as weights, both means are one point
meets : (a b c d : Point)
    → let i = pos 0 -ℤ cross_of c d b in let j = cross_of c d a in let u = cross_of a b d in let v = pos 0 -ℤ cross_of a b c in
    (offset (pos a.x) (pos b.x) (pos c.x) (pos d.x) i j u v ≡ pos 0) × (offset (pos a.y) (pos b.y) (pos c.y) (pos d.y) i j u v ≡ pos 0)
meets a b c d =
    let coordinates = pos a.x ∷ pos a.y ∷ pos b.x ∷ pos b.y ∷ pos c.x ∷ pos c.y ∷ pos d.x ∷ pos d.y ∷ [] in (
      identity coordinates (λ ax ay bx by cx cy dx dy. (way ax bx cx dx ax ay bx by cx cy dx dy, num (pos 0))) refl,
      identity coordinates (λ ax ay bx by cx cy dx dy. (way ay by cy dy ax ay bx by cx cy dx dy, num (pos 0))) refl,
    )
  where
    way : Expr → Expr → Expr → Expr → Expr → Expr → Expr → Expr → Expr → Expr → Expr → Expr → Expr
    way a b c d ax ay bx by cx cy dx dy =
        form.offset a b c d (num (pos 0) ⊖ form.cross cx cy dx dy bx by) (form.cross cx cy dx dy ax ay)
        (form.cross ax ay bx by dx dy) (num (pos 0) ⊖ form.cross ax ay bx by cx cy)

-- the heights of the two segments differ by one number
heights_differ : (a b c d : Point) → cross_of c d a -ℤ cross_of c d b ≡ cross_of a b d -ℤ cross_of a b c
heights_differ a b c d =
    identity (pos a.x ∷ pos a.y ∷ pos b.x ∷ pos b.y ∷ pos c.x ∷ pos c.y ∷ pos d.x ∷ pos d.y ∷ [])
    (λ ax ay bx by cx cy dx dy. (
      form.cross cx cy dx dy ax ay ⊖ form.cross cx cy dx dy bx by,
      form.cross ax ay bx by dx dy ⊖ form.cross ax ay bx by cx cy,
    )) refl

-- equal weights give equal offsets
same_offset : (a b c d i j u v i' j' u' v' : ℤ) → i ≡ i' → j ≡ j' → u ≡ u' → v ≡ v' → offset a b c d i j u v ≡ offset a b c d i' j' u' v'
same_offset a b c d i j u v i' j' u' v' hi hj hu hv =
    ap₂ (λ s t. offset a b c d s t u v) hi hj ∙ ap₂ (λ s t. offset a b c d i' j' s t) hu hv

-- where a lies above the line of the second segment and b below, and d above that of the first and c below, a point is shared
left_shared : (s t : Segment) → pos 0 <ℤ cross_of t.a t.b s.a → cross_of t.a t.b s.b <ℤ pos 0
    → cross_of s.a s.b t.a <ℤ pos 0 → pos 0 <ℤ cross_of s.a s.b t.b → Attained (IsOnSegment s) (IsOnSegment t) 0 1
left_shared s t ha hb hc hd =
    let i = pos 0 -ℤ cross_of t.a t.b s.b in
    let j = cross_of t.a t.b s.a in
    let u = cross_of s.a s.b t.b in
    let v = pos 0 -ℤ cross_of s.a s.b t.a in
    let pi : pos (nat_abs i) ≡ i = pos_abs i (turned_sign _ (weak _ _ hb)) in
    let pj : pos (nat_abs j) ≡ j = pos_abs j (weak _ _ ha) in
    let pu : pos (nat_abs u) ≡ u = pos_abs u (weak _ _ hd) in
    let pv : pos (nat_abs v) ≡ v = pos_abs v (turned_sign _ (weak _ _ hc)) in
    attained_at s.a s.b t.a t.b 0 1 (segment_hull s) (segment_hull t) (nat_abs i) (nat_abs j) (nat_abs u) (nat_abs v)
    (some _ _ _ _ pi pj hb ha) (some' _ _ _ _ pu pv hd hc)
    (nothing _ _ (square (pos ((nat_abs i + nat_abs j) * (nat_abs u + nat_abs v))))
    (same_offset (pos s.a.x) (pos s.b.x) (pos t.a.x) (pos t.b.x) _ _ _ _ i j u v pi pj pu pv
    ∙ (meets s.a s.b t.a t.b).0)
    (same_offset (pos s.a.y) (pos s.b.y) (pos t.a.y) (pos t.b.y) _ _ _ _ i j u v pi pj pu pv
    ∙ (meets s.a s.b t.a t.b).1))
  where
    some : (i j : ℕ) (s t : ℤ) → pos i ≡ pos 0 -ℤ s → pos j ≡ t → s <ℤ pos 0 → pos 0 <ℤ t → 0 < i + j
    some i j s t e f h k = omega (arith, ints)

    some' : (u v : ℕ) (s t : ℤ) → pos u ≡ s → pos v ≡ pos 0 -ℤ t → pos 0 <ℤ s → t <ℤ pos 0 → 0 < u + v
    some' u v s t e f h k = omega (arith, ints)

    nothing : (x y k : ℤ) → x ≡ pos 0 → y ≡ pos 0 → ((x *ℤ x) +ℤ (y *ℤ y)) *ℤ pos 1 ≡ pos 0 *ℤ k
    nothing x y k e f =
        ap₂ (λ s t. ((s *ℤ s) +ℤ (t *ℤ t)) *ℤ pos 1) e f
        ∙ ring (at (k ∷ [])) ((num (pos 0) ⊗ num (pos 0) ⊕ num (pos 0) ⊗ num (pos 0)) ⊗ num (pos 1)) (num (pos 0) ⊗ var 0) refl

-- segments that cross share a point
pub crossing_shared : (s t : Segment) → Cross s t → Attained (IsOnSegment s) (IsOnSegment t) 0 1
crossing_shared s t h =
    elim h.first [
      | inl p ↦ elim h.second [
        | inl q ↦ absurd (against _ _ _ _ (heights_differ s.a s.b t.a t.b) q.0 q.1 p.0 p.1)
        | inr q ↦ left_shared s t q.0 q.1 p.0 p.1
      ]
      | inr p ↦ elim h.second [
        | inl q ↦ attained_exchanged 0 1 (left_shared t s p.0 p.1 q.0 q.1)
        | inr q ↦ absurd (against' _ _ _ _ (heights_differ s.a s.b t.a t.b) q.0 q.1 p.0 p.1)
      ]
    ]
  where
    against : (a b c d : ℤ) → a -ℤ b ≡ d -ℤ c → a <ℤ pos 0 → pos 0 <ℤ b → c <ℤ pos 0 → pos 0 <ℤ d → ⊥
    against a b c d e ha hb hc hd = omega (arith, ints)

    against' : (a b c d : ℤ) → a -ℤ b ≡ d -ℤ c → pos 0 <ℤ a → b <ℤ pos 0 → pos 0 <ℤ c → d <ℤ pos 0 → ⊥
    against' a b c d e ha hb hc hd = omega (arith, ints)

-- two sets that share a point are 0 apart
pub shared_least : {A B : RationalPoint → Type 0} (m e : ℕ) → m ≡ 0 → e ≡ 1 → Attained A B 0 1 → IsLeast A B m e
shared_least {A} {B} m e hm he t =
    subst (λ (n : ℕ). IsLeast A B n e) (sym hm)
    (subst (λ (n : ℕ). IsLeast A B 0 n) (sym he) (record { attained = t; least = λ q r hq hr. none _ _ (common_square q r) }))
  where
    none : (x y k : ℤ) → (pos 0 *ℤ k) ≤ℤ (((x *ℤ x) +ℤ (y *ℤ y)) *ℤ pos 1)
    none x y k =
        le_ring (at (x ∷ y ∷ k ∷ [])) (num (pos 0) ⊗ var 2) ((var 0 ⊗ var 0 ⊕ var 1 ⊗ var 1) ⊗ num (pos 1))
        (var 0 ⊗ var 0 ⊕ var 1 ⊗ var 1) refl (add_nonneg _ _ (square_nonneg x) (square_nonneg y))

-- segments that cross are 0 apart
pub crossing_least : (s t : Segment) (m e : ℕ) → m ≡ 0 → e ≡ 1 → Cross s t → IsLeast (IsOnSegment s) (IsOnSegment t) m e
crossing_least s t m e hm he h = shared_least m e hm he (crossing_shared s t h)
