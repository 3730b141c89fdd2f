-- Two segments: they share a point where they cross, and otherwise the least distance from an end is the least of all.
use Rattle.std.proofs.Common.{◌⊎◌, inl, inr, ℕ, ◌*◌, ◌≤◌, ℤ, pos, ◌*ℤ◌, ◌≤ℤ◌, ◌<ℤ◌, [], ◌∷◌, refl, sym, subst, arith}
use Rattle.std.proofs.lemmas.Int.{ints, by_lt_z}
use Rattle.exact_frac.specs.declared.frac.Frac.{Frac}
use Rattle.sand_base.specs.declared.point.Point.{Point}
use Rattle.sand_base.specs.declared.segment.Segment.{Segment}
use Rattle.sand_model.specs.Points.{RationalPoint, IsPoint, IsOnSegment}
use Rattle.sand_model.specs.Gap.{IsLeast}
use Rattle.plane_geom.specs.Expr.{◌⊕◌, ◌⊖◌, ◌⊗◌}
use Rattle.plane_geom.proofs.Order.{difference_nonneg, mul_nonneg, add_nonneg, pos_le}
use Rattle.plane_geom.proofs.Named.{inequality_scaled}
use Rattle.plane_geom.proofs.Squares.{square_nonneg}
use Rattle.plane_geom.specs.Crossing.{AreOpposed, Cross}
use Rattle.exact_frac.specs.Lesser.{IsAtMost, IsLesser}
use Rattle.plane_geom.specs.Vectors.{cross_of}
use Rattle.plane_geom.proofs.Apart.{AreApart}
use Rattle.plane_geom.proofs.Clear.{IsClear, AreClear, exchange}
use Rattle.plane_geom.proofs.Forms as form
use Rattle.plane_geom.proofs.Means.{point_hull, mean_on, first_end, second_end}
use Rattle.plane_geom.proofs.SegmentHull.{segment_hull}
use Rattle.plane_geom.proofs.Least.{Attained, least_of_clear, clear_of_least, attained_within, attained_exchanged}
use Rattle.plane_geom.proofs.OneSide.{EndsClear, left_clear, right_clear, exchanged_ends}
use Rattle.plane_geom.proofs.Signs.{natural, weak}

-- a vector that is as long as one fraction says is as long as each fraction says that is at most it
lesser_one : (m e m' e' x y k : ℤ) → pos 0 <ℤ e → pos 0 ≤ℤ e' → (m' *ℤ e) ≤ℤ (m *ℤ e') → IsClear m e x y k → IsClear m' e' x y k
lesser_one m e m' e' x y k he he' le h =
    inequality_scaled (m ∷ e ∷ m' ∷ e' ∷ x ∷ y ∷ k ∷ [])
    (λ m e m' e' x y k. (
      m' ⊗ (k ⊗ k),
      form.squares x y ⊗ e',
      e,
      e' ⊗ (form.squares x y ⊗ e ⊖ m ⊗ (k ⊗ k)) ⊕ (k ⊗ k) ⊗ (m ⊗ e' ⊖ m' ⊗ e),
    )) refl he
    (add_nonneg _ _ (mul_nonneg _ _ he' (difference_nonneg _ _ h)) (mul_nonneg _ _ (square_nonneg k) (difference_nonneg _ _ le)))

-- the same, of two fractions
pub at_most_one : (f g : Frac) (x y k : ℤ) → IsAtMost g f → IsClear (pos f.num) (pos f.den) x y k → IsClear (pos g.num) (pos g.den) x y k
at_most_one f g x y k le h =
    lesser_one (pos f.num) (pos f.den) (pos g.num) (pos g.den) x y k (above f.den f.positive) (natural g.den) (pos_le _ _ le) h
  where
    above : (n : ℕ) → 1 ≤ n → pos 0 <ℤ pos n
    above n h = omega (arith, ints)

-- and of two points
pub lesser_apart : (f g : Frac) (q z : RationalPoint) → IsAtMost g f → AreApart f.num f.den q z → AreApart g.num g.den q z
lesser_apart f g q z le h = at_most_one f g _ _ (pos (q.n * z.n)) le h

-- a bound by a fraction is one by each fraction that is at most it
at_most_clear : (f g : Frac) (a b c d : Point) → IsAtMost g f → AreClear (pos f.num) (pos f.den) a b c d
    → AreClear (pos g.num) (pos g.den) a b c d
at_most_clear f g a b c d le h i j u v wi wu = at_most_one f g _ _ _ le (h i j u v wi wu)

-- two integers are on one side of 0, or opposed
side_or_opposed : (x y : ℤ) → ((pos 0 ≤ℤ x) × (pos 0 ≤ℤ y)) ⊎ (((x ≤ℤ pos 0) × (y ≤ℤ pos 0)) ⊎ AreOpposed x y)
side_or_opposed x y =
    by_lt_z x (pos 0)
    (λ lx. by_lt_z (pos 0) y (λ ly. inr (inr (inl (lx, ly)))) (λ ly. inr (inl (weak x (pos 0) lx, ly))))
    (λ lx.
    by_lt_z y (pos 0)
    (λ ly. by_lt_z (pos 0) x (λ px. inr (inr (inr (px, ly)))) (λ px. inr (inl (px, weak y (pos 0) ly))))
    (λ ly. inl (lx, ly)))

-- where the segments don't cross, their ends decide
pub uncrossed_clear : (m e : ℤ) (s t : Segment) → pos 0 ≤ℤ e → EndsClear m e s.a s.b t.a t.b → ¬ Cross s t
    → AreClear m e s.a s.b t.a t.b
uncrossed_clear m e s t he h apart =
    elim (side_or_opposed (cross_of s.a s.b t.a) (cross_of s.a s.b t.b)) [
      | inl p ↦ left_clear m e s.a s.b t.a t.b he h p.0 p.1
      | inr r ↦ elim r [
        | inl p ↦ right_clear m e s.a s.b t.a t.b he h p.0 p.1
        | inr first ↦ elim (side_or_opposed (cross_of t.a t.b s.a) (cross_of t.a t.b s.b)) [
          | inl p ↦ exchange m e t.a t.b s.a s.b (left_clear m e t.a t.b s.a s.b he (exchanged_ends m e s.a s.b t.a t.b h) p.0 p.1)
          | inr q ↦ elim q [
            | inl p ↦ exchange m e t.a t.b s.a s.b (right_clear m e t.a t.b s.a s.b he (exchanged_ends m e s.a s.b t.a t.b h) p.0 p.1)
            | inr second ↦ absurd (apart (record { first = first; second = second }))
          ]
        ]
      ]
    ]

-- a pair as far apart as either of two fractions says is so far apart as the lesser says
pub lesser_attained : {A B : RationalPoint → Type 0} (x y lesser : Frac) → IsLesser x y lesser → Attained A B x.num x.den
    → Attained A B y.num y.den → Attained A B lesser.num lesser.den
lesser_attained {A} {B} x y lesser h hx hy =
    elim h.one [
      | inl e ↦ subst (λ (g : Frac). Attained A B g.num g.den) (sym e) hx
      | inr e ↦ subst (λ (g : Frac). Attained A B g.num g.den) (sym e) hy
    ]

-- the distances of the four ends from the other segment, and the least of them
pub record IsNearestEnd (s t : Segment) (a b of_s c d of_t least : Frac) : Type 0 where
  pub first_of_s : IsLeast (IsPoint s.a) (IsOnSegment t) a.num a.den
  pub second_of_s : IsLeast (IsPoint s.b) (IsOnSegment t) b.num b.den
  pub lesser_of_s : IsLesser a b of_s
  pub first_of_t : IsLeast (IsPoint t.a) (IsOnSegment s) c.num c.den
  pub second_of_t : IsLeast (IsPoint t.b) (IsOnSegment s) d.num d.den
  pub lesser_of_t : IsLesser c d of_t
  pub lesser : IsLesser of_s of_t least

-- some end is so far from the other segment as the least says
nearest_attained : (s t : Segment) (a b of_s c d of_t least : Frac) → IsNearestEnd s t a b of_s c d of_t least
    → Attained (IsOnSegment s) (IsOnSegment t) least.num least.den
nearest_attained s t a b of_s c d of_t least h =
    lesser_attained of_s of_t least h.lesser
    (lesser_attained a b of_s h.lesser_of_s
    (attained_within a.num a.den (λ q hq. mean_on s q (first_end s.a s.b q hq)) (λ r hr. hr) h.first_of_s.attained)
    (attained_within b.num b.den (λ q hq. mean_on s q (second_end s.a s.b q hq)) (λ r hr. hr) h.second_of_s.attained))
    (lesser_attained c d of_t h.lesser_of_t
    (attained_exchanged c.num c.den
    (attained_within c.num c.den (λ q hq. mean_on t q (first_end t.a t.b q hq)) (λ r hr. hr) h.first_of_t.attained))
    (attained_exchanged d.num d.den
    (attained_within d.num d.den (λ q hq. mean_on t q (second_end t.a t.b q hq)) (λ r hr. hr) h.second_of_t.attained)))

-- no end is nearer than the least says
nearest_clear : (s t : Segment) (a b of_s c d of_t least : Frac) → IsNearestEnd s t a b of_s c d of_t least
    → EndsClear (pos least.num) (pos least.den) s.a s.b t.a t.b
nearest_clear s t a b of_s c d of_t least h = record {
  first = at_most_clear of_s least s.a s.a t.a t.b h.lesser.first
      (at_most_clear a of_s s.a s.a t.a t.b h.lesser_of_s.first
      (clear_of_least s.a s.a t.a t.b a.num a.den (point_hull s.a) (segment_hull t) h.first_of_s));
  second = at_most_clear of_s least s.b s.b t.a t.b h.lesser.first
      (at_most_clear b of_s s.b s.b t.a t.b h.lesser_of_s.second
      (clear_of_least s.b s.b t.a t.b b.num b.den (point_hull s.b) (segment_hull t) h.second_of_s));
  third = exchange (pos least.num) (pos least.den) t.a t.a s.a s.b
      (at_most_clear of_t least t.a t.a s.a s.b h.lesser.second
      (at_most_clear c of_t t.a t.a s.a s.b h.lesser_of_t.first
      (clear_of_least t.a t.a s.a s.b c.num c.den (point_hull t.a) (segment_hull s) h.first_of_t)));
  fourth = exchange (pos least.num) (pos least.den) t.b t.b s.a s.b
      (at_most_clear of_t least t.b t.b s.a s.b h.lesser.second
      (at_most_clear d of_t t.b t.b s.a s.b h.lesser_of_t.second
      (clear_of_least t.b t.b s.a s.b d.num d.den (point_hull t.b) (segment_hull s) h.second_of_t)));
}

-- the least distance of an end is that of two segments that don't cross
pub nearest_least : (s t : Segment) (a b of_s c d of_t least : Frac) → IsNearestEnd s t a b of_s c d of_t least → ¬ Cross s t
    → IsLeast (IsOnSegment s) (IsOnSegment t) least.num least.den
nearest_least s t a b of_s c d of_t least h apart =
    least_of_clear s.a s.b t.a t.b least.num least.den (segment_hull s) (segment_hull t)
    (nearest_attained s t a b of_s c d of_t least h)
    (uncrossed_clear (pos least.num) (pos least.den) s t (natural least.den) (nearest_clear s t a b of_s c d of_t least h) apart)
