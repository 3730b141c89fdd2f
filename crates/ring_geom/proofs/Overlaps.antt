-- A shape that meets a rectangle has a bounding rectangle that overlaps it, so others need no measuring.
use Rattle.std.proofs.Common.{◌≡◌, inl, inr, ℕ, ◌*◌, ◌<◌, ◌≤◌, ℤ, pos, ◌*ℤ◌, ◌≤ℤ◌, Bool, false, sym, ◌∙◌, arith}
use Rattle.std.specs.Prelude.{◌↔◌, IsTrue, nat_eq}
use Rattle.std.proofs.lemmas.Bool.{eqb-true, eq-eqb, false≢true}
use Rattle.std.proofs.lemmas.Int.{ints}
use Rattle.sand_base.specs.declared.goal.Goal.TheVariants as goal
use Rattle.sand_base.specs.declared.rect.Rect.{Rect}
use Rattle.sand_base.specs.declared.shape.Shape.{Shape}
use Rattle.sand_model.specs.Points.{RationalPoint, IsInRect}
use Rattle.sand_model.specs.FigureGap.{IsGapOf, IsMeeting}
use Rattle.sand_model.specs.Figures.{Holds, corners_of}
use Rattle.sand_model.specs.Rings.{grid}
use Rattle.plane_geom.proofs.Order.{chain_le, le_from_mul, le_pos}
use Rattle.plane_geom.proofs.Signs.{above_zero}
use Rattle.ring_geom.specs.Bounding.{AreCovered, Overlap}
use Rattle.ring_geom.proofs.Boxes.{points_in, held_in}
use Rattle.ring_geom.proofs.FigureGaps.{none_of, some_corner}
use Rattle.ring_geom.proofs.Region.{grid_in}
use Rattle.ring_geom.proofs.Touch.{touch_of_meets}
use Rattle.ring_geom.proofs.Zero.{meets_of_zero, zero_of_meets}

-- the bounds of a place are in order
between : (n a b : ℕ) (x : ℤ) → 0 < n → pos (n * a) ≤ℤ x → x ≤ℤ pos (n * b) → a ≤ b
between n a b x hn h k =
    le_pos a b (le_from_mul (pos a) (pos b) (pos n) (above_zero n hn) (turned (chain_le (pos n *ℤ pos a) x (pos n *ℤ pos b) h k)))
  where
    turned : (pos n *ℤ pos a) ≤ℤ (pos n *ℤ pos b) → (pos a *ℤ pos n) ≤ℤ (pos b *ℤ pos n)
    turned h = natural (n * a) (n * b) (a * n) (b * n) (omega arith) (omega arith) h
      where
        natural : (p q r s : ℕ) → p ≡ r → q ≡ s → pos p ≤ℤ pos q → pos r ≤ℤ pos s
        natural p q r s e f h = omega (arith, ints)

-- rectangles with a common point overlap
shared_overlap : (a b : Rect) (q : RationalPoint) → IsInRect a q → IsInRect b q → Overlap a b
shared_overlap a b q h k = record {
  left = between q.n a.low.x b.high.x q.x q.positive h.x.above k.x.below;
  right = between q.n b.low.x a.high.x q.x q.positive k.x.above h.x.below;
  below = between q.n a.low.y b.high.y q.y q.positive h.y.above k.y.below;
  above = between q.n b.low.y a.high.y q.y q.positive k.y.above h.y.below;
}

-- a rectangle that holds the vertices of a shape overlaps each that the shape meets
met_overlap : (s : Shape) (b r : Rect) → r.low.x ≤ r.high.x → r.low.y ≤ r.high.y → AreCovered (corners_of s) b
    → IsMeeting (goal.Shape s) (goal.Rect r) → Overlap b r
met_overlap s b r x y h m =
    elim (touch_of_meets (goal.Shape s) r m) [
      | inl c ↦ elim c [
        | inl k ↦ absurd (none_of {P = λ v. ⊥} (λ v k. k) (corners_of s) k)
        | inr k ↦
            let v = some_corner (Holds s) r x y k in
            shared_overlap b r (grid v.0) (grid_in v.0 b (held_in b s v.0 h v.2)) (grid_in v.0 r v.1)
      ]
      | inr p ↦ shared_overlap b r p.0 (points_in b s p.0 h p.1) p.2
    ]

-- where they overlap, the gap decides
pub measured : (s : Shape) (r : Rect) (m n e : ℕ) → 0 < e → n ≡ m → IsGapOf (goal.Shape s) (goal.Rect r) m e
    → IsTrue (nat_eq n 0) ↔ IsMeeting (goal.Shape s) (goal.Rect r)
measured s r m n e he hn h = (
  λ t. meets_of_zero (goal.Shape s) (goal.Rect r) m e he (sym hn ∙ eqb-true n 0 t) h,
  λ k. eq-eqb n 0 (hn ∙ zero_of_meets (goal.Shape s) (goal.Rect r) m e k h),
)

-- where they don't, the shape doesn't meet the rectangle
pub rejected : (s : Shape) (b r : Rect) (t : Bool) → r.low.x ≤ r.high.x → r.low.y ≤ r.high.y → AreCovered (corners_of s) b
    → t ≡ false → (Overlap b r → IsTrue t) → IsTrue t ↔ IsMeeting (goal.Shape s) (goal.Rect r)
rejected s b r t x y h e k = (
  λ yes. absurd (false≢true (sym e ∙ yes)),
  λ m. k (met_overlap s b r x y h m),
)
