-- The gap of two figures from its two cases.
use Rattle.std.proofs.Common.{◌≡◌, ◌⊎◌, inl, inr, ℕ, ◌≤◌, List, [], ◌∷◌, arith}
use Rattle.sand_base.specs.declared.goal.Goal.{Goal}
use Rattle.sand_base.specs.declared.goal.Goal.TheVariants as goal
use Rattle.sand_base.specs.declared.point.Point.{Point}
use Rattle.sand_base.specs.declared.rect.Rect.{Rect}
use Rattle.sand_base.specs.declared.segment.Segment.{Segment}
use Rattle.sand_base.specs.declared.shape.Shape.{Shape}
use Rattle.sand_base.specs.declared.shape.Shape.TheVariants as shape
use Rattle.sand_model.specs.Points.{IsPoint, IsOnSegment, IsInRect}
use Rattle.sand_model.specs.FigureGap.{IsCovering, IsGapOf}
use Rattle.sand_model.specs.Figures.{IsPointOf, IsPointOfFigure, Holds, HoldsInside, corners_of, vertices_of}
use Rattle.sand_model.specs.Gap.{IsLeast}
use Rattle.sand_model.specs.Rings.{SomeOf, edges, IsOnRing, IsInside}
use Rattle.plane_geom.specs.Rectangles.{IsCovered, top_left, bottom_right}
use Rattle.plane_geom.proofs.Least.{least_exchanged}
use Rattle.ring_geom.proofs.Region.{all_inside}
use Rattle.ring_geom.proofs.Touch.{ring_shared, shared_none, low_covered}

-- what holds of no term holds of none
pub none_of : {A : Type 0} {P : A → Type 0} → ((x : A) → ¬ P x) → (xs : List A) → ¬ SomeOf P xs
none_of f [] h = h
none_of f (x ∷ xs) h = elim h [ inl p ↦ f x p | inr more ↦ none_of f xs more ]

-- where a vertex of one is inside the other
pub covering_gap : (a b : Goal) (m e : ℕ) → m ≡ 0 → IsCovering a b → IsGapOf a b m e
covering_gap a b m e hm c = record { inside = λ _. hm; outside = λ fails. absurd (fails c) }

-- where none is
pub least_gap : (a b : Goal) (m e : ℕ) → ¬ IsCovering a b → IsLeast (IsPointOfFigure a) (IsPointOfFigure b) m e → IsGapOf a b m e
least_gap a b m e fails h = record { inside = λ c. absurd (fails c); outside = λ _. h }

-- the other way round
pub gap_exchanged : (a b : Goal) (m e : ℕ) → IsGapOf a b m e → IsGapOf b a m e
gap_exchanged a b m e h = record {
  inside = λ c. h.inside (turned c);
  outside = λ fails. least_exchanged {A = IsPointOfFigure a} {B = IsPointOfFigure b} m e (h.outside (λ c. fails (turned c)));
}
  where
    turned : {P Q : Type 0} → P ⊎ Q → Q ⊎ P
    turned h = elim h [ inl p ↦ inr p | inr q ↦ inl q ]

-- two figures without a ring
pub ringless_gap : (a b : Goal) (m e : ℕ) → ((v : Point) → ¬ HoldsInside a v) → ((v : Point) → ¬ HoldsInside b v)
    → IsLeast (IsPointOfFigure a) (IsPointOfFigure b) m e → IsGapOf a b m e
ringless_gap a b m e ha hb h =
    least_gap a b m e (λ c. elim c [ inl k ↦ none_of hb (vertices_of a) k | inr k ↦ none_of ha (vertices_of b) k ]) h

-- two points
pub points_gap : (a b : Shape) (p q : Point) (m e : ℕ) → a ≡ shape.Point p → b ≡ shape.Point q → IsLeast (IsPoint p) (IsPoint q) m e
    → IsGapOf (goal.Shape a) (goal.Shape b) m e
points_gap a b p q m e is_a is_b h =
    rw (is_a, is_b) (ringless_gap (goal.Shape (shape.Point p)) (goal.Shape (shape.Point q)) m e (λ v k. k) (λ v k. k) h)

-- a point and a rectangle
pub point_rect_gap : (p : Point) (r : Rect) (m e : ℕ) → IsLeast (IsPoint p) (IsInRect r) m e
    → IsGapOf (goal.Shape (shape.Point p)) (goal.Rect r) m e
point_rect_gap p r m e h = ringless_gap (goal.Shape (shape.Point p)) (goal.Rect r) m e (λ v k. k) (λ v k. k) h

-- a segment and a rectangle
pub segment_rect_gap : (s : Segment) (r : Rect) (m e : ℕ) → IsLeast (IsOnSegment s) (IsInRect r) m e
    → IsGapOf (goal.Shape (shape.Segment s)) (goal.Rect r) m e
segment_rect_gap s r m e h = ringless_gap (goal.Shape (shape.Segment s)) (goal.Rect r) m e (λ v k. k) (λ v k. k) h

-- two rectangles
pub rects_gap : (q r : Rect) (m e : ℕ) → IsLeast (IsInRect q) (IsInRect r) m e → IsGapOf (goal.Rect q) (goal.Rect r) m e
rects_gap q r m e h = ringless_gap (goal.Rect q) (goal.Rect r) m e (λ v k. k) (λ v k. k) h

-- two shapes, where a test says whether a vertex of one is inside the other
pub shapes_inside : (a b : Shape) (m e : ℕ) → m ≡ 0 → SomeOf (Holds b) (corners_of a) ⊎ SomeOf (Holds a) (corners_of b)
    → IsGapOf (goal.Shape a) (goal.Shape b) m e
shapes_inside a b m e hm h = covering_gap (goal.Shape a) (goal.Shape b) m e hm h

pub shapes_outside : (a b : Shape) (m e : ℕ) → ¬ SomeOf (Holds b) (corners_of a) → ¬ SomeOf (Holds a) (corners_of b)
    → IsLeast (IsPointOf a) (IsPointOf b) m e → IsGapOf (goal.Shape a) (goal.Shape b) m e
shapes_outside a b m e fails none h =
    least_gap (goal.Shape a) (goal.Shape b) m e (λ c. elim c [ inl k ↦ fails k | inr k ↦ none k ]) h

-- a corner of a rectangle in order with some property is a grid point of it that has the property
pub some_corner : (P : Point → Type 0) (r : Rect) → r.low.x ≤ r.high.x → r.low.y ≤ r.high.y → SomeOf P (vertices_of (goal.Rect r))
    → (v : Point) × IsCovered v r × P v
some_corner P r x y h =
    elim h [
      | inl p ↦ (r.low, record { left = same _; right = x; bottom = same _; top = y }, p)
      | inr h ↦ elim h [
        | inl p ↦ (bottom_right r, record { left = x; right = same _; bottom = same _; top = y }, p)
        | inr h ↦ elim h [
          | inl p ↦ (top_left r, record { left = same _; right = x; bottom = y; top = same _ }, p)
          | inr h ↦ elim h [
            | inl p ↦ (r.high, record { left = x; right = same _; bottom = y; top = same _ }, p)
            | inr none ↦ absurd none
          ]
        ]
      ]
    ]
  where
    same : (n : ℕ) → n ≤ n
    same n = omega arith

-- a polygon and a rectangle whose low corner is outside: the edges decide
pub polygon_rect_gap : (ring : List Point) (r : Rect) (m e : ℕ) → r.low.x ≤ r.high.x → r.low.y ≤ r.high.y → ¬ IsInside ring r.low
    → IsLeast (IsOnRing ring) (IsInRect r) m e → IsGapOf (goal.Shape (shape.Polygon ring)) (goal.Rect r) m e
polygon_rect_gap ring r m e x y out h = record {
  inside = λ c.
      elim c [
        | inl k ↦ absurd (none_of {P = λ v. ⊥} (λ v k. k) ring k)
        | inr k ↦
            let v = some_corner (IsInside ring) r x y k in
            elim (all_inside ring r v.0 r.low v.1 (low_covered v.0 r v.1) v.2) [
              | inl m' ↦ shared_none {A = IsOnRing ring} {B = IsInRect r} m e (ring_shared (edges ring) r m') h
              | inr low ↦ absurd (out low)
            ]
      ];
  outside = λ _. h;
}
