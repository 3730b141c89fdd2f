-- A shape that meets a rectangle is no farther from a point than the rectangle's farthest corner.
use Rattle.sand_model.specs.Sources.{spot_figure}
use Rattle.std.proofs.Common.{◌≡◌, ◌⊎◌, inl, inr, ℕ, ◌*◌, ◌≤◌, min, max, ℤ, pos, ◌*ℤ◌, ◌≤ℤ◌, [], ◌∷◌, refl, subst, arith}
use Rattle.sand_base.specs.declared.goal.Goal.TheVariants as figure
use Rattle.sand_base.specs.declared.point.Point.{Point}
use Rattle.sand_base.specs.declared.rect.Rect.{Rect}
use Rattle.sand_base.specs.declared.shape.Shape.{Shape}
use Rattle.sand_base.specs.declared.shape.Shape.TheVariants as shape
use Rattle.sand_model.specs.Points.{RationalPoint, IsInRect}
use Rattle.sand_model.specs.FigureGap.{IsGapOf, IsMeeting}
use Rattle.sand_model.specs.Figures.{IsPointOf, Holds, HoldsInside, vertices_of}
use Rattle.sand_model.specs.Gap.{scaled_distance, common_square}
use Rattle.sand_model.specs.Rings.{SomeOf, grid, edges}
use Rattle.plane_geom.specs.Expr.{var, at, ◌⊗◌}
use Rattle.plane_geom.proofs.Ring.{ring}
use Rattle.plane_geom.proofs.Order.{chain_le, le_from_mul, le_pos, mul_le}
use Rattle.plane_geom.specs.Rectangles.{IsCovered}
use Rattle.plane_geom.proofs.GapOfPoints.{spot_is}
use Rattle.plane_geom.proofs.Signs.{natural}
use Rattle.ring_geom.proofs.Decide.{decide_covering}
use Rattle.ring_geom.proofs.Region.{all_inside}
use Rattle.ring_geom.proofs.Touch.{touch_of_meets, ring_shared}
use Rattle.ring_geom.proofs.Zero.{scale_positive}
use Rattle.far_cursor.proofs.Axes.{by_axes, between, between_nearer, point_near}

-- a shape with a point in a rectangle is no farther than the farthest corner
shared_near : (p : Point) (s : Shape) (r : Rect) (q : RationalPoint) (m e : ℕ) → IsPointOf s q → IsInRect r q → IsGapOf (spot_figure p) (figure.Shape s) m e → m ≤ by_axes p r * e
shared_near p s r q m e on inside h =
    elim (decide_covering (spot_figure p) (figure.Shape s)) [
      | inl c ↦ nothing m (by_axes p r * e) (h.inside c)
      | inr fails ↦
          le_pos m (by_axes p r * e)
          (le_from_mul (pos m) (pos (by_axes p r * e)) (common_square (grid p) q) (scale_positive (grid p) q)
          (chain_le _ _ _ ((h.outside fails).least (grid p) q (spot_is p) on)
          (subst (λ t. (scaled_distance (grid p) q *ℤ pos e) ≤ℤ t) (turned (pos (by_axes p r)) (common_square (grid p) q) (pos e))
          (mul_le (scaled_distance (grid p) q) (pos (by_axes p r) *ℤ common_square (grid p) q) (pos e) (natural e) (point_near p r q inside)))))
    ]
  where
    nothing : (m n : ℕ) → m ≡ 0 → m ≤ n
    nothing m n h = omega arith

    turned : (g c e : ℤ) → (g *ℤ c) *ℤ e ≡ (g *ℤ e) *ℤ c
    turned g c e = ring (at (g ∷ c ∷ e ∷ [])) ((var 0 ⊗ var 1) ⊗ var 2) ((var 0 ⊗ var 2) ⊗ var 1) refl

-- both points lie in the rectangle between them
first_between : (p v : Point) → IsCovered p (between p v)
first_between p v = record { left = low p.x v.x; right = high p.x v.x; bottom = low p.y v.y; top = high p.y v.y }
  where
    low : (a b : ℕ) → min a b ≤ a
    low a b = omega arith

    high : (a b : ℕ) → a ≤ max a b
    high a b = omega arith

second_between : (p v : Point) → IsCovered v (between p v)
second_between p v = record { left = low p.x v.x; right = high p.x v.x; bottom = low p.y v.y; top = high p.y v.y }
  where
    low : (a b : ℕ) → min a b ≤ b
    low a b = omega arith

    high : (a b : ℕ) → b ≤ max a b
    high a b = omega arith

-- a ring with a corner inside is no farther than the corner: the point is inside too, or an edge comes between them
corner_near : (p : Point) (s : Shape) (v : Point) (r : Rect) (m e : ℕ) → (v.x ≡ r.low.x) ⊎ (v.x ≡ r.high.x) → (v.y ≡ r.low.y) ⊎ (v.y ≡ r.high.y) → Holds s v
    → IsGapOf (spot_figure p) (figure.Shape s) m e → m ≤ by_axes p r * e
corner_near p (shape.Point o) v r m e hx hy inside h = absurd inside
corner_near p (shape.Segment o) v r m e hx hy inside h = absurd inside
corner_near p (shape.Polygon ring) v r m e hx hy inside h =
    elim (all_inside ring (between p v) v p (second_between p v) (first_between p v) inside) [
      | inl met ↦
          let q = ring_shared (edges ring) (between p v) met in
          through m (by_axes p (between p v)) (by_axes p r) e (shared_near p (shape.Polygon ring) (between p v) q.0 m e q.1 q.2 h) (between_nearer p v r hx hy)
      | inr here ↦ nothing m (by_axes p r * e) (h.inside (inl (inl here)))
    ]
  where
    nothing : (m n : ℕ) → m ≡ 0 → m ≤ n
    nothing m n h = omega arith

    through : (m a b e : ℕ) → m ≤ a * e → a ≤ b → m ≤ b * e
    through m a b e h k = let more : e * a ≤ e * b = Rattle.std.proofs.Math.Nat.mul-le-mul_left e k in omega arith

-- a shape that meets a rectangle is no farther from a point than the rectangle's farthest corner
pub met_near : (p : Point) (s : Shape) (r : Rect) (m e : ℕ) → IsMeeting (figure.Shape s) (figure.Rect r) → IsGapOf (spot_figure p) (figure.Shape s) m e → m ≤ by_axes p r * e
met_near p s r m e met h =
    elim (touch_of_meets (figure.Shape s) r met) [
      | inr shared ↦ shared_near p s r shared.0 m e shared.1 shared.2 h
      | inl c ↦ elim c [
        | inl none ↦ absurd (no_ring (Rattle.sand_model.specs.Figures.corners_of s) none)
        | inr some ↦ corners some
      ]
    ]
  where
    no_ring : (ps : Rattle.std.specs.Prelude.List Point) → SomeOf (HoldsInside (figure.Rect r)) ps → ⊥
    no_ring [] k = k
    no_ring (p ∷ ps) k = elim k [ inl a ↦ a | inr b ↦ no_ring ps b ]

    corners : SomeOf (HoldsInside (figure.Shape s)) (vertices_of (figure.Rect r)) → m ≤ by_axes p r * e
    corners k =
        elim k [
          | inl a ↦ corner_near p s r.low r m e (inl refl) (inl refl) a h
          | inr k ↦ elim k [
            | inl a ↦ corner_near p s (record { x = r.high.x; y = r.low.y }) r m e (inr refl) (inl refl) a h
            | inr k ↦ elim k [
              | inl a ↦ corner_near p s (record { x = r.low.x; y = r.high.y }) r m e (inl refl) (inr refl) a h
              | inr k ↦ elim k [
                | inl a ↦ corner_near p s r.high r m e (inr refl) (inr refl) a h
                | inr none ↦ absurd none
              ]
            ]
          ]
        ]
