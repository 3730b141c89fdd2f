-- A rectangle that holds a figure is no farther from a goal than the figure.
use Rattle.std.proofs.Common.{◌≡◌, inl, inr, ℕ, ◌*◌, ◌≤◌, ℤ, pos, ◌-ℤ◌, ◌*ℤ◌, ◌≤ℤ◌, List, [], ◌∷◌, refl, sym, subst, arith}
use Rattle.std.proofs.Math.Nat.{mul-le-mul_left}
use Rattle.sand_base.specs.Plane.{IsGoalInClosedPlane}
use Rattle.sand_base.specs.declared.goal.Goal.{Goal}
use Rattle.sand_base.specs.declared.goal.Goal.TheVariants as goal
use Rattle.sand_base.specs.declared.point.Point.{Point}
use Rattle.sand_base.specs.declared.rect.Rect.{Rect}
use Rattle.sand_base.specs.declared.shape.Shape.{Shape}
use Rattle.sand_base.specs.declared.shape.Shape.TheVariants as shape
use Rattle.sand_model.specs.Points.{RationalPoint, IsWithin, IsOnSegment, IsInRect}
use Rattle.sand_model.specs.FigureGap.{IsCovering, IsGapOf}
use Rattle.sand_model.specs.Figures.{IsPointOf, IsPointOfFigure, HoldsInside, corners_of, vertices_of}
use Rattle.sand_model.specs.Gap.{scaled_distance, common_square}
use Rattle.sand_model.specs.Rings.{SomeOf, EachOf, chain, last_of, grid, IsOnRing}
use Rattle.plane_geom.specs.Expr.{var, num, at, ◌⊖◌, ◌⊗◌}
use Rattle.plane_geom.proofs.Ring.{ring_using}
use Rattle.plane_geom.proofs.Order.{le_by, le_from_mul, le_pos, mul_nonneg, difference_nonneg, chain_le, pos_le}
use Rattle.plane_geom.specs.Rectangles.{IsCovered}
use Rattle.plane_geom.proofs.GapOfPoints.{spot_is}
use Rattle.plane_geom.proofs.Signs.{natural}
use Rattle.ring_geom.specs.Bounding.{AreCovered, IsPartOf}
use Rattle.ring_geom.proofs.Boxes.{points_in, held_in, some_each}
use Rattle.ring_geom.proofs.Crossed.{first_on, second_on}
use Rattle.ring_geom.proofs.Decide.{decide_covering}
use Rattle.ring_geom.proofs.FigureGaps.{some_corner}
use Rattle.ring_geom.proofs.Region.{grid_in}
use Rattle.ring_geom.proofs.Touch.{gap_zero, touch_of_inside}
use Rattle.ring_geom.proofs.Zero.{scale_positive}

-- a pair that is as far apart as m / e says, and no nearer than n / d: then n / d is at most m / e
pub cross_bound : (q z : RationalPoint) (m e n d : ℕ) → scaled_distance q z *ℤ pos e ≡ pos m *ℤ common_square q z
    → (pos n *ℤ common_square q z) ≤ℤ (scaled_distance q z *ℤ pos d) → n * e ≤ m * d
cross_bound q z m e n d h k =
    le_pos (n * e) (m * d)
    (le_from_mul (pos (n * e)) (pos (m * d)) (common_square q z) (scale_positive q z)
    (le_by (pos (n * e) *ℤ common_square q z) (pos (m * d) *ℤ common_square q z) _
    (exchanged (scaled_distance q z) (pos m) (pos e) (pos n) (pos d) (common_square q z) h)
    (mul_nonneg (pos e) _ (natural e) (difference_nonneg _ _ k))))
  where
    exchanged : (f m e n d c : ℤ) → f *ℤ e ≡ m *ℤ c → ((m *ℤ d) *ℤ c) -ℤ ((n *ℤ e) *ℤ c) ≡ e *ℤ ((f *ℤ d) -ℤ (n *ℤ c))
    exchanged f m e n d c h =
        ring_using (at (f ∷ m ∷ e ∷ n ∷ d ∷ c ∷ [])) ((var 1 ⊗ var 4) ⊗ var 5 ⊖ (var 3 ⊗ var 2) ⊗ var 5)
        (var 2 ⊗ (var 0 ⊗ var 4 ⊖ var 3 ⊗ var 5)) (num (pos 0) ⊖ var 4) (var 0 ⊗ var 2) (var 1 ⊗ var 5) h refl

-- nothing is at most every fraction
pub none_at_most : (m e n d : ℕ) → n ≡ 0 → n * e ≤ m * d
none_at_most m e n d h = subst (λ (t : ℕ). t * e ≤ m * d) (sym h) (omega arith)

-- the vertices of a ring lie on its edges
vertex_on_ring : (P : Point → Type 0) (ring : List Point) → SomeOf P ring → (v : Point) × P v × IsOnRing ring (grid v)
vertex_on_ring P [] h = absurd h
vertex_on_ring P (first ∷ rest) h = on_chain (last_of first rest) (first ∷ rest) h
  where
    on_chain : (from : Point) (ps : List Point) → SomeOf P ps → (v : Point) × P v × SomeOf (λ s. IsOnSegment s (grid v)) (chain from ps)
    on_chain from [] h = absurd h
    on_chain from (to ∷ rest) h =
        elim h [
          | inl p ↦ (to, p, inl (second_on (record { a = from; b = to })))
          | inr more ↦ let v = on_chain to rest more in (v.0, v.1, inr v.2)
        ]

-- the vertices of a shape are points of it
pub corner_on : (s : Shape) (P : Point → Type 0) → SomeOf P (corners_of s) → (v : Point) × P v × IsPointOf s (grid v)
corner_on (shape.Point p) P h = elim h [ inl k ↦ (p, k, spot_is p) | inr none ↦ absurd none ]
corner_on (shape.Segment s) P h =
    elim h [
      | inl k ↦ (s.a, k, first_on s)
      | inr h ↦ elim h [ inl k ↦ (s.b, k, second_on s) | inr none ↦ absurd none ]
    ]
corner_on (shape.Polygon ring) P h = vertex_on_ring P ring h

-- and so are those of a figure in reach
pub vertex_on : (g : Goal) (P : Point → Type 0) → IsGoalInClosedPlane g → SomeOf P (vertices_of g) → (v : Point) × P v × IsPointOfFigure g (grid v)
vertex_on (goal.Shape s) P reach h = corner_on s P h
vertex_on (goal.Rect r) P reach h = let v = some_corner P r reach.x reach.y h in (v.0, v.2, grid_in v.0 r v.1)

-- a rectangle holds a figure: its points, its vertices and what is inside its ring
pub record IsHeld (a : Goal) (r : Rect) : Type 0 where
  pub points : (q : RationalPoint) → IsPointOfFigure a q → IsInRect r q
  pub vertices : EachOf (λ v. IsCovered v r) (vertices_of a)
  pub inner : (v : Point) → HoldsInside a v → IsCovered v r

-- one that holds the vertices of a shape holds the shape
pub shape_held : (s : Shape) (r : Rect) → AreCovered (corners_of s) r → IsHeld (goal.Shape s) r
shape_held s r h = record {
  points = λ q k. points_in r s q h k;
  vertices = h;
  inner = λ v k. held_in r s v h k;
}

-- and a rectangle holds its parts
pub part_held : (q r : Rect) → IsPartOf q r → IsHeld (goal.Rect q) r
part_held q r h = record {
  points = λ z k. record {
    x = wider q.low.x q.high.x r.low.x r.high.x z.n z.x h.low.left h.high.right k.x;
    y = wider q.low.y q.high.y r.low.y r.high.y z.n z.y h.low.bottom h.high.top k.y;
  };
  vertices = (
    h.low,
    (
      record { left = h.high.left; right = h.high.right; bottom = h.low.bottom; top = h.low.top },
      (record { left = h.low.left; right = h.low.right; bottom = h.high.bottom; top = h.high.top }, (h.high, tt)),
    ),
  );
  inner = λ v k. absurd k;
}
  where
    wider : (a b c d n : ℕ) (x : ℤ) → c ≤ a → b ≤ d → IsWithin a b n x → IsWithin c d n x
    wider a b c d n x h k w = record {
      above = chain_le _ _ _ (pos_le _ _ (mul-le-mul_left n h)) w.above;
      below = chain_le _ _ _ w.below (pos_le _ _ (mul-le-mul_left n k));
    }

-- a figure that holds a vertex of what a rectangle holds is 0 from the rectangle
zero_from : (g a : Goal) (r : Rect) (n d : ℕ) → IsGoalInClosedPlane g → IsHeld a r → IsCovering g a → IsGapOf g (goal.Rect r) n d → n ≡ 0
zero_from g a r n d reach held c h =
    gap_zero g r n d
    (elim c [
      | inl k ↦ let v = vertex_on g (HoldsInside a) reach k in inr (grid v.0, v.2, grid_in v.0 r (held.inner v.0 v.1))
      | inr k ↦
          some_each {P = λ v. IsCovered v r} {Q = HoldsInside g} (λ v covered inside. touch_of_inside g r v covered inside) (vertices_of a)
          held.vertices k
    ]) h

-- a rectangle that holds a figure is no farther from a goal than the figure
pub no_farther : (g a : Goal) (r : Rect) (m e n d : ℕ) → IsGoalInClosedPlane g → IsHeld a r → IsGapOf g a m e → IsGapOf g (goal.Rect r) n d
    → n * e ≤ m * d
no_farther g a r m e n d reach held h k =
    elim (decide_covering g a) [
      | inl c ↦ none_at_most m e n d (zero_from g a r n d reach held c k)
      | inr fails ↦ elim (decide_covering g (goal.Rect r)) [
        | inl c ↦ none_at_most m e n d (k.inside c)
        | inr none ↦
            let t = (h.outside fails).attained in
            cross_bound t.0 t.1 m e n d t.4 ((k.outside none).least t.0 t.1 t.2 (held.points t.1 t.3))
      ]
    ]

-- two rectangles that hold figures are 0 apart where a vertex of one is inside the other's ring
pair_zero : (a b : Goal) (r t : Rect) (n d : ℕ) → IsHeld a r → IsHeld b t → IsCovering a b → IsGapOf (goal.Rect r) (goal.Rect t) n d → n ≡ 0
pair_zero a b r t n d ha hb c h =
    gap_zero (goal.Rect r) t n d
    (inr (elim c [
      | inl k ↦
          some_each {P = λ v. IsCovered v r} {Q = HoldsInside b}
          (λ v covered inside. (grid v, grid_in v r covered, grid_in v t (hb.inner v inside))) (vertices_of a) ha.vertices k
      | inr k ↦
          some_each {P = λ v. IsCovered v t} {Q = HoldsInside a}
          (λ v covered inside. (grid v, grid_in v r (ha.inner v inside), grid_in v t covered)) (vertices_of b) hb.vertices k
    ])) h

-- and they are no farther apart than the figures
pub pair_no_farther : (a b : Goal) (r t : Rect) (m e n d : ℕ) → IsHeld a r → IsHeld b t → IsGapOf a b m e
    → IsGapOf (goal.Rect r) (goal.Rect t) n d → n * e ≤ m * d
pair_no_farther a b r t m e n d ha hb h k =
    elim (decide_covering a b) [
      | inl c ↦ none_at_most m e n d (pair_zero a b r t n d ha hb c k)
      | inr fails ↦ elim (decide_covering (goal.Rect r) (goal.Rect t)) [
        | inl c ↦ none_at_most m e n d (k.inside c)
        | inr none ↦
            let s = (h.outside fails).attained in
            cross_bound s.0 s.1 m e n d s.4 ((k.outside none).least s.0 s.1 (ha.points s.0 s.2) (hb.points s.1 s.3))
      ]
    ]

-- all gaps of two figures have one value
pub gap_unique : (a b : Goal) (m e n d : ℕ) → IsGapOf a b m e → IsGapOf a b n d → m * d ≡ n * e
gap_unique a b m e n d h k =
    elim (decide_covering a b) [
      | inl c ↦ both (none_at_most n d m e (h.inside c)) (none_at_most m e n d (k.inside c))
      | inr fails ↦
          let s = (h.outside fails).attained in
          let t = (k.outside fails).attained in
          both (cross_bound t.0 t.1 n d m e t.4 ((h.outside fails).least t.0 t.1 t.2 t.3))
          (cross_bound s.0 s.1 m e n d s.4 ((k.outside fails).least s.0 s.1 s.2 s.3))
    ]
  where
    both : m * d ≤ n * e → n * e ≤ m * d → m * d ≡ n * e
    both h k = omega arith
