-- Of rectangles that tile one which holds a shape, one meets the shape and is no farther from a goal than the shape.
use Rattle.std.proofs.Common.{◌≡◌, inl, inr, ℕ, ◌*◌, ◌≤◌, pos, ◌*ℤ◌, List, [], ◌∷◌, length, arith}
use Rattle.sand_model.specs.Gap.{scaled_distance, common_square}
use Rattle.std.specs.Prelude.{All}
use Rattle.std.proofs.lemmas.List.Elements.{All-head, All-tail}
use Rattle.sand_base.specs.Grid.{IsInPlane, IsInClosedPlane}
use Rattle.sand_base.specs.Plane.{IsGoalInClosedPlane, IsShapeInClosedPlane}
use Rattle.sand_base.specs.declared.goal.Goal.{Goal}
use Rattle.sand_base.specs.declared.goal.Goal.TheVariants as goal
use Rattle.sand_base.specs.declared.point.Point.{Point}
use Rattle.sand_base.specs.declared.rect.Rect.{Rect}
use Rattle.sand_base.specs.declared.shape.Shape.{Shape}
use Rattle.sand_base.specs.declared.shape.Shape.TheVariants as shape
use Rattle.sand_model.specs.Points.{RationalPoint, IsInRect}
use Rattle.sand_model.specs.FigureGap.{IsGapOf, IsMeeting}
use Rattle.sand_model.specs.Figures.{IsPointOf, IsPointOfFigure, Holds, HoldsInside, corners_of}
use Rattle.sand_model.specs.Rings.{SomeOf, EachOf, grid}
use Rattle.plane_geom.specs.Rectangles.{IsCovered}
use Rattle.ring_geom.specs.Bounding.{AreCovered, whole_square}
use Rattle.ring_geom.specs.Quarters.{Tiles}
use Rattle.ring_geom.proofs.Boxes.{points_in, held_in, covered_back}
use Rattle.ring_geom.proofs.Decide.{decide_covering}
use Rattle.ring_geom.proofs.EdgeLemmas.{corner_of_plane}
use Rattle.ring_geom.proofs.Farther.{corner_on, vertex_on, cross_bound, none_at_most}
use Rattle.ring_geom.proofs.Region.{grid_in, some_also}
use Rattle.ring_geom.proofs.Touch.{Touches, gap_zero, meets_of_touch, touch_of_inside}

-- each gap of the goal and the rectangle is at most m / e
abbrev pub IsWithinGap : Goal → Goal → ℕ → ℕ → Type 0
IsWithinGap a b m e = (n d : ℕ) → IsGapOf a b n d → n * e ≤ m * d

-- a part that the shape meets, and that is no farther from the goal than m / e
abbrev pub IsReached : Goal → Shape → ℕ → ℕ → Rect → Type 0
IsReached g s m e part = IsMeeting (goal.Shape s) (goal.Rect part) × IsWithinGap g (goal.Rect part) m e

-- what touches a rectangle is 0 from it
touch_within : (g : Goal) (part : Rect) (m e : ℕ) → Touches g part → IsWithinGap g (goal.Rect part) m e
touch_within g part m e t n d h = none_at_most m e n d (gap_zero g part n d t h)

-- the tiles at a grid point that the shape's ring holds and that lies on the goal
held_reached : (g : Goal) (s : Shape) (root : Rect) (parts : List Rect) (m e : ℕ) (v : Point) → AreCovered (corners_of s) root
    → Tiles root parts → Holds s v → IsPointOfFigure g (grid v) → SomeOf (IsReached g s m e) parts
held_reached g s root parts m e v h tiles inside on =
    some_also {P = λ part. IsInRect part (grid v)} {Q = IsReached g s m e}
    (λ part k. (
      meets_of_touch (goal.Shape s) part (touch_of_inside (goal.Shape s) part v (covered_back v part k) inside),
      touch_within g part m e (inr (grid v, on, k)),
    )) parts (tiles (grid v) (grid_in v root (held_in root s v h inside)))

-- those at a vertex of the shape that the goal's ring holds
holding_reached : (g : Goal) (s : Shape) (root : Rect) (parts : List Rect) (m e : ℕ) (v : Point) → AreCovered (corners_of s) root
    → Tiles root parts → HoldsInside g v → IsPointOf s (grid v) → SomeOf (IsReached g s m e) parts
holding_reached g s root parts m e v h tiles inside on =
    some_also {P = λ part. IsInRect part (grid v)} {Q = IsReached g s m e}
    (λ part k. (
      meets_of_touch (goal.Shape s) part (inr (grid v, on, k)),
      touch_within g part m e (touch_of_inside g part v (covered_back v part k) inside),
    )) parts (tiles (grid v) (points_in root s (grid v) h on))

-- those at the point of the shape that is nearest to the goal
nearest_reached : (g : Goal) (s : Shape) (root : Rect) (parts : List Rect) (m e : ℕ) (q z : RationalPoint) → AreCovered (corners_of s) root
    → Tiles root parts → IsPointOfFigure g q → IsPointOf s z → scaled_distance q z *ℤ pos e ≡ pos m *ℤ common_square q z → SomeOf (IsReached g s m e) parts
nearest_reached g s root parts m e q z h tiles on_goal on apart =
    some_also {P = λ part. IsInRect part z} {Q = IsReached g s m e}
    (λ part k. (
      meets_of_touch (goal.Shape s) part (inr (z, on, k)),
      λ n d gap.
          elim (decide_covering g (goal.Rect part)) [
            | inl c ↦ none_at_most m e n d (gap.inside c)
            | inr fails ↦ cross_bound q z m e n d apart ((gap.outside fails).least q z on_goal k)
          ],
    )) parts (tiles z (points_in root s z h on))

-- of the tiles one is reached
pub tiles_cover : (g : Goal) (s : Shape) (root : Rect) (parts : List Rect) (m e : ℕ) → IsGoalInClosedPlane g → AreCovered (corners_of s) root
    → Tiles root parts → IsGapOf g (goal.Shape s) m e → SomeOf (IsReached g s m e) parts
tiles_cover g s root parts m e reach h tiles gap =
    elim (decide_covering g (goal.Shape s)) [
      | inl c ↦ elim c [
        | inl k ↦
            let v = vertex_on g (Holds s) reach k in
            held_reached g s root parts m e v.0 h tiles v.1 v.2
        | inr k ↦
            let v = corner_on s (HoldsInside g) k in
            holding_reached g s root parts m e v.0 h tiles v.1 v.2
      ]
      | inr fails ↦
          let t = (gap.outside fails).attained in
          nearest_reached g s root parts m e t.0 t.1 h tiles t.2 t.3 t.4
    ]

-- a pair of parts that two shapes meet, and that are no farther apart than m / e
abbrev pub IsPairReached : Shape → Shape → ℕ → ℕ → Rect → Rect → Type 0
IsPairReached a b m e part other =
    IsMeeting (goal.Shape a) (goal.Rect part) × IsMeeting (goal.Shape b) (goal.Rect other) × IsWithinGap (goal.Rect part) (goal.Rect other) m e

-- a pair of tiles, each at its place
some_pair : {P Q : Rect → Type 0} {R : Rect → Rect → Type 0} → ((p o : Rect) → P p → Q o → R p o) → (parts others : List Rect)
    → SomeOf P parts → SomeOf Q others → SomeOf (λ p. SomeOf (R p) others) parts
some_pair {P} {Q} {R} f parts others hp ho =
    some_also {P = P} {Q = λ p. SomeOf (R p) others} (λ p kp. some_also {P = Q} {Q = R p} (λ o ko. f p o kp ko) others ho) parts hp

-- of the pairs of tiles of two rectangles that hold shapes one is reached
pub tiles_cover_pairs : (a b : Shape) (root root' : Rect) (parts others : List Rect) (m e : ℕ) → AreCovered (corners_of a) root
    → AreCovered (corners_of b) root' → Tiles root parts → Tiles root' others → IsGapOf (goal.Shape a) (goal.Shape b) m e
    → SomeOf (λ p. SomeOf (IsPairReached a b m e p) others) parts
tiles_cover_pairs a b root root' parts others m e ha hb ta tb gap =
    elim (decide_covering (goal.Shape a) (goal.Shape b)) [
      | inl c ↦ elim c [
        | inl k ↦
            let v = corner_on a (Holds b) k in
            some_pair {P = λ p. IsInRect p (grid v.0)} {Q = λ o. IsInRect o (grid v.0)} {R = IsPairReached a b m e}
            (λ p o kp ko. (
              meets_of_touch (goal.Shape a) p (inr (grid v.0, v.2, kp)),
              meets_of_touch (goal.Shape b) o (touch_of_inside (goal.Shape b) o v.0 (covered_back v.0 o ko) v.1),
              touch_within (goal.Rect p) o m e (inr (grid v.0, kp, ko)),
            )) parts others (ta (grid v.0) (points_in root a (grid v.0) ha v.2)) (tb (grid v.0) (grid_in v.0 root' (held_in root' b v.0 hb v.1)))
        | inr k ↦
            let v = corner_on b (Holds a) k in
            some_pair {P = λ p. IsInRect p (grid v.0)} {Q = λ o. IsInRect o (grid v.0)} {R = IsPairReached a b m e}
            (λ p o kp ko. (
              meets_of_touch (goal.Shape a) p (touch_of_inside (goal.Shape a) p v.0 (covered_back v.0 p kp) v.1),
              meets_of_touch (goal.Shape b) o (inr (grid v.0, v.2, ko)),
              touch_within (goal.Rect p) o m e (inr (grid v.0, kp, ko)),
            )) parts others (ta (grid v.0) (grid_in v.0 root (held_in root a v.0 ha v.1))) (tb (grid v.0) (points_in root' b (grid v.0) hb v.2))
      ]
      | inr fails ↦
          let t = (gap.outside fails).attained in
          some_pair {P = λ p. IsInRect p t.0} {Q = λ o. IsInRect o t.1} {R = IsPairReached a b m e}
          (λ p o kp ko. (
            meets_of_touch (goal.Shape a) p (inr (t.0, t.2, kp)),
            meets_of_touch (goal.Shape b) o (inr (t.1, t.3, ko)),
            λ n d h.
                elim (decide_covering (goal.Rect p) (goal.Rect o)) [
                  | inl c ↦ none_at_most m e n d (h.inside c)
                  | inr apart ↦ cross_bound t.0 t.1 m e n d t.4 ((h.outside apart).least t.0 t.1 kp ko)
                ],
          )) parts others (ta t.0 (points_in root a t.0 ha t.2)) (tb t.1 (points_in root' b t.1 hb t.3))
    ]

-- a rectangle that holds the vertices of a shape meets it, since there is a first one
pub holder_meets : (s : Shape) (r : Rect) → IsShapeInClosedPlane s → AreCovered (corners_of s) r → IsMeeting (goal.Shape s) (goal.Rect r)
holder_meets s r reach h =
    let v = corner_on s (λ p. IsCovered p r) (first_covered s reach h) in
    meets_of_touch (goal.Shape s) r (inr (grid v.0, v.2, grid_in v.0 r v.1))
  where
    some_first : (P : Point → Type 0) (ps : List Point) → 3 ≤ length ps → EachOf P ps → SomeOf P ps
    some_first P [] l h = absurd (omega arith)
    some_first P (p ∷ ps) l h = inl h.0

    first_covered : (s : Shape) → IsShapeInClosedPlane s → AreCovered (corners_of s) r → SomeOf (λ p. IsCovered p r) (corners_of s)
    first_covered (shape.Point p) reach h = inl h.0
    first_covered (shape.Segment t) reach h = inl h.0
    first_covered (shape.Polygon ring) reach h = some_first (λ p. IsCovered p r) ring reach.fewest h

-- a corner lies in the whole square
corner_covered : (p : Point) → IsInClosedPlane p → IsCovered p whole_square
corner_covered p h = record { left = least p.x; right = h.x; bottom = least p.y; top = h.y }
  where
    least : (n : ℕ) → 0 ≤ n
    least n = omega arith

-- which holds each shape
pub square_holds : (s : Shape) → IsShapeInClosedPlane s → AreCovered (corners_of s) whole_square
square_holds (shape.Point p) h = (corner_covered p h, tt)
square_holds (shape.Segment s) h = (corner_covered s.a h.a, (corner_covered s.b h.b, tt))
square_holds (shape.Polygon ring) h = each ring h.in_plane
  where
    each : (ps : List Point) → All IsInPlane ps → AreCovered ps whole_square
    each [] h = tt
    each (p ∷ ps) h = (corner_covered p (corner_of_plane p (All-head IsInPlane p ps h)), each ps (All-tail IsInPlane p ps h))
