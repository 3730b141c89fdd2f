-- Each two figures of the closed square have a gap that fits a fraction, so there is a function that gives it.
use Rattle.std.proofs.Common.{inl, inr, ℕ, ◌^◌, ◌<◌, ◌≤◌, List, [], ◌∷◌, length, refl, lit≤, arith}
use Rattle.std.specs.Prelude.{All}
use Rattle.std.proofs.lemmas.Bool.{cases_lt}
use Rattle.std.proofs.lemmas.List.Elements.{All-nil, All-cons, All-head, All-tail}
use Rattle.exact_frac.specs.declared.frac.Frac.{Frac}
use Rattle.exact_frac.proofs.LesserExists.{lesser}
use Rattle.sand_base.specs.Grid.{IsInPlane, IsInClosedPlane, IsRing}
use Rattle.sand_base.specs.Plane.{IsGoalInClosedPlane, IsRectInClosedPlane, IsSegmentInClosedPlane, IsShapeInClosedPlane}
use Rattle.sand_base.specs.declared.TheConstants.{COORDINATE_BITS}
use Rattle.sand_base.specs.declared.goal.Goal.{Goal}
use Rattle.sand_base.specs.declared.goal.Goal.TheVariants as goal
use Rattle.sand_base.specs.declared.point.Point.{Point}
use Rattle.sand_base.specs.declared.rect.Rect.{Rect}
use Rattle.sand_base.specs.declared.segment.Segment.{Segment}
use Rattle.sand_base.specs.declared.shape.Shape.{Shape}
use Rattle.sand_base.specs.declared.shape.Shape.TheVariants as shape
use Rattle.sand_model.specs.Points.{RationalPoint, IsPoint, IsOnSegment, IsInRect}
use Rattle.sand_model.specs.FigureGap.{IsFigureGap}
use Rattle.sand_model.specs.Figures.{IsPointOf, IsPointOfFigure}
use Rattle.sand_model.specs.Measure.{Measure, IsMeasure}
use Rattle.sand_model.specs.Rings.{EachOf, chain, last_of, IsOnRing}
use Rattle.plane_geom.proofs.Least.{least_exchanged, least_same}
use Rattle.ring_geom.proofs.Decide.{Dec, decide_covering}
use Rattle.ring_geom.proofs.EdgeLemmas.{corner_of_plane}
use Rattle.ring_geom.proofs.FigureGaps.{covering_gap, least_gap}
use Rattle.ring_geom.proofs.Fractions.{whole}
use Rattle.ring_geom.proofs.PieceGaps.{HasLeast, point_point, point_segment, segment_segment, point_rect, segment_rect, rect_rect}
use Rattle.ring_geom.proofs.Unions.{IsOnAny, least_union}

-- the two sets exchanged
turned : {A B : RationalPoint → Type 0} → HasLeast A B → HasLeast B A
turned {A} {B} h = (h.0, least_exchanged {A = A} {B = B} (h.0).num (h.0).den h.1)

-- some segments, of which there is one
any_least : {B : RationalPoint → Type 0} → ((e : Segment) → IsSegmentInClosedPlane e → HasLeast (IsOnSegment e) B) → (e : Segment) (es : List Segment)
    → IsSegmentInClosedPlane e → EachOf IsSegmentInClosedPlane es → HasLeast (IsOnAny (e ∷ es)) B
any_least {B} f e [] h hs =
    let one = f e h in (
      one.0,
      least_same {A = IsOnSegment e} {B = B} {C = IsOnAny (e ∷ [])} (one.0).num (one.0).den (λ q k. inl k)
          (λ q k. elim k [ inl on ↦ on | inr none ↦ absurd none ]) one.1,
    )
any_least {B} f e (d ∷ es) h hs =
    let one = f e h in
    let rest = any_least {B = B} f d es hs.0 hs.1 in
    let least = lesser one.0 rest.0 in
    (least.0, least_union {A = IsOnSegment e} {A' = IsOnAny (d ∷ es)} {B = B} one.0 rest.0 least.0 one.1 rest.1 least.1)

-- the edges of a ring lie in the closed square
chain_in_closed_plane : (from : Point) (ps : List Point) → IsInClosedPlane from → EachOf IsInClosedPlane ps → EachOf IsSegmentInClosedPlane (chain from ps)
chain_in_closed_plane from [] h hs = tt
chain_in_closed_plane from (to ∷ rest) h hs = (record { a = h; b = hs.0 }, chain_in_closed_plane to rest hs.0 hs.1)

last_in_closed_plane : (first : Point) (rest : List Point) → IsInClosedPlane first → EachOf IsInClosedPlane rest → IsInClosedPlane (last_of first rest)
last_in_closed_plane first [] h hs = h
last_in_closed_plane first (next ∷ rest) h hs = last_in_closed_plane next rest hs.0 hs.1

pub corners_in_closed_plane : (ps : List Point) → All IsInPlane ps → EachOf IsInClosedPlane ps
corners_in_closed_plane [] h = tt
corners_in_closed_plane (p ∷ ps) h = (corner_of_plane p (All-head IsInPlane p ps h), corners_in_closed_plane ps (All-tail IsInPlane p ps h))

-- a ring
ring_least : {B : RationalPoint → Type 0} → ((e : Segment) → IsSegmentInClosedPlane e → HasLeast (IsOnSegment e) B) → (ring : List Point)
    → 3 ≤ length ring → EachOf IsInClosedPlane ring → HasLeast (IsOnRing ring) B
ring_least {B} f [] l h = absurd (omega arith)
ring_least {B} f (first ∷ rest) l h =
    let last = last_in_closed_plane first rest h.0 h.1 in
    any_least {B = B} f (record { a = last_of first rest; b = first }) (chain first rest) (record { a = last; b = h.0 }) (chain_in_closed_plane first rest h.0 h.1)

-- a shape
shape_least : {B : RationalPoint → Type 0} → ((p : Point) → IsInClosedPlane p → HasLeast (IsPoint p) B)
    → ((e : Segment) → IsSegmentInClosedPlane e → HasLeast (IsOnSegment e) B) → (s : Shape) → IsShapeInClosedPlane s → HasLeast (IsPointOf s) B
shape_least {B} of_point of_segment (shape.Point p) h = of_point p h
shape_least {B} of_point of_segment (shape.Segment s) h = of_segment s h
shape_least {B} of_point of_segment (shape.Polygon ring) h = ring_least {B = B} of_segment ring h.fewest (corners_in_closed_plane ring h.in_plane)

-- two shapes
two_shapes : (s t : Shape) → IsShapeInClosedPlane s → IsShapeInClosedPlane t → HasLeast (IsPointOf s) (IsPointOf t)
two_shapes s t hs ht =
    shape_least {B = IsPointOf t}
    (λ p hp.
    turned {A = IsPointOf t} {B = IsPoint p}
    (shape_least {B = IsPoint p} (λ q hq. point_point q p hq hp) (λ e he. turned {A = IsPoint p} {B = IsOnSegment e} (point_segment p e hp he)) t ht))
    (λ d hd.
    turned {A = IsPointOf t} {B = IsOnSegment d}
    (shape_least {B = IsOnSegment d} (λ q hq. point_segment q d hq hd) (λ e he. segment_segment e d he hd) t ht)) s hs

-- a shape and a rectangle
shape_rect : (s : Shape) (r : Rect) → IsShapeInClosedPlane s → IsRectInClosedPlane r → HasLeast (IsPointOf s) (IsInRect r)
shape_rect s r hs hr = shape_least {B = IsInRect r} (λ p hp. point_rect p r hp hr) (λ e he. segment_rect e r he hr) s hs

-- two figures
figures_least : (a b : Goal) → IsGoalInClosedPlane a → IsGoalInClosedPlane b → HasLeast (IsPointOfFigure a) (IsPointOfFigure b)
figures_least (goal.Shape s) (goal.Shape t) ha hb = two_shapes s t ha hb
figures_least (goal.Shape s) (goal.Rect r) ha hb = shape_rect s r ha hb
figures_least (goal.Rect r) (goal.Shape s) ha hb = turned {A = IsPointOf s} {B = IsInRect r} (shape_rect s r hb ha)
figures_least (goal.Rect q) (goal.Rect r) ha hb = rect_rect q r ha hb

-- nothing, as a fraction
abbrev none : Frac
none = whole 0 (lit≤ tt)

-- two figures of the closed square have a gap
pub gap_exists : (a b : Goal) → IsGoalInClosedPlane a → IsGoalInClosedPlane b → (f : Frac) × IsFigureGap a b f
gap_exists a b ha hb =
    elim (decide_covering a b) [
      | inl c ↦ (none, covering_gap a b 0 1 refl c)
      | inr fails ↦
          let h = figures_least a b ha hb in
          (h.0, least_gap a b (h.0).num (h.0).den fails h.1)
    ]

-- whether a figure lies in the closed square is decided
decide_le : (m n : ℕ) → Dec (m ≤ n)
decide_le m n = elim (cases_lt n m) [ inl h ↦ inr (λ k. against m n h k) | inr h ↦ inl h ]
  where
    against : (m n : ℕ) → n < m → m ≤ n → ⊥
    against m n h k = omega arith

decide_lt : (m n : ℕ) → Dec (m < n)
decide_lt m n = elim (cases_lt m n) [ inl h ↦ inl h | inr h ↦ inr (λ k. against m n h k) ]
  where
    against : (m n : ℕ) → n ≤ m → m < n → ⊥
    against m n h k = omega arith

decide_both : {P Q : Type 0} → Dec P → Dec Q → Dec (P × Q)
decide_both p q =
    elim p [
      | inr fails ↦ inr (λ h. fails h.0)
      | inl a ↦ elim q [ inr fails ↦ inr (λ h. fails h.1) | inl b ↦ inl (a, b) ]
    ]

decide_alike : {P Q : Type 0} → (P → Q) → (Q → P) → Dec P → Dec Q
decide_alike f g h = elim h [ inl p ↦ inl (f p) | inr fails ↦ inr (λ q. fails (g q)) ]

decide_corner : (p : Point) → Dec (IsInClosedPlane p)
decide_corner p =
    decide_alike (λ h. record { x = h.0; y = h.1 }) (λ h. (h.x, h.y)) (decide_both (decide_le p.x (2 ^ COORDINATE_BITS)) (decide_le p.y (2 ^ COORDINATE_BITS)))

decide_in_plane : (p : Point) → Dec (IsInPlane p)
decide_in_plane p =
    decide_alike (λ h. record { x = h.0; y = h.1 }) (λ h. (h.x, h.y)) (decide_both (decide_lt p.x (2 ^ COORDINATE_BITS)) (decide_lt p.y (2 ^ COORDINATE_BITS)))

decide_all : (ps : List Point) → Dec (All IsInPlane ps)
decide_all [] = inl (All-nil IsInPlane)
decide_all (p ∷ ps) =
    decide_alike {P = IsInPlane p × All IsInPlane ps} {Q = All IsInPlane (p ∷ ps)} (λ h. All-cons IsInPlane p ps h.0 h.1)
    (λ h. (All-head IsInPlane p ps h, All-tail IsInPlane p ps h)) (decide_both (decide_in_plane p) (decide_all ps))

decide_ring : (ps : List Point) → Dec (IsRing ps)
decide_ring ps =
    decide_alike (λ h. record { fewest = h.0; most = h.1.0; in_plane = h.1.1 }) (λ h. (h.fewest, (h.most, h.in_plane)))
    (decide_both (decide_le 3 (length ps)) (decide_both (decide_le (length ps) 64) (decide_all ps)))

decide_reach : (g : Goal) → Dec (IsGoalInClosedPlane g)
decide_reach (goal.Shape (shape.Point p)) = decide_corner p
decide_reach (goal.Shape (shape.Segment s)) =
    decide_alike (λ h. record { a = h.0; b = h.1 }) (λ h. (h.a, h.b)) (decide_both (decide_corner s.a) (decide_corner s.b))
decide_reach (goal.Shape (shape.Polygon ring)) = decide_ring ring
decide_reach (goal.Rect r) =
    decide_alike (λ h. record { low = h.0.0; high = h.0.1; x = h.1.0; y = h.1.1 }) (λ h. ((h.low, h.high), (h.x, h.y)))
    (decide_both (decide_both (decide_corner r.low) (decide_corner r.high)) (decide_both (decide_le r.low.x r.high.x) (decide_le r.low.y r.high.y)))

-- the gap where both lie in the closed square, and else nothing
abbrev picked : (a b : Goal) → Dec (IsGoalInClosedPlane a) → Dec (IsGoalInClosedPlane b) → Frac
picked a b (inl ha) (inl hb) = (gap_exists a b ha hb).0
picked a b (inl ha) (inr fails) = none
picked a b (inr fails) hb = none

picked_gap : (a b : Goal) (da : Dec (IsGoalInClosedPlane a)) (db : Dec (IsGoalInClosedPlane b)) → IsGoalInClosedPlane a → IsGoalInClosedPlane b
    → IsFigureGap a b (picked a b da db)
picked_gap a b (inl ha) (inl hb) ka kb = (gap_exists a b ha hb).1
picked_gap a b (inl ha) (inr fails) ka kb = absurd (fails kb)
picked_gap a b (inr fails) db ka kb = absurd (fails ka)

-- there is a measure
pub measured : (gap : Measure) × IsMeasure gap
measured = (
  λ a b. picked a b (decide_reach a) (decide_reach b),
  λ a b ha hb. picked_gap a b (decide_reach a) (decide_reach b) ha hb,
)
