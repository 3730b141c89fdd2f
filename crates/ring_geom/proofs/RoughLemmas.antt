-- The rough shape of a polygon is its bounding rectangle, and no farther than the polygon.
use Rattle.std.proofs.Common.{◌≡◌, ℕ, ◌*◌, ◌≤◌, min, max, List, [], ◌∷◌, ap, arith}
use Rattle.sand_base.specs.Grid.{IsInClosedPlane, IsRing}
use Rattle.sand_base.specs.Plane.{IsGoalInClosedPlane, IsRectInClosedPlane, IsShapeInClosedPlane}
use Rattle.sand_base.specs.declared.goal.Goal.{Goal}
use Rattle.sand_base.specs.declared.goal.Goal.TheVariants as goal
use Rattle.sand_base.specs.declared.point.Point.{Point}
use Rattle.sand_base.specs.declared.rect.Rect.{Rect}
use Rattle.sand_base.specs.declared.shape.Shape.{Shape}
use Rattle.sand_base.specs.declared.shape.Shape.TheVariants as shape
use Rattle.sand_model.specs.Measure.{Measure, IsMeasure}
use Rattle.sand_model.specs.Nodes.{rough_figure, bound_from}
use Rattle.sand_model.specs.Rings.{EachOf}
use Rattle.exact_frac.specs.Lesser.{IsAtMost}
use Rattle.ring_geom.specs.Bounding.{AreCovered, IsBounding}
use Rattle.ring_geom.proofs.BlockLemmas.{same_rect}
use Rattle.ring_geom.proofs.BoundingLemmas.{bounding_point}
use Rattle.ring_geom.proofs.Farther.{shape_held, no_farther, pair_no_farther}
use Rattle.ring_geom.proofs.FigureGaps.{gap_exchanged}
use Rattle.ring_geom.proofs.Measured.{corners_in_closed_plane}

-- the model's rectangle is the bounding one
bound_is : (first : Point) (more : List Point) → IsBounding (first ∷ more) (bound_from first more)
bound_is first [] = bounding_point first
bound_is first (next ∷ more) = let rest = bound_is next more in let r = bound_from next more in record {
  holds = (
    record {
      left = least_first first.x r.low.x;
      right = greatest_first first.x r.high.x;
      bottom = least_first first.y r.low.y;
      top = greatest_first first.y r.high.y;
    },
    wider_all (next ∷ more) r (bound_from first (next ∷ more)) (least_second first.x r.low.x) (greatest_second first.x r.high.x)
        (least_second first.y r.low.y) (greatest_second first.y r.high.y) rest.holds,
  );
  least = λ t h. let part = rest.least t h.1 in record {
    low = record {
      left = both_least _ _ _ h.0.left part.low.left;
      right = some_least _ _ _ h.0.right;
      bottom = both_least _ _ _ h.0.bottom part.low.bottom;
      top = some_least _ _ _ h.0.top;
    };
    high = record {
      left = some_greatest _ _ _ h.0.left;
      right = both_greatest _ _ _ h.0.right part.high.right;
      bottom = some_greatest _ _ _ h.0.bottom;
      top = both_greatest _ _ _ h.0.top part.high.top;
    };
  };
}
  where
    least_first : (a b : ℕ) → min a b ≤ a
    least_first a b = omega arith

    least_second : (a b : ℕ) → min a b ≤ b
    least_second a b = omega arith

    greatest_first : (a b : ℕ) → a ≤ max a b
    greatest_first a b = omega arith

    greatest_second : (a b : ℕ) → b ≤ max a b
    greatest_second a b = omega arith

    both_least : (l a b : ℕ) → l ≤ a → l ≤ b → l ≤ min a b
    both_least l a b h k = omega arith

    some_least : (g a b : ℕ) → a ≤ g → min a b ≤ g
    some_least g a b h = omega arith

    both_greatest : (g a b : ℕ) → a ≤ g → b ≤ g → max a b ≤ g
    both_greatest g a b h k = omega arith

    some_greatest : (l a b : ℕ) → l ≤ a → l ≤ max a b
    some_greatest l a b h = omega arith

    wider_all : (ps : List Point) (q r : Rect) → r.low.x ≤ q.low.x → q.high.x ≤ r.high.x → r.low.y ≤ q.low.y → q.high.y ≤ r.high.y
        → AreCovered ps q → AreCovered ps r
    wider_all [] q r lx hx ly hy h = tt
    wider_all (p ∷ ps) q r lx hx ly hy h = (
      record {
        left = through _ _ _ lx h.0.left;
        right = through _ _ _ h.0.right hx;
        bottom = through _ _ _ ly h.0.bottom;
        top = through _ _ _ h.0.top hy;
      },
      wider_all ps q r lx hx ly hy h.1,
    )
      where
        through : (a b c : ℕ) → a ≤ b → b ≤ c → a ≤ c
        through a b c h k = omega arith

-- there is just one bounding rectangle
bounding_unique : (ps : List Point) (q r : Rect) → IsBounding ps q → IsBounding ps r → q ≡ r
bounding_unique ps q r hq hr =
    let a = hq.least r hr.holds in
    let b = hr.least q hq.holds in
    same_rect q r (both _ _ b.low.left a.low.left) (both _ _ b.low.bottom a.low.bottom) (both _ _ a.high.right b.high.right)
    (both _ _ a.high.top b.high.top)
  where
    both : (m n : ℕ) → m ≤ n → n ≤ m → m ≡ n
    both m n h k = omega arith

-- so the rough shape of a polygon is the bounding rectangle of its ring
pub rough_is_bounding : (ring : List Point) (r : Rect) → IsRing ring → IsBounding ring r → rough_figure (shape.Polygon ring) ≡ goal.Rect r
rough_is_bounding [] r h k = absurd (none h.fewest)
  where
    none : 3 ≤ 0 → ⊥
    none h = omega arith
rough_is_bounding (first ∷ more) r h k =
    ap (λ (t : Rect). goal.Rect t) (bounding_unique (first ∷ more) (bound_from first more) r (bound_is first more) k)

-- the bounding rectangle of vertices in the closed square lies in it
bound_in_closed_plane : (first : Point) (more : List Point) → IsInClosedPlane first → EachOf IsInClosedPlane more → IsRectInClosedPlane (bound_from first more)
bound_in_closed_plane first [] h hs = record { low = h; high = h; x = same first.x; y = same first.y }
  where
    same : (n : ℕ) → n ≤ n
    same n = omega arith
bound_in_closed_plane first (next ∷ more) h hs = let rest = bound_in_closed_plane next more hs.0 hs.1 in record {
  low = record { x = some_least _ _ _ h.x; y = some_least _ _ _ h.y };
  high = record { x = both_greatest _ _ _ h.x rest.high.x; y = both_greatest _ _ _ h.y rest.high.y };
  x = ordered first.x (bound_from next more).low.x (bound_from next more).high.x;
  y = ordered first.y (bound_from next more).low.y (bound_from next more).high.y;
}
  where
    some_least : (g a b : ℕ) → a ≤ g → min a b ≤ g
    some_least g a b h = omega arith

    both_greatest : (g a b : ℕ) → a ≤ g → b ≤ g → max a b ≤ g
    both_greatest g a b h k = omega arith

    ordered : (a l g : ℕ) → min a l ≤ max a g
    ordered a l g = omega arith

-- a rough shape lies in the closed square where its shape does
pub rough_in_closed_plane : (s : Shape) → IsShapeInClosedPlane s → IsGoalInClosedPlane (rough_figure s)
rough_in_closed_plane (shape.Point p) h = h
rough_in_closed_plane (shape.Segment s) h = h
rough_in_closed_plane (shape.Polygon []) h = h
rough_in_closed_plane (shape.Polygon (first ∷ more)) h = let cs = corners_in_closed_plane (first ∷ more) h.in_plane in bound_in_closed_plane first more cs.0 cs.1

module _ (gap : Measure) (m : IsMeasure gap) where
  -- the gap from itself is at most itself
  same_gap : (a b : Goal) → IsAtMost (gap a b) (gap a b)
  same_gap a b = same ((gap a b).num) ((gap a b).den)
    where
      same : (n d : ℕ) → n * d ≤ n * d
      same n d = omega arith

  -- a rough shape is no farther from a goal than its shape
  pub rough_no_farther : (g : Goal) (s : Shape) → IsGoalInClosedPlane g → IsShapeInClosedPlane s → IsAtMost (gap g (rough_figure s)) (gap g (goal.Shape s))
  rough_no_farther g (shape.Point p) hg hs = same_gap g (goal.Shape (shape.Point p))
  rough_no_farther g (shape.Segment s) hg hs = same_gap g (goal.Shape (shape.Segment s))
  rough_no_farther g (shape.Polygon []) hg hs = same_gap g (goal.Shape (shape.Polygon []))
  rough_no_farther g (shape.Polygon (first ∷ more)) hg hs =
      no_farther g (goal.Shape (shape.Polygon (first ∷ more))) (bound_from first more) _ _ _ _ hg
      (shape_held (shape.Polygon (first ∷ more)) (bound_from first more) (bound_is first more).holds)
      (m g (goal.Shape (shape.Polygon (first ∷ more))) hg hs)
      (m g (goal.Rect (bound_from first more)) hg (rough_in_closed_plane (shape.Polygon (first ∷ more)) hs))

  -- a rough polygon and a shape
  rough_first : (first : Point) (more : List Point) (b : Shape) → IsRing (first ∷ more) → IsShapeInClosedPlane b
      → IsAtMost (gap (rough_figure (shape.Polygon (first ∷ more))) (goal.Shape b)) (gap (goal.Shape (shape.Polygon (first ∷ more))) (goal.Shape b))
  rough_first first more b ha hb =
      no_farther (goal.Shape b) (goal.Shape (shape.Polygon (first ∷ more))) (bound_from first more) _ _ _ _ hb
      (shape_held (shape.Polygon (first ∷ more)) (bound_from first more) (bound_is first more).holds)
      (gap_exchanged (goal.Shape (shape.Polygon (first ∷ more))) (goal.Shape b) _ _ (m (goal.Shape (shape.Polygon (first ∷ more))) (goal.Shape b) ha hb))
      (gap_exchanged (goal.Rect (bound_from first more)) (goal.Shape b) _ _
      (m (goal.Rect (bound_from first more)) (goal.Shape b) (rough_in_closed_plane (shape.Polygon (first ∷ more)) ha) hb))

  -- two rough shapes are no farther apart than their shapes
  pub roughs_no_farther : (a b : Shape) → IsShapeInClosedPlane a → IsShapeInClosedPlane b
      → IsAtMost (gap (rough_figure a) (rough_figure b)) (gap (goal.Shape a) (goal.Shape b))
  roughs_no_farther (shape.Point p) b ha hb = rough_no_farther (goal.Shape (shape.Point p)) b ha hb
  roughs_no_farther (shape.Segment s) b ha hb = rough_no_farther (goal.Shape (shape.Segment s)) b ha hb
  roughs_no_farther (shape.Polygon []) b ha hb = rough_no_farther (goal.Shape (shape.Polygon [])) b ha hb
  roughs_no_farther (shape.Polygon (first ∷ more)) (shape.Point p) ha hb = rough_first first more (shape.Point p) ha hb
  roughs_no_farther (shape.Polygon (first ∷ more)) (shape.Segment s) ha hb = rough_first first more (shape.Segment s) ha hb
  roughs_no_farther (shape.Polygon (first ∷ more)) (shape.Polygon []) ha hb = rough_first first more (shape.Polygon []) ha hb
  roughs_no_farther (shape.Polygon (first ∷ more)) (shape.Polygon (other ∷ others)) ha hb =
      pair_no_farther (goal.Shape (shape.Polygon (first ∷ more))) (goal.Shape (shape.Polygon (other ∷ others))) (bound_from first more)
      (bound_from other others) _ _ _ _
      (shape_held (shape.Polygon (first ∷ more)) (bound_from first more) (bound_is first more).holds)
      (shape_held (shape.Polygon (other ∷ others)) (bound_from other others) (bound_is other others).holds)
      (m (goal.Shape (shape.Polygon (first ∷ more))) (goal.Shape (shape.Polygon (other ∷ others))) ha hb)
      (m (goal.Rect (bound_from first more)) (goal.Rect (bound_from other others)) (rough_in_closed_plane (shape.Polygon (first ∷ more)) ha)
      (rough_in_closed_plane (shape.Polygon (other ∷ others)) hb))
