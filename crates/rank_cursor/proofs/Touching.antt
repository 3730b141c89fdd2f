-- A rectangle as a goal is at the distance 0 exactly from the points and rectangles that it overlaps, and from the shapes that meet it.
use Rattle.std.proofs.Common.{◌≡◌, ℕ, zero, suc, ◌+◌, ◌*◌, ◌-◌, ◌≤◌, refl, ap, ap₂, ◌∙◌, arith}
use Rattle.std.specs.Prelude.{◌↔◌}
use Rattle.exact_frac.specs.declared.frac.Frac.{Frac}
use Rattle.sand_base.specs.Plane.{IsInClosedPlane, IsRectInClosedPlane, IsShapeInClosedPlane}
use Rattle.sand_base.specs.declared.goal.Goal.{Goal}
use Rattle.sand_base.specs.declared.goal.Goal.TheVariants as figure
use Rattle.sand_base.specs.declared.point.Point.{Point}
use Rattle.sand_base.specs.declared.rect.Rect.{Rect}
use Rattle.sand_base.specs.declared.shape.Shape.{Shape}
use Rattle.sand_base.specs.declared.shape.Shape.TheVariants as shape
use Rattle.sand_model.specs.FigureGap.{IsGapOf, IsFigureGap, IsMeeting}
use Rattle.plane_geom.specs.Rectangles.{range_gap}
use Rattle.plane_geom.proofs.GapOfRectangles.{rects_least, point_rect_least}
use Rattle.ring_geom.specs.Bounding.{Overlap}
use Rattle.ring_geom.proofs.Farther.{gap_unique}
use Rattle.ring_geom.proofs.FigureGaps.{gap_exchanged, point_rect_gap, rects_gap}
use Rattle.ring_geom.proofs.Measured.{measured}
use Rattle.ring_geom.proofs.Zero.{meets_of_zero, zero_of_meets}
use Rattle.rank_cursor.specs.Cursor.{goal_gap}

-- the squared distance of two rectangles
abbrev square : Rect → Rect → ℕ
square a b =
    range_gap a.low.x a.high.x b.low.x b.high.x * range_gap a.low.x a.high.x b.low.x b.high.x
    + range_gap a.low.y a.high.y b.low.y b.high.y * range_gap a.low.y a.high.y b.low.y b.high.y

-- squares that add up to 0
no_squares : (x y : ℕ) → x * x + y * y ≡ 0 → (x ≡ 0) × (y ≡ 0)
no_squares zero zero h = (refl, refl)
no_squares zero (suc y) h = absurd (omega arith)
no_squares (suc x) y h = absurd (omega arith)

-- rectangles that are 0 apart overlap, and those alone
overlap_zero : (a b : Rect) → Overlap a b ↔ (square a b ≡ 0)
overlap_zero a b = (
  λ o.
      let x : range_gap a.low.x a.high.x b.low.x b.high.x ≡ 0 = none a.low.x a.high.x b.low.x b.high.x o.left o.right in
      let y : range_gap a.low.y a.high.y b.low.y b.high.y ≡ 0 = none a.low.y a.high.y b.low.y b.high.y o.below o.above in
      ap₂ (λ m n. m * m + n * n) x y,
  λ h.
      let both = no_squares (range_gap a.low.x a.high.x b.low.x b.high.x) (range_gap a.low.y a.high.y b.low.y b.high.y) h in
      record {
        left = first a.low.x a.high.x b.low.x b.high.x both.0;
        right = second a.low.x a.high.x b.low.x b.high.x both.0;
        below = first a.low.y a.high.y b.low.y b.high.y both.1;
        above = second a.low.y a.high.y b.low.y b.high.y both.1;
      },
)
  where
    none : (l h l' h' : ℕ) → l ≤ h' → l' ≤ h → (l' - h) + (l - h') ≡ 0
    none l h l' h' p q = omega arith

    first : (l h l' h' : ℕ) → (l' - h) + (l - h') ≡ 0 → l ≤ h'
    first l h l' h' e = omega arith

    second : (l h l' h' : ℕ) → (l' - h) + (l - h') ≡ 0 → l' ≤ h
    second l h l' h' e = omega arith

-- a factor of nothing
no_factor : (n d : ℕ) → 1 ≤ d → n * d ≡ 0 → n ≡ 0
no_factor zero d h e = refl
no_factor (suc n) d h e = absurd (omega arith)

-- a gap that is a whole number is 0 where the measure gives 0
whole_zero : (a b : Goal) (n : ℕ) (f : Frac) → IsGapOf a b n 1 → IsFigureGap a b f → (n ≡ 0) ↔ (f.num ≡ 0)
whole_zero a b n f h k =
    let same : n * f.den ≡ f.num * 1 = gap_unique a b n 1 f.num f.den h k in
    (λ e. numerator n f.num f.den same e, λ e. no_factor n f.den f.positive (same ∙ ap (λ m. m * 1) e))
  where
    numerator : (n m d : ℕ) → n * d ≡ m * 1 → n ≡ 0 → m ≡ 0
    numerator zero m d same e = omega arith
    numerator (suc n) m d same e = absurd (omega arith)

-- a rectangle and a rectangle
pub rect_touched : (a r : Rect) → IsRectInClosedPlane a → IsRectInClosedPlane r → Overlap a r ↔ ((goal_gap (figure.Rect a) (figure.Rect r)).num ≡ 0)
rect_touched a r ha hr =
    let n = square a r in
    let gap = rects_gap a r n 1 (rects_least a r n 1 ha.x ha.y hr.x hr.y refl refl) in
    let zero_too = whole_zero (figure.Rect a) (figure.Rect r) n (goal_gap (figure.Rect a) (figure.Rect r)) gap (measured.1 (figure.Rect a) (figure.Rect r) ha hr) in
    let zero_here = overlap_zero a r in
    (λ o. zero_too.0 (zero_here.0 o), λ e. zero_here.1 (zero_too.1 e))

-- a rectangle and a point
pub point_touched : (a : Rect) (p : Point) → IsRectInClosedPlane a → IsInClosedPlane p → Overlap (record { low = p; high = p }) a ↔ ((goal_gap (figure.Rect a) (figure.Shape (shape.Point p))).num ≡ 0)
point_touched a p ha hp =
    let q : Rect = record { low = p; high = p } in
    let n = square q a in
    let gap = gap_exchanged (figure.Shape (shape.Point p)) (figure.Rect a) n 1
    (point_rect_gap p a n 1 (point_rect_least p a n 1 (rects_least q a n 1 (omega arith) (omega arith) ha.x ha.y refl refl))) in
    let zero_too = whole_zero (figure.Rect a) (figure.Shape (shape.Point p)) n (goal_gap (figure.Rect a) (figure.Shape (shape.Point p))) gap
    (measured.1 (figure.Rect a) (figure.Shape (shape.Point p)) ha hp) in
    let zero_here = overlap_zero q a in
    (λ o. zero_too.0 (zero_here.0 o), λ e. zero_here.1 (zero_too.1 e))

-- a rectangle and a shape
pub shape_touched : (a : Rect) (s : Shape) → IsRectInClosedPlane a → IsShapeInClosedPlane s → IsMeeting (figure.Shape s) (figure.Rect a) ↔ ((goal_gap (figure.Rect a) (figure.Shape s)).num ≡ 0)
shape_touched a s ha hs =
    let g = goal_gap (figure.Rect a) (figure.Shape s) in
    let gap = measured.1 (figure.Rect a) (figure.Shape s) ha hs in (
      λ m. zero_of_meets (figure.Rect a) (figure.Shape s) g.num g.den (gap_exchanged (figure.Shape s) (figure.Rect a) 0 1 m) gap,
      λ e. gap_exchanged (figure.Rect a) (figure.Shape s) 0 1 (meets_of_zero (figure.Rect a) (figure.Shape s) g.num g.den g.positive e gap),
    )
