-- A segment and a rectangle: where the segment doesn't enter it, an end or a corner is nearest.
use Rattle.std.proofs.Common.{◌≡◌, inl, inr, ℕ, ℤ, pos, ◌+ℤ◌, ◌-ℤ◌, ◌*ℤ◌, [], ◌∷◌, refl}
use Rattle.exact_frac.specs.declared.frac.Frac.{Frac}
use Rattle.sand_base.specs.declared.point.Point.{Point}
use Rattle.sand_base.specs.declared.rect.Rect.{Rect}
use Rattle.sand_base.specs.declared.segment.Segment.{Segment}
use Rattle.sand_model.specs.Points.{RationalPoint, IsPoint, IsOnSegment, IsInRect}
use Rattle.sand_model.specs.Gap.{IsLeast}
use Rattle.plane_geom.specs.Expr.{var, at, num, ◌⊕◌, ◌⊖◌, ◌⊗◌}
use Rattle.plane_geom.proofs.Ring.{ring}
use Rattle.plane_geom.specs.Crossing.{Cross}
use Rattle.exact_frac.specs.Lesser.{IsLesser}
use Rattle.plane_geom.specs.Rectangles.{EntersRect, IsCovered, top_left, bottom_right, left_side, right_side, bottom_side, top_side}
use Rattle.plane_geom.proofs.Clear.{exchange}
use Rattle.plane_geom.proofs.CrossingPoint.{crossing_shared, shared_least}
use Rattle.plane_geom.proofs.Least.{Attained, attained_within, attained_exchanged, clear_of_bound, means_clear}
use Rattle.plane_geom.proofs.Means.{mean_on, first_end, second_end, point_hull}
use Rattle.plane_geom.proofs.SegmentHull.{segment_hull}
use Rattle.plane_geom.proofs.GapOfPoints.{points_least}
use Rattle.plane_geom.proofs.NearestEnd.{lesser_attained, lesser_apart, uncrossed_clear}
use Rattle.plane_geom.proofs.Apart.{AreApart}
use Rattle.plane_geom.proofs.Axis.{horizontal, vertical}
use Rattle.plane_geom.proofs.Leaving.{sides_bound}
use Rattle.plane_geom.proofs.Sides.{IsOrdered, SidesApart, low_end, high_end, side_in, value_within, corners_covered}
use Rattle.plane_geom.proofs.Signs.{natural}

-- the distances of both ends from the rectangle and of its four corners from the segment, and the least of them
pub record IsNearest (s : Segment) (r : Rect) (a b ends low top_left_one left bottom_right_one high right corners least : Frac) : Type 0 where
  pub from_a : IsLeast (IsPoint s.a) (IsInRect r) a.num a.den
  pub from_b : IsLeast (IsPoint s.b) (IsInRect r) b.num b.den
  pub of_ends : IsLesser a b ends
  pub from_low : IsLeast (IsPoint r.low) (IsOnSegment s) low.num low.den
  pub from_top_left : IsLeast (IsPoint (top_left r)) (IsOnSegment s) top_left_one.num top_left_one.den
  pub of_left : IsLesser low top_left_one left
  pub from_bottom_right : IsLeast (IsPoint (bottom_right r)) (IsOnSegment s) bottom_right_one.num bottom_right_one.den
  pub from_high : IsLeast (IsPoint r.high) (IsOnSegment s) high.num high.den
  pub of_right : IsLesser bottom_right_one high right
  pub of_corners : IsLesser left right corners
  pub of_all : IsLesser ends corners least

-- what stands for a grid point in the rectangle lies in it
covered_in : (p : Point) (r : Rect) → IsCovered p r → (q : RationalPoint) → IsPoint p q → IsInRect r q
covered_in p r h q hq = record {
  x = value_within r.low.x r.high.x p.x q.n q.x hq.x h.left h.right;
  y = value_within r.low.y r.high.y p.y q.n q.y hq.y h.bottom h.top;
}

-- a corner that is so far from the segment shows the distance
corner_attained : (s : Segment) (r : Rect) (p : Point) (m e : ℕ) → IsCovered p r → IsLeast (IsPoint p) (IsOnSegment s) m e
    → Attained (IsOnSegment s) (IsInRect r) m e
corner_attained s r p m e hp h = attained_exchanged m e (attained_within m e (covered_in p r hp) (λ q hq. hq) h.attained)

-- some end or corner is so far as the least says
nearest_attained : (s : Segment) (r : Rect) (a b ends low top_left_one left bottom_right_one high right corners least : Frac) → IsOrdered r
    → IsNearest s r a b ends low top_left_one left bottom_right_one high right corners least
    → Attained (IsOnSegment s) (IsInRect r) least.num least.den
nearest_attained s r a b ends low top_left_one left bottom_right_one high right corners least o h =
    let covered = corners_covered r o in
    lesser_attained ends corners least h.of_all
    (lesser_attained a b ends h.of_ends
    (attained_within a.num a.den (λ q hq. mean_on s q (first_end s.a s.b q hq)) (λ z hz. hz) h.from_a.attained)
    (attained_within b.num b.den (λ q hq. mean_on s q (second_end s.a s.b q hq)) (λ z hz. hz) h.from_b.attained))
    (lesser_attained left right corners h.of_corners
    (lesser_attained low top_left_one left h.of_left
    (corner_attained s r r.low low.num low.den covered.low h.from_low)
    (corner_attained s r (top_left r) top_left_one.num top_left_one.den covered.top_left_one h.from_top_left))
    (lesser_attained bottom_right_one high right h.of_right
    (corner_attained s r (bottom_right r) bottom_right_one.num bottom_right_one.den covered.bottom_right_one h.from_bottom_right)
    (corner_attained s r r.high high.num high.den covered.high h.from_high)))

-- no end is nearer to the rectangle, and no corner to the segment, than the root of m / e
record IsBound (m e : ℕ) (s : Segment) (r : Rect) : Type 0 where
  a : (q z : RationalPoint) → IsPoint s.a q → IsInRect r z → AreApart m e q z
  b : (q z : RationalPoint) → IsPoint s.b q → IsInRect r z → AreApart m e q z
  low : (q z : RationalPoint) → IsPoint r.low q → IsOnSegment s z → AreApart m e q z
  top_left : (q z : RationalPoint) → IsPoint (top_left r) q → IsOnSegment s z → AreApart m e q z
  bottom_right : (q z : RationalPoint) → IsPoint (bottom_right r) q → IsOnSegment s z → AreApart m e q z
  high : (q z : RationalPoint) → IsPoint r.high q → IsOnSegment s z → AreApart m e q z

-- the least is such a bound
nearest_bound : (s : Segment) (r : Rect) (a b ends low top_left_one left bottom_right_one high right corners least : Frac)
    → IsNearest s r a b ends low top_left_one left bottom_right_one high right corners least → IsBound least.num least.den s r
nearest_bound s r a b ends low top_left_one left bottom_right_one high right corners least h = record {
  a = λ q z hq hz. lesser_apart ends least q z h.of_all.first (lesser_apart a ends q z h.of_ends.first (h.from_a.least q z hq hz));
  b = λ q z hq hz. lesser_apart ends least q z h.of_all.first (lesser_apart b ends q z h.of_ends.second (h.from_b.least q z hq hz));
  low = λ q z hq hz.
      lesser_apart corners least q z h.of_all.second
      (lesser_apart left corners q z h.of_corners.first (lesser_apart low left q z h.of_left.first (h.from_low.least q z hq hz)));
  top_left = λ q z hq hz.
      lesser_apart corners least q z h.of_all.second
      (lesser_apart left corners q z h.of_corners.first
      (lesser_apart top_left_one left q z h.of_left.second (h.from_top_left.least q z hq hz)));
  bottom_right = λ q z hq hz.
      lesser_apart corners least q z h.of_all.second
      (lesser_apart right corners q z h.of_corners.second
      (lesser_apart bottom_right_one right q z h.of_right.first (h.from_bottom_right.least q z hq hz)));
  high = λ q z hq hz.
      lesser_apart corners least q z h.of_all.second
      (lesser_apart right corners q z h.of_corners.second (lesser_apart high right q z h.of_right.second (h.from_high.least q z hq hz)));
}

-- a side that isn't crossed is as far from the segment as the ends and its corners are
side_apart : (m e : ℕ) (s t : Segment) (r : Rect) → IsBound m e s r → ((z : RationalPoint) → IsOnSegment t z → IsInRect r z)
    → ((q z : RationalPoint) → IsPoint t.a q → IsOnSegment s z → AreApart m e q z)
    → ((q z : RationalPoint) → IsPoint t.b q → IsOnSegment s z → AreApart m e q z) → ¬ Cross s t
    → (q z : RationalPoint) → IsOnSegment s q → IsOnSegment t z → AreApart m e q z
side_apart m e s t r h side ha hb apart q z hq hz =
    means_clear (pos m) (pos e) s.a s.b t.a t.b q z (natural e)
    (uncrossed_clear (pos m) (pos e) s t (natural e)
    (record {
      first = clear_of_bound s.a s.a t.a t.b m e (point_hull s.a) (segment_hull t) (λ p y hp hy. h.a p y hp (side y hy));
      second = clear_of_bound s.b s.b t.a t.b m e (point_hull s.b) (segment_hull t) (λ p y hp hy. h.b p y hp (side y hy));
      third = exchange (pos m) (pos e) t.a t.a s.a s.b (clear_of_bound t.a t.a s.a s.b m e (point_hull t.a) (segment_hull s) ha);
      fourth = exchange (pos m) (pos e) t.b t.b s.a s.b (clear_of_bound t.b t.b s.a s.b m e (point_hull t.b) (segment_hull s) hb);
    }) apart)
    ((segment_hull s).into q hq) ((segment_hull t).into z hz)

-- and so are all sides of a rectangle that the segment doesn't enter
sides_apart : (m e : ℕ) (s : Segment) (r : Rect) → IsOrdered r → IsBound m e s r → ¬ EntersRect s r → SidesApart m e s r
sides_apart m e s r o h outside horizontal low_end =
    side_apart m e s (left_side r) r h (side_in horizontal low_end r o) h.low h.top_left (λ x. outside (inr (inl (inl x))))
sides_apart m e s r o h outside horizontal high_end =
    side_apart m e s (right_side r) r h (side_in horizontal high_end r o) h.bottom_right h.high (λ x. outside (inr (inl (inr x))))
sides_apart m e s r o h outside vertical low_end =
    side_apart m e s (bottom_side r) r h (side_in vertical low_end r o) h.low h.bottom_right (λ x. outside (inr (inr (inl x))))
sides_apart m e s r o h outside vertical high_end =
    side_apart m e s (top_side r) r h (side_in vertical high_end r o) h.top_left h.high (λ x. outside (inr (inr (inr x))))

-- the least distance of the ends and the corners is that of a segment that doesn't enter the rectangle
pub nearest_least : (s : Segment) (r : Rect) (a b ends low top_left_one left bottom_right_one high right corners least : Frac)
    → IsOrdered r → IsNearest s r a b ends low top_left_one left bottom_right_one high right corners least → ¬ EntersRect s r
    → IsLeast (IsOnSegment s) (IsInRect r) least.num least.den
nearest_least s r a b ends low top_left_one left bottom_right_one high right corners least o h outside =
    let bound = nearest_bound s r a b ends low top_left_one left bottom_right_one high right corners least h in
    record {
      attained = nearest_attained s r a b ends low top_left_one left bottom_right_one high right corners least o h;
      least = sides_bound least.num least.den s r o (sides_apart least.num least.den s r o bound outside) (λ x. outside (inl x));
    }

-- a segment that begins in the rectangle shares that end with it
begun_shared : (s : Segment) (r : Rect) → IsCovered s.a r → Attained (IsOnSegment s) (IsInRect r) 0 1
begun_shared s r h =
    attained_within 0 1 (λ q hq. mean_on s q (first_end s.a s.b q hq)) (covered_in s.a r h)
    (points_least s.a s.a 0 1 (nothing (pos s.a.x) (pos s.a.y)) refl).attained
  where
    nothing : (x y : ℤ) → pos 0 ≡ ((x -ℤ x) *ℤ (x -ℤ x)) +ℤ ((y -ℤ y) *ℤ (y -ℤ y))
    nothing x y =
        ring (at (x ∷ y ∷ [])) (num (pos 0)) ((var 0 ⊖ var 0) ⊗ (var 0 ⊖ var 0) ⊕ (var 1 ⊖ var 1) ⊗ (var 1 ⊖ var 1)) refl

-- a segment that crosses a side shares a point with the rectangle
crossed_shared : (s t : Segment) (r : Rect) → ((z : RationalPoint) → IsOnSegment t z → IsInRect r z) → Cross s t
    → Attained (IsOnSegment s) (IsInRect r) 0 1
crossed_shared s t r side h = attained_within 0 1 (λ q hq. hq) side (crossing_shared s t h)

-- a segment that enters the rectangle is 0 apart from it
pub entering_least : (s : Segment) (r : Rect) (m e : ℕ) → IsOrdered r → m ≡ 0 → e ≡ 1 → EntersRect s r → IsLeast (IsOnSegment s) (IsInRect r) m e
entering_least s r m e o hm he h =
    shared_least m e hm he
    (elim h [
      | inl a ↦ begun_shared s r a
      | inr x ↦ elim x [
        | inl y ↦ elim y [
          | inl c ↦ crossed_shared s (left_side r) r (side_in horizontal low_end r o) c
          | inr c ↦ crossed_shared s (right_side r) r (side_in horizontal high_end r o) c
        ]
        | inr y ↦ elim y [
          | inl c ↦ crossed_shared s (bottom_side r) r (side_in vertical low_end r o) c
          | inr c ↦ crossed_shared s (top_side r) r (side_in vertical high_end r o) c
        ]
      ]
    ])
