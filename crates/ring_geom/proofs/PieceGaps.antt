-- Points, segments and rectangles of the closed square have a least distance that fits a fraction.
use Rattle.std.proofs.Common.{◌≡◌, inl, inr, ℕ, ◌+◌, ◌*◌, ◌^◌, ◌<◌, ◌≤◌, ◌-◌, ℤ, pos, ◌-ℤ◌, ◌≤ℤ◌, ◌<ℤ◌, refl, lit≤, arith}
use Rattle.std.proofs.Math.Nat.{mul-le-mul}
use Rattle.std.proofs.lemmas.Bool.{cases_lt}
use Rattle.std.proofs.lemmas.Int.{ints, by_lt_z}
use Rattle.std.specs.Int.RustNames.{unsigned_abs}
use Rattle.exact_frac.specs.declared.TheConstants.{MAX_DEN}
use Rattle.exact_frac.proofs.LesserExists.{lesser}
use Rattle.exact_frac.specs.declared.frac.Frac.{Frac}
use Rattle.sand_base.specs.Grid.{IsInClosedPlane}
use Rattle.sand_base.specs.Plane.{IsSegmentInClosedPlane, IsRectInClosedPlane}
use Rattle.sand_base.specs.declared.TheConstants.{COORDINATE_BITS}
use Rattle.sand_base.specs.declared.point.Point.{Point}
use Rattle.sand_base.specs.declared.rect.Rect.{Rect}
use Rattle.sand_base.specs.declared.segment.Segment.{Segment}
use Rattle.sand_model.specs.Points.{RationalPoint, IsPoint, IsOnSegment, IsInRect}
use Rattle.sand_model.specs.Gap.{IsLeast}
use Rattle.plane_geom.proofs.Order.{pos_abs, add_nonneg}
use Rattle.plane_geom.proofs.Squares.{square_nonneg, square_abs}
use Rattle.plane_geom.specs.Crossing.{AreOpposed, Cross}
use Rattle.plane_geom.specs.Rectangles.{range_gap, IsCovered, EntersRect, left_side, right_side, bottom_side, top_side, top_left, bottom_right}
use Rattle.plane_geom.specs.Vectors.{dot_of, cross_of}
use Rattle.plane_geom.proofs.CrossingPoint.{crossing_least}
use Rattle.plane_geom.proofs.EndsAndCorners as corners
use Rattle.plane_geom.proofs.GapOfPoints.{points_least}
use Rattle.plane_geom.proofs.GapOfPointAndSegment.{behind_least, beyond_least, foot_least}
use Rattle.plane_geom.proofs.GapOfRectangles.{rects_least, point_rect_least}
use Rattle.plane_geom.proofs.NearestEnd as segments
use Rattle.plane_geom.proofs.Signs.{weak}
use Rattle.ring_geom.proofs.Decide.{Dec, decide_either}
use Rattle.ring_geom.proofs.Fractions.{dot_short, cross_short, square_fits, whole}

-- some fraction is the least distance
abbrev pub HasLeast : (RationalPoint → Type 0) → (RationalPoint → Type 0) → Type 0
HasLeast A B = (f : Frac) × IsLeast A B f.num f.den

-- two points
pub point_point : (a b : Point) → IsInClosedPlane a → IsInClosedPlane b → HasLeast (IsPoint a) (IsPoint b)
point_point a b ha hb =
    let n = unsigned_abs (dot_of a b b) in (
      whole n (dot_short a b b ha hb hb),
      points_least a b n 1
          (pos_abs (dot_of a b b) (add_nonneg _ _ (square_nonneg (pos b.x -ℤ pos a.x)) (square_nonneg (pos b.y -ℤ pos a.y)))) refl,
    )

-- a point and a segment
pub point_segment : (p : Point) (s : Segment) → IsInClosedPlane p → IsSegmentInClosedPlane s → HasLeast (IsPoint p) (IsOnSegment s)
point_segment p s hp hs =
    by_lt_z (pos 0) (dot_of s.a s.b p)
    (λ ahead.
    by_lt_z (dot_of s.a s.b p) (dot_of s.a s.b s.b)
    (λ under.
    let cross = unsigned_abs (cross_of s.a s.b p) in
    let length = unsigned_abs (dot_of s.a s.b s.b) in
    let long = pos_abs (dot_of s.a s.b s.b) (over _ _ ahead under) in (
      record {
        num = cross * cross;
        den = length;
        small = square_fits cross (cross_short s.a s.b p hs.a hs.b hp);
        positive = some length (dot_of s.a s.b s.b) (dot_of s.a s.b p) long ahead under;
        fits = dot_short s.a s.b s.b hs.a hs.b hs.b;
      },
      foot_least p s (cross * cross) length (weak _ _ ahead) under (square_abs (cross_of s.a s.b p)) long,
    ))
    (λ beyond.
    let end = point_point p s.b hp hs.b in
    (end.0, beyond_least p s (end.0).num (end.0).den end.1 beyond)))
    (λ behind.
    let end = point_point p s.a hp hs.a in
    (end.0, behind_least p s (end.0).num (end.0).den end.1 behind))
  where
    over : (d l : ℤ) → pos 0 <ℤ d → d <ℤ l → pos 0 ≤ℤ l
    over d l h k = omega (arith, ints)

    some : (n : ℕ) (l d : ℤ) → pos n ≡ l → pos 0 <ℤ d → d <ℤ l → 1 ≤ n
    some n l d e h k = omega (arith, ints)

-- two rectangles
pub rect_rect : (q r : Rect) → IsRectInClosedPlane q → IsRectInClosedPlane r → HasLeast (IsInRect q) (IsInRect r)
rect_rect q r hq hr =
    let x = range_gap q.low.x q.high.x r.low.x r.high.x in
    let y = range_gap q.low.y q.high.y r.low.y r.high.y in (
      whole (x * x + y * y)
          (fits x y (2 ^ COORDINATE_BITS)
          (gap_short q.low.x q.high.x r.low.x r.high.x (2 ^ COORDINATE_BITS) hq.x hr.x hq.high.x hr.high.x)
          (gap_short q.low.y q.high.y r.low.y r.high.y (2 ^ COORDINATE_BITS) hq.y hr.y hq.high.y hr.high.y) (lit≤ tt)),
      rects_least q r (x * x + y * y) 1 hq.x hq.y hr.x hr.y refl refl,
    )
  where
    gap_short : (a b c d m : ℕ) → a ≤ b → c ≤ d → b ≤ m → d ≤ m → (c - b) + (a - d) ≤ m
    gap_short a b c d m h k l n = omega arith

    fits : (x y m : ℕ) → x ≤ m → y ≤ m → 2 * (m * m) ≤ MAX_DEN → x * x + y * y ≤ MAX_DEN
    fits x y m hx hy room =
        let across : x * x ≤ m * m = mul-le-mul hx hx in
        let up : y * y ≤ m * m = mul-le-mul hy hy in
        omega arith

-- a point and a rectangle
pub point_rect : (p : Point) (r : Rect) → IsInClosedPlane p → IsRectInClosedPlane r → HasLeast (IsPoint p) (IsInRect r)
point_rect p r hp hr =
    let h = rect_rect (record { low = p; high = p }) r (record { low = hp; high = hp; x = same p.x; y = same p.y }) hr in
    (h.0, point_rect_least p r (h.0).num (h.0).den h.1)
  where
    same : (n : ℕ) → n ≤ n
    same n = omega arith

-- whether one of two integers is below 0 and the other above is decided
decide_opposed : (x y : ℤ) → Dec (AreOpposed x y)
decide_opposed x y = decide_either (decide_both (decide_lt x (pos 0)) (decide_lt (pos 0) y)) (decide_both (decide_lt (pos 0) x) (decide_lt y (pos 0)))
  where
    decide_lt : (p q : ℤ) → Dec (p <ℤ q)
    decide_lt p q = by_lt_z p q (λ h. inl h) (λ h. inr (λ k. against p q k h))
      where
        against : (p q : ℤ) → p <ℤ q → q ≤ℤ p → ⊥
        against p q h k = omega (arith, ints)

    decide_both : {P Q : Type 0} → Dec P → Dec Q → Dec (P × Q)
    decide_both p q =
        elim p [
          | inr fails ↦ inr (λ h. fails h.0)
          | inl a ↦ elim q [ inr fails ↦ inr (λ h. fails h.1) | inl b ↦ inl (a, b) ]
        ]

-- and so is whether two segments cross
decide_cross : (s t : Segment) → Dec (Cross s t)
decide_cross s t =
    elim (decide_opposed (cross_of s.a s.b t.a) (cross_of s.a s.b t.b)) [
      | inr fails ↦ inr (λ h. fails h.first)
      | inl first ↦ elim (decide_opposed (cross_of t.a t.b s.a) (cross_of t.a t.b s.b)) [
        | inr fails ↦ inr (λ h. fails h.second)
        | inl second ↦ inl (record { first = first; second = second })
      ]
    ]

-- nothing, as a fraction
abbrev none : Frac
none = whole 0 (lit≤ tt)

-- two segments
pub segment_segment : (s t : Segment) → IsSegmentInClosedPlane s → IsSegmentInClosedPlane t → HasLeast (IsOnSegment s) (IsOnSegment t)
segment_segment s t hs ht =
    elim (decide_cross s t) [
      | inl cross ↦ (none, crossing_least s t 0 1 refl refl cross)
      | inr apart ↦
          let a = point_segment s.a t hs.a ht in
          let b = point_segment s.b t hs.b ht in
          let c = point_segment t.a s ht.a hs in
          let d = point_segment t.b s ht.b hs in
          let of_s = lesser a.0 b.0 in
          let of_t = lesser c.0 d.0 in
          let least = lesser of_s.0 of_t.0 in (
            least.0,
            segments.nearest_least s t a.0 b.0 of_s.0 c.0 d.0 of_t.0 least.0
                (record {
                  first_of_s = a.1;
                  second_of_s = b.1;
                  lesser_of_s = of_s.1;
                  first_of_t = c.1;
                  second_of_t = d.1;
                  lesser_of_t = of_t.1;
                  lesser = least.1;
                }) apart,
          )
    ]

-- whether a segment enters a rectangle is decided
decide_enters : (s : Segment) (r : Rect) → Dec (EntersRect s r)
decide_enters s r =
    decide_either (decide_covered s.a r)
    (decide_either (decide_either (decide_cross s (left_side r)) (decide_cross s (right_side r)))
    (decide_either (decide_cross s (bottom_side r)) (decide_cross s (top_side r))))
  where
    decide_le : (m n : ℕ) → Dec (m ≤ n)
    decide_le m n = elim (cases_lt n m) [ inl h ↦ inr (λ k. against m n h k) | inr h ↦ inl h ]
      where
        against : (m n : ℕ) → n < m → m ≤ n → ⊥
        against m n h k = omega arith

    decide_covered : (p : Point) (r : Rect) → Dec (IsCovered p r)
    decide_covered p r =
        elim (decide_le r.low.x p.x) [
          | inr fails ↦ inr (λ h. fails h.left)
          | inl left ↦ elim (decide_le p.x r.high.x) [
            | inr fails ↦ inr (λ h. fails h.right)
            | inl right ↦ elim (decide_le r.low.y p.y) [
              | inr fails ↦ inr (λ h. fails h.bottom)
              | inl bottom ↦ elim (decide_le p.y r.high.y) [
                | inr fails ↦ inr (λ h. fails h.top)
                | inl top ↦ inl (record { left = left; right = right; bottom = bottom; top = top })
              ]
            ]
          ]
        ]

-- a segment and a rectangle
pub segment_rect : (s : Segment) (r : Rect) → IsSegmentInClosedPlane s → IsRectInClosedPlane r → HasLeast (IsOnSegment s) (IsInRect r)
segment_rect s r hs hr =
    elim (decide_enters s r) [
      | inl enters ↦ (none, corners.entering_least s r 0 1 (record { x = hr.x; y = hr.y }) refl refl enters)
      | inr outside ↦
          let a = point_rect s.a r hs.a hr in
          let b = point_rect s.b r hs.b hr in
          let low = point_segment r.low s hr.low hs in
          let tl = point_segment (top_left r) s (record { x = hr.low.x; y = hr.high.y }) hs in
          let br = point_segment (bottom_right r) s (record { x = hr.high.x; y = hr.low.y }) hs in
          let high = point_segment r.high s hr.high hs in
          let ends = lesser a.0 b.0 in
          let left = lesser low.0 tl.0 in
          let right = lesser br.0 high.0 in
          let all = lesser left.0 right.0 in
          let least = lesser ends.0 all.0 in (
            least.0,
            corners.nearest_least s r a.0 b.0 ends.0 low.0 tl.0 left.0 br.0 high.0 right.0 all.0 least.0 (record { x = hr.x; y = hr.y })
                (record {
                  from_a = a.1;
                  from_b = b.1;
                  of_ends = ends.1;
                  from_low = low.1;
                  from_top_left = tl.1;
                  of_left = left.1;
                  from_bottom_right = br.1;
                  from_high = high.1;
                  of_right = right.1;
                  of_corners = all.1;
                  of_all = least.1;
                }) outside,
          )
    ]
