-- A segment with a point in a rectangle and an end outside meets a side, so that its sides bound the distance.
use Rattle.std.proofs.Common.{◌≡◌, ℕ, ◌*◌, ◌≤◌, ℤ, pos, ◌-ℤ◌, ◌≤ℤ◌, ◌<ℤ◌, arith}
use Rattle.std.proofs.lemmas.Int.{ints}
use Rattle.sand_base.specs.declared.rect.Rect.{Rect}
use Rattle.sand_base.specs.declared.segment.Segment.{Segment}
use Rattle.sand_model.specs.Points.{RationalPoint, IsOnSegment, IsInRect}
use Rattle.plane_geom.specs.Rectangles.{IsCovered}
use Rattle.plane_geom.proofs.Apart.{AreApart, met, no_bound}
use Rattle.plane_geom.proofs.Axis.{Axis, horizontal, vertical, other, coordinate, numerator, IsInRange, in_range, in_both}
use Rattle.plane_geom.proofs.Blend.{IsCut, cut}
use Rattle.plane_geom.proofs.Means.{mean_on, first_end}
use Rattle.plane_geom.proofs.GapOfPoints.{spot, spot_is}
use Rattle.plane_geom.proofs.Signs.{weak}
use Rattle.plane_geom.proofs.Sides.{IsOrdered, SidesApart, IsBeyond, End, low_end, high_end, corner, on_side, end_in, beyond_or_in, beyond_apart}

-- a segment with a point in the rectangle and one beyond an end of an axis has one at the end, within all that both lie in
passing_end : (axis : Axis) (end : End) (s : Segment) (r : Rect) (q p : RationalPoint) → IsOnSegment s q → IsInRect r q → IsOnSegment s p
    → IsBeyond axis end r p → (c : RationalPoint) × IsCut axis s (coordinate axis (corner end r)) q p c
passing_end axis low_end s r q p hq iq hp out =
    let inside = (in_range axis r q iq).above in
    cut axis s (coordinate axis r.low) q p hq hp inside (weak _ _ out) (from _ _ _ _ out inside)
  where
    from : (p q l k : ℤ) → p <ℤ l → k ≤ℤ q → (p -ℤ l) <ℤ (q -ℤ k)
    from p q l k h g = omega (arith, ints)
passing_end axis high_end s r q p hq iq hp out =
    let inside = (in_range axis r q iq).below in
    let c = cut axis s (coordinate axis r.high) p q hp hq (weak _ _ out) inside (to _ _ _ _ inside out) in
    (c.0, record { on = c.1.on; at_level = c.1.at_level; between = λ along low high h k. c.1.between along low high k h })
  where
    to : (p q l k : ℤ) → p ≤ℤ l → k <ℤ q → (p -ℤ l) <ℤ (q -ℤ k)
    to p q l k h g = omega (arith, ints)

-- where the sides are apart from a segment with a point q in the rectangle
module _ (m e : ℕ) (s : Segment) (r : Rect) (q : RationalPoint) (o : IsOrdered r) (h : SidesApart m e s r) (hq : IsOnSegment s q) (iq : IsInRect r q) where
  -- a point of the segment and the rectangle at an end of an axis meets the side there
  meets_side : (axis : Axis) (end : End) (c : RationalPoint) → IsOnSegment s c → IsInRect r c
      → numerator axis c ≡ pos (c.n * coordinate axis (corner end r)) → m ≡ 0
  meets_side axis end c on ic at = met m e c (h axis end c c on (on_side axis end r c o ic at))

  -- a point of the segment in the rectangle's range along an axis lies in the rectangle, or the segment leaves it by a side of the other axis
  leaves : (axis : Axis) (p : RationalPoint) → IsOnSegment s p → IsInRange axis r p → (IsInRect r p → m ≡ 0) → m ≡ 0
  leaves axis p hp ip here =
      beyond_or_in (other axis) r p
      (λ end out.
      let c = passing_end (other axis) end s r q p hq iq hp out in
      meets_side (other axis) end c.0 c.1.on
      (in_both axis r c.0 (c.1.between axis _ _ (in_range axis r q iq) ip) (end_in (other axis) end r c.0 o c.1.at_level)) c.1.at_level)
      (λ within. here (in_both axis r p ip within))

  -- a point of the segment lies in the rectangle's range along an axis, or the segment leaves it by a side of either
  in_range_or_leaves : (axis : Axis) (p : RationalPoint) → IsOnSegment s p → (IsInRange axis r p → m ≡ 0) → m ≡ 0
  in_range_or_leaves axis p hp here =
      beyond_or_in axis r p
      (λ end out.
      let c = passing_end axis end s r q p hq iq hp out in
      leaves axis c.0 c.1.on (end_in axis end r c.0 o c.1.at_level) (λ ic. meets_side axis end c.0 c.1.on ic c.1.at_level))
      here

-- a segment with a point in the rectangle and an end outside meets a side
crosses_side : (m e : ℕ) (s : Segment) (r : Rect) (q : RationalPoint) → IsOrdered r → SidesApart m e s r → IsOnSegment s q → IsInRect r q
    → ¬ IsCovered s.a r → m ≡ 0
crosses_side m e s r q o h hq iq outside =
    let a = spot s.a in
    let ha = mean_on s a (first_end s.a s.b a (spot_is s.a)) in
    in_range_or_leaves m e s r q o h hq iq horizontal a ha
    (λ ix.
    leaves m e s r q o h hq iq horizontal a ha ix
    (λ i.
    absurd (outside (record {
      left = back _ _ i.x.above;
      right = back' _ _ i.x.below;
      bottom = back _ _ i.y.above;
      top = back' _ _ i.y.below;
    }))))
  where
    back : (p q : ℕ) → pos (1 * p) ≤ℤ pos q → p ≤ q
    back p q h = omega (arith, ints)

    back' : (p q : ℕ) → pos p ≤ℤ pos (1 * q) → p ≤ q
    back' p q h = omega (arith, ints)

-- where an end of the segment lies outside, the sides bound the distance from the whole rectangle
pub sides_bound : (m e : ℕ) (s : Segment) (r : Rect) → IsOrdered r → SidesApart m e s r → ¬ IsCovered s.a r → (q z : RationalPoint)
    → IsOnSegment s q → IsInRect r z → AreApart m e q z
sides_bound m e s r o h outside q z hq hz =
    beyond_or_in horizontal r q (λ end out. beyond_apart horizontal end m e s r q z o h hq hz out)
    (λ ix.
    beyond_or_in vertical r q (λ end out. beyond_apart vertical end m e s r q z o h hq hz out)
    (λ iy. no_bound m e q z (crosses_side m e s r q o h hq (record { x = ix; y = iy }) outside)))
