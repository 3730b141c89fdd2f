-- From a point outside a rectangle, the side towards it bounds the distance.
use Rattle.std.proofs.Common.{◌≡◌, ℕ, ◌*◌, ◌≤◌, min, max, ℤ, pos, ◌+ℤ◌, ◌-ℤ◌, ◌*ℤ◌, ◌≤ℤ◌, ◌<ℤ◌, [], ◌∷◌, refl, ap, ◌∙◌, subst, arith}
use Rattle.std.proofs.Math.Nat.{mul-le-mul_left, le_refl}
use Rattle.std.proofs.lemmas.Int.{ints, by_lt_z}
use Rattle.sand_base.specs.declared.point.Point.{Point}
use Rattle.sand_base.specs.declared.rect.Rect.{Rect}
use Rattle.sand_base.specs.declared.segment.Segment.{Segment}
use Rattle.sand_model.specs.Points.{RationalPoint, IsWithin, IsOnSegment, IsInRect}
use Rattle.sand_model.specs.Gap.{square}
use Rattle.plane_geom.specs.Expr.{num, ◌⊕◌, ◌⊖◌, ◌⊗◌}
use Rattle.plane_geom.proofs.Named.{identity, inequality}
use Rattle.plane_geom.proofs.Order.{difference_nonneg, mul_nonneg, mul_le, add_nonneg, chain_le, pos_le}
use Rattle.plane_geom.proofs.Squares.{square_nonneg}
use Rattle.plane_geom.specs.Rectangles.{IsCovered, top_left, bottom_right, left_side, right_side, bottom_side, top_side}
use Rattle.plane_geom.proofs.Apart.{AreApart}
use Rattle.plane_geom.proofs.Axis.{Axis, horizontal, vertical, coordinate, numerator, IsInRange, in_range}
use Rattle.plane_geom.proofs.Signs.{natural, weak}

-- the rectangle reads from its low corner to its high one
pub record IsOrdered (r : Rect) : Type 0 where
  pub x : r.low.x ≤ r.high.x
  pub y : r.low.y ≤ r.high.y

-- one end of a rectangle's range along an axis, or the other
pub data End : Type 0 where
  low_end : End
  high_end : End

-- the corner with that end of both ranges
abbrev pub corner : End → Rect → Point
corner low_end r = r.low
corner high_end r = r.high

-- the side at an end of the axis
abbrev pub side : Axis → End → Rect → Segment
side horizontal low_end r = left_side r
side horizontal high_end r = right_side r
side vertical low_end r = bottom_side r
side vertical high_end r = top_side r

-- no point of a segment is nearer to a side of a rectangle than the root of m / e
abbrev pub SidesApart : ℕ → ℕ → Segment → Rect → Type 0
SidesApart m e s r = (axis : Axis) (end : End) (q z : RationalPoint) → IsOnSegment s q → IsOnSegment (side axis end r) z → AreApart m e q z

-- a value of its range lies in it
pub value_within : (low high a n : ℕ) (x : ℤ) → x ≡ pos (n * a) → low ≤ a → a ≤ high → IsWithin low high n x
value_within low high a n x e l h = record {
  above = rw e (pos_le (n * low) (n * a) (mul-le-mul_left n l));
  below = rw e (pos_le (n * a) (n * high) (mul-le-mul_left n h));
}

-- what lies between two values of a range lies in the range
pub wider : (low high a b n : ℕ) (x : ℤ) → low ≤ a → low ≤ b → a ≤ high → b ≤ high → IsWithin (min a b) (max a b) n x → IsWithin low high n x
wider low high a b n x la lb ah bh h = record {
  above = chain_le _ _ _ (pos_le _ _ (mul-le-mul_left n (least low a b la lb))) h.above;
  below = chain_le _ _ _ h.below (pos_le _ _ (mul-le-mul_left n (greatest high a b ah bh)));
}
  where
    least : (l a b : ℕ) → l ≤ a → l ≤ b → l ≤ min a b
    least l a b h k = omega arith

    greatest : (g a b : ℕ) → a ≤ g → b ≤ g → max a b ≤ g
    greatest g a b h k = omega arith

-- both ends of a segment lie in the rectangle
pub record EndsCovered (r : Rect) (s : Segment) : Type 0 where
  pub a : IsCovered s.a r
  pub b : IsCovered s.b r

-- and so does each point of it
pub segment_in : (r : Rect) (s : Segment) (q : RationalPoint) → EndsCovered r s → IsOnSegment s q → IsInRect r q
segment_in r s q h on = record {
  x = wider r.low.x r.high.x s.a.x s.b.x q.n q.x h.a.left h.b.left h.a.right h.b.right on.x;
  y = wider r.low.y r.high.y s.a.y s.b.y q.n q.y h.a.bottom h.b.bottom h.a.top h.b.top on.y;
}

-- all four corners of a rectangle lie in it
pub record CornersCovered (r : Rect) : Type 0 where
  pub low : IsCovered r.low r
  pub top_left_one : IsCovered (top_left r) r
  pub bottom_right_one : IsCovered (bottom_right r) r
  pub high : IsCovered r.high r

-- as they do where its low corner is the low one
pub corners_covered : (r : Rect) → IsOrdered r → CornersCovered r
corners_covered r o = record {
  low = record { left = le_refl _; right = o.x; bottom = le_refl _; top = o.y };
  top_left_one = record { left = le_refl _; right = o.x; bottom = o.y; top = le_refl _ };
  bottom_right_one = record { left = o.x; right = le_refl _; bottom = le_refl _; top = o.y };
  high = record { left = o.x; right = le_refl _; bottom = o.y; top = le_refl _ };
}

-- so a side lies in its rectangle
pub side_in : (axis : Axis) (end : End) (r : Rect) → IsOrdered r → (z : RationalPoint) → IsOnSegment (side axis end r) z → IsInRect r z
side_in horizontal low_end r o z = segment_in r _ z (record { a = (corners_covered r o).low; b = (corners_covered r o).top_left_one })
side_in horizontal high_end r o z = segment_in r _ z (record { a = (corners_covered r o).bottom_right_one; b = (corners_covered r o).high })
side_in vertical low_end r o z = segment_in r _ z (record { a = (corners_covered r o).low; b = (corners_covered r o).bottom_right_one })
side_in vertical high_end r o z = segment_in r _ z (record { a = (corners_covered r o).top_left_one; b = (corners_covered r o).high })

-- what is the value itself lies between the value and the value
at_value : (a n : ℕ) (x : ℤ) → x ≡ pos (n * a) → IsWithin (min a a) (max a a) n x
at_value a n x e = value_within (min a a) (max a a) a n x e (omega arith) (omega arith)

-- a range from its lesser end is one from the lesser of its ends
in_order : (a b n : ℕ) (x : ℤ) → a ≤ b → IsWithin a b n x → IsWithin (min a b) (max a b) n x
in_order a b n x o h =
    let l : min a b ≡ a = omega arith in
    let k : max a b ≡ b = omega arith in
    rw (l, k) h

-- the points of a vertical segment
vertical_on : (x low high : ℕ) (z : RationalPoint) → low ≤ high → z.x ≡ pos (z.n * x) → IsWithin low high z.n z.y
    → IsOnSegment (record { a = record { x = x; y = low }; b = record { x = x; y = high } }) z
vertical_on x low high z o ex hy = record {
  line = ap (λ t. ((pos x -ℤ pos x) *ℤ (z.y -ℤ (pos z.n *ℤ pos low))) -ℤ ((pos high -ℤ pos low) *ℤ (t -ℤ (pos z.n *ℤ pos x)))) ex
      ∙ identity (pos x ∷ pos low ∷ pos high ∷ pos z.n ∷ z.y ∷ [])
      (λ x a b n y. ((x ⊖ x) ⊗ (y ⊖ n ⊗ a) ⊖ (b ⊖ a) ⊗ (n ⊗ x ⊖ n ⊗ x), num (pos 0))) refl;
  x = at_value x z.n z.x ex;
  y = in_order low high z.n z.y o hy;
}

-- the points of a horizontal segment
horizontal_on : (y low high : ℕ) (z : RationalPoint) → low ≤ high → z.y ≡ pos (z.n * y) → IsWithin low high z.n z.x
    → IsOnSegment (record { a = record { x = low; y = y }; b = record { x = high; y = y } }) z
horizontal_on y low high z o ey hx = record {
  line = ap (λ t. ((pos high -ℤ pos low) *ℤ (t -ℤ (pos z.n *ℤ pos y))) -ℤ ((pos y -ℤ pos y) *ℤ (z.x -ℤ (pos z.n *ℤ pos low)))) ey
      ∙ identity (pos y ∷ pos low ∷ pos high ∷ pos z.n ∷ z.x ∷ [])
      (λ y a b n x. ((b ⊖ a) ⊗ (n ⊗ y ⊖ n ⊗ y) ⊖ (y ⊖ y) ⊗ (x ⊖ n ⊗ a), num (pos 0))) refl;
  x = in_order low high z.n z.x o hx;
  y = at_value y z.n z.y ey;
}

-- a point of the rectangle at an end of an axis is on the side there
pub on_side : (axis : Axis) (end : End) (r : Rect) (z : RationalPoint) → IsOrdered r → IsInRect r z
    → numerator axis z ≡ pos (z.n * coordinate axis (corner end r)) → IsOnSegment (side axis end r) z
on_side horizontal low_end r z o h = λ e. vertical_on r.low.x r.low.y r.high.y z o.y e h.y
on_side horizontal high_end r z o h = λ e. vertical_on r.high.x r.low.y r.high.y z o.y e h.y
on_side vertical low_end r z o h = λ e. horizontal_on r.low.y r.low.x r.high.x z o.x e h.x
on_side vertical high_end r z o h = λ e. horizontal_on r.high.y r.low.x r.high.x z o.x e h.x

-- the end is in its range
pub end_in : (axis : Axis) (end : End) (r : Rect) (z : RationalPoint) → IsOrdered r
    → numerator axis z ≡ pos (z.n * coordinate axis (corner end r)) → IsInRange axis r z
end_in horizontal low_end r z o = λ e. value_within r.low.x r.high.x r.low.x z.n z.x e (le_refl _) o.x
end_in horizontal high_end r z o = λ e. value_within r.low.x r.high.x r.high.x z.n z.x e o.x (le_refl _)
end_in vertical low_end r z o = λ e. value_within r.low.y r.high.y r.low.y z.n z.y e (le_refl _) o.y
end_in vertical high_end r z o = λ e. value_within r.low.y r.high.y r.high.y z.n z.y e o.y (le_refl _)

-- a rational point moved along the axis to a whole value
abbrev moved : Axis → ℕ → RationalPoint → RationalPoint
moved horizontal a z = record { x = pos (z.n * a); y = z.y; n = z.n; positive = z.positive }
moved vertical a z = record { x = z.x; y = pos (z.n * a); n = z.n; positive = z.positive }

-- along an axis, a value between two is no farther from the one than the other is
nearer_value : (x n a u m : ℤ) → pos 0 ≤ℤ n → pos 0 ≤ℤ m → pos 0 ≤ℤ (((n *ℤ a) -ℤ x) *ℤ (u -ℤ (m *ℤ a)))
    → square ((x *ℤ m) -ℤ ((m *ℤ a) *ℤ n)) ≤ℤ square ((x *ℤ m) -ℤ (u *ℤ n))
nearer_value x n a u m hn hm h =
    inequality (x ∷ n ∷ a ∷ u ∷ m ∷ [])
    (λ x n a u m.
    let near = x ⊗ m ⊖ (m ⊗ a) ⊗ n in
    let whole = x ⊗ m ⊖ u ⊗ n in
    let gain = (u ⊖ m ⊗ a) ⊗ n in (
      near ⊗ near,
      whole ⊗ whole,
      gain ⊗ gain ⊕ (num (pos 2) ⊗ (n ⊗ m)) ⊗ ((n ⊗ a ⊖ x) ⊗ (u ⊖ m ⊗ a)),
    )) refl
    (add_nonneg _ _ (square_nonneg _) (mul_nonneg _ _ (mul_nonneg (pos 2) (n *ℤ m) (omega (arith, ints)) (mul_nonneg n m hn hm)) h))

-- so where a bound holds for the point moved towards q, it holds for the point
moved_apart : (axis : Axis) (m e a : ℕ) (q z : RationalPoint)
    → pos 0 ≤ℤ ((pos (q.n * a) -ℤ numerator axis q) *ℤ (numerator axis z -ℤ pos (z.n * a)))
    → AreApart m e q (moved axis a z) → AreApart m e q z
moved_apart horizontal m e a q z h k =
    chain_le _ _ _ k (mul_le _ _ (pos e) (natural e) (first _ _ _ (nearer_value q.x (pos q.n) (pos a) z.x (pos z.n) (natural q.n) (natural z.n) h)))
  where
    first : (p q r : ℤ) → p ≤ℤ q → (p +ℤ r) ≤ℤ (q +ℤ r)
    first p q r h = omega (arith, ints)
moved_apart vertical m e a q z h k =
    chain_le _ _ _ k (mul_le _ _ (pos e) (natural e) (second _ _ _ (nearer_value q.y (pos q.n) (pos a) z.y (pos z.n) (natural q.n) (natural z.n) h)))
  where
    second : (p q r : ℤ) → p ≤ℤ q → (r +ℤ p) ≤ℤ (r +ℤ q)
    second p q r h = omega (arith, ints)

-- the point lies outside the rectangle, beyond an end of the axis
abbrev pub IsBeyond : Axis → End → Rect → RationalPoint → Type 0
IsBeyond axis low_end r q = numerator axis q <ℤ pos (q.n * coordinate axis r.low)
IsBeyond axis high_end r q = pos (q.n * coordinate axis r.high) <ℤ numerator axis q

-- or it lies in the range
pub beyond_or_in : {P : Type 0} (axis : Axis) (r : Rect) (q : RationalPoint) → ((end : End) → IsBeyond axis end r q → P) → (IsInRange axis r q → P) → P
beyond_or_in axis r q out here =
    by_lt_z _ _ (out low_end) (λ above. by_lt_z _ _ (out high_end) (λ below. here (record { above = above; below = below })))

-- from a point beyond an end, the side there bounds the distance from the whole rectangle
pub beyond_apart : (axis : Axis) (end : End) (m e : ℕ) (s : Segment) (r : Rect) (q z : RationalPoint) → IsOrdered r → SidesApart m e s r
    → IsOnSegment s q → IsInRect r z → IsBeyond axis end r q → AreApart m e q z
beyond_apart axis end m e s r q z o h hq hz out =
    let a = coordinate axis (corner end r) in
    moved_apart axis m e a q z (apart axis end out)
    (h axis end q (moved axis a z) hq (on_side axis end r (moved axis a z) o (kept axis) (at axis a)))
  where
    turned : (p q s t : ℤ) → (q -ℤ p) *ℤ (t -ℤ s) ≡ (p -ℤ q) *ℤ (s -ℤ t)
    turned p q s t = identity (p ∷ q ∷ s ∷ t ∷ []) (λ p q s t. ((q ⊖ p) ⊗ (t ⊖ s), (p ⊖ q) ⊗ (s ⊖ t))) refl

    at : (axis : Axis) (a : ℕ) → numerator axis (moved axis a z) ≡ pos ((moved axis a z).n * a)
    at horizontal a = refl
    at vertical a = refl

    kept : (axis : Axis) → IsInRect r (moved axis (coordinate axis (corner end r)) z)
    kept horizontal = record { x = end_in horizontal end r (moved horizontal (coordinate horizontal (corner end r)) z) o refl; y = hz.y }
    kept vertical = record { x = hz.x; y = end_in vertical end r (moved vertical (coordinate vertical (corner end r)) z) o refl }

    apart : (axis : Axis) (end : End) → IsBeyond axis end r q
        → pos 0 ≤ℤ ((pos (q.n * coordinate axis (corner end r)) -ℤ numerator axis q) *ℤ (numerator axis z -ℤ pos (z.n * coordinate axis (corner end r))))
    apart axis low_end l = mul_nonneg _ _ (difference_nonneg _ _ (weak _ _ l)) (difference_nonneg _ _ (in_range axis r z hz).above)
    apart axis high_end l =
        subst (λ t. pos 0 ≤ℤ t) (turned (pos (q.n * coordinate axis r.high)) (numerator axis q) (numerator axis z) (pos (z.n * coordinate axis r.high)))
        (mul_nonneg _ _ (difference_nonneg _ _ (weak _ _ l)) (difference_nonneg _ _ (in_range axis r z hz).below))
