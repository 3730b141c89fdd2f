-- A figure meets a rectangle exactly where a vertex of one is inside the other or they share a point.
use Rattle.std.proofs.Common.{◌≡◌, ◌⊎◌, inl, inr, ℕ, ◌*◌, ◌<◌, ◌≤◌, ℤ, pos, ◌-ℤ◌, ◌*ℤ◌, ◌≤ℤ◌, ◌<ℤ◌, List, [], ◌∷◌, refl, sym, ◌∙◌, subst, arith}
use Rattle.std.proofs.lemmas.Int.{ints}
use Rattle.sand_base.specs.declared.goal.Goal.{Goal}
use Rattle.sand_base.specs.declared.goal.Goal.TheVariants as goal
use Rattle.sand_base.specs.declared.point.Point.{Point}
use Rattle.sand_base.specs.declared.rect.Rect.{Rect}
use Rattle.sand_base.specs.declared.segment.Segment.{Segment}
use Rattle.sand_base.specs.declared.shape.Shape.TheVariants as shape
use Rattle.sand_model.specs.Points.{RationalPoint, IsWithin, IsOnSegment, IsInRect}
use Rattle.sand_model.specs.FigureGap.{IsCovering, IsGapOf, IsMeeting}
use Rattle.sand_model.specs.Figures.{IsPointOfFigure, HoldsInside}
use Rattle.sand_model.specs.Gap.{IsLeast, scaled_distance, common_square}
use Rattle.sand_model.specs.Rings.{SomeOf, edges}
use Rattle.plane_geom.specs.Expr.{var, at, ◌⊗◌}
use Rattle.plane_geom.proofs.Ring.{ring}
use Rattle.plane_geom.proofs.Order.{mul_le, le_from_mul, same_from_mul}
use Rattle.plane_geom.proofs.Squares.{squares_zero}
use Rattle.plane_geom.specs.Rectangles.{IsCovered}
use Rattle.plane_geom.proofs.Apart.{itself, met}
use Rattle.plane_geom.proofs.CrossingPoint.{shared_least}
use Rattle.plane_geom.proofs.Signs.{natural, above_zero}
use Rattle.ring_geom.proofs.Decide.{decide_covering}
use Rattle.ring_geom.proofs.Moves.{Meets}
use Rattle.ring_geom.proofs.Region.{all_inside}

-- two sets have a rational point in common
abbrev pub Shared : (RationalPoint → Type 0) → (RationalPoint → Type 0) → Type 0
Shared A B = (q : RationalPoint) × A q × B q

-- nothing, times something
nothing : (k : ℤ) → pos 0 *ℤ k ≡ pos 0
nothing k = omega (arith, ints)

-- sets with a common point are 0 apart
pub shared_zero : {A B : RationalPoint → Type 0} → Shared A B → IsLeast A B 0 1
shared_zero h = shared_least 0 1 refl refl (h.0, h.0, h.1, h.2, itself h.0 (pos 1) ∙ sym (nothing (common_square h.0 h.0)))

-- a least distance of sets with a common point is 0
pub shared_none : {A B : RationalPoint → Type 0} (m e : ℕ) → Shared A B → IsLeast A B m e → m ≡ 0
shared_none m e h least = met m e h.0 (least.least h.0 h.0 h.1 h.2)

-- a range holds for a place whatever the denominator under which it is told
carried : (low high n m : ℕ) (x u : ℤ) → 0 < n → 0 < m → x *ℤ pos m ≡ u *ℤ pos n → IsWithin low high m u → IsWithin low high n x
carried low high n m x u hn hm e h = record {
  above = le_from_mul (pos (n * low)) x (pos m) (above_zero m hm)
      (subst (λ t. (pos (n * low) *ℤ pos m) ≤ℤ t) (sym e)
      (subst (λ t. t ≤ℤ (u *ℤ pos n)) (exchanged (pos m) (pos low) (pos n)) (mul_le (pos (m * low)) u (pos n) (natural n) h.above)));
  below = le_from_mul x (pos (n * high)) (pos m) (above_zero m hm)
      (subst (λ t. t ≤ℤ (pos (n * high) *ℤ pos m)) (sym e)
      (subst (λ t. (u *ℤ pos n) ≤ℤ t) (exchanged (pos m) (pos high) (pos n)) (mul_le u (pos (m * high)) (pos n) (natural n) h.below)));
}
  where
    exchanged : (m l n : ℤ) → (m *ℤ l) *ℤ n ≡ (n *ℤ l) *ℤ m
    exchanged m l n = ring (at (m ∷ l ∷ n ∷ [])) ((var 0 ⊗ var 1) ⊗ var 2) ((var 2 ⊗ var 1) ⊗ var 0) refl

-- a set that is 0 from a rectangle has a point in it
pub zero_shared : {A : RationalPoint → Type 0} (r : Rect) (e : ℕ) → 0 < e → IsLeast A (IsInRect r) 0 e → Shared A (IsInRect r)
zero_shared r e he h =
    let q = h.attained.0 in
    let z = h.attained.1 in
    let far_none = product_none (scaled_distance q z) (pos e) (above_zero e he) (h.attained.4 ∙ nothing (common_square q z)) in
    let apart = squares_zero ((q.x *ℤ pos z.n) -ℤ (z.x *ℤ pos q.n)) ((q.y *ℤ pos z.n) -ℤ (z.y *ℤ pos q.n)) far_none in (
      q,
      h.attained.2,
      record {
        x = carried r.low.x r.high.x q.n z.n q.x z.x q.positive z.positive (level _ _ apart.0) h.attained.3.x;
        y = carried r.low.y r.high.y q.n z.n q.y z.y q.positive z.positive (level _ _ apart.1) h.attained.3.y;
      },
    )
  where
    level : (p q : ℤ) → p -ℤ q ≡ pos 0 → p ≡ q
    level p q h = omega (arith, ints)

    product_none : (a c : ℤ) → pos 0 <ℤ c → a *ℤ c ≡ pos 0 → a ≡ pos 0
    product_none a c hc h =
        same_from a c hc (h ∙ sym (nothing c))
      where
        same_from : (a c : ℤ) → pos 0 <ℤ c → a *ℤ c ≡ pos 0 *ℤ c → a ≡ pos 0
        same_from a c hc e = same_from_mul a (pos 0) c hc e

-- a vertex of one is inside the other, or they have a point in common
abbrev pub Touches : Goal → Rect → Type 0
Touches a r = IsCovering a (goal.Rect r) ⊎ Shared (IsPointOfFigure a) (IsInRect r)

-- a figure that touches a rectangle meets it
pub meets_of_touch : (a : Goal) (r : Rect) → Touches a r → IsMeeting a (goal.Rect r)
meets_of_touch a r h = record {
  inside = λ c. refl;
  outside = λ fails. elim h [ inl c ↦ absurd (fails c) | inr s ↦ shared_zero s ];
}

-- a figure whose gap from a rectangle is 0 touches it
pub zero_touch : (a : Goal) (r : Rect) (e : ℕ) → 0 < e → IsGapOf a (goal.Rect r) 0 e → Touches a r
zero_touch a r e he h =
    elim (decide_covering a (goal.Rect r)) [
      | inl c ↦ inl c
      | inr fails ↦ inr (zero_shared {A = IsPointOfFigure a} r e he (h.outside fails))
    ]

-- and so does one that meets it
pub touch_of_meets : (a : Goal) (r : Rect) → IsMeeting a (goal.Rect r) → Touches a r
touch_of_meets a r h = zero_touch a r 1 (omega arith) h

-- the gap of a figure from a rectangle that it touches is 0
pub gap_zero : (a : Goal) (r : Rect) (m e : ℕ) → Touches a r → IsGapOf a (goal.Rect r) m e → m ≡ 0
gap_zero a r m e t h =
    elim (decide_covering a (goal.Rect r)) [
      | inl c ↦ h.inside c
      | inr fails ↦ elim t [
        | inl c ↦ h.inside c
        | inr s ↦ shared_none m e s (h.outside fails)
      ]
    ]

-- some edge with a point in the rectangle is a point of the ring in it
pub ring_shared : (es : List Segment) (r : Rect) → SomeOf (Meets r) es → (q : RationalPoint) × SomeOf (λ s. IsOnSegment s q) es × IsInRect r q
ring_shared [] r h = absurd h
ring_shared (s ∷ es) r h =
    elim h [
      | inl m ↦ (m.0, inl m.1, m.2)
      | inr more ↦ let rest = ring_shared es r more in (rest.0, inr rest.1, rest.2)
    ]

-- the low corner of a rectangle that covers a grid point is covered
pub low_covered : (v : Point) (r : Rect) → IsCovered v r → IsCovered r.low r
low_covered v r h = record {
  left = same r.low.x;
  right = through r.low.x v.x r.high.x h.left h.right;
  bottom = same r.low.y;
  top = through r.low.y v.y r.high.y h.bottom h.top;
}
  where
    same : (n : ℕ) → n ≤ n
    same n = omega arith

    through : (a b c : ℕ) → a ≤ b → b ≤ c → a ≤ c
    through a b c h k = omega arith

-- a figure with a grid point of the rectangle inside its ring touches the rectangle
pub touch_of_inside : (a : Goal) (r : Rect) (v : Point) → IsCovered v r → HoldsInside a v → Touches a r
touch_of_inside (goal.Shape (shape.Point p)) r v h k = absurd k
touch_of_inside (goal.Shape (shape.Segment s)) r v h k = absurd k
touch_of_inside (goal.Rect b) r v h k = absurd k
touch_of_inside (goal.Shape (shape.Polygon corners)) r v h k =
    elim (all_inside corners r v r.low h (low_covered v r h) k) [
      | inl m ↦ inr (ring_shared (edges corners) r m)
      | inr low ↦ inl (inr (inl low))
    ]
