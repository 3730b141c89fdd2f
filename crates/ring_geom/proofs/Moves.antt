-- Whole moves inside a rectangle: along a row and along a column each edge is crossed alike, or it meets the rectangle.
use Rattle.std.proofs.Common.{◌≡◌, ◌⊎◌, inl, inr, ℕ, ◌*◌, ◌<◌, ◌≤◌, ℤ, pos, ◌-ℤ◌, ◌≤ℤ◌, ◌<ℤ◌, Bool, true, false, not, ◌&&◌, refl, ap, ap₂, sym, ◌∙◌, arith}
use Rattle.std.specs.Prelude.{nat_lt, int_lt}
use Rattle.std.proofs.lemmas.Bool.{cases_Bool, and_parts, not-true, ltb-true, ltb-false, lt-ltb, false≢true}
use Rattle.std.proofs.lemmas.Int.{ints}
use Rattle.std.proofs.Math.Nat.{mul-le-mul_left}
use Rattle.sand_base.specs.declared.point.Point.{Point}
use Rattle.sand_base.specs.declared.rect.Rect.{Rect}
use Rattle.sand_base.specs.declared.segment.Segment.{Segment}
use Rattle.sand_model.specs.Points.{RationalPoint, IsWithin, IsOnSegment, IsInRect}
use Rattle.sand_model.specs.Rings.{grid, is_crossed, differ}
use Rattle.plane_geom.proofs.Order.{pos_le, chain_le}
use Rattle.plane_geom.proofs.Axis.{horizontal, vertical}
use Rattle.plane_geom.proofs.Blend.{cut}
use Rattle.plane_geom.proofs.Sides.{value_within}
use Rattle.plane_geom.proofs.Signs.{weak}
use Rattle.ring_geom.proofs.Crossed.{crossing, uncrossed, first_on, second_on}
use Rattle.ring_geom.proofs.Parity.{at_ends, differ_self, differ_none}

-- a point of the segment lies in the rectangle
abbrev pub Meets : Rect → Segment → Type 0
Meets r s = (q : RationalPoint) × IsOnSegment s q × IsInRect r q

-- a point of the segment at the rectangle's heights, and whether it lies to the right of a column
record IsSeen (s : Segment) (r : Rect) (x : ℕ) (b : Bool) : Type 0 where
  q : RationalPoint
  on : IsOnSegment s q
  y : IsWithin r.low.y r.high.y q.n q.y
  side : b ≡ int_lt (pos (q.n * x)) q.x

-- what a test of an order says
is_lt : (p q : ℤ) → int_lt p q ≡ true → p <ℤ q
is_lt p q h = grind (arith, ints)

is_le : (p q : ℤ) → int_lt p q ≡ false → q ≤ℤ p
is_le p q h = grind (arith, ints)

-- of two points of a segment, one to the right of a column and one not, one between them stands in the column
divided : (s : Segment) (r : Rect) (x : ℕ) → r.low.x ≤ x → x ≤ r.high.x → (a b : Bool) → a ≡ true → b ≡ false
    → IsSeen s r x a → IsSeen s r x b → Meets r s
divided s r x l h a b ea eb p q =
    let right = is_lt (pos (p.q.n * x)) p.q.x (sym p.side ∙ ea) in
    let left = is_le (pos (q.q.n * x)) q.q.x (sym q.side ∙ eb) in
    let c = cut horizontal s x p.q q.q p.on q.on (weak _ _ right) left (spread _ _ _ _ right left) in (
      c.0,
      c.1.on,
      record {
        x = value_within r.low.x r.high.x x c.0.n c.0.x c.1.at_level l h;
        y = c.1.between vertical r.low.y r.high.y p.y q.y;
      },
    )
  where
    spread : (p q y z : ℤ) → z <ℤ q → p ≤ℤ y → (p -ℤ y) <ℤ (q -ℤ z)
    spread p q y z h k = omega (arith, ints)

-- so two points of a segment at the rectangle's heights lie on one side of a column, or the segment meets the rectangle
agree : (s : Segment) (r : Rect) (x : ℕ) → r.low.x ≤ x → x ≤ r.high.x → (a b : Bool) → IsSeen s r x a → IsSeen s r x b
    → Meets r s ⊎ (a ≡ b)
agree s r x l h false false p q = inr refl
agree s r x l h true true p q = inr refl
agree s r x l h true false p q = inl (divided s r x l h true false refl refl p q)
agree s r x l h false true p q = inl (divided s r x l h true false refl refl q p)

-- the vertices above the lower height and not above the upper one, to the right of the column
abbrev pub marks : ℕ → ℕ → ℕ → Point → Bool
marks x y y' p = (nat_lt y p.y && not (nat_lt y' p.y)) && nat_lt x p.x

-- The cases of `along_column`, with no geometry in them. Of each end: is it above the lower height, and above the upper
-- one; `S` says of a test that it tells on which side of the column some point of the band lies.
joined : {P : Type 0} (S : Bool → Type 0) → ((c d : Bool) → S c → S d → P ⊎ (c ≡ d)) → (a a' b b' u v c d : Bool)
    → (a' ≡ true → a ≡ true) → (b' ≡ true → b ≡ true)
    → (differ a b ≡ false → c ≡ false) → (differ a' b' ≡ false → d ≡ false)
    → (differ a b ≡ true → S c) → (differ a' b' ≡ true → S d)
    → ((a && not a') ≡ true → S u) → ((b && not b') ≡ true → S v)
    → P ⊎ (differ c d ≡ differ ((a && not a') && u) ((b && not b') && v))
joined S same false true b b' u v c d ha hb nc nd sc sd su sv = absurd (false≢true (ha refl))
joined S same a a' false true u v c d ha hb nc nd sc sd su sv = absurd (false≢true (hb refl))
joined S same false false false false u v c d ha hb nc nd sc sd su sv = inr (ap₂ differ (nc refl) (nd refl))
joined S same false false true false u v c d ha hb nc nd sc sd su sv =
    elim (same c v (sc refl) (sv refl)) [ inl m ↦ inl m | inr e ↦ inr (ap₂ differ e (nd refl) ∙ differ_none v ∙ left v) ]
  where
    left : (v : Bool) → v ≡ differ false (true && v)
    left false = refl
    left true = refl
joined S same false false true true u v c d ha hb nc nd sc sd su sv =
    elim (same c d (sc refl) (sd refl)) [ inl m ↦ inl m | inr e ↦ inr (ap (λ t. differ t d) e ∙ differ_self d) ]
joined S same true false false false u v c d ha hb nc nd sc sd su sv =
    elim (same c u (sc refl) (su refl)) [ inl m ↦ inl m | inr e ↦ inr (ap₂ differ e (nd refl) ∙ right u) ]
  where
    right : (u : Bool) → differ u false ≡ differ (true && u) false
    right false = refl
    right true = refl
joined S same true false true false u v c d ha hb nc nd sc sd su sv =
    elim (same u v (su refl) (sv refl)) [ inl m ↦ inl m | inr e ↦ inr (ap₂ differ (nc refl) (nd refl) ∙ both u v e) ]
  where
    both : (u v : Bool) → u ≡ v → false ≡ differ (true && u) (true && v)
    both false false e = refl
    both true true e = refl
    both false true e = absurd (false≢true e)
    both true false e = absurd (false≢true (sym e))
joined S same true false true true u v c d ha hb nc nd sc sd su sv =
    elim (same d u (sd refl) (su refl)) [ inl m ↦ inl m | inr e ↦ inr (ap₂ differ (nc refl) e ∙ right u) ]
  where
    right : (u : Bool) → differ false u ≡ differ (true && u) false
    right false = refl
    right true = refl
joined S same true true false false u v c d ha hb nc nd sc sd su sv =
    elim (same c d (sc refl) (sd refl)) [ inl m ↦ inl m | inr e ↦ inr (ap (λ t. differ t d) e ∙ differ_self d) ]
joined S same true true true false u v c d ha hb nc nd sc sd su sv =
    elim (same d v (sd refl) (sv refl)) [ inl m ↦ inl m | inr e ↦ inr (ap₂ differ (nc refl) e ∙ left v) ]
  where
    left : (v : Bool) → differ false v ≡ differ false (true && v)
    left false = refl
    left true = refl
joined S same true true true true u v c d ha hb nc nd sc sd su sv = inr (ap₂ differ (nc refl) (nd refl))

-- the point of an edge at a height of the rectangle is seen
seen_crossing : (s : Segment) (r : Rect) (x y : ℕ) → r.low.y ≤ y → y ≤ r.high.y → differ (nat_lt y s.a.y) (nat_lt y s.b.y) ≡ true
    → IsSeen s r x (is_crossed (record { x = x; y = y }) s)
seen_crossing s r x y l h e =
    let c = crossing s y e in
    record { q = c.q; on = c.on; y = value_within r.low.y r.high.y y c.q.n c.q.y c.level l h; side = c.side x }

-- and so is an end between two heights of the rectangle
seen_end : (s : Segment) (r : Rect) (x y y' : ℕ) (p : Point) → r.low.y ≤ y → y' ≤ r.high.y → IsOnSegment s (grid p)
    → (nat_lt y p.y && not (nat_lt y' p.y)) ≡ true → IsSeen s r x (nat_lt x p.x)
seen_end s r x y y' p l h on e =
    let parts = and_parts (nat_lt y p.y) (not (nat_lt y' p.y)) e in
    record {
      q = grid p;
      on = on;
      y = value_within r.low.y r.high.y p.y 1 (pos p.y) (once p.y) (low y p.y r.low.y l (ltb-true y p.y parts.0))
          (high y' p.y r.high.y h (ltb-false y' p.y (not-true _ parts.1)));
      side = ap (λ (t : ℕ). nat_lt t p.x) (single x);
    }
  where
    single : (n : ℕ) → n ≡ 1 * n
    single n = omega arith

    once : (n : ℕ) → pos n ≡ pos (1 * n)
    once n = ap pos (single n)

    low : (y p l : ℕ) → l ≤ y → y < p → l ≤ p
    low y p l h k = omega arith

    high : (y p h : ℕ) → y ≤ h → p ≤ y → p ≤ h
    high y p h k l = omega arith

-- what is above the upper height is above the lower one
above_both : (y y' p : ℕ) → y ≤ y' → nat_lt y' p ≡ true → nat_lt y p ≡ true
above_both y y' p o h = lt-ltb y p (up y y' p o (ltb-true y' p h))
  where
    up : (y y' p : ℕ) → y ≤ y' → y' < p → y < p
    up y y' p o h = omega arith

-- up a column, an edge meets the rectangle, or it is crossed otherwise just where the ends in the band say so
pub along_column : (r : Rect) (s : Segment) (x y y' : ℕ) → r.low.x ≤ x → x ≤ r.high.x → r.low.y ≤ y → y ≤ y' → y' ≤ r.high.y
    → Meets r s ⊎ (differ (is_crossed (record { x = x; y = y }) s) (is_crossed (record { x = x; y = y' }) s) ≡ at_ends (marks x y y') s)
along_column r s x y y' lx hx ly o hy =
    joined (IsSeen s r x) (agree s r x lx hx) (nat_lt y s.a.y) (nat_lt y' s.a.y) (nat_lt y s.b.y) (nat_lt y' s.b.y)
    (nat_lt x s.a.x) (nat_lt x s.b.x) (is_crossed (record { x = x; y = y }) s) (is_crossed (record { x = x; y = y' }) s)
    (above_both y y' s.a.y o) (above_both y y' s.b.y o)
    (uncrossed s (record { x = x; y = y })) (uncrossed s (record { x = x; y = y' }))
    (seen_crossing s r x y ly (under y y' r.high.y o hy)) (seen_crossing s r x y' (over y y' r.low.y ly o) hy)
    (seen_end s r x y y' s.a ly hy (first_on s)) (seen_end s r x y y' s.b ly hy (second_on s))
  where
    under : (y y' h : ℕ) → y ≤ y' → y' ≤ h → y ≤ h
    under y y' h o k = omega arith

    over : (y y' l : ℕ) → l ≤ y → y ≤ y' → l ≤ y'
    over y y' l k o = omega arith

-- along a row, an edge meets the rectangle, or it is crossed from both points or from neither
pub along_row : (r : Rect) (s : Segment) (x x' y : ℕ) → r.low.x ≤ x → x ≤ x' → x' ≤ r.high.x → r.low.y ≤ y → y ≤ r.high.y
    → Meets r s ⊎ (is_crossed (record { x = x; y = y }) s ≡ is_crossed (record { x = x'; y = y }) s)
along_row r s x x' y lx o hx ly hy =
    elim (cases_Bool (differ (nat_lt y s.a.y) (nat_lt y s.b.y))) [
      | inr e ↦ inr (uncrossed s (record { x = x; y = y }) e ∙ sym (uncrossed s (record { x = x'; y = y }) e))
      | inl e ↦
          let c = crossing s y e in
          elim (cases_Bool (int_lt (pos (c.q.n * x)) c.q.x)) [
            | inl a ↦ elim (cases_Bool (int_lt (pos (c.q.n * x')) c.q.x)) [
              | inl b ↦ inr (c.side x ∙ a ∙ sym b ∙ sym (c.side x'))
              | inr b ↦ inl (
                c.q,
                c.on,
                record {
                  x = record {
                    above = chain_le (pos (c.q.n * r.low.x)) (pos (c.q.n * x)) c.q.x (pos_le _ _ (mul-le-mul_left c.q.n lx))
                        (weak _ _ (is_lt _ _ a));
                    below = chain_le c.q.x (pos (c.q.n * x')) (pos (c.q.n * r.high.x)) (is_le _ _ b) (pos_le _ _ (mul-le-mul_left c.q.n hx));
                  };
                  y = value_within r.low.y r.high.y y c.q.n c.q.y c.level ly hy;
                },
              )
            ]
            | inr a ↦ elim (cases_Bool (int_lt (pos (c.q.n * x')) c.q.x)) [
              | inl b ↦
                  absurd (against (pos (c.q.n * x)) (pos (c.q.n * x')) c.q.x (pos_le _ _ (mul-le-mul_left c.q.n o)) (is_lt _ _ b) (is_le _ _ a))
              | inr b ↦ inr (c.side x ∙ a ∙ sym b ∙ sym (c.side x'))
            ]
          ]
    ]
  where
    against : (p p' q : ℤ) → p ≤ℤ p' → p' <ℤ q → q ≤ℤ p → ⊥
    against p p' q o h k = omega (arith, ints)
