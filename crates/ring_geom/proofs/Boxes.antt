-- What lies in a rectangle that holds all vertices of a shape: its points, and the grid points inside its ring.
use Rattle.std.proofs.Common.{◌≡◌, inl, inr, ℕ, ◌+◌, ◌*◌, ◌<◌, ◌≤◌, ℤ, pos, ◌≤ℤ◌, Bool, true, false, List, [], ◌∷◌, refl, ap₂, sym, ◌∙◌, arith}
use Rattle.std.specs.Prelude.{IsTrue, nat_lt, int_lt}
use Rattle.std.proofs.Math.Nat.{mul-le-mul_left}
use Rattle.std.proofs.lemmas.Bool.{cases_Bool, cases_lt, lt-ltb, le-ltb, false≢true}
use Rattle.std.proofs.lemmas.Int.{ints}
use Rattle.sand_base.specs.declared.point.Point.{Point}
use Rattle.sand_base.specs.declared.rect.Rect.{Rect}
use Rattle.sand_base.specs.declared.segment.Segment.{Segment}
use Rattle.sand_base.specs.declared.shape.Shape.{Shape}
use Rattle.sand_base.specs.declared.shape.Shape.TheVariants as shape
use Rattle.sand_model.specs.Points.{RationalPoint, IsOnSegment, IsInRect}
use Rattle.sand_model.specs.Figures.{IsPointOf, Holds, corners_of}
use Rattle.sand_model.specs.Rings.{SomeOf, EachOf, chain, last_of, edges, grid, is_crossed, is_odd, differ, IsInside}
use Rattle.plane_geom.proofs.Order.{pos_le}
use Rattle.plane_geom.specs.Rectangles.{IsCovered}
use Rattle.plane_geom.proofs.Sides.{EndsCovered, segment_in, value_within}
use Rattle.ring_geom.specs.Bounding.{AreCovered}
use Rattle.ring_geom.proofs.Crossed.{crossing, uncrossed}
use Rattle.ring_geom.proofs.Parity.{at_ends, ring_even}

-- the last of some points in a rectangle lies in it
last_covered : (r : Rect) (first : Point) (rest : List Point) → IsCovered first r → AreCovered rest r → IsCovered (last_of first rest) r
last_covered r first [] h k = h
last_covered r first (next ∷ rest) h k = last_covered r next rest k.0 k.1

-- the ends of a chain
chain_covered : (r : Rect) (from : Point) (ps : List Point) → IsCovered from r → AreCovered ps r → EachOf (EndsCovered r) (chain from ps)
chain_covered r from [] h k = tt
chain_covered r from (to ∷ rest) h k = (record { a = h; b = k.0 }, chain_covered r to rest k.0 k.1)

-- and of a ring
edges_covered : (r : Rect) (ring : List Point) → AreCovered ring r → EachOf (EndsCovered r) (edges ring)
edges_covered r [] h = tt
edges_covered r (first ∷ rest) h = chain_covered r (last_of first rest) (first ∷ rest) (last_covered r first rest h.0 h.1) h

-- a term with one property has the other, which each has
pub some_each : {A : Type 0} {P Q : A → Type 0} {R : Type 0} → ((x : A) → P x → Q x → R) → (xs : List A) → EachOf P xs → SomeOf Q xs → R
some_each f [] h k = absurd k
some_each f (x ∷ xs) h k = elim k [ inl q ↦ f x h.0 q | inr more ↦ some_each f xs h.1 more ]

-- the points of a shape lie in a rectangle that holds its vertices
pub points_in : (r : Rect) (s : Shape) (q : RationalPoint) → AreCovered (corners_of s) r → IsPointOf s q → IsInRect r q
points_in r (shape.Point p) q h k = record {
  x = value_within r.low.x r.high.x p.x q.n q.x k.x h.0.left h.0.right;
  y = value_within r.low.y r.high.y p.y q.n q.y k.y h.0.bottom h.0.top;
}
points_in r (shape.Segment s) q h k = segment_in r s q (record { a = h.0; b = h.1.0 }) k
points_in r (shape.Polygon ring) q h k =
    some_each {P = EndsCovered r} {Q = λ e. IsOnSegment e q} (λ e c on. segment_in r e q c on) (edges ring) (edges_covered r ring h) k

-- a grid point whose place lies in the rectangle is covered
pub covered_back : (v : Point) (r : Rect) → IsInRect r (grid v) → IsCovered v r
covered_back v r h = record { left = low _ _ h.x.above; right = high _ _ h.x.below; bottom = low _ _ h.y.above; top = high _ _ h.y.below }
  where
    low : (p q : ℕ) → pos (1 * p) ≤ℤ pos q → p ≤ q
    low p q h = omega (arith, ints)

    high : (p q : ℕ) → pos p ≤ℤ pos (1 * q) → p ≤ q
    high p q h = omega (arith, ints)

-- tests that are alike where something holds have one parity where it holds of each term
same_where : {A : Type 0} (C : A → Type 0) (s t : A → Bool) → ((x : A) → C x → s x ≡ t x) → (xs : List A) → EachOf C xs → is_odd s xs ≡ is_odd t xs
same_where C s t f [] h = refl
same_where C s t f (x ∷ xs) h = ap₂ differ (f x h.0) (same_where C s t f xs h.1)

-- what never holds holds of an even number of terms
never_odd : {A : Type 0} (xs : List A) → is_odd (λ _. false) xs ≡ false
never_odd [] = refl
never_odd (x ∷ xs) = never_odd xs

-- from below all vertices no edge is crossed
below_all : (r : Rect) (v : Point) (e : Segment) → v.y < r.low.y → EndsCovered r e → is_crossed v e ≡ false
below_all r v e h c =
    uncrossed e v (ap₂ differ (lt-ltb v.y e.a.y (up _ _ _ h c.a.bottom)) (lt-ltb v.y e.b.y (up _ _ _ h c.b.bottom)))
  where
    up : (a b c : ℕ) → a < b → b ≤ c → a < c
    up a b c h k = omega arith

-- nor from above them
above_all : (r : Rect) (v : Point) (e : Segment) → r.high.y < v.y → EndsCovered r e → is_crossed v e ≡ false
above_all r v e h c =
    uncrossed e v (ap₂ differ (le-ltb v.y e.a.y (down _ _ _ h c.a.top)) (le-ltb v.y e.b.y (down _ _ _ h c.b.top)))
  where
    down : (a b c : ℕ) → b < a → c ≤ b → c ≤ a
    down a b c h k = omega arith

-- nor from the right of them
right_of_all : (r : Rect) (v : Point) (e : Segment) → r.high.x < v.x → EndsCovered r e → is_crossed v e ≡ false
right_of_all r v e h c =
    elim (cases_Bool (differ (nat_lt v.y e.a.y) (nat_lt v.y e.b.y))) [
      | inr same ↦ uncrossed e v same
      | inl split ↦
          let q = crossing e v.y split in
          q.side v.x ∙ not_left (pos (q.q.n * r.high.x)) (pos (q.q.n * v.x)) q.q.x (pos_le _ _ (mul-le-mul_left q.q.n (weak _ _ h))) (segment_in r e q.q c q.on).x.below
    ]
  where
    weak : (a b : ℕ) → a < b → a ≤ b
    weak a b h = omega arith

    not_left : (p v q : ℤ) → p ≤ℤ v → q ≤ℤ p → int_lt v q ≡ false
    not_left p v q h k = grind (arith, ints)

-- from the left of them each edge is crossed that has just one end above
left_of_all : (r : Rect) (v : Point) (e : Segment) → v.x < r.low.x → EndsCovered r e → is_crossed v e ≡ at_ends (λ p. nat_lt v.y p.y) e
left_of_all r v e h c =
    elim (cases_Bool (differ (nat_lt v.y e.a.y) (nat_lt v.y e.b.y))) [
      | inr same ↦ uncrossed e v same ∙ sym same
      | inl split ↦
          let q = crossing e v.y split in
          q.side v.x ∙ is_left q.q.n v.x r.low.x q.q.x q.q.positive h (segment_in r e q.q c q.on).x.above ∙ sym split
    ]
  where
    before : (n v l : ℕ) → 0 < n → v < l → n * v < n * l
    before n v l hn h = let more : n * (v + 1) ≤ n * l = mul-le-mul_left n (next v l h) in omega arith
      where
        next : (v l : ℕ) → v < l → v + 1 ≤ l
        next v l h = omega arith

    is_left : (n v l : ℕ) (q : ℤ) → 0 < n → v < l → pos (n * l) ≤ℤ q → int_lt (pos (n * v)) q ≡ true
    is_left n v l q hn h k = tested (n * v) (n * l) q (before n v l hn h) k
      where
        tested : (a b : ℕ) (q : ℤ) → a < b → pos b ≤ℤ q → int_lt (pos a) q ≡ true
        tested a b q h k = grind (arith, ints)

-- a grid point inside a ring lies in each rectangle that holds the ring's vertices
pub inside_in : (r : Rect) (ring : List Point) (v : Point) → AreCovered ring r → IsInside ring v → IsCovered v r
inside_in r ring v h k =
    elim k [
      | inl on ↦ covered_back v r (points_in r (shape.Polygon ring) (grid v) h on)
      | inr odd ↦ record {
        left = elim (cases_lt v.x r.low.x) [
          | inl out ↦
              even (same_where (EndsCovered r) (is_crossed v) (at_ends (λ p. nat_lt v.y p.y)) (λ e c. left_of_all r v e out c) (edges ring) covered
              ∙ ring_even (λ p. nat_lt v.y p.y) ring) odd
          | inr fits ↦ fits
        ];
        right = elim (cases_lt r.high.x v.x) [
          | inl out ↦ even (none (λ e c. right_of_all r v e out c)) odd
          | inr fits ↦ fits
        ];
        bottom = elim (cases_lt v.y r.low.y) [
          | inl out ↦ even (none (λ e c. below_all r v e out c)) odd
          | inr fits ↦ fits
        ];
        top = elim (cases_lt r.high.y v.y) [
          | inl out ↦ even (none (λ e c. above_all r v e out c)) odd
          | inr fits ↦ fits
        ];
      }
    ]
  where
    covered : EachOf (EndsCovered r) (edges ring)
    covered = edges_covered r ring h

    even : {P : Type 0} {b : Bool} → b ≡ false → IsTrue b → P
    even e t = absurd (false≢true (sym e ∙ t))

    none : ((e : Segment) → EndsCovered r e → is_crossed v e ≡ false) → is_odd (is_crossed v) (edges ring) ≡ false
    none f = same_where (EndsCovered r) (is_crossed v) (λ _. false) f (edges ring) covered ∙ never_odd (edges ring)

-- the grid points that a shape's ring holds
pub held_in : (r : Rect) (s : Shape) (v : Point) → AreCovered (corners_of s) r → Holds s v → IsCovered v r
held_in r (shape.Point p) v h k = absurd k
held_in r (shape.Segment s) v h k = absurd k
held_in r (shape.Polygon ring) v h k = inside_in r ring v h k
