-- The grid points of a rectangle that no edge of a ring meets are inside the ring, all or none.
use Rattle.std.proofs.Common.{◌≡◌, ◌⊎◌, inl, inr, ℕ, ◌<◌, ◌≤◌, Bool, List, [], ◌∷◌, ◌*◌, pos, sym, ap, ◌∙◌, arith}
use Rattle.std.proofs.lemmas.Bool.{cases_lt}
use Rattle.sand_base.specs.declared.point.Point.{Point}
use Rattle.sand_base.specs.declared.rect.Rect.{Rect}
use Rattle.sand_model.specs.Points.{IsOnSegment, IsInRect}
use Rattle.sand_model.specs.Rings.{SomeOf, edges, grid, is_crossed, is_odd, differ, IsInside}
use Rattle.plane_geom.specs.Rectangles.{IsCovered}
use Rattle.plane_geom.proofs.Sides.{value_within}
use Rattle.ring_geom.proofs.Parity.{at_ends, same_or_some, same_round}
use Rattle.ring_geom.proofs.Moves.{Meets, marks, along_row, along_column}

-- the parity of the crossed edges
abbrev parity : List Point → Point → Bool
parity ring v = is_odd (is_crossed v) (edges ring)

-- up a column
up : (r : Rect) (ring : List Point) (x y y' : ℕ) → r.low.x ≤ x → x ≤ r.high.x → r.low.y ≤ y → y ≤ y' → y' ≤ r.high.y
    → SomeOf (Meets r) (edges ring) ⊎ (parity ring (record { x = x; y = y }) ≡ parity ring (record { x = x; y = y' }))
up r ring x y y' lx hx ly o hy =
    elim (same_or_some (Meets r) (λ e. differ (is_crossed (record { x = x; y = y }) e) (is_crossed (record { x = x; y = y' }) e))
    (at_ends (marks x y y')) (λ e. along_column r e x y y' lx hx ly o hy) (edges ring)) [
      | inl m ↦ inl m
      | inr e ↦ inr (same_round (marks x y y') (is_crossed (record { x = x; y = y })) (is_crossed (record { x = x; y = y' })) ring e)
    ]

-- along a row, to the right
across : (r : Rect) (ring : List Point) (x x' y : ℕ) → r.low.x ≤ x → x ≤ x' → x' ≤ r.high.x → r.low.y ≤ y → y ≤ r.high.y
    → SomeOf (Meets r) (edges ring) ⊎ (parity ring (record { x = x; y = y }) ≡ parity ring (record { x = x'; y = y }))
across r ring x x' y lx o hx ly hy =
    same_or_some (Meets r) (is_crossed (record { x = x; y = y })) (is_crossed (record { x = x'; y = y }))
    (λ e. along_row r e x x' y lx o hx ly hy) (edges ring)

-- one of two naturals is at most the other
pub in_order : (m n : ℕ) → (m ≤ n) ⊎ (n ≤ m)
in_order m n = elim (cases_lt m n) [ inl h ↦ inl (weak m n h) | inr h ↦ inr h ]
  where
    weak : (m n : ℕ) → m < n → m ≤ n
    weak m n h = omega arith

-- what is said both ways round
turned : {P : Type 0} {a b : Bool} → P ⊎ (a ≡ b) → P ⊎ (b ≡ a)
turned h = elim h [ inl m ↦ inl m | inr e ↦ inr (sym e) ]

-- one after the other
joined : {P : Type 0} {a b c : Bool} → P ⊎ (a ≡ b) → P ⊎ (b ≡ c) → P ⊎ (a ≡ c)
joined h k = elim h [ inl m ↦ inl m | inr e ↦ elim k [ inl m ↦ inl m | inr f ↦ inr (e ∙ f) ] ]

-- two grid points of a rectangle have one parity, or an edge meets it
pub rect_parity : (ring : List Point) (r : Rect) (v w : Point) → IsCovered v r → IsCovered w r
    → SomeOf (Meets r) (edges ring) ⊎ (parity ring v ≡ parity ring w)
rect_parity ring r v w hv hw =
    joined {b = parity ring (record { x = w.x; y = v.y })}
    (elim (in_order v.x w.x) [
      | inl o ↦ across r ring v.x w.x v.y hv.left o hw.right hv.bottom hv.top
      | inr o ↦ turned (across r ring w.x v.x v.y hw.left o hv.right hv.bottom hv.top)
    ])
    (elim (in_order v.y w.y) [
      | inl o ↦ up r ring w.x v.y w.y hw.left hw.right hv.bottom o hw.top
      | inr o ↦ turned (up r ring w.x w.y v.y hw.left hw.right hw.bottom o hv.top)
    ])

-- a covered grid point lies in the rectangle
pub grid_in : (v : Point) (r : Rect) → IsCovered v r → IsInRect r (grid v)
grid_in v r h = record {
  x = value_within r.low.x r.high.x v.x 1 (pos v.x) (once v.x) h.left h.right;
  y = value_within r.low.y r.high.y v.y 1 (pos v.y) (once v.y) h.bottom h.top;
}
  where
    once : (n : ℕ) → pos n ≡ pos (1 * n)
    once n = let e : n ≡ 1 * n = omega arith in ap pos e

-- what holds of each term at which something else does
pub some_also : {A : Type 0} {P Q : A → Type 0} → ((x : A) → P x → Q x) → (xs : List A) → SomeOf P xs → SomeOf Q xs
some_also f [] h = h
some_also f (x ∷ xs) h = elim h [ inl p ↦ inl (f x p) | inr q ↦ inr (some_also f xs q) ]

-- where one grid point of a rectangle is inside a ring, so is each other, or an edge meets the rectangle
pub all_inside : (ring : List Point) (r : Rect) (v w : Point) → IsCovered v r → IsCovered w r → IsInside ring v
    → SomeOf (Meets r) (edges ring) ⊎ IsInside ring w
all_inside ring r v w hv hw h =
    elim h [
      | inl on ↦ inl (some_also {P = λ s. IsOnSegment s (grid v)} {Q = Meets r} (λ s k. (grid v, k, grid_in v r hv)) (edges ring) on)
      | inr odd ↦ elim (rect_parity ring r v w hv hw) [
        | inl m ↦ inl m
        | inr e ↦ inr (inr (sym e ∙ odd))
      ]
    ]
