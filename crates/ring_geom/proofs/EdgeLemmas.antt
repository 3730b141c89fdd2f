-- The edge that ends at a vertex is the term of the list of edges with the vertex's number.
use Rattle.std.proofs.Common.{◌≡◌, ℕ, zero, suc, ◌+◌, ◌-◌, ◌<◌, ◌≤◌, List, [], ◌∷◌, length, get_or, drop, refl, ap, ap₂, sym, ◌∙◌, arith}
use Rattle.std.proofs.Math.Numerals.{add-one}
use Rattle.sand_base.specs.Grid.{IsInPlane, IsInClosedPlane}
use Rattle.sand_base.specs.declared.point.Point.{Point}
use Rattle.sand_base.specs.declared.segment.Segment.{Segment}
use Rattle.sand_model.specs.Rings.{chain, last_of, edges}

-- a segment with equal ends is the same
same_segment : (a b c d : Point) → a ≡ c → b ≡ d → ◌≡◌ {A = Segment} (record { a = a; b = b }) (record { a = c; b = d })
same_segment a b c d e f = ap₂ (λ s t. record { a = s; b = t }) e f

-- the terms of a chain
chain_at : (from : Point) (ps : List Point) (i : ℕ) (d : Point) → i < length ps
    → drop i (chain from ps) ≡ record { a = get_or (from ∷ ps) i d; b = get_or ps i d } ∷ drop (suc i) (chain from ps)
chain_at from [] i d h = absurd (omega arith)
chain_at from (to ∷ rest) zero d h = refl
chain_at from (to ∷ rest) (suc i) d h = chain_at to rest i d (omega arith)

-- the last point of a list by its number
last_at : (first : Point) (rest : List Point) (d : Point) → last_of first rest ≡ get_or (first ∷ rest) (length rest) d
last_at first [] d = refl
last_at first (next ∷ rest) d = last_at next rest d

-- the first edge comes from the last vertex
pub first_edge : (ps : List Point) (a b d : Point) (i j : ℕ) → i ≡ 0 → j + 1 ≡ length ps → a ≡ get_or ps j d → b ≡ get_or ps i d
    → drop i (edges ps) ≡ record { a = a; b = b } ∷ drop (i + 1) (edges ps)
first_edge [] a b d i j hi hj ea eb = absurd (omega arith)
first_edge (first ∷ rest) a b d i j hi hj ea eb =
    at_zero i hi (last ∙ sym ea) (ap (λ (t : ℕ). get_or (first ∷ rest) t d) (sym hi) ∙ sym eb)
  where
    before : (j n : ℕ) → j + 1 ≡ suc n → n ≡ j
    before j n h = omega arith

    last : last_of first rest ≡ get_or (first ∷ rest) j d
    last = last_at first rest d ∙ ap (λ (t : ℕ). get_or (first ∷ rest) t d) (before j (length rest) hj)

    at_zero : (i : ℕ) → i ≡ 0 → last_of first rest ≡ a → first ≡ b
        → drop i (edges (first ∷ rest)) ≡ record { a = a; b = b } ∷ drop (i + 1) (edges (first ∷ rest))
    at_zero i hi ha hb =
        rw (hi) (ap (λ (s : Segment). s ∷ chain first rest) (same_segment (last_of first rest) first a b ha hb))

-- each other edge comes from the vertex before
pub later_edge : (ps : List Point) (a b d : Point) (i : ℕ) → 0 < i → i < length ps → a ≡ get_or ps (i - 1) d → b ≡ get_or ps i d
    → drop i (edges ps) ≡ record { a = a; b = b } ∷ drop (i + 1) (edges ps)
later_edge [] a b d i hi h ea eb = absurd (omega arith)
later_edge (first ∷ rest) a b d zero hi h ea eb = absurd (omega arith)
later_edge (first ∷ rest) a b d (suc i) hi h ea eb =
    rw (add-one (suc i))
    (chain_at (last_of first rest) (first ∷ rest) (suc i) d h
    ∙ ap (λ (s : Segment). s ∷ drop (suc (suc i)) (edges (first ∷ rest)))
    (same_segment _ _ a b (ap (λ (t : ℕ). get_or (first ∷ rest) t d) (sym (one_less i)) ∙ sym ea) (sym eb)))
  where
    one_less : (i : ℕ) → suc i - 1 ≡ i
    one_less i = omega arith

-- a vertex of a ring lies in the closed square
pub corner_of_plane : (p : Point) → IsInPlane p → IsInClosedPlane p
corner_of_plane p h = record { x = weak _ _ h.x; y = weak _ _ h.y }
  where
    weak : (m n : ℕ) → m < n → m ≤ n
    weak m n h = omega arith
