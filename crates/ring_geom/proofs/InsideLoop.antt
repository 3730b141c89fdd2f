-- The loop of `inside`: what is left of the edges decides, with the parity so far.
use Rattle.std.proofs.Common.{◌≡◌, ◌⊎◌, inl, inr, ℕ, suc, ◌*◌, ◌≤◌, min, max, ℤ, pos, ◌-ℤ◌, ◌*ℤ◌, ◌≤ℤ◌, Bool, true, false, List, [], ◌∷◌, length, drop, refl, ap, sym, ◌∙◌, subst, arith}
use Rattle.std.specs.Prelude.{IsTrue, ◌↔◌}
use Rattle.std.proofs.lemmas.List.{drop_all}
use Rattle.std.proofs.lemmas.Int.{ints}
use Rattle.sand_base.specs.declared.point.Point.{Point}
use Rattle.sand_base.specs.declared.segment.Segment.{Segment}
use Rattle.sand_model.specs.Points.{IsWithin, IsOnSegment}
use Rattle.sand_model.specs.Rings.{SomeOf, chain, last_of, edges, grid, is_crossed, is_odd, differ}
use Rattle.plane_geom.specs.Expr.{var, num, at, ◌⊖◌, ◌⊗◌}
use Rattle.plane_geom.proofs.Ring.{ring_using}
use Rattle.plane_geom.specs.Incidence.{IsBetween, LiesOn}
use Rattle.plane_geom.proofs.OnSegment.{lies_on}
use Rattle.plane_geom.proofs.GapOfPoints.{spot_is}

-- the point lies on an edge that is left, or the edges so far and those left are crossed an odd number of times
abbrev pub IsInsideFrom : Point → Bool → List Segment → Type 0
IsInsideFrom v odd es = SomeOf (λ s. IsOnSegment s (grid v)) es ⊎ IsTrue (differ odd (is_odd (is_crossed v) es))

-- one way of adding a test to a parity is the other
regrouped : (a b c : Bool) → differ a (differ b c) ≡ differ (differ a b) c
regrouped false b c = refl
regrouped true false c = refl
regrouped true true false = refl
regrouped true true true = refl

-- a point that lies on the edge at hand is inside
pub found : {P : Type 0} (v : Point) (odd : Bool) (side : Segment) (left rest : List Segment) → P ↔ IsInsideFrom v odd left
    → left ≡ side ∷ rest → LiesOn v side → P
found {P} v odd side left rest h e on =
    (subst (λ (l : List Segment). P ↔ IsInsideFrom v odd l) e h).1 (inl (inl (on (grid v) (spot_is v))))

-- past an edge on which the point doesn't lie, the others decide
pub passed : {P : Type 0} (v : Point) (odd next : Bool) (side : Segment) (left rest : List Segment) → P ↔ IsInsideFrom v odd left
    → left ≡ side ∷ rest → ¬ LiesOn v side → (IsOnSegment side (grid v) → LiesOn v side) → next ≡ differ odd (is_crossed v side)
    → P ↔ IsInsideFrom v next rest
passed {P} v odd next side left rest h e off anywhere now =
    let k = subst (λ (l : List Segment). P ↔ IsInsideFrom v odd l) e h in
    let sum = ap (λ t. differ t (is_odd (is_crossed v) rest)) now ∙ sym (regrouped odd (is_crossed v side) (is_odd (is_crossed v) rest)) in (
      λ p.
          elim (k.0 p) [
            | inl on ↦ elim on [ inl here ↦ absurd (off (anywhere here)) | inr more ↦ inl more ]
            | inr parity ↦ inr (sum ∙ parity)
          ],
      λ f. k.1 (elim f [ inl more ↦ inl (inr more) | inr parity ↦ inr (sym sum ∙ parity) ]),
    )

-- past the last edge the parity decides
pub finished : {P : Type 0} (v : Point) (odd : Bool) (left : List Segment) → P ↔ IsInsideFrom v odd left → left ≡ [] → IsTrue odd ↔ P
finished {P} v odd left h e =
    let k = subst (λ (l : List Segment). P ↔ IsInsideFrom v odd l) e h in
    let whole = none odd in (
      λ t. k.1 (inr (whole ∙ t)),
      λ p. elim (k.0 p) [ inl on ↦ absurd on | inr parity ↦ sym whole ∙ parity ],
    )
  where
    none : (odd : Bool) → differ odd false ≡ odd
    none false = refl
    none true = refl

-- where the grid point lies on the segment, so does whatever else stands for it
pub lies_anywhere : (v : Point) (s : Segment) → IsOnSegment s (grid v) → LiesOn v s
lies_anywhere v s h =
    lies_on v s (whole_line (pos s.a.x) (pos s.a.y) (pos s.b.x) (pos s.b.y) (pos v.x) (pos v.y) h.line)
    (record { x = between s.a.x s.b.x v.x h.x; y = between s.a.y s.b.y v.y h.y })
  where
    whole_line : (ax ay bx by x y : ℤ) → ((bx -ℤ ax) *ℤ (y -ℤ (pos 1 *ℤ ay))) -ℤ ((by -ℤ ay) *ℤ (x -ℤ (pos 1 *ℤ ax))) ≡ pos 0
        → ((bx -ℤ ax) *ℤ (y -ℤ ay)) -ℤ ((by -ℤ ay) *ℤ (x -ℤ ax)) ≡ pos 0
    whole_line ax ay bx by x y h =
        let dx = var 2 ⊖ var 0 in
        let dy = var 3 ⊖ var 1 in
        ring_using (at (ax ∷ ay ∷ bx ∷ by ∷ x ∷ y ∷ [])) (dx ⊗ (var 5 ⊖ var 1) ⊖ dy ⊗ (var 4 ⊖ var 0)) (num (pos 0)) (num (pos 1))
        (dx ⊗ (var 5 ⊖ num (pos 1) ⊗ var 1) ⊖ dy ⊗ (var 4 ⊖ num (pos 1) ⊗ var 0)) (num (pos 0)) h refl

    back : (a b v : ℕ) → pos (1 * a) ≤ℤ pos v → pos v ≤ℤ pos (1 * b) → (a ≤ v) × (v ≤ b)
    back a b v h k = (omega (arith, ints), omega (arith, ints))

    between : (a b v : ℕ) → IsWithin (min a b) (max a b) 1 (pos v) → IsBetween a b v
    between a b v w = let t = back (min a b) (max a b) v w.above w.below in record { above = t.0; below = t.1 }

-- a ring has as many edges as vertices
pub edge_count : (ring : List Point) → length (edges ring) ≡ length ring
edge_count [] = refl
edge_count (first ∷ rest) = chain_count (last_of first rest) (first ∷ rest)
  where
    chain_count : (from : Point) (ps : List Point) → length (chain from ps) ≡ length ps
    chain_count from [] = refl
    chain_count from (to ∷ rest) = ap suc (chain_count to rest)

-- and there is none after as many
pub no_more_edges : (ring : List Point) (i : ℕ) → length ring ≤ i → length (edges ring) ≤ i
no_more_edges ring i h = subst (λ (n : ℕ). n ≤ i) (sym (edge_count ring)) h

-- so none is left
pub none_left : (ring : List Point) (i : ℕ) → length ring ≤ i → drop i (edges ring) ≡ []
none_left ring i h = drop_all i (edges ring) (no_more_edges ring i h)
