-- Identities of a difference that is drawn together: how the drawn point lies to the ends of both ways.
use Rattle.std.proofs.Common.{◌≡◌, ℤ, pos, negsuc, ◌+ℤ◌, ◌-ℤ◌, ◌*ℤ◌, [], ◌∷◌, refl, ap₂, ◌∙◌}
use Rattle.plane_geom.specs.Expr.{var, at, num, ◌⊕◌, ◌⊖◌, ◌⊗◌}
use Rattle.plane_geom.proofs.Ring.{ring, ring_using}
use Rattle.plane_geom.proofs.Named.{identity, identity_using}
use Rattle.plane_geom.proofs.Clear.{offset}
use Rattle.plane_geom.proofs.Forms as form

-- what the drawn point has from the first end of the segment, along one axis and times all denominators
abbrev pub drawn : ℤ → ℤ → ℤ → ℤ → ℤ → ℤ
drawn k al a c g = (k *ℤ (c -ℤ a)) +ℤ (al *ℤ g)

-- where the drawn point is a mean of the ends, it differs from c by the drawn difference, along each axis
pub inside : (a b c k al g l f : ℤ) → l *ℤ drawn k al a c g ≡ f *ℤ (b -ℤ a)
    → offset a b c c ((k *ℤ l) -ℤ f) f (pos 1) (pos 0) ≡ (l *ℤ al) *ℤ g
inside a b c k al g l f h =
    identity_using (a ∷ b ∷ c ∷ k ∷ al ∷ g ∷ l ∷ f ∷ [])
    (λ a b c k al g l f. (
      form.offset a b c c (k ⊗ l ⊖ f) f (num (pos 1)) (num (pos 0)),
      (l ⊗ al) ⊗ g,
      num (negsuc 0),
      l ⊗ form.drawn k al a c g,
      f ⊗ (b ⊖ a),
    )) h refl

-- where the drawn point passes the first end, that end differs from the second way's point by the difference, less drawn
pub passing : (a b c d i j u v be al k l : ℤ)
    → (k *ℤ drawn (be *ℤ ((i +ℤ j) *ℤ (u +ℤ v))) al a c (offset a b c d i j u v)) +ℤ (((l *ℤ be) *ℤ ((u +ℤ v) *ℤ j)) *ℤ (b -ℤ a)) ≡ pos 0
    → (be *ℤ (i +ℤ j)) *ℤ offset a a c d (pos 1) (pos 0) ((k *ℤ (u +ℤ v)) +ℤ (l *ℤ u)) (l *ℤ v)
    ≡ ((k *ℤ al) +ℤ (l *ℤ be)) *ℤ offset a b c d i j u v
passing a b c d i j u v be al k l h =
    identity_using (a ∷ b ∷ c ∷ d ∷ i ∷ j ∷ u ∷ v ∷ be ∷ al ∷ k ∷ l ∷ [])
    (λ a b c d i j u v be al k l.
    let sum = u ⊕ v in
    let g = form.offset a b c d i j u v in (
      (be ⊗ (i ⊕ j)) ⊗ form.offset a a c d (num (pos 1)) (num (pos 0)) (k ⊗ sum ⊕ l ⊗ u) (l ⊗ v),
      (k ⊗ al ⊕ l ⊗ be) ⊗ g,
      num (negsuc 0),
      k ⊗ form.drawn (be ⊗ ((i ⊕ j) ⊗ sum)) al a c g ⊕ ((l ⊗ be) ⊗ (sum ⊗ j)) ⊗ (b ⊖ a),
      num (pos 0),
    )) h refl

-- the share of the step by which the drawn point passes the end, along each axis
pub passes : (l f d w be j u : ℤ) → l *ℤ w ≡ f *ℤ d
    → ((((be *ℤ j) *ℤ l) *ℤ u) *ℤ w) +ℤ ((((pos 0 -ℤ f) *ℤ be) *ℤ (u *ℤ j)) *ℤ d) ≡ pos 0
passes l f d w be j u h =
    identity_using (l ∷ f ∷ d ∷ w ∷ be ∷ j ∷ u ∷ [])
    (λ l f d w be j u. (
      (((be ⊗ j) ⊗ l) ⊗ u) ⊗ w ⊕ (((num (pos 0) ⊖ f) ⊗ be) ⊗ (u ⊗ j)) ⊗ d,
      num (pos 0),
      (be ⊗ j) ⊗ u,
      l ⊗ w,
      f ⊗ d,
    )) h refl

-- seen from the second end, the drawn point lies nearer by the whole step
pub seen_back : (a b c d i j u v al be : ℤ)
    → drawn (be *ℤ ((j +ℤ i) *ℤ (u +ℤ v))) al b c (offset b a c d j i u v)
    ≡ drawn (be *ℤ ((i +ℤ j) *ℤ (u +ℤ v))) al a c (offset a b c d i j u v) -ℤ ((be *ℤ ((i +ℤ j) *ℤ (u +ℤ v))) *ℤ (b -ℤ a))
seen_back a b c d i j u v al be =
    identity (a ∷ b ∷ c ∷ d ∷ i ∷ j ∷ u ∷ v ∷ al ∷ be ∷ [])
    (λ a b c d i j u v al be.
    let k = be ⊗ ((i ⊕ j) ⊗ (u ⊕ v)) in (
      form.drawn (be ⊗ ((j ⊕ i) ⊗ (u ⊕ v))) al b c (form.offset b a c d j i u v),
      form.drawn k al a c (form.offset a b c d i j u v) ⊖ k ⊗ (b ⊖ a),
    )) refl

-- the drawn point is on the line, seen from either end
pub line_back : (ax ay bx by k wx wy wx' wy' : ℤ) → wx' ≡ wx -ℤ (k *ℤ (bx -ℤ ax)) → wy' ≡ wy -ℤ (k *ℤ (by -ℤ ay))
    → ((bx -ℤ ax) *ℤ wy) -ℤ ((by -ℤ ay) *ℤ wx) ≡ pos 0 → ((ax -ℤ bx) *ℤ wy') -ℤ ((ay -ℤ by) *ℤ wx') ≡ pos 0
line_back ax ay bx by k wx wy wx' wy' ex ey h =
    ap₂ (λ s t. ((ax -ℤ bx) *ℤ t) -ℤ ((ay -ℤ by) *ℤ s)) ex ey
    ∙ ring_using (at (ax ∷ ay ∷ bx ∷ by ∷ k ∷ wx ∷ wy ∷ []))
    ((var 0 ⊖ var 2) ⊗ (var 6 ⊖ var 4 ⊗ (var 3 ⊖ var 1)) ⊖ (var 1 ⊖ var 3) ⊗ (var 5 ⊖ var 4 ⊗ (var 2 ⊖ var 0)))
    (num (pos 0)) (num (negsuc 0)) ((var 2 ⊖ var 0) ⊗ var 6 ⊖ (var 3 ⊖ var 1) ⊗ var 5) (num (pos 0)) h refl

-- how far it lies along the segment, seen from the other end
pub foot_back : (ax ay bx by k wx wy wx' wy' : ℤ) → wx' ≡ wx -ℤ (k *ℤ (bx -ℤ ax)) → wy' ≡ wy -ℤ (k *ℤ (by -ℤ ay))
    → ((ax -ℤ bx) *ℤ wx') +ℤ ((ay -ℤ by) *ℤ wy')
    ≡ (k *ℤ (((bx -ℤ ax) *ℤ (bx -ℤ ax)) +ℤ ((by -ℤ ay) *ℤ (by -ℤ ay)))) -ℤ (((bx -ℤ ax) *ℤ wx) +ℤ ((by -ℤ ay) *ℤ wy))
foot_back ax ay bx by k wx wy wx' wy' ex ey =
    ap₂ (λ s t. ((ax -ℤ bx) *ℤ s) +ℤ ((ay -ℤ by) *ℤ t)) ex ey
    ∙ (let dx = var 2 ⊖ var 0 in
    let dy = var 3 ⊖ var 1 in
    ring (at (ax ∷ ay ∷ bx ∷ by ∷ k ∷ wx ∷ wy ∷ []))
    ((var 0 ⊖ var 2) ⊗ (var 5 ⊖ var 4 ⊗ dx) ⊕ (var 1 ⊖ var 3) ⊗ (var 6 ⊖ var 4 ⊗ dy))
    (var 4 ⊗ (dx ⊗ dx ⊕ dy ⊗ dy) ⊖ (dx ⊗ var 5 ⊕ dy ⊗ var 6)) refl)
