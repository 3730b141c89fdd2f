-- Where two points come nearer along one way: their difference is drawn together until one of them is an end.
use Rattle.std.proofs.Common.{◌≡◌, ℤ, pos, ◌+ℤ◌, ◌-ℤ◌, ◌*ℤ◌, ◌≤ℤ◌, ◌<ℤ◌, [], ◌∷◌, refl, sym, subst, arith}
use Rattle.std.proofs.lemmas.Int.{ints, by_lt_z}
use Rattle.sand_base.specs.declared.point.Point.{Point}
use Rattle.plane_geom.specs.Expr.{var, at, num, ◌⊕◌, ◌⊖◌, ◌⊗◌}
use Rattle.plane_geom.proofs.Ring.{ring}
use Rattle.plane_geom.proofs.Order.{difference_nonneg, mul_nonneg, mul_positive, add_nonneg}
use Rattle.plane_geom.proofs.Inequality.{le_ring}
use Rattle.plane_geom.proofs.Clear.{IsClear, IsWeights, AreClear, turned_weights, offset, turned_offset, turned_sums, as_long, shrunk, raised}
use Rattle.plane_geom.proofs.Signs.{weak, sum_above}
use Rattle.plane_geom.proofs.Axis.{foot_shares}
use Rattle.plane_geom.proofs.Drawing.{drawn, inside, passing, passes, seen_back, line_back, foot_back}

-- the squared length of the step from a to b
abbrev pub long : Point → Point → ℤ
long a b = ((pos b.x -ℤ pos a.x) *ℤ (pos b.x -ℤ pos a.x)) +ℤ ((pos b.y -ℤ pos a.y) *ℤ (pos b.y -ℤ pos a.y))

-- the weights of a pair of means, and how far their difference is drawn: to al / be of itself
pub record Pair (i j u v al be : ℤ) : Type 0 where
  pub first : IsWeights i j
  pub second : IsWeights u v
  pub some : pos 0 ≤ℤ al
  pub most : al ≤ℤ be
  pub whole : pos 0 <ℤ be

-- the drawn point, from a, along x
abbrev pub drawn_x : Point → Point → Point → Point → ℤ → ℤ → ℤ → ℤ → ℤ → ℤ → ℤ
drawn_x a b c d i j u v al be =
    drawn (be *ℤ ((i +ℤ j) *ℤ (u +ℤ v))) al (pos a.x) (pos c.x) (offset (pos a.x) (pos b.x) (pos c.x) (pos d.x) i j u v)

-- the drawn point, from a, along y
abbrev pub drawn_y : Point → Point → Point → Point → ℤ → ℤ → ℤ → ℤ → ℤ → ℤ → ℤ
drawn_y a b c d i j u v al be =
    drawn (be *ℤ ((i +ℤ j) *ℤ (u +ℤ v))) al (pos a.y) (pos c.y) (offset (pos a.y) (pos b.y) (pos c.y) (pos d.y) i j u v)

-- the drawn point lies on the line of the segment
abbrev pub OnLine : Point → Point → Point → Point → ℤ → ℤ → ℤ → ℤ → ℤ → ℤ → Type 0
OnLine a b c d i j u v al be =
    ((pos b.x -ℤ pos a.x) *ℤ drawn_y a b c d i j u v al be) -ℤ ((pos b.y -ℤ pos a.y) *ℤ drawn_x a b c d i j u v al be) ≡ pos 0

-- how far along the segment the drawn point lies
abbrev pub foot : Point → Point → Point → Point → ℤ → ℤ → ℤ → ℤ → ℤ → ℤ → ℤ
foot a b c d i j u v al be =
    ((pos b.x -ℤ pos a.x) *ℤ drawn_x a b c d i j u v al be) +ℤ ((pos b.y -ℤ pos a.y) *ℤ drawn_y a b c d i j u v al be)

-- the pair of means is far enough apart
abbrev pub PairClear : ℤ → ℤ → Point → Point → Point → Point → ℤ → ℤ → ℤ → ℤ → Type 0
PairClear m e a b c d i j u v =
    IsClear m e (offset (pos a.x) (pos b.x) (pos c.x) (pos d.x) i j u v) (offset (pos a.y) (pos b.y) (pos c.y) (pos d.y) i j u v)
    ((i +ℤ j) *ℤ (u +ℤ v))

-- the weights of the drawn point on the second way
drawn_weights : (k l u v : ℤ) → pos 0 ≤ℤ k → pos 0 <ℤ l → IsWeights u v → IsWeights ((k *ℤ (u +ℤ v)) +ℤ (l *ℤ u)) (l *ℤ v)
drawn_weights k l u v hk hl w = record {
  first = add_nonneg (k *ℤ (u +ℤ v)) (l *ℤ u) (mul_nonneg k (u +ℤ v) hk (weak (pos 0) (u +ℤ v) w.some)) (mul_nonneg l u (weak (pos 0) l hl) w.first);
  second = mul_nonneg l v (weak (pos 0) l hl) w.second;
  some = subst (λ t. pos 0 <ℤ t) (sum k l u v) (mul_positive (k +ℤ l) (u +ℤ v) (sum_above k l hk hl) w.some);
}
  where
    sum : (k l u v : ℤ) → (k +ℤ l) *ℤ (u +ℤ v) ≡ ((k *ℤ (u +ℤ v)) +ℤ (l *ℤ u)) +ℤ (l *ℤ v)
    sum k l u v =
        ring (at (k ∷ l ∷ u ∷ v ∷ [])) ((var 0 ⊕ var 1) ⊗ (var 2 ⊕ var 3))
        ((var 0 ⊗ (var 2 ⊕ var 3) ⊕ var 1 ⊗ var 2) ⊕ var 1 ⊗ var 3) refl

-- where the drawn point passes the first end, that end is far enough from the other segment
past_first : (m e : ℤ) (a b c d : Point) (i j u v al be : ℤ) → pos 0 ≤ℤ e → AreClear m e a a c d → Pair i j u v al be
    → pos 0 <ℤ long a b → OnLine a b c d i j u v al be → foot a b c d i j u v al be <ℤ pos 0 → PairClear m e a b c d i j u v
past_first m e a b c d i j u v al be he h p hl line behind =
    let dx = pos b.x -ℤ pos a.x in
    let dy = pos b.y -ℤ pos a.y in
    let wx = drawn_x a b c d i j u v al be in
    let wy = drawn_y a b c d i j u v al be in
    let k = ((be *ℤ j) *ℤ long a b) *ℤ (u +ℤ v) in
    let f = foot a b c d i j u v al be in
    let l = pos 0 -ℤ f in
    let shares = foot_shares dx dy wx wy line in
    let hk : pos 0 ≤ℤ k =
    mul_nonneg ((be *ℤ j) *ℤ long a b) (u +ℤ v)
    (mul_nonneg (be *ℤ j) (long a b) (mul_nonneg be j (weak (pos 0) be p.whole) p.first.second) (weak (pos 0) (long a b) hl))
    (weak (pos 0) (u +ℤ v) p.second.some) in
    let hp : pos 0 <ℤ l = turned f behind in
    let weights : IsWeights ((k *ℤ (u +ℤ v)) +ℤ (l *ℤ u)) (l *ℤ v) = drawn_weights k l u v hk hp p.second in
    let one : IsWeights (pos 1) (pos 0) = record { first = omega (arith, ints); second = omega (arith, ints); some = omega (arith, ints) } in
    shrunk m e (offset (pos a.x) (pos b.x) (pos c.x) (pos d.x) i j u v) (offset (pos a.y) (pos b.y) (pos c.y) (pos d.y) i j u v)
    ((i +ℤ j) *ℤ (u +ℤ v)) ((k *ℤ al) +ℤ (l *ℤ be)) (be *ℤ (k +ℤ l)) he
    (add_nonneg (k *ℤ al) (l *ℤ be) (mul_nonneg k al hk p.some) (mul_nonneg l be (weak (pos 0) l hp) (weak (pos 0) be p.whole)))
    (at_most k l al be hk p.most)
    (mul_positive be (k +ℤ l) p.whole (sum_above k l hk hp))
    (as_long m e _ _ _ _ _ _
    (raised m e _ _ _ (be *ℤ (i +ℤ j))
    (h (pos 1) (pos 0) ((k *ℤ (u +ℤ v)) +ℤ (l *ℤ u)) (l *ℤ v) one weights))
    (passing (pos a.x) (pos b.x) (pos c.x) (pos d.x) i j u v be al k l (passes (long a b) f dx wx be j (u +ℤ v) shares.0))
    (passing (pos a.y) (pos b.y) (pos c.y) (pos d.y) i j u v be al k l (passes (long a b) f dy wy be j (u +ℤ v) shares.1))
    (sums be i j u v k l))
  where
    turned : (t : ℤ) → t <ℤ pos 0 → pos 0 <ℤ (pos 0 -ℤ t)
    turned t h = omega (arith, ints)

    at_most : (k l al be : ℤ) → pos 0 ≤ℤ k → al ≤ℤ be → ((k *ℤ al) +ℤ (l *ℤ be)) ≤ℤ (be *ℤ (k +ℤ l))
    at_most k l al be hk h =
        le_ring (at (k ∷ l ∷ al ∷ be ∷ [])) (var 0 ⊗ var 2 ⊕ var 1 ⊗ var 3) (var 3 ⊗ (var 0 ⊕ var 1)) (var 0 ⊗ (var 3 ⊖ var 2)) refl
        (mul_nonneg k (be -ℤ al) hk (difference_nonneg al be h))

    sums : (be i j u v k l : ℤ)
        → (be *ℤ (i +ℤ j)) *ℤ (pos 1 *ℤ (((k *ℤ (u +ℤ v)) +ℤ (l *ℤ u)) +ℤ (l *ℤ v))) ≡ (be *ℤ (k +ℤ l)) *ℤ ((i +ℤ j) *ℤ (u +ℤ v))
    sums be i j u v k l =
        ring (at (be ∷ i ∷ j ∷ u ∷ v ∷ k ∷ l ∷ []))
        ((var 0 ⊗ (var 1 ⊕ var 2)) ⊗ (num (pos 1) ⊗ ((var 5 ⊗ (var 3 ⊕ var 4) ⊕ var 6 ⊗ var 3) ⊕ var 6 ⊗ var 4)))
        ((var 0 ⊗ (var 5 ⊕ var 6)) ⊗ ((var 1 ⊕ var 2) ⊗ (var 3 ⊕ var 4))) refl

-- where the drawn point is on the segment, the other way's end is far enough from it
on_segment : (m e : ℤ) (a b c d : Point) (i j u v al be : ℤ) → pos 0 ≤ℤ e → AreClear m e a b c c → Pair i j u v al be
    → pos 0 <ℤ long a b → OnLine a b c d i j u v al be → pos 0 ≤ℤ foot a b c d i j u v al be
    → pos 0 ≤ℤ (((be *ℤ ((i +ℤ j) *ℤ (u +ℤ v))) *ℤ long a b) -ℤ foot a b c d i j u v al be) → PairClear m e a b c d i j u v
on_segment m e a b c d i j u v al be he h p hl line ahead within =
    let dx = pos b.x -ℤ pos a.x in
    let dy = pos b.y -ℤ pos a.y in
    let wx = drawn_x a b c d i j u v al be in
    let wy = drawn_y a b c d i j u v al be in
    let k = be *ℤ ((i +ℤ j) *ℤ (u +ℤ v)) in
    let f = foot a b c d i j u v al be in
    let shares = foot_shares dx dy wx wy line in
    let hk : pos 0 <ℤ k = mul_positive be ((i +ℤ j) *ℤ (u +ℤ v)) p.whole (mul_positive (i +ℤ j) (u +ℤ v) p.first.some p.second.some) in
    let weights : IsWeights ((k *ℤ long a b) -ℤ f) f = record {
      first = within;
      second = ahead;
      some = together (k *ℤ long a b) f (mul_positive k (long a b) hk hl);
    } in
    let one : IsWeights (pos 1) (pos 0) = record { first = omega (arith, ints); second = omega (arith, ints); some = omega (arith, ints) } in
    let gx = offset (pos a.x) (pos b.x) (pos c.x) (pos d.x) i j u v in
    let gy = offset (pos a.y) (pos b.y) (pos c.y) (pos d.y) i j u v in
    shrunk m e gx gy ((i +ℤ j) *ℤ (u +ℤ v)) (long a b *ℤ al) (long a b *ℤ be) he
    (mul_nonneg (long a b) al (weak (pos 0) (long a b) hl) p.some)
    (at_most (long a b) al be (weak (pos 0) (long a b) hl) p.most)
    (mul_positive (long a b) be hl p.whole)
    (as_long m e _ _ _ _ _ _
    (h ((k *ℤ long a b) -ℤ f) f (pos 1) (pos 0) weights one)
    (inside (pos a.x) (pos b.x) (pos c.x) k al gx (long a b) f shares.0)
    (inside (pos a.y) (pos b.y) (pos c.y) k al gy (long a b) f shares.1)
    (sums be ((i +ℤ j) *ℤ (u +ℤ v)) (long a b) f))
  where
    together : (t f : ℤ) → pos 0 <ℤ t → pos 0 <ℤ ((t -ℤ f) +ℤ f)
    together t f h = omega (arith, ints)

    at_most : (l al be : ℤ) → pos 0 ≤ℤ l → al ≤ℤ be → (l *ℤ al) ≤ℤ (l *ℤ be)
    at_most l al be hl h =
        le_ring (at (l ∷ al ∷ be ∷ [])) (var 0 ⊗ var 1) (var 0 ⊗ var 2) (var 0 ⊗ (var 2 ⊖ var 1)) refl
        (mul_nonneg l (be -ℤ al) hl (difference_nonneg al be h))

    sums : (be n l f : ℤ) → ((((be *ℤ n) *ℤ l) -ℤ f) +ℤ f) *ℤ pos 1 ≡ (l *ℤ be) *ℤ n
    sums be n l f =
        ring (at (be ∷ n ∷ l ∷ f ∷ [])) ((((var 0 ⊗ var 1) ⊗ var 2 ⊖ var 3) ⊕ var 3) ⊗ num (pos 1)) ((var 2 ⊗ var 0) ⊗ var 1) refl

-- the step back is as long
long_back : (a b : Point) → long b a ≡ long a b
long_back a b = plain (pos a.x) (pos a.y) (pos b.x) (pos b.y)
  where
    plain : (ax ay bx by : ℤ)
        → ((ax -ℤ bx) *ℤ (ax -ℤ bx)) +ℤ ((ay -ℤ by) *ℤ (ay -ℤ by)) ≡ ((bx -ℤ ax) *ℤ (bx -ℤ ax)) +ℤ ((by -ℤ ay) *ℤ (by -ℤ ay))
    plain ax ay bx by =
        let ux = var 0 ⊖ var 2 in
        let uy = var 1 ⊖ var 3 in
        let vx = var 2 ⊖ var 0 in
        let vy = var 3 ⊖ var 1 in
        ring (at (ax ∷ ay ∷ bx ∷ by ∷ [])) (ux ⊗ ux ⊕ uy ⊗ uy) (vx ⊗ vx ⊕ vy ⊗ vy) refl

-- where the drawn point passes the second end, that end is far enough from the other segment
past_second : (m e : ℤ) (a b c d : Point) (i j u v al be : ℤ) → pos 0 ≤ℤ e → AreClear m e b b c d → Pair i j u v al be
    → pos 0 <ℤ long a b → OnLine a b c d i j u v al be
    → (((be *ℤ ((i +ℤ j) *ℤ (u +ℤ v))) *ℤ long a b) -ℤ foot a b c d i j u v al be) <ℤ pos 0 → PairClear m e a b c d i j u v
past_second m e a b c d i j u v al be he h p hl line beyond =
    let k = be *ℤ ((i +ℤ j) *ℤ (u +ℤ v)) in
    let wx = drawn_x a b c d i j u v al be in
    let wy = drawn_y a b c d i j u v al be in
    let ex = seen_back (pos a.x) (pos b.x) (pos c.x) (pos d.x) i j u v al be in
    let ey = seen_back (pos a.y) (pos b.y) (pos c.y) (pos d.y) i j u v al be in
    let back : PairClear m e b a c d j i u v =
    past_first m e b a c d j i u v al be he h
    (record { first = turned_weights i j p.first; second = p.second; some = p.some; most = p.most; whole = p.whole })
    (subst (λ t. pos 0 <ℤ t) (sym (long_back a b)) hl)
    (line_back (pos a.x) (pos a.y) (pos b.x) (pos b.y) k wx wy _ _ ex ey line)
    (subst (λ t. t <ℤ pos 0) (sym (foot_back (pos a.x) (pos a.y) (pos b.x) (pos b.y) k wx wy _ _ ex ey)) beyond) in
    as_long m e _ _ _ _ _ _ back (turned_offset (pos b.x) (pos a.x) (pos c.x) (pos d.x) i j u v)
    (turned_offset (pos b.y) (pos a.y) (pos c.y) (pos d.y) i j u v) (turned_sums i j u v)

-- a pair of means is far enough apart where its difference can be drawn together along the first segment's line
pub drawn_together : (m e : ℤ) (a b c d : Point) (i j u v al be : ℤ) → pos 0 ≤ℤ e → AreClear m e a a c d → AreClear m e b b c d
    → AreClear m e a b c c → Pair i j u v al be → pos 0 <ℤ long a b → OnLine a b c d i j u v al be → PairClear m e a b c d i j u v
drawn_together m e a b c d i j u v al be he ha hb hc p hl line =
    by_lt_z (foot a b c d i j u v al be) (pos 0) (past_first m e a b c d i j u v al be he ha p hl line)
    (λ ahead.
    by_lt_z (((be *ℤ ((i +ℤ j) *ℤ (u +ℤ v))) *ℤ long a b) -ℤ foot a b c d i j u v al be) (pos 0)
    (past_second m e a b c d i j u v al be he hb p hl line)
    (on_segment m e a b c d i j u v al be he hc p hl line ahead))
