-- Along one axis: how far a coordinate is from the ends of a range, and from what lies between them.
use Rattle.std.proofs.Common.{◌≡◌, ◌⊎◌, ⊎_elim, ℕ, ◌+◌, ◌*◌, ◌^◌, ◌≤◌, min, max, lit≤, ℤ, pos, ◌+ℤ◌, ◌-ℤ◌, ◌*ℤ◌, ◌≤ℤ◌, [], ◌∷◌, refl, sym, subst, ap, ap₂, ◌∙◌, arith}
use Rattle.std.specs.Int.{abs_diff}
use Rattle.std.proofs.lemmas.Int.{ints}
use Rattle.std.proofs.Math.Nat.{mul-le-mul, mul-le-mul_left}
use Rattle.sand_base.specs.declared.TheConstants.{COORDINATE_BITS}
use Rattle.sand_base.specs.declared.point.Point.{Point}
use Rattle.sand_base.specs.declared.rect.Rect.{Rect}
use Rattle.sand_model.specs.Points.{RationalPoint, IsWithin, IsInRect}
use Rattle.sand_model.specs.Gap.{square, scaled_distance, common_square}
use Rattle.sand_model.specs.Rings.{grid}
use Rattle.plane_geom.specs.Expr.{var, at, ◌⊕◌, ◌⊗◌}
use Rattle.plane_geom.proofs.Ring.{ring}
use Rattle.plane_geom.proofs.Squares.{square_le_abs}
use Rattle.ring_geom.specs.Bounding.{IsPartOf}
use Rattle.ring_geom.proofs.Region.{in_order}
use Rattle.far_cursor.specs.Farthest.{end_gap, farthest}

-- the greater of two numbers
larger : (a b : ℕ) → a ≤ b → max a b ≡ b
larger a b h = omega arith

larger_first : (a b : ℕ) → b ≤ a → max a b ≡ a
larger_first a b h = omega arith

-- the square of the greater is the greater square
square_max : (a b : ℕ) → max a b * max a b ≡ max (a * a) (b * b)
square_max a b =
    ⊎_elim
    (λ h. let e = larger a b h in ap₂ (λ u v. u * v) e e ∙ sym (larger (a * a) (b * b) (mul-le-mul h h)))
    (λ h. let e = larger_first a b h in ap₂ (λ u v. u * v) e e ∙ sym (larger_first (a * a) (b * b) (mul-le-mul h h)))
    (in_order a b)

-- the greatest of four sums is the sum of the greater parts
four_sums : (a b c d : ℕ) → max (a + c) (max (b + c) (max (a + d) (max (b + d) 0))) ≡ max a b + max c d
four_sums a b c d = omega arith

-- the greatest distance from a corner, by the axes
abbrev pub by_axes : Point → Rect → ℕ
by_axes p r = end_gap p.x r.low.x r.high.x * end_gap p.x r.low.x r.high.x + end_gap p.y r.low.y r.high.y * end_gap p.y r.low.y r.high.y

pub farthest_is : (p : Point) (r : Rect) → farthest p r ≡ by_axes p r
farthest_is p r =
    let a = abs_diff p.x r.low.x in
    let b = abs_diff p.x r.high.x in
    let c = abs_diff p.y r.low.y in
    let d = abs_diff p.y r.high.y in
    four_sums (a * a) (b * b) (c * c) (d * d) ∙ ap₂ (λ u v. u + v) (sym (square_max a b)) (sym (square_max c d))

-- in the closed square it is short
end_short : (c l h m : ℕ) → c ≤ m → l ≤ m → h ≤ m → end_gap c l h ≤ m
end_short c l h m a b d = omega arith

pub axis_short : (c l h : ℕ) → c ≤ 2 ^ COORDINATE_BITS → l ≤ 2 ^ COORDINATE_BITS → h ≤ 2 ^ COORDINATE_BITS → end_gap c l h * end_gap c l h ≤ 2 ^ (2 * COORDINATE_BITS)
axis_short c l h a b d =
    let short = end_short c l h (2 ^ COORDINATE_BITS) a b d in
    through (end_gap c l h * end_gap c l h) (2 ^ COORDINATE_BITS * 2 ^ COORDINATE_BITS) (2 ^ (2 * COORDINATE_BITS)) (mul-le-mul short short) (lit≤ tt)
  where
    through : (a b c : ℕ) → a ≤ b → b ≤ c → a ≤ c
    through a b c h k = omega arith

-- ---- parts

-- a range in another one has no farther end
wider_axis : (c l h l' h' : ℕ) → l' ≤ l → l ≤ h → h ≤ h' → end_gap c l h ≤ end_gap c l' h'
wider_axis c l h l' h' p o q = omega arith

-- the range between a coordinate and one of two ends
spanned_axis : (c v l h : ℕ) → (v ≡ l) ⊎ (v ≡ h) → end_gap c (min c v) (max c v) ≤ end_gap c l h
spanned_axis c v l h e = ⊎_elim (λ e. low c v l h e) (λ e. high c v l h e) e
  where
    low : (c v l h : ℕ) → v ≡ l → end_gap c (min c v) (max c v) ≤ end_gap c l h
    low c v l h e = omega arith

    high : (c v l h : ℕ) → v ≡ h → end_gap c (min c v) (max c v) ≤ end_gap c l h
    high c v l h e = omega arith

-- sums of squares of numbers that are no greater
pub squares_below : (a b c d : ℕ) → a ≤ c → b ≤ d → a * a + b * b ≤ c * c + d * d
squares_below a b c d h k = let one = mul-le-mul h h in let two = mul-le-mul k k in omega arith

-- no corner of a part is farther than the farthest corner
pub part_nearer : (p : Point) (q r : Rect) → q.low.x ≤ q.high.x → q.low.y ≤ q.high.y → IsPartOf q r → by_axes p q ≤ by_axes p r
part_nearer p q r ox oy h =
    squares_below (end_gap p.x q.low.x q.high.x) (end_gap p.y q.low.y q.high.y) (end_gap p.x r.low.x r.high.x) (end_gap p.y r.low.y r.high.y)
    (wider_axis p.x q.low.x q.high.x r.low.x r.high.x h.low.left ox h.high.right)
    (wider_axis p.y q.low.y q.high.y r.low.y r.high.y h.low.bottom oy h.high.top)

-- the rectangle between two points
abbrev pub between : Point → Point → Rect
between p v = record { low = record { x = min p.x v.x; y = min p.y v.y }; high = record { x = max p.x v.x; y = max p.y v.y } }

-- nor is one of the rectangle between the point and a corner
pub between_nearer : (p v : Point) (r : Rect) → (v.x ≡ r.low.x) ⊎ (v.x ≡ r.high.x) → (v.y ≡ r.low.y) ⊎ (v.y ≡ r.high.y) → by_axes p (between p v) ≤ by_axes p r
between_nearer p v r h k =
    squares_below (end_gap p.x (min p.x v.x) (max p.x v.x)) (end_gap p.y (min p.y v.y) (max p.y v.y)) (end_gap p.x r.low.x r.high.x) (end_gap p.y r.low.y r.high.y)
    (spanned_axis p.x v.x r.low.x r.high.x h) (spanned_axis p.y v.y r.low.y r.high.y k)

-- ---- rational points

-- a value between the ends is no farther from a coordinate than an end
axis_near : (c low high n : ℕ) (v : ℤ) → IsWithin low high n v → square ((pos c *ℤ pos n) -ℤ (v *ℤ pos 1)) ≤ℤ square (pos (n * end_gap c low high))
axis_near c low high n v h =
    square_le_abs ((pos c *ℤ pos n) -ℤ (v *ℤ pos 1)) (pos (n * end_gap c low high))
    (upper (n * c) (n * low) (n * end_gap c low high) v (pos c *ℤ pos n) (v *ℤ pos 1) (turned c n) (single v) (scaled_low n c low (end_gap c low high) (from_low c low high)) h.above)
    (lower (n * c) (n * high) (n * end_gap c low high) v (pos c *ℤ pos n) (v *ℤ pos 1) (turned c n) (single v) (scaled_low n high c (end_gap c low high) (from_high c low high)) h.below)
  where
    from_low : (c low high : ℕ) → c ≤ low + end_gap c low high
    from_low c low high = omega arith

    from_high : (c low high : ℕ) → high ≤ c + end_gap c low high
    from_high c low high = omega arith

    scaled_low : (n a b k : ℕ) → a ≤ b + k → n * a ≤ n * b + n * k
    scaled_low n a b k h = let more : n * a ≤ n * (b + k) = mul-le-mul_left n h in omega arith

    turned : (c n : ℕ) → pos c *ℤ pos n ≡ pos (n * c)
    turned c n = ap pos (commuted c n)
      where
        commuted : (c n : ℕ) → c * n ≡ n * c
        commuted c n = omega arith

    single : (v : ℤ) → v *ℤ pos 1 ≡ v
    single v = omega (arith, ints)

    upper : (a l k : ℕ) (v s t : ℤ) → s ≡ pos a → t ≡ v → a ≤ l + k → pos l ≤ℤ v → (s -ℤ t) ≤ℤ pos k
    upper a l k v s t e f h above = omega (arith, ints)

    lower : (a u k : ℕ) (v s t : ℤ) → s ≡ pos a → t ≡ v → u ≤ a + k → v ≤ℤ pos u → (pos 0 -ℤ pos k) ≤ℤ (s -ℤ t)
    lower a u k v s t e f h below = omega (arith, ints)

-- a point of a rectangle is no farther than the farthest corner
pub point_near : (p : Point) (r : Rect) (q : RationalPoint) → IsInRect r q → scaled_distance (grid p) q ≤ℤ (pos (by_axes p r) *ℤ common_square (grid p) q)
point_near p r q h =
    subst (λ t. scaled_distance (grid p) q ≤ℤ t)
    (whole (end_gap p.x r.low.x r.high.x) (end_gap p.y r.low.y r.high.y) q.n)
    (added _ _ _ _ (axis_near p.x r.low.x r.high.x q.n q.x h.x) (axis_near p.y r.low.y r.high.y q.n q.y h.y))
  where
    added : (a b c d : ℤ) → a ≤ℤ c → b ≤ℤ d → (a +ℤ b) ≤ℤ (c +ℤ d)
    added a b c d h k = omega (arith, ints)

    whole : (x y n : ℕ) → square (pos (n * x)) +ℤ square (pos (n * y)) ≡ pos (x * x + y * y) *ℤ square (pos (1 * n))
    whole x y n =
        let one : pos (1 * n) ≡ pos n = ap pos (once n) in
        ring (at (pos x ∷ pos y ∷ pos n ∷ [])) ((var 2 ⊗ var 0) ⊗ (var 2 ⊗ var 0) ⊕ (var 2 ⊗ var 1) ⊗ (var 2 ⊗ var 1)) ((var 0 ⊗ var 0 ⊕ var 1 ⊗ var 1) ⊗ (var 2 ⊗ var 2)) refl
        ∙ ap (λ t. pos (x * x + y * y) *ℤ square t) (sym one)
      where
        once : (n : ℕ) → 1 * n ≡ n
        once n = omega arith
