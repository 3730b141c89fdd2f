-- Keys turn the order of distances round.
use Rattle.std.proofs.Common.{◌≡◌, ⊎_elim, ℕ, ◌+◌, ◌*◌, ◌-◌, ◌<◌, ◌≤◌, le_of_mul-le-mul_right, refl, sym, ap, ap₂, ◌∙◌, arith, Ordering, Less, Equal, Greater}
use Rattle.std.proofs.Math.Nat.{mul-le-mul_left}
use Rattle.std.proofs.lemmas.Bool.{cases_lt}
use Rattle.std.specs.Ordering.{ordering_reverse}
use Rattle.exact_frac.specs.Frac.{value_cmp, value_cmp_total}
use Rattle.exact_frac.specs.declared.frac.Frac.{Frac}
use Rattle.ring_geom.proofs.TreeLaws.{same_compares}
use Rattle.best_first.specs.Reach.{IsSameGap, IsAtMost, IsBelow}
use Rattle.best_first.proofs.Gaps.{not_below, less_is, equal_is, greater_is, is_less, compared, equal_at_most, equal_at_least}
use Rattle.far_cursor.specs.Farthest.{diagonal, key_of_gap}

-- the distance is no greater than the diagonal
abbrev pub IsShort : Frac → Type 0
IsShort f = f.num ≤ diagonal * f.den

-- fractions of one numerator and denominator have one value
pub parts_same : (f g : Frac) → f.num ≡ g.num → f.den ≡ g.den → IsSameGap f g
parts_same f g e d = same_compares (f.num * g.den) (g.num * f.den) (ap₂ (λ (n m : ℕ). n * m) e (sym d))

-- what is farther lacks less, over any denominators
pub lacks_less : (k n d m e : ℕ) → m * d ≤ n * e → (k * d - n) * e ≤ (k * e - m) * d
lacks_less k n d m e h =
    ⊎_elim (λ over. nothing (k * d - n) e ((k * e - m) * d) (none (k * d) n over))
    (λ inside. whole k n d m e (k * d - n) (k * e - m) h (parts (k * d) n inside) (rest (k * e) m)) (cases_lt (k * d) n)
  where
    none : (a n : ℕ) → a < n → a - n ≡ 0
    none a n h = omega arith

    parts : (a n : ℕ) → n ≤ a → (a - n) + n ≡ a
    parts a n h = omega arith

    rest : (a n : ℕ) → a ≤ (a - n) + n
    rest a n = omega arith

    nothing : (a e b : ℕ) → a ≡ 0 → a * e ≤ b
    nothing a e b h = let zero_times : a * e ≡ 0 * e = ap (λ x. x * e) h in omega arith

    whole : (k n d m e a b : ℕ) → m * d ≤ n * e → a + n ≡ k * d → k * e ≤ b + m → a * e ≤ b * d
    whole k n d m e a b h f g =
        let one : (a + n) * e ≡ k * d * e = ap (λ x. x * e) f in
        let two : d * (k * e) ≤ d * (b + m) = mul-le-mul_left d g in
        omega arith

-- and what lacks less is farther, if neither is beyond the diagonal
pub lacks_back : (k n d m e : ℕ) → n ≤ k * d → m ≤ k * e → (k * d - n) * e ≤ (k * e - m) * d → m * d ≤ n * e
lacks_back k n d m e hn hm h = whole k n d m e (k * d - n) (k * e - m) (parts (k * d) n hn) (parts (k * e) m hm) h
  where
    parts : (a n : ℕ) → n ≤ a → (a - n) + n ≡ a
    parts a n h = omega arith

    whole : (k n d m e a b : ℕ) → a + n ≡ k * d → b + m ≡ k * e → a * e ≤ b * d → m * d ≤ n * e
    whole k n d m e a b f g h =
        let one : (a + n) * e ≡ k * d * e = ap (λ x. x * e) f in
        let two : (b + m) * d ≡ k * e * d = ap (λ x. x * d) g in
        omega arith

-- the key of the farther gap is at most that of the nearer
pub key_at_most : (f g : Frac) → IsAtMost g f → IsAtMost (key_of_gap f) (key_of_gap g)
key_at_most f g h = lacks_less diagonal f.num f.den g.num g.den h

pub key_back : (f g : Frac) → IsShort f → IsShort g → IsAtMost (key_of_gap f) (key_of_gap g) → IsAtMost g f
key_back f g hf hg h = lacks_back diagonal f.num f.den g.num g.den hf hg h

-- gaps of one value have keys of one value
pub key_same : (f g : Frac) → IsSameGap f g → IsSameGap (key_of_gap f) (key_of_gap g)
key_same f g e =
    same_compares ((key_of_gap f).num * (key_of_gap g).den) ((key_of_gap g).num * (key_of_gap f).den)
    (both ((key_of_gap f).num * (key_of_gap g).den) ((key_of_gap g).num * (key_of_gap f).den) (key_at_most f g (equal_at_least f g e)) (key_at_most g f (equal_at_most f g e)))
  where
    both : (a b : ℕ) → a ≤ b → b ≤ a → a ≡ b
    both a b h k = omega arith

-- keys compare as the gaps do, the other way round
pub key_cmp : (f g : Frac) → IsShort f → IsShort g → value_cmp (key_of_gap f) (key_of_gap g) ≡ value_cmp g f
key_cmp f g hf hg =
    let go : (r : Ordering) → value_cmp g f ≡ r → value_cmp (key_of_gap f) (key_of_gap g) ≡ r = elim [
      | Less ↦ λ e. is_less (key_of_gap f) (key_of_gap g) (turned f g hf hg (less_is g f e))
      | Equal ↦ λ e. key_same f g (value_cmp_total.antisymm f g ∙ ap ordering_reverse e)
      | Greater ↦ λ e. value_cmp_total.antisymm (key_of_gap f) (key_of_gap g) ∙ ap ordering_reverse (is_less (key_of_gap g) (key_of_gap f) (turned g f hg hf (greater_is g f e)))
    ] in
    go (value_cmp g f) refl
  where
    turned : (f g : Frac) → IsShort f → IsShort g → IsBelow g f → IsBelow (key_of_gap f) (key_of_gap g)
    turned f g hf hg h =
        ⊎_elim (λ at_most. absurd (not_below g f h (key_back g f hg hf at_most))) (λ below. below) (compared (key_of_gap g) (key_of_gap f))

-- a fraction with the value of a short one is short
pub short_same : (f g : Frac) → IsSameGap f g → IsShort f → IsShort g
short_same f g e h = carried f.num f.den g.num g.den diagonal f.positive (equal_is f g e) h
  where
    carried : (n d m e k : ℕ) → 1 ≤ d → n * e ≡ m * d → n ≤ k * d → m ≤ k * e
    carried n d m e k some same short =
        let more : e * n ≤ e * (k * d) = mul-le-mul_left e short in
        let whole : m * d ≤ k * e * d = omega arith in
        le_of_mul-le-mul_right whole some

-- a key is short
pub key_short : (f : Frac) → IsShort (key_of_gap f)
key_short f = below (diagonal * f.den) f.num
  where
    below : (a n : ℕ) → a - n ≤ a
    below a n = omega arith

-- the key of a short gap's key is the gap
pub key_twice : (f : Frac) → IsShort f → IsSameGap (key_of_gap (key_of_gap f)) f
key_twice f h = parts_same (key_of_gap (key_of_gap f)) f (back (diagonal * f.den) f.num h) refl
  where
    back : (a n : ℕ) → n ≤ a → a - (a - n) ≡ n
    back a n h = omega arith
