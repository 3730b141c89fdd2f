-- The order by value is a total order wherever no denominator is 0.
use Rattle.std.specs.Prelude.{◌≡◌, ℕ, ◌*◌, ◌<◌, ◌≤◌, refl}
use Rattle.std.proofs.Common.{sym, ◌∙◌, ap, ap₂, arith, mul-lt-mul_of_pos_right, lt_of_mul-lt-mul_right}
use Rattle.std.specs.Cmp.{IsTotalOrder, nat_cmp_total, nat_cmp_is}
use Rattle.std.specs.Ordering.{MatchOrdering, nat_cmp}
use Rattle.std.specs.declared.cmp.Ordering.{Ordering}
use Rattle.std.specs.declared.cmp.Ordering.TheVariants.{Less, Equal, Greater}
use Rattle.std.proofs.lemmas.Cmp.{ranked}
use Rattle.exact_frac.specs.Value.{by_value}

-- what the answer `Less` says of the two numbers
below : (a b : ℕ) → nat_cmp a b ≡ Less → a < b
below a b e = ranked a b Less (sym e)

-- what the answer `Equal` says of the two numbers
level : (a b : ℕ) → nat_cmp a b ≡ Equal → a ≡ b
level a b e = ranked a b Equal (sym e)

-- a positive factor on both sides keeps the answer r
scaled_by : (a b k : ℕ) → 1 ≤ k → (r : Ordering) → MatchOrdering r (a < b) (a ≡ b) (b < a) → r ≡ nat_cmp (a * k) (b * k)
scaled_by a b k h Less m = nat_cmp_is (a * k) (b * k) Less (mul-lt-mul_of_pos_right m h)
scaled_by a b k h Equal m = nat_cmp_is (a * k) (b * k) Equal (ap (λ n. n * k) m)
scaled_by a b k h Greater m = nat_cmp_is (a * k) (b * k) Greater (mul-lt-mul_of_pos_right m h)

-- a positive factor on both sides keeps the order
pub scaled : (a b k : ℕ) → 1 ≤ k → nat_cmp a b ≡ nat_cmp (a * k) (b * k)
scaled a b k h = scaled_by a b k h (nat_cmp a b) (ranked a b (nat_cmp a b) refl)

-- from a/b < c/d and c/d < e/f follows a/b < e/f
chained : (a b c d e f : ℕ) → 1 ≤ b → 1 ≤ f → a * d < c * b → c * f < e * d → a * f < e * b
chained a b c d e f b_pos f_pos h g =
    let first : a * d * f < c * b * f = mul-lt-mul_of_pos_right h f_pos in
    let second : c * f * b < e * d * b = mul-lt-mul_of_pos_right g b_pos in
    let whole : a * f * d < e * b * d = omega arith in
    lt_of_mul-lt-mul_right d whole

-- where a/b and c/d are one number, both stand to e/f alike
alike : (a b c d e f : ℕ) → 1 ≤ b → 1 ≤ d → a * d ≡ c * b → nat_cmp (a * f) (e * b) ≡ nat_cmp (c * f) (e * d)
alike a b c d e f b_pos d_pos h =
    let crossed : a * d * f ≡ c * b * f = ap (λ n. n * f) h in
    let left : a * f * d ≡ c * f * b = omega arith in
    let right : e * b * d ≡ e * d * b = omega arith in
    scaled (a * f) (e * b) d d_pos ∙ ap₂ nat_cmp left right ∙ sym (scaled (c * f) (e * d) b b_pos)

-- the order by value is total
pub by_value_total : {K : Type 0} (num den : K → ℕ) (positive : (x : K) → 1 ≤ den x) → IsTotalOrder (by_value num den)
by_value_total num den positive = record {
  antisymm = λ x y. nat_cmp_total.antisymm (num x * den y) (num y * den x);
  trans = λ x y z p q.
      sym (nat_cmp_is (num x * den z) (num z * den x) Less
      (chained (num x) (den x) (num y) (den y) (num z) (den z) (positive x) (positive z) (below _ _ p) (below _ _ q)));
  congr = λ x y z p. alike (num x) (den x) (num y) (den y) (num z) (den z) (positive x) (positive y) (level _ _ p);
}
