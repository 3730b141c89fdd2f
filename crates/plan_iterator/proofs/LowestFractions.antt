-- Fractions in lowest terms: they keep the value, and those of one value are one.
use Rattle.std.proofs.Common.{◌≡◌, ℕ, ◌-◌, ◌*◌, ◌/◌, ◌%◌, ◌≤◌, true, sym, ap, ◌∙◌, subst, arith, le_antisymm}
use Rattle.std.specs.Cmp.{nat_cmp_is}
use Rattle.std.specs.declared.cmp.Ordering.TheVariants.{Equal}
use Rattle.std.proofs.lemmas.Cmp.{ranked, alike_right}
use Rattle.std.proofs.Math.Nat.{mul-mod_left, mul-div_cancel}
use Rattle.exact_frac.specs.Frac.{value_cmp, value_cmp_total}
use Rattle.exact_frac.specs.Value.{SameValue}
use Rattle.exact_frac.specs.declared.TheConstants.{MAX_NUM, MAX_DEN}
use Rattle.exact_frac.specs.declared.frac.Frac.{Frac}
use Rattle.exact_frac.proofs.LowestTerms.{SameValue-trans}
use Rattle.plan_iterator.specs.Lowest.{lowest_of, lowest_den, makes_whole, den_bounds}
use Rattle.best_first.specs.Reach.{IsSameGap}
use Rattle.plan_iterator.proofs.LeastNumbers.{least_passes, least_most}
use native.Mathlib.Bridge.{le_prop}
use mathlib.Core.HLevel.{is_prop→PathP}

-- fractions with the same parts are one
pub frac_one : (f g : Frac) → f.num ≡ g.num → f.den ≡ g.den → f ≡ g
frac_one f g n d = λ i. record {
  num = n i;
  den = d i;
  small = is_prop→PathP (λ j. n j ≤ MAX_NUM) (λ j. le_prop) f.small g.small i;
  positive = is_prop→PathP (λ j. 1 ≤ d j) (λ j. le_prop) f.positive g.positive i;
  fits = is_prop→PathP (λ j. d j ≤ MAX_DEN) (λ j. le_prop) f.fits g.fits i;
}

-- a number that makes a value whole
whole_is : (num den d : ℕ) → makes_whole num den d ≡ true → (num * d) % den ≡ 0
whole_is num den d h = grind arith

whole_when : (num den d : ℕ) → (num * d) % den ≡ 0 → makes_whole num den d ≡ true
whole_when num den d h = grind arith

-- the denominator itself does
den_is_whole : (num den : ℕ) → makes_whole num den den ≡ true
den_is_whole num den = whole_when num den den (mul-mod_left num den)

-- the least denominator does
least_is_whole : (num den : ℕ) → 1 ≤ den → makes_whole num den (lowest_den num den) ≡ true
least_is_whole num den h = least_passes (makes_whole num den) 1 (den - 1) den h (omega arith) (den_is_whole num den)

-- the product of a value and a number that makes it whole
product_is : (num den d : ℕ) → makes_whole num den d ≡ true → num * d / den * den ≡ num * d
product_is num den d h = let none = whole_is num den d h in omega (arith, none)

-- a positive factor on both sides of an equation may go
pub cancelled : (a b k : ℕ) → 1 ≤ k → a * k ≡ b * k → a ≡ b
cancelled a b k h e = sym (mul-div_cancel a h) ∙ ap (λ n. n / k) e ∙ mul-div_cancel b h

-- the product of one fraction of a value and such a number is that of any other
product_same : (a b c e d : ℕ) → 1 ≤ b → SameValue a b c e → makes_whole a b d ≡ true → a * d / b * e ≡ c * d
product_same a b c e d hb same h =
    let q = a * d / b in
    let product : q * b ≡ a * d = product_is a b d h in
    let scaled : q * b * e ≡ a * d * e = ap (λ n. n * e) product in
    let crossed : a * e * d ≡ c * b * d = ap (λ n. n * d) same in
    let both : q * e * b ≡ c * d * b = moved q a b c d e scaled crossed in
    cancelled (q * e) (c * d) b hb both
  where
    moved : (q a b c d e : ℕ) → q * b * e ≡ a * d * e → a * e * d ≡ c * b * d → q * e * b ≡ c * d * b
    moved q a b c d e h k = omega arith

-- what makes a value whole makes whole each fraction of it
whole_too : (a b c e d : ℕ) → 1 ≤ b → SameValue a b c e → makes_whole a b d ≡ true → makes_whole c e d ≡ true
whole_too a b c e d hb same h =
    whole_when c e d (subst (λ n. n % e ≡ 0) (product_same a b c e d hb same h) (mul-mod_left (a * d / b) e))

-- fractions of one value have one least denominator
dens_one : (a b c e : ℕ) → 1 ≤ b → 1 ≤ e → SameValue a b c e → lowest_den a b ≡ lowest_den c e
dens_one a b c e hb he same =
    le_antisymm
    (least_most (makes_whole a b) 1 (b - 1) (lowest_den c e) (den_bounds c e he).0 (whole_too c e a b (lowest_den c e) he (sym same) (least_is_whole c e he)))
    (least_most (makes_whole c e) 1 (e - 1) (lowest_den a b) (den_bounds a b hb).0 (whole_too a b c e (lowest_den a b) hb same (least_is_whole a b hb)))

-- and one numerator over it
nums_one : (a b c e d : ℕ) → 1 ≤ b → 1 ≤ e → SameValue a b c e → makes_whole a b d ≡ true → a * d / b ≡ c * d / e
nums_one a b c e d hb he same h =
    cancelled (a * d / b) (c * d / e) e he
    (product_same a b c e d hb same h ∙ sym (product_is c e d (whole_too a b c e d hb same h)))

-- the fraction in lowest terms has the value
pub lowest_value : (f : Frac) → SameValue (lowest_of f).num (lowest_of f).den f.num f.den
unfolding lowest_of
lowest_value f = product_is f.num f.den (lowest_den f.num f.den) (least_is_whole f.num f.den f.positive)

-- gaps of one value are those whose cross products are one
pub same_gap_is : (f g : Frac) → SameValue f.num f.den g.num g.den → IsSameGap f g
same_gap_is f g h = sym (nat_cmp_is (f.num * g.den) (g.num * f.den) Equal h)

pub same_gap_value : (f g : Frac) → IsSameGap f g → SameValue f.num f.den g.num g.den
same_gap_value f g h = ranked (f.num * g.den) (g.num * f.den) Equal (sym h)

-- a gap in lowest terms is the same gap
pub lowest_same : (f : Frac) → IsSameGap (lowest_of f) f
lowest_same f = same_gap_is (lowest_of f) f (lowest_value f)

-- fractions of one value are one in lowest terms
pub lowest_of_value : (f g : Frac) → SameValue f.num f.den g.num g.den → lowest_of f ≡ lowest_of g
unfolding lowest_of
lowest_of_value f g same =
    let dens = dens_one f.num f.den g.num g.den f.positive g.positive same in
    let nums = nums_one f.num f.den g.num g.den (lowest_den f.num f.den) f.positive g.positive same (least_is_whole f.num f.den f.positive) in
    frac_one (lowest_of f) (lowest_of g) (nums ∙ ap (λ d. g.num * d / g.den) dens) dens

pub lowest_one : (f g : Frac) → IsSameGap f g → lowest_of f ≡ lowest_of g
lowest_one f g same = lowest_of_value f g (same_gap_value f g same)

-- a fraction in lowest terms stays as it is
pub lowest_again : (f : Frac) → lowest_of (lowest_of f) ≡ lowest_of f
lowest_again f = lowest_one (lowest_of f) f (lowest_same f)

-- fractions that are one in lowest terms have one value
pub lowest_back : (f g : Frac) → lowest_of f ≡ lowest_of g → IsSameGap f g
lowest_back f g e =
    same_gap_is f g
    (SameValue-trans f.num f.den (lowest_of g).num (lowest_of g).den g.num g.den (lowest_of g).positive
    (subst (λ h. SameValue f.num f.den h.num h.den) e (sym (lowest_value f))) (lowest_value g))

-- lowest terms keep the order
pub lowest_order : (f g : Frac) → value_cmp (lowest_of f) (lowest_of g) ≡ value_cmp f g
lowest_order f g =
    value_cmp_total.congr (lowest_of f) f (lowest_of g) (lowest_same f)
    ∙ alike_right value_cmp_total (lowest_of g) g f (lowest_same g)
