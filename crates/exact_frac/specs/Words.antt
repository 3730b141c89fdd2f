-- The two words of a fraction, read off its parts.
use Rattle.std.specs.Prelude.{◌≡◌, ℕ, ◌+◌, ◌*◌, ◌/◌, ◌%◌, ◌^◌, ◌<◌, ◌≤◌}
use Rattle.std.proofs.Common.{arith, subst, sym}
use Rattle.exact_frac.specs.declared.TheConstants.{MAX_NUM, MAX_DEN}
use Rattle.exact_frac.specs.Fraction.{Fraction, num_in, den_in}
use Rattle.exact_frac.specs.declared.frac.Frac.TheInside.{Inside}
use native.Mathlib.Bridge.{le_prop}
use mathlib.Core.HLevel.{is_prop→PathP}

-- the first word of these parts
abbrev pub high_of : ℕ → ℕ → ℕ
high_of num den = den * 2 ^ 22 + num / 2 ^ 64

-- the second
abbrev pub low_of : ℕ → ℕ
low_of num = num % 2 ^ 64

num_back : (num den : ℕ) → num ≤ MAX_NUM → num_in (high_of num den) (low_of num) ≡ num
num_back num den h = omega (arith, h)

den_back : (num den : ℕ) → num ≤ MAX_NUM → den_in (high_of num den) ≡ den
den_back num den h = omega (arith, h)

-- the words of a fraction
pub words_of : Fraction → Inside
words_of f = record {
  high = high_of f.num f.den;
  low = low_of f.num;
  small = subst (λ n. n ≤ MAX_NUM) (sym (num_back f.num f.den f.small)) f.small;
  positive = subst (λ n. 1 ≤ n) (sym (den_back f.num f.den f.small)) f.positive;
  fits = subst (λ n. n ≤ MAX_DEN) (sym (den_back f.num f.den f.small)) f.fits;
  word = omega arith;
}

high_back : (high low : ℕ) → low < 2 ^ 64 → high_of (num_in high low) (den_in high) ≡ high
high_back high low h = omega (arith, h)

low_back : (high low : ℕ) → low < 2 ^ 64 → low_of (num_in high low) ≡ low
low_back high low h = omega (arith, h)

-- two words tell all of it
same_words : (f g : Inside) → f.high ≡ g.high → f.low ≡ g.low → f ≡ g
same_words f g p q = λ i. record {
  high = p i;
  low = q i;
  small = is_prop→PathP (λ j. num_in (p j) (q j) ≤ MAX_NUM) (λ j. le_prop) f.small g.small i;
  positive = is_prop→PathP (λ j. 1 ≤ den_in (p j)) (λ j. le_prop) f.positive g.positive i;
  fits = is_prop→PathP (λ j. den_in (p j) ≤ MAX_DEN) (λ j. le_prop) f.fits g.fits i;
  word = is_prop→PathP (λ j. q j < 2 ^ 64) (λ j. le_prop) f.word g.word i;
}

-- the words of its parts are those that it has
pub words_of_parts : (f : Inside) → words_of (record { num = num_in f.high f.low; den = den_in f.high; small = f.small; positive = f.positive; fits = f.fits }) ≡ f
unfolding words_of
words_of_parts f =
    same_words (words_of (record { num = num_in f.high f.low; den = den_in f.high; small = f.small; positive = f.positive; fits = f.fits })) f
    (high_back f.high f.low f.word) (low_back f.high f.low f.word)
