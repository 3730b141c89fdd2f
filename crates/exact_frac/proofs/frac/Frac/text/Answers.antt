-- Why no text is longer than 39 bytes.
use Rattle.std.proofs.Common.{◌≤◌, subst, sym, ap, arith, length}
use Rattle.exact_frac.specs.declared.TheConstants.{MAX_NUM, MAX_DEN}
use Rattle.exact_frac.proofs.Digits.{length-num, length-ratio_text}
use Rattle.exact_frac.proofs.frac.Frac.text.Goals as goal

-- a numerator alone has at most 25 digits
pub returns-then-den-eq1-clause-short : goal.returns-then-den-eq1-clause-short
returns-then-den-eq1-clause-short c =
    let small = subst (λ n. n ≤ MAX_NUM) (sym c.num.ensures) c.lowest-lowest.result.small in
    omega (arith, ap length c.whole.ensures, length-num c.num.result small)

-- with the slash and at most 13 digits of a denominator there are 39 bytes
pub returns-else-den-eq1-clause-short : goal.returns-else-den-eq1-clause-short
returns-else-den-eq1-clause-short c =
    let small = subst (λ n. n ≤ MAX_NUM) (sym c.num-else-den-eq1.ensures) c.lowest-lowest.result.small in
    let fits = subst (λ n. n ≤ MAX_DEN) (sym c.den-else-den-eq1.ensures) c.lowest-lowest.result.fits in
    omega (arith, ap length c.ratio.ensures, length-ratio_text c.num-else-den-eq1.result c.den-else-den-eq1.result small fits)
