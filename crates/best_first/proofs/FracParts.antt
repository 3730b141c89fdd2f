-- Fractions by their parts.
use Rattle.std.proofs.Common.{◌≡◌, ◌≤◌}
use Rattle.exact_frac.specs.declared.TheConstants.{MAX_NUM, MAX_DEN}
use Rattle.exact_frac.specs.declared.frac.Frac.{Frac}
use native.Mathlib.Bridge.{le_prop}
use mathlib.Core.HLevel.{is_prop→PathP}

-- fractions with the same parts are one
pub frac_one : (f g : Frac) → f.num ≡ g.num → f.den ≡ g.den → f ≡ g
frac_one f g n d = λ i. record {
  num = n i;
  den = d i;
  small = is_prop→PathP (λ j. n j ≤ MAX_NUM) (λ j. le_prop) f.small g.small i;
  positive = is_prop→PathP (λ j. 1 ≤ d j) (λ j. le_prop) f.positive g.positive i;
  fits = is_prop→PathP (λ j. d j ≤ MAX_DEN) (λ j. le_prop) f.fits g.fits i;
}
