-- A fraction in lowest terms: the one of its value with the least denominator.
use Rattle.std.specs.Prelude.{ℕ, zero, suc, ◌+◌, ◌-◌, ◌*◌, ◌/◌, ◌%◌, ◌≤◌, Bool, true, false, cond, nat_eq}
use Rattle.std.proofs.Common.{arith, le_trans, mul_comm, mul-le-mul_left, subst}
use Rattle.std.proofs.Math.Nat.{div-le_of_le-mul}
use Rattle.exact_frac.specs.declared.frac.Frac.{Frac}
use Rattle.sand_model.specs.Taken.{least_from}

-- whether the product of a value and a number is whole
abbrev pub makes_whole : ℕ → ℕ → ℕ → Bool
makes_whole num den d = nat_eq ((num * d) % den) 0

-- the least denominator of a value: the least number from 1 on that makes it whole
abbrev pub lowest_den : ℕ → ℕ → ℕ
lowest_den num den = least_from (makes_whole num den) 1 (den - 1)

-- what is found lies between the first and the last number that are tried
pub least_bounds : (test : ℕ → Bool) (at left : ℕ) → (at ≤ least_from test at left) × (least_from test at left ≤ at + left)
least_bounds test at zero = (omega arith, omega arith)
least_bounds test at (suc left) = here (least_from test (at + 1) left) (least_bounds test (at + 1) left) (test at)
  where
    here : (n : ℕ) → (at + 1 ≤ n) × (n ≤ at + 1 + left) → (b : Bool) → (at ≤ cond b at n) × (cond b at n ≤ at + suc left)
    here n h true = (omega arith, omega arith)
    here n h false = (omega (arith, h.0), omega (arith, h.1))

-- the least denominator is at least 1 and at most the one that is given
pub den_bounds : (num den : ℕ) → 1 ≤ den → (1 ≤ lowest_den num den) × (lowest_den num den ≤ den)
den_bounds num den h =
    let both = least_bounds (makes_whole num den) 1 (den - 1) in (both.0, omega (arith, both.1))

-- the numerator over it is at most the one that is given
pub num_bound : (num den d : ℕ) → d ≤ den → num * d / den ≤ num
num_bound num den d h = div-le_of_le-mul den (subst (λ n. num * d ≤ n) (mul_comm num den) (mul-le-mul_left num h))

-- the fraction of the same value with the least denominator
unfoldable pub lowest_of : Frac → Frac
lowest_of f =
    let d = lowest_den f.num f.den in
    let bounds = den_bounds f.num f.den f.positive in record {
      num = f.num * d / f.den;
      den = d;
      small = le_trans (num_bound f.num f.den d bounds.1) f.small;
      positive = bounds.0;
      fits = le_trans bounds.1 f.fits;
    }
