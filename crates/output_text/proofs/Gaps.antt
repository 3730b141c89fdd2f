-- Gaps that are whole numbers: their texts are formed or broke off.
use Rattle.std.proofs.Common.{◌≡◌, ℕ, ◌*◌, List, ◌++◌, ap, arith}
use Rattle.std.proofs.Math.Nat.{one-dvd}
use Rattle.std.proofs.lemmas.Nat.Gcd.{dvd_refl}
use Rattle.std.specs.Fmt.{decimal}
use Rattle.exact_frac.specs.Printed.{IsPrinted}
use Rattle.output_text.specs.Forming.{BreaksSome, Forms, FormsSome}
use Rattle.output_text.specs.Writing.{AddsPrefix}

-- the text of a whole number is its numerator in decimal
pub whole-printed : (num den shown : ℕ) → den ≡ 1 → shown ≡ num → IsPrinted num den (decimal shown)
whole-printed num den shown one is = record {
  n = num;
  d = 1;
  same = ap (λ k. num * k) one;
  positive = omega arith;
  lowest = (one-dvd num, dvd_refl 1, λ k in_num in_one. in_one);
  written = ap decimal is;
}

-- a whole number is formed
pub whole-formed : (num den shown : ℕ) (old new : List ℕ) (before now : List ℕ → Type 0) → den ≡ 1 → shown ≡ num
    → Forms before now old new (decimal shown) → FormsSome (IsPrinted num den) before now old new
whole-formed num den shown old new before now one is formed = record {
  text = decimal shown;
  holds = whole-printed num den shown one is;
  formed = formed;
}

-- a whole number broke off
pub whole-broken : (num den shown : ℕ) (old : List ℕ) (before now : List ℕ → Type 0) → den ≡ 1 → shown ≡ num
    → AddsPrefix before now (old ++ decimal shown) → BreaksSome (IsPrinted num den) before now old
whole-broken num den shown old before now one is broken = record {
  text = decimal shown;
  holds = whole-printed num den shown one is;
  prefix = broken;
}
