-- The printed text of a fraction is determined by its value.
use Rattle.std.proofs.Common.{◌≡◌, ℕ, ◌*◌, ◌<◌, List, sym, ◌∙◌, ap, ap₂, arith}
use Rattle.std.proofs.Math.Nat.{one-dvd}
use Rattle.std.proofs.lemmas.Nat.Gcd.{dvd_refl}
use Rattle.std.specs.Fmt.{decimal}
use Rattle.exact_frac.specs.Printed.{IsPrinted, ratio_text}
use Rattle.exact_frac.specs.Value.{SameValue}
use Rattle.exact_frac.proofs.LowestTerms.{lowest_unique, SameValue-trans}

-- the texts of two fractions of one value are equal
pub IsPrinted-same : (a b c d : ℕ) (s t : List ℕ) → 0 < b → 0 < d → SameValue a b c d → IsPrinted a b s → IsPrinted c d t → s ≡ t
IsPrinted-same a b c d s t b_some d_some same p q =
    let there : SameValue p.n p.d c d = SameValue-trans p.n p.d a b c d b_some p.same same in
    let back : SameValue c d q.n q.d = sym q.same in
    let parts = lowest_unique p.n p.d q.n q.d p.positive q.positive p.lowest q.lowest (SameValue-trans p.n p.d c d q.n q.d d_some there back) in
    p.written ∙ ap₂ ratio_text parts.0 parts.1 ∙ sym q.written

-- the text of a fraction with the denominator 1 is its numerator in decimal
pub IsPrinted-whole : (num den : ℕ) (text : List ℕ) → den ≡ 1 → IsPrinted num den text → text ≡ decimal num
IsPrinted-whole num den text one p =
    let same : SameValue p.n p.d num 1 = sym (ap (λ k. p.n * k) one) ∙ p.same in
    let parts = lowest_unique p.n p.d num 1 p.positive (omega arith) p.lowest (one-dvd num, dvd_refl 1, λ k in_num in_one. in_one) same in
    p.written ∙ ap₂ ratio_text parts.0 parts.1
