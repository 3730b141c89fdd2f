-- What is left of a list at a place.
use Rattle.std.proofs.Common.{◌≡◌, ℕ, suc, ◌+◌, ◌≤◌, ◌<◌, List, [], ◌∷◌, drop, length, get_or, sym, ◌∙◌, ap, arith}
use Rattle.std.proofs.Math.Seq.{drop-cons}
use Rattle.std.proofs.Math.ListN.{drop_of_length-le}

-- the element at the place, and those behind it
pub next_left : {A : Type 0} (xs : List A) (at : ℕ) (x : A) → at < length xs → x ≡ get_or xs at x → drop at xs ≡ x ∷ drop (at + 1) xs
next_left xs at x inside here =
    let next : suc at ≡ at + 1 = omega arith in
    drop-cons xs at x inside ∙ (ap (λ y. y ∷ drop (suc at) xs) (sym here) ∙ ap (λ (n : ℕ). x ∷ drop n xs) next)

-- nothing is left at the end
pub none_left : {A : Type 0} (xs : List A) (at : ℕ) → length xs ≤ at → drop at xs ≡ []
none_left xs at past = drop_of_length-le xs past
