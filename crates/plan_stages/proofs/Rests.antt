-- What holds of all elements of a list holds of those behind the first.
use Rattle.std.proofs.Common.{◌≡◌, suc, ◌-◌, ◌<◌, ◌≤◌, List, [], ◌∷◌, length, take, drop, All, refl, sym, subst, arith}
use Rattle.std.proofs.lemmas.List.{take_all}

-- the rest of a list, as slices have it
pub rest_is : {A : Type 0} (xs : List A) → take (length xs - 1) (drop 1 xs) ≡ drop 1 xs
rest_is [] = refl
rest_is (x ∷ xs) = take_all (length (x ∷ xs) - 1) xs (omega arith)

pub all_rest : {A : Type 0} (P : A → Type 0) (xs : List A) → All P xs → All P (take (length xs - 1) (drop 1 xs))
all_rest {A} P xs h = subst (λ ys. All P ys) (sym (rest_is xs)) (go xs h)
  where
    go : (xs : List A) → All P xs → All P (drop 1 xs)
    go [] h = h
    go (x ∷ xs) h = λ k d less. h (suc k) d (omega (arith, less))

pub rest_falls : {A : Type 0} (xs : List A) → 1 ≤ length xs → length (take (length xs - 1) (drop 1 xs)) < length xs
rest_falls [] h = absurd (omega arith)
rest_falls (x ∷ xs) h = subst (λ ys. length ys < length (x ∷ xs)) (sym (rest_is (x ∷ xs))) (omega arith)
