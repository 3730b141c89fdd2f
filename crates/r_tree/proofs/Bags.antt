-- Weights and counts of lists in any order, and what holds of each element of them.
use Rattle.std.proofs.Common.{◌≡◌, ℕ, zero, suc, ◌+◌, ◌<◌, List, [], ◌∷◌, ◌++◌, length, get_or, refl, sym, ◌∙◌, arith}
use Rattle.std.specs.Prelude.{IsPermutation}
use Rattle.std.specs.List.{sum_by}
use Rattle.std.proofs.lemmas.List.Sorted.{sum_by-IsPermutation, All-permutation, length_permutation}
use Rattle.std.proofs.lemmas.List.Sums.{sum_by-cons}
use Rattle.code_btree.specs.Items.{Each}
use Rattle.r_tree.specs.Entry.{Member}
use Rattle.r_tree.specs.Steps.{weigh}

pub weigh-sum : (f : Member → ℕ) (xs : List Member) → weigh f xs ≡ sum_by f xs
weigh-sum f [] = refl
weigh-sum f (x ∷ xs) = omega (arith, weigh-sum f xs, sum_by-cons f x xs)

pub weigh-append : (f : Member → ℕ) (xs ys : List Member) → weigh f (xs ++ ys) ≡ weigh f xs + weigh f ys
weigh-append f [] ys = omega arith
weigh-append f (x ∷ xs) ys = omega (arith, weigh-append f xs ys)

pub weigh-perm : (f : Member → ℕ) (xs ys : List Member) → IsPermutation xs ys → weigh f ys ≡ weigh f xs
weigh-perm f xs ys p = weigh-sum f ys ∙ (sum_by-IsPermutation f xs ys p ∙ sym (weigh-sum f xs))

-- what holds of each element holds at each place, and the other way round
each_at : {A : Type 0} (P : A → Type 0) (xs : List A) → Each P xs → (k : ℕ) (d : A) → k < length xs → P (get_or xs k d)
each_at P [] h k d l = absurd (omega arith)
each_at P (x ∷ xs) h zero d l = h.0
each_at P (x ∷ xs) h (suc k) d l = each_at P xs h.1 k d (omega arith)

at_each : {A : Type 0} (P : A → Type 0) (xs : List A) → ((k : ℕ) (d : A) → k < length xs → P (get_or xs k d)) → Each P xs
at_each P [] h = tt
at_each P (x ∷ xs) h = (h 0 x (omega arith), at_each P xs (λ k d l. h (suc k) d (omega arith)))

pub Each-perm : {A : Type 0} (P : A → Type 0) (xs ys : List A) → IsPermutation xs ys → Each P xs → Each P ys
Each-perm P xs ys p h = at_each P ys (All-permutation P xs ys p (each_at P xs h))

pub Each-get : {A : Type 0} (P : A → Type 0) (xs : List A) (k : ℕ) (d : A) → Each P xs → k < length xs → P (get_or xs k d)
Each-get P xs k d h l = each_at P xs h k d l

pub length-perm : {A : Type 0} (xs ys : List A) → IsPermutation xs ys → length ys ≡ length xs
length-perm xs ys p = length_permutation xs ys p
