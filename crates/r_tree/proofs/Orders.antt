-- A list whose images stand in another order has those images, in that order, in some order of its own.
use Rattle.std.proofs.Common.{◌≡◌, ℕ, ◌<◌, List, [], ◌∷◌, length, get_or, map, set, refl, sym, ◌∙◌, ap, ap₂, subst, arith}
use Rattle.std.specs.Prelude.{IsPermutation}
use Rattle.std.specs.List.{swap}
use Rattle.std.proofs.lemmas.List.{map-set, get_or-map, length-map}
use Rattle.std.proofs.lemmas.List.Edits.{swap_is}
use Rattle.std.proofs.lemmas.List.Sorted.{IsPermutation-refl, IsPermutation-trans, IsPermutation-swap, IsPermutation-keeps}

-- the images of a list in which two elements change places
map-swap : {A B : Type 0} (f : A → B) (xs : List A) (i j : ℕ) → i < length xs → j < length xs → map f (swap xs i j) ≡ swap (map f xs) i j
map-swap f [] i j k l = absurd (omega arith)
map-swap {A} {B} f (x ∷ xs) i j k l =
    let zs : List A = x ∷ xs in
    let a : A = get_or zs i x in
    let b : A = get_or zs j x in
    map-set f (set zs i b) j a
    ∙ (ap (λ (ys : List B). set ys j (f a)) (map-set f zs i b)
    ∙ ap₂ (λ (u v : B). set (set (map f zs) i u) j v) (sym (get_or-map f zs j x (f x) l)) (sym (get_or-map f zs i x (f x) k)))

-- such a list
pub record Reordered {A B : Type 0} (f : A → B) (xs : List A) (ys : List B) : Type 0 where
  pub list : List A
  pub order : IsPermutation xs list
  pub images : map f list ≡ ys

pub reordered : {A B : Type 0} (f : A → B) (xs : List A) (ys : List B) → IsPermutation (map f xs) ys → Reordered f xs ys
reordered {A} {B} f xs ys p =
    IsPermutation-keeps (map f xs) (λ (l : List B). Reordered f xs l) (record { list = xs; order = IsPermutation-refl xs; images = refl })
    (λ l i j k m h.
    let n : length h.list ≡ length l = sym (length-map h.list f) ∙ ap (λ (ys : List B). length ys) h.images in
    let k2 : i < length h.list = omega (arith, k, n) in
    let m2 : j < length h.list = omega (arith, m, n) in
    record {
      list = swap h.list i j;
      order = IsPermutation-trans xs h.list (swap h.list i j) h.order (IsPermutation-swap h.list (swap h.list i j) i j k2 m2 refl);
      images = map-swap f h.list i j k2 m2 ∙ ap (λ (ys : List B). swap ys i j) h.images;
    }) ys p
