-- Ascending lists of numbers: filters, and numbers put in and taken out.
use Rattle.std.proofs.Common.{◌≡◌, ℕ, ◌+◌, ◌<◌, ◌≤◌, Bool, true, false, not, List, [], ◌∷◌, ◌++◌, length, map, refl, sym, ◌∙◌, ap, subst, inl, inr, arith}
use Rattle.std.specs.Prelude.{filter, nat_eq}
use Rattle.std.proofs.lemmas.Bool.{cases_lt, false≢true}
use Rattle.std.proofs.lemmas.Bool.Decides.{nat_tests}
use Rattle.sand_model.specs.Tree.{add, without}
use Rattle.pmr_tree.specs.Lists.{Each, RiseStrictly, is_from_to, part, take_all}
use Rattle.pmr_tree.proofs.AscendingLists.{below, same, above, order, add_before, add_after, add_here, each_map, filter_all, filter_none, filter_swap, filter_weaker, rises_filter, take_all_filter}

pub between_true : (low high k : ℕ) → low ≤ k → k < high → is_from_to low high k ≡ true
between_true low high k a b = grind (arith, nat_tests)

pub between_below : (low high k : ℕ) → k < low → is_from_to low high k ≡ false
between_below low high k a = grind (arith, nat_tests)

pub between_above : (low high k : ℕ) → high ≤ k → is_from_to low high k ≡ false
between_above low high k a = grind (arith, nat_tests)

pub between_from : (low high k : ℕ) → is_from_to low high k ≡ true → low ≤ k
between_from low high k a = grind (arith, nat_tests)

pub between_to : (low high k : ℕ) → is_from_to low high k ≡ true → k < high
between_to low high k a = grind (arith, nat_tests)

-- a range of an ascending list is its two parts
pub cut : (low mid high : ℕ) → low ≤ mid → mid ≤ high → (ks : List ℕ) → RiseStrictly ks → part low high ks ≡ part low mid ks ++ part mid high ks
cut low mid high a b [] h = refl
cut low mid high a b (k ∷ ks) h =
    let more = cut low mid high a b ks h.1 in
    elim (cases_lt k low) [
      | inl l ↦ rw (between_below low high k l, between_below low mid k l, between_below mid high k (omega arith)) more
      | inr l ↦ elim (cases_lt k mid) [
        | inl m ↦ rw (between_true low high k l (omega arith), between_true low mid k l m, between_below mid high k m) (ap (λ t. k ∷ t) more)
        | inr m ↦
            (let none : part low mid ks ≡ [] = filter_none (is_from_to low mid) ks (each_map (λ y. k < y) (λ y. is_from_to low mid y ≡ false) (λ y n. between_above low mid y (omega arith)) ks h.0) in
            elim (cases_lt k high) [
              | inl n ↦ rw (between_true low high k l n, between_above low mid k m, between_true mid high k m n, none) (ap (λ t. k ∷ t) (more ∙ ap (λ t. t ++ part mid high ks) none))
              | inr n ↦ rw (between_above low high k n, between_above low mid k m, between_above mid high k n) more
            ])
      ]
    ]

pub take_all_append : (xs ys ks : List ℕ) → take_all (xs ++ ys) ks ≡ take_all ys (take_all xs ks)
take_all_append [] ys ks = refl
take_all_append (x ∷ xs) ys ks = take_all_append xs ys (without x ks)

pub filter_take_all : (p : ℕ → Bool) (xs ks : List ℕ) → filter p (take_all xs ks) ≡ take_all xs (filter p ks)
filter_take_all p [] ks = refl
filter_take_all p (x ∷ xs) ks = filter_take_all p xs (without x ks) ∙ ap (take_all xs) (filter_swap p (λ k. not (nat_eq k x)) ks)

pub rises_take_all : (xs ks : List ℕ) → RiseStrictly ks → RiseStrictly (take_all xs ks)
rises_take_all [] ks h = h
rises_take_all (x ∷ xs) ks h = rises_take_all xs (without x ks) (rises_filter (λ k. not (nat_eq k x)) ks h)

pub true_of : {A : Type 0} (xs : List A) → Each (λ x. Unit {0}) xs
true_of [] = tt
true_of (x ∷ xs) = (tt, true_of xs)

-- a list without all of its own numbers is empty
pub take_all_same : (ks : List ℕ) → RiseStrictly ks → take_all ks ks ≡ []
take_all_same ks h =
    let all : filter (λ k. true) ks ≡ ks = filter_all (λ k. true) ks (each_map (λ k. Unit {0}) (λ k. true ≡ true) (λ k u. refl) ks (true_of ks)) in
    let none : filter (λ k. false) ks ≡ [] = filter_none (λ k. false) ks (each_map (λ k. Unit {0}) (λ k. false ≡ false) (λ k u. refl) ks (true_of ks)) in
    ap (λ t. take_all t ks) (sym all) ∙ take_all_filter (λ k. true) ks h ∙ none

-- numbers of one kind are not taken from those of no such kind
pub take_all_other : (p : ℕ → Bool) (xs ks : List ℕ) → Each (λ x. p x ≡ true) xs → take_all xs (filter (λ k. not (p k)) ks) ≡ filter (λ k. not (p k)) ks
take_all_other p [] ks h = refl
take_all_other p (x ∷ xs) ks h =
    ap (take_all xs) (filter_swap (λ k. not (nat_eq k x)) (λ k. not (p k)) ks ∙ filter_weaker (λ k. not (nat_eq k x)) (λ k. not (p k)) differ ks)
    ∙ take_all_other p xs ks h.1
  where
    differ : (k : ℕ) → not (p k) ≡ true → not (nat_eq k x) ≡ true
    differ k e =
        let go : (b : Bool) → nat_eq k x ≡ b → not b ≡ true =
        elim [
          | true ↦ λ g. (let same : k ≡ x = grind (arith, nat_tests) in absurd (false≢true (ap not (sym (ap p same ∙ h.0)) ∙ e)))
          | false ↦ λ g. refl
        ] in
        go (nat_eq k x) refl

pub length_add : (x : ℕ) (ys : List ℕ) → length (add x ys) ≤ length ys + 1
length_add x [] = omega arith
length_add x (y ∷ ys) =
    elim (order x y) [
      | below l ↦ rw (add_before x y ys l) (omega arith)
      | same e ↦ subst (λ x. length (add x (y ∷ ys)) ≤ length (y ∷ ys) + 1) (sym e) (subst (λ t. length t ≤ length (y ∷ ys) + 1) (sym (add_here y ys)) (omega arith))
      | above l ↦ rw (add_after x y ys l) (omega (arith, length_add x ys))
    ]

pub map_add : (f : ℕ → ℕ) → ((x y : ℕ) → x < y → f x < f y) → (x : ℕ) (ys : List ℕ) → map f (add x ys) ≡ add (f x) (map f ys)
map_add f mono x [] = refl
map_add f mono x (y ∷ ys) =
    elim (order x y) [
      | below l ↦ ap (map f) (add_before x y ys l) ∙ sym (add_before (f x) (f y) (map f ys) (mono x y l))
      | same e ↦ subst (λ x. map f (add x (y ∷ ys)) ≡ add (f x) (map f (y ∷ ys))) (sym e) (ap (map f) (add_here y ys) ∙ sym (add_here (f y) (map f ys)))
      | above l ↦ ap (map f) (add_after x y ys l) ∙ ap (λ t. f y ∷ t) (map_add f mono x ys) ∙ sym (add_after (f x) (f y) (map f ys) (mono y x l))
    ]

-- a list with a number put in is not empty
pub add_some : (x : ℕ) (ys : List ℕ) → (z : ℕ) × ((zs : List ℕ) × (add x ys ≡ z ∷ zs))
add_some x [] = (x, ([], refl))
add_some x (y ∷ ys) =
    elim (order x y) [
      | below l ↦ (x, (y ∷ ys, add_before x y ys l))
      | same e ↦ (y, (ys, subst (λ x. add x (y ∷ ys) ≡ y ∷ ys) (sym e) (add_here y ys)))
      | above l ↦ (y, (add x ys, add_after x y ys l))
    ]
