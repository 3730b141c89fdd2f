-- A stable sort is unique: a list in order with the ties of another one in their order there is that list sorted.
use Rattle.std.proofs.Common.{◌≡◌, ℕ, suc, ◌<◌, ◌≤◌, Bool, true, false, not, cond, ◌&&◌, List, [], ◌∷◌, length, filter, get_or, refl, sym, ◌∙◌, ap, ap₂, arith, true≢false, Ordering}
use Rattle.std.specs.Prelude.{⊤}
use Rattle.std.specs.Cmp.{IsStrictWeakOrder}
use Rattle.std.specs.List.Sorted.{IsSorted, IsSortedBy, IsStable, ties}
use Rattle.std.specs.Ordering.{is_lt}
use Rattle.std.proofs.lemmas.List.Sorted.{sorted_far}
use Rattle.sand_model.specs.Sources.{placed, sorted}

module _ {X : Type 0} (lt : X → X → Bool) (o : IsStrictWeakOrder lt) where
  -- no element is less than x
  abbrev Above : X → List X → Type 0
  Above x [] = ⊤
  Above x (y ∷ ys) = (lt y x ≡ false) × Above x ys

  -- no element is less than one before it
  abbrev Ascends : List X → Type 0
  Ascends [] = ⊤
  Ascends (x ∷ xs) = Above x xs × Ascends xs

  above_less : (x y : X) (ys : List X) → lt y x ≡ false → Above y ys → Above x ys
  above_less x y [] e h = tt
  above_less x y (z ∷ zs) e h = (o.chain z y x h.0 e, above_less x y zs e h.1)

  itself : (x : X) → lt x x ≡ false
  itself x = by_test (lt x x) refl where
    by_test : (b : Bool) → lt x x ≡ b → lt x x ≡ false
    by_test true e = o.one_way x x e
    by_test false e = e

  -- what ties with x is not less, and x is not less than it

  ties_below : (x y : X) → ties lt x y ≡ true → lt x y ≡ false
  ties_below x y t = by_test (lt x y) (lt y x) refl t where
    by_test : (a b : Bool) → lt x y ≡ a → not a && not b ≡ true → lt x y ≡ false
    by_test true b e t = absurd (true≢false (sym t))
    by_test false b e t = e

  ties_above : (x y : X) → ties lt x y ≡ true → lt y x ≡ false
  ties_above x y t = by_test (lt x y) (lt y x) refl t where
    by_test : (a b : Bool) → lt y x ≡ b → not a && not b ≡ true → lt y x ≡ false
    by_test true b e t = absurd (true≢false (sym t))
    by_test false true e t = absurd (true≢false (sym t))
    by_test false false e t = e

  tied : (x y : X) → lt x y ≡ false → lt y x ≡ false → ties lt x y ≡ true
  tied x y e f = ap₂ (λ (a b : Bool). not a && not b) e f

  -- the elements that tie with x
  abbrev tied_with : X → List X → List X
  tied_with x xs = filter (ties lt x) xs

  kept : (x y : X) (ys : List X) → ties lt x y ≡ true → tied_with x (y ∷ ys) ≡ y ∷ tied_with x ys
  kept x y ys e = ap (λ (b : Bool). cond b (y ∷ tied_with x ys) (tied_with x ys)) e

  left_out : (x y : X) (ys : List X) → ties lt x y ≡ false → tied_with x (y ∷ ys) ≡ tied_with x ys
  left_out x y ys e = ap (λ (b : Bool). cond b (y ∷ tied_with x ys) (tied_with x ys)) e

  empty_or_not : (x : X) (xs : List X) → [] ≡ x ∷ xs → ⊥
  empty_or_not x xs e = true≢false (ap (λ (ys : List X). elim ys as (λ _. Bool) [ [] ↦ true | y ∷ (more → h) ↦ false ]) e)

  -- where something ties with x, the first of a list in order is not greater
  not_greater : (x z : X) (zs : List X) (v : X) (vs : List X) → Above z zs → tied_with x zs ≡ v ∷ vs → lt x z ≡ false
  not_greater x z [] v vs h e = absurd (empty_or_not v vs e)
  not_greater x z (u ∷ us) v vs h e = by_test (ties lt x u) refl (not_greater x z us v vs h.1) where
    by_test : (b : Bool) → ties lt x u ≡ b → (tied_with x us ≡ v ∷ vs → lt x z ≡ false) → lt x z ≡ false
    by_test true t more = o.chain x u z (ties_below x u t) h.0
    by_test false t more = more (sym (left_out x u us t) ∙ e)

  first_not_greater : (x z : X) (zs : List X) (v : X) (vs : List X) → Above z zs → tied_with x (z ∷ zs) ≡ v ∷ vs → lt x z ≡ false
  first_not_greater x z zs v vs h e = by_test (ties lt x z) refl where
    by_test : (b : Bool) → ties lt x z ≡ b → lt x z ≡ false
    by_test true t = ties_below x z t
    by_test false t = not_greater x z zs v vs h (sym (left_out x z zs t) ∙ e)

  abbrev first_of : X → List X → X
  first_of x [] = x
  first_of x (y ∷ ys) = y

  abbrev rest_of : List X → List X
  rest_of [] = []
  rest_of (y ∷ ys) = ys

  -- two lists in order whose ties stand alike are one list
  only_one : (ys zs : List X) → Ascends ys → Ascends zs → ((x : X) → tied_with x ys ≡ tied_with x zs) → ys ≡ zs
  only_one [] [] up down same = refl
  only_one [] (z ∷ zs) up down same = absurd (empty_or_not z (tied_with z zs) (same z ∙ kept z z zs (tied z z (itself z) (itself z))))
  only_one (y ∷ ys) [] up down same = absurd (empty_or_not y (tied_with y ys) (sym (same y) ∙ kept y y ys (tied y y (itself y) (itself y))))
  only_one (y ∷ ys) (z ∷ zs) up down same =
      let own : tied_with y (y ∷ ys) ≡ y ∷ tied_with y ys = kept y y ys (tied y y (itself y) (itself y)) in
      let others : tied_with z (z ∷ zs) ≡ z ∷ tied_with z zs = kept z z zs (tied z z (itself z) (itself z)) in
      let low : lt y z ≡ false = first_not_greater y z zs y (tied_with y ys) down.0 (sym (same y) ∙ own) in
      let high : lt z y ≡ false = first_not_greater z y ys z (tied_with z zs) up.0 (same z ∙ others) in
      let both : y ∷ tied_with y ys ≡ z ∷ tied_with y zs = sym own ∙ (same y ∙ kept y z zs (tied y z low high)) in
      let first : y ≡ z = ap (first_of y) both in
      ap₂ (λ (x : X) (xs : List X). x ∷ xs) first (only_one ys zs up.1 down.1 (rest first)) where
        behind : (x : X) (b : Bool) → ties lt x y ≡ b → tied_with x (y ∷ ys) ≡ tied_with x (y ∷ zs) → tied_with x ys ≡ tied_with x zs
        behind x true t e = ap rest_of (sym (kept x y ys t) ∙ (e ∙ kept x y zs t))
        behind x false t e = sym (left_out x y ys t) ∙ (e ∙ left_out x y zs t)

        rest : y ≡ z → (x : X) → tied_with x ys ≡ tied_with x zs
        rest first x = behind x (ties lt x y) refl (same x ∙ ap (λ (v : X). tied_with x (v ∷ zs)) (sym first))

  -- a list in order by its neighbours

  above_by : (x : X) (xs : List X) → ((k : ℕ) → k < length xs → lt (get_or xs k x) x ≡ false) → Above x xs
  above_by x [] h = tt
  above_by x (y ∷ ys) h = (h 0 (omega arith), above_by x ys (λ k p. h (suc k) (omega arith)))

  ascends_by : (xs : List X) → ((i j : ℕ) (d : X) → i ≤ j → j < length xs → lt (get_or xs j d) (get_or xs i d) ≡ false) → Ascends xs
  ascends_by [] h = tt
  ascends_by (x ∷ xs) h = (above_by x xs (λ k p. h 0 (suc k) x (omega arith) (omega arith)), ascends_by xs (λ i j d p q. h (suc i) (suc j) d (omega arith) (omega arith)))

  ascends : (xs : List X) → IsSortedBy lt xs → Ascends xs
  ascends xs up = ascends_by xs (sorted_far lt o xs up)

module _ {X : Type 0} (cmp : X → X → Ordering) where
  abbrev less : X → X → Bool
  less x y = is_lt (cmp x y)

  module _ (o : IsStrictWeakOrder less) where
    -- an element at its place

    above_placed : (w x : X) (ys : List X) → less x w ≡ false → Above less o w ys → Above less o w (placed cmp x ys)
    above_placed w x [] e h = (e, tt)
    above_placed w x (y ∷ ys) e h = by_test (less y x) (above_placed w x ys e h.1) where
      by_test : (b : Bool) → Above less o w (placed cmp x ys) → Above less o w (cond b (y ∷ placed cmp x ys) (x ∷ y ∷ ys))
      by_test true more = (h.0, more)
      by_test false more = (e, h)

    ascends_placed : (x : X) (ys : List X) → Ascends less o ys → Ascends less o (placed cmp x ys)
    ascends_placed x [] h = (tt, tt)
    ascends_placed x (y ∷ ys) h = by_test (less y x) refl (ascends_placed x ys h.1) where
      by_test : (b : Bool) → less y x ≡ b → Ascends less o (placed cmp x ys) → Ascends less o (cond b (y ∷ placed cmp x ys) (x ∷ y ∷ ys))
      by_test true e more = (above_placed y x ys (o.one_way y x e) h.0, more)
      by_test false e more = ((e, above_less less o x y ys e h.0), h)

    ascends_sorted : (xs : List X) → Ascends less o (sorted cmp xs)
    ascends_sorted [] = tt
    ascends_sorted (x ∷ xs) = ascends_placed x (sorted cmp xs) (ascends_sorted xs)

    abbrev tied_to : X → List X → List X
    tied_to w xs = tied_with less o w xs

    -- it stands before those that it ties with
    ties_placed : (w x : X) (ys : List X) → tied_to w (placed cmp x ys) ≡ tied_to w (x ∷ ys)
    ties_placed w x [] = refl
    ties_placed w x (y ∷ ys) = by_test (less y x) refl (ties_placed w x ys) where
      swapped : (a b : Bool) → ties less w y ≡ a → ties less w x ≡ b → less y x ≡ true → cond a (y ∷ cond b (x ∷ tied_to w ys) (tied_to w ys)) (cond b (x ∷ tied_to w ys) (tied_to w ys))
          ≡ cond b (x ∷ cond a (y ∷ tied_to w ys) (tied_to w ys)) (cond a (y ∷ tied_to w ys) (tied_to w ys))
      swapped true true s t e = absurd (true≢false (sym e ∙ o.chain y w x (ties_above less o w y s) (ties_below less o w x t)))
      swapped true false s t e = refl
      swapped false b s t e = refl

      by_test : (b : Bool) → less y x ≡ b → tied_to w (placed cmp x ys) ≡ tied_to w (x ∷ ys) → tied_to w (cond b (y ∷ placed cmp x ys) (x ∷ y ∷ ys)) ≡ tied_to w (x ∷ y ∷ ys)
      by_test true e more = ap (λ (zs : List X). cond (ties less w y) (y ∷ zs) zs) more ∙ swapped (ties less w y) (ties less w x) refl refl e
      by_test false e more = refl

    ties_sorted : (w : X) (xs : List X) → tied_to w (sorted cmp xs) ≡ tied_to w xs
    ties_sorted w [] = refl
    ties_sorted w (x ∷ xs) =
        ties_placed w x (sorted cmp xs) ∙ ap (λ (zs : List X). cond (ties less w x) (x ∷ zs) zs) (ties_sorted w xs)

    -- what a stable sort makes of a list is the list sorted
    pub stable_sort : (xs ys : List X) → IsSorted cmp ys → IsStable cmp xs ys → ys ≡ sorted cmp xs
    stable_sort xs ys up stable =
        only_one less o ys (sorted cmp xs) (ascends less o ys up) (ascends_sorted xs) (λ w. stable w ∙ sym (ties_sorted w xs))
