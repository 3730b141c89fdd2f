-- Lists that are no longer than others, and what stands at a place of a list.
use Rattle.std.proofs.Common.{◌≡◌, ℕ, zero, suc, ◌≤◌, Bool, true, false, cond, not, List, [], ◌∷◌, map, length, filter, filter_map, Option, None, Some, option_map, refl, arith}
use Rattle.sand_model.specs.Database.{element}
use Rattle.sand_model.specs.Nodes.{LeafItem}
use Rattle.sand_model.specs.Reach.{same_item, distinct}

-- what passes a test
pub fewer_pass : {A : Type 0} (p : A → Bool) (xs : List A) → length (filter p xs) ≤ length xs
fewer_pass p [] = omega arith
fewer_pass p (x ∷ xs) = step (fewer_pass p xs) (p x)
  where
    step : length (filter p xs) ≤ length xs → (b : Bool) → length (cond b (x ∷ filter p xs) (filter p xs)) ≤ suc (length xs)
    step h true = omega (arith, h)
    step h false = omega (arith, h)

-- what a partial map gives
pub fewer_mapped : {A B : Type 0} (h : A → Option B) (xs : List A) → length (filter_map h xs) ≤ length xs
fewer_mapped h [] = omega arith
fewer_mapped {A} {B} h (x ∷ xs) = step (fewer_mapped h xs) (h x)
  where
    with_first : Option B → List B → List B
    with_first None ys = ys
    with_first (Some y) ys = y ∷ ys

    step : length (filter_map h xs) ≤ length xs → (o : Option B) → length (with_first o (filter_map h xs)) ≤ suc (length xs)
    step few None = omega (arith, few)
    step few (Some y) = omega (arith, few)

-- each item once
pub fewer_distinct : (items : List LeafItem) → length (distinct items) ≤ length items
fewer_distinct [] = omega arith
fewer_distinct (item ∷ items) =
    let rest = fewer_distinct items in
    let some = fewer_pass (λ other. not (same_item item other)) (distinct items) in
    omega (arith, rest, some)

-- ---- places of lists

-- behind the last there is none
pub element_past : {A : Type 0} (xs : List A) → element xs (length xs) ≡ None
element_past [] = refl
element_past (x ∷ xs) = element_past xs

-- and there is none only there
pub past_all : {A : Type 0} (xs : List A) (n : ℕ) → element xs n ≡ None → length xs ≤ n
past_all [] n e = omega arith
past_all (x ∷ xs) zero e = absurd (let clash : ⊥ = cc in clash)
past_all (x ∷ xs) (suc n) e = let rest = past_all xs n e in omega (arith, rest)

-- a place of a mapped list
pub element_map : {A B : Type 0} (f : A → B) (xs : List A) (n : ℕ) → element (map f xs) n ≡ option_map f (element xs n)
element_map f [] n = refl
element_map f (x ∷ xs) zero = refl
element_map f (x ∷ xs) (suc n) = element_map f xs n
