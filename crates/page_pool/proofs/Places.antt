-- A table of items by number, seen as a finite map.
use Rattle.std.proofs.Common.{◌≡◌, ◌≤◌, ◌<◌, ℕ, suc, zero, ◌+◌, List, [], ◌∷◌, cond, false, refl, sym, ap, ◌∙◌, Option, Some, None, get_or, set, length, is_some}
use Rattle.std.proofs.Common.{count_by, inl, inr, arith, Result, Ok, Err, OnErr}
use Rattle.std.specs.Ordering.{nat_cmp, eq_by_cmp}
use Rattle.std.specs.Cmp.{nat_cmp_total}
use Rattle.std.specs.FinMap as map
use Rattle.std.specs.FinMap.{find}
use Rattle.std.proofs.lemmas.Bool.{cases_eq}
use Rattle.std.proofs.lemmas.List.{get_or-set_same, get_or-set_other, get_or_past}
use Rattle.std.proofs.lemmas.List.Sums.{sum_by-cons}
use Rattle.page_pool.specs.Inside.{entries_from, items_in}
use Rattle.page_pool.proofs.Maps.{same, get-insert, get-remove, tie_itself, tie_apart}

-- no number is below that of the first place
pub below : {X : Type 0} (n q : ℕ) (places : List (Option X)) → q < n → find nat_cmp q (entries_from n places) ≡ None
below n q [] low = refl
below n q (None ∷ places) low = below (suc n) q places (omega arith)
below n q (Some item ∷ places) low = ap (λ b. cond b (Some item) (find nat_cmp q (entries_from (suc n) places))) (tie_apart q n (λ is. omega (arith, is))) ∙ below (suc n) q places (omega arith)

-- the item of a number stands in its place
in_place : {X : Type 0} (n k q : ℕ) (places : List (Option X)) → q ≡ n + k → find nat_cmp q (entries_from n places) ≡ get_or places k None
in_place n k q [] at = refl
in_place n zero q (None ∷ places) at = below (suc n) q places (omega arith)
in_place n zero q (Some item ∷ places) at =
    let one : q ≡ n = omega arith in ap (λ b. cond b (Some item) (find nat_cmp q (entries_from (suc n) places))) (ap (λ x. eq_by_cmp nat_cmp x n) one ∙ tie_itself n)
in_place n (suc k) q (None ∷ places) at = in_place (suc n) k q places (omega arith)
in_place n (suc k) q (Some item ∷ places) at =
    ap (λ b. cond b (Some item) (find nat_cmp q (entries_from (suc n) places))) (tie_apart q n (λ is. omega (arith, is))) ∙ in_place (suc n) k q places (omega arith)

-- what the map of a table answers
pub get-items_in : {X : Type 0} (places : List (Option X)) (q : ℕ) → map.get (items_in places) q ≡ get_or places q None
unfolding items_in
get-items_in places q = map.get-from_entries nat_cmp_total (entries_from 0 places) q ∙ in_place 0 q q places (omega arith)

-- no item stands in a table with no place
pub items-none : {X : Type 0} → items_in {X = X} [] ≡ map.empty
unfolding items_in
items-none = refl

-- tables with the same item at each number
pub items-same : {X : Type 0} (xs ys : List (Option X)) → ((q : ℕ) → get_or ys q None ≡ get_or xs q None) → items_in ys ≡ items_in xs
items-same xs ys is = same _ _ (λ q. get-items_in ys q ∙ is q ∙ sym (get-items_in xs q))

-- after a write to the place of a number
get-set : {X : Type 0} (places : List (Option X)) (n : ℕ) (place : Option X) (q : ℕ) → n < length places
    → map.get (items_in (set places n place)) q ≡ cond (eq_by_cmp nat_cmp q n) place (map.get (items_in places) q)
get-set places n place q within = get-items_in (set places n place) q ∙ elim (cases_eq q n) [
  | inl one ↦ ap (λ k. get_or (set places n place) k None) one ∙ get_or-set_same places n place None within
      ∙ sym (ap (λ b. cond b place (map.get (items_in places) q)) (ap (λ k. eq_by_cmp nat_cmp k n) one ∙ tie_itself n))
  | inr apart ↦ get_or-set_other places n q place None apart ∙ sym (get-items_in places q)
      ∙ sym (ap (λ b. cond b place (map.get (items_in places) q)) (tie_apart q n apart))
]

-- an item is put in the place of its number
pub items-put : {X : Type 0} (places : List (Option X)) (n : ℕ) (item : X) → n < length places → items_in (set places n (Some item)) ≡ map.insert (items_in places) n item
items-put places n item within = same _ _ (λ q. get-set places n (Some item) q within ∙ sym (get-insert (items_in places) n item q))

-- the place of a number is emptied
pub items-taken : {X : Type 0} (places : List (Option X)) (n : ℕ) → n < length places → items_in (set places n None) ≡ map.remove (items_in places) n
items-taken places n within = same _ _ (λ q. get-set places n None q within ∙ sym (get-remove (items_in places) n q))

-- a number above the table has no item
pub past : {X : Type 0} (places : List (Option X)) (n : ℕ) → length places ≤ n → map.get (items_in places) n ≡ None
past places n above = get-items_in places n ∙ get_or_past places n None above

pub items-past : {X : Type 0} (places : List (Option X)) (n : ℕ) → length places ≤ n → items_in places ≡ map.remove (items_in places) n
items-past places n above = same _ _ (λ q. at q ∙ sym (get-remove (items_in places) n q))
  where
    at : (q : ℕ) → map.get (items_in places) q ≡ cond (eq_by_cmp nat_cmp q n) None (map.get (items_in places) q)
    at q = elim (cases_eq q n) [
      | inl one ↦ ap (map.get (items_in places)) one ∙ past places n above ∙ sym (ap (λ b. cond b None (map.get (items_in places) q)) (ap (λ k. eq_by_cmp nat_cmp k n) one ∙ tie_itself n))
      | inr apart ↦ sym (ap (λ b. cond b None (map.get (items_in places) q)) (tie_apart q n apart))
    ]

-- the items in a table are as many as the places that aren't empty
as_many : {X : Type 0} (n : ℕ) (places : List (Option X)) → map.len {R = nat_cmp} (map.from_entries (entries_from n places)) ≡ count_by (λ place. is_some place) places
as_many {X = X} n [] = map.len-empty nat_cmp X
as_many n (None ∷ places) = let rest = as_many (suc n) places in let more : count_by (λ place. is_some place) (None ∷ places) ≡ 0 + count_by (λ place. is_some place) places =
    sum_by-cons (λ place. cond (is_some place) 1 0) None places in omega arith
as_many {X = X} n (Some item ∷ places) =
    let rest = as_many (suc n) places in
    let others : map.FinMap nat_cmp X = map.from_entries (entries_from (suc n) places) in
    let new : map.contains_key others n ≡ false = ap is_some (map.get-from_entries nat_cmp_total (entries_from (suc n) places) n ∙ below (suc n) n places (omega arith)) in
    let size : map.len (map.insert others n item) ≡ map.len others + 1 = map.len-insert nat_cmp_total others n item ∙ ap (λ b. cond b (map.len others) (map.len others + 1)) new in
    let more : count_by (λ place. is_some place) (Some item ∷ places) ≡ 1 + count_by (λ place. is_some place) places = sum_by-cons (λ place. cond (is_some place) 1 0) (Some item) places in omega arith

pub counted_items : {X : Type 0} (places : List (Option X)) → count_by (λ place. is_some place) places ≡ map.len (items_in places)
unfolding items_in
counted_items places = sym (as_many 0 places)

-- what holds, holds on a refusal
pub on_err : {T E P : Type 0} (r : Result T E) → P → OnErr r P
on_err (Ok x) p = tt
on_err (Err e) p = p
