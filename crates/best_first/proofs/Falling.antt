-- The number of steps falls with each step.
use Rattle.std.proofs.Common.{◌≡◌, ℕ, ◌+◌, ◌*◌, ◌^◌, ◌≤◌, ◌<◌, List, [], ◌∷◌, ◌++◌, length, sum_by, filter, Bool, true, false, All, IsPermutation, Option, refl, sym, ap}
use Rattle.std.proofs.Common.{◌∙◌, subst, arith, Ordering, Equal, mul-le-mul_right}
use Rattle.std.proofs.lemmas.List.Elements.{All-head, All-weaker}
use Rattle.std.proofs.lemmas.List.Sums.{sum_by-cons, sum_by-append, sum_by-le}
use Rattle.std.proofs.lemmas.List.Sorted.{sum_by-IsPermutation}
use Rattle.exact_frac.specs.declared.frac.Frac.{Frac}
use Rattle.best_first.specs.declared.hit.Hit.{Hit}
use Rattle.best_first.specs.declared.item.Item.{Item}
use Rattle.best_first.specs.declared.item.Item.TheVariants.{Node, Rough, Row}
use Rattle.best_first.specs.Item.{row_item, nodes_of}
use Rattle.best_first.specs.Reach.{IsAtMost, within}
use Rattle.best_first.specs.Order.{item_cmp}
use Rattle.best_first.specs.Steps.{item_steps, steps, AddsLess}
use Rattle.best_first.specs.Inside.{TakesEqual, AddsRow}
use Rattle.best_first.proofs.Ranks.{alike_rough, alike_row}

pub sum_filter : {X : Type 0} (f : X → ℕ) (p : X → Bool) (xs : List X) → sum_by f (filter p xs) ≤ sum_by f xs
sum_filter f p [] = omega arith
sum_filter f p (x ∷ xs) =
    let rest = sum_filter f p xs in
    let whole = sum_by-cons f x xs in
    let go : (b : Bool) → p x ≡ b → sum_by f (filter p (x ∷ xs)) ≤ sum_by f (x ∷ xs) =
    elim [
      | true ↦ λ e. (let same = ap (sum_by f) (Rattle.best_first.proofs.Bags.filter_here p x xs e) in let grown = sum_by-cons f x (filter p xs) in
          omega arith)
      | false ↦ λ e. (let same = ap (sum_by f) (Rattle.best_first.proofs.Bags.filter_skips p x xs e) in omega arith)
    ] in
    go (p x) refl

-- what nodes weigh, and two steps for each item, bound the steps
found_steps : {N : Type 0} (weight : N → ℕ) (items : List (Item N)) → steps weight items ≤ sum_by weight (nodes_of items) * 2 ^ 65 + 2 * length items
found_steps weight [] = omega arith
found_steps weight (Node gap node ∷ items) =
    let rest = found_steps weight items in
    let whole = sum_by-cons (item_steps weight) (Node gap node) items in
    let nodes = sum_by-cons weight node (nodes_of items) in
    let scaled : sum_by weight (nodes_of (Node gap node ∷ items)) * 2 ^ 65 ≡ weight node * 2 ^ 65 + sum_by weight (nodes_of items) * 2 ^ 65 = ap (λ n. n * 2 ^ 65) nodes ∙ omega arith in
    omega arith
found_steps weight (Rough gap l r ∷ items) = let rest = found_steps weight items in let whole = sum_by-cons (item_steps weight) (Rough gap l r) items in omega arith
found_steps weight (Row gap l r ∷ items) = let rest = found_steps weight items in let whole = sum_by-cons (item_steps weight) (Row gap l r) items in omega arith

less_steps : (sum weight : ℕ) → sum < weight → sum * 2 ^ 65 + 2 ^ 65 ≤ weight * 2 ^ 65
less_steps sum weight h = let step : (sum + 1) * 2 ^ 65 ≤ weight * 2 ^ 65 = mul-le-mul_right (2 ^ 65) (omega arith) in omega arith

-- an expansion lowers the number
pub open_falls : {N : Type 0} (weight : N → ℕ) (old rest found new : List (Item N)) (x : Item N) (far : Frac) (node : N) (ceiling : Option ℕ) → x ≡ Node far node
    → IsPermutation old (x ∷ rest) → IsPermutation (filter (λ item. within ceiling (Rattle.best_first.specs.Item.gap_of item)) found ++ rest) new
    → AddsLess weight node [] found → length found < 2 ^ 64 → steps weight new < steps weight old
open_falls weight old rest found new x far node ceiling is taken put adds short =
    let f = item_steps weight in
    let p = λ (item : Item _). within ceiling (Rattle.best_first.specs.Item.gap_of item) in
    let before : sum_by f (x ∷ rest) ≡ sum_by f old = sum_by-IsPermutation f old (x ∷ rest) taken in
    let split = sum_by-cons f x rest in
    let front : f x ≡ weight node * 2 ^ 65 = ap f is in
    let after : sum_by f new ≡ sum_by f (filter p found ++ rest) = sum_by-IsPermutation f (filter p found ++ rest) new put in
    let joined = sum_by-append f (filter p found) rest in
    let fewer = sum_filter f p found in
    let bound = found_steps weight found in
    let added : sum_by weight (nodes_of found) < weight node = subst (λ l. sum_by weight (nodes_of l) < weight node) (sym adds.adds) adds.less in
    let scaled = less_steps (sum_by weight (nodes_of found)) (weight node) added in
    omega arith

-- a fetch lowers the number
pub fetch_falls : {N : Type 0} (cmp : N → N → Ordering) (weight : N → ℕ) (old mid new : List (Item N)) (ceiling : Option ℕ) (gap : Frac) (left right : ℕ) (hit : Hit)
    → TakesEqual (item_cmp cmp) (Rough gap left right) old mid → AddsRow ceiling gap hit mid new → steps weight new < steps weight old
fetch_falls cmp weight old mid new ceiling gap left right hit taken adds =
    let f = item_steps weight in
    let gone = taken.first ∷ taken.more in
    let before : sum_by f (gone ++ mid) ≡ sum_by f old = sum_by-IsPermutation f old (gone ++ mid) taken.split in
    let split = sum_by-append f gone mid in
    let heads = sum_by-cons f taken.first taken.more in
    let (far, is) = alike_rough cmp gap left right taken.first (All-head (λ item. item_cmp cmp (Rough gap left right) item ≡ Equal) taken.first taken.more taken.equal) in
    let front : f taken.first ≡ 2 = ap f is in
    let after : sum_by f new ≡ sum_by f (adds.added ++ mid) = sum_by-IsPermutation f (adds.added ++ mid) new adds.put in
    let joined = sum_by-append f adds.added mid in
    let each : All (λ item. f item ≤ 1) adds.added =
    All-weaker (λ item. (item ≡ row_item hit) × IsAtMost gap hit.gap × (within ceiling hit.gap ≡ true)) (λ item. f item ≤ 1)
    (λ item says. let e = ap f says.0 in omega arith) adds.added adds.adds.only in
    let most = sum_by-le f 1 adds.added each in
    let few = adds.few in
    omega arith

-- a row that is given lowers the number
pub give_falls : {N : Type 0} (cmp : N → N → Ordering) (weight : N → ℕ) (old new : List (Item N)) (hit : Hit) → TakesEqual (item_cmp cmp) (row_item hit) old new → steps weight new < steps weight old
give_falls cmp weight old new hit taken =
    let f = item_steps weight in
    let gone = taken.first ∷ taken.more in
    let before : sum_by f (gone ++ new) ≡ sum_by f old = sum_by-IsPermutation f old (gone ++ new) taken.split in
    let split = sum_by-append f gone new in
    let heads = sum_by-cons f taken.first taken.more in
    let (far, is) = alike_row cmp hit.gap hit.left hit.right taken.first (All-head (λ item. item_cmp cmp (row_item hit) item ≡ Equal) taken.first taken.more taken.equal) in
    let front : f taken.first ≡ 1 = ap f is in
    omega arith
