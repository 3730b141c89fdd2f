-- Items of use for the wanted left ids: what a list of them keeps of the whole list.
use Rattle.std.proofs.Common.{◌≡◌, ℕ, Bool, true, false, cond, List, [], ◌∷◌, ◌<◌, sum_by, filter, refl, sym, ap, ◌∙◌, subst}
use Rattle.std.specs.List.{AllZip}
use Rattle.best_first.specs.declared.hit.Hit.{Hit}
use Rattle.best_first.specs.declared.item.Item.{Item}
use Rattle.best_first.specs.declared.item.Item.TheVariants.{Node, Rough, Row}
use Rattle.best_first.specs.Item.{nodes_of, roughs_of, IsAlike}
use Rattle.best_first.specs.Hierarchy.{Meaning, FindsAlike}
use Rattle.best_first.specs.Frontier.{LeadsToRow}
use Rattle.best_first.specs.Steps.{AddsLess}
use Rattle.best_first.specs.Wanted.{is_wanted, wanted_of}
use Rattle.best_first.proofs.Bags.{filter_here, filter_skips}
use Rattle.best_first.proofs.Gaps.{same_itself}

-- items that stand for one are of use alike
pub alike_wanted : {N : Type 0} (wants : ℕ → Bool) (x y : Item N) → IsAlike x y → is_wanted wants x ≡ is_wanted wants y
alike_wanted wants (Node g a) (Node h b) e = refl
alike_wanted wants (Node g a) (Rough h k s) e = absurd e
alike_wanted wants (Node g a) (Row h k s) e = absurd e
alike_wanted wants (Rough g l r) (Node h b) e = absurd e
alike_wanted wants (Rough g l r) (Rough h k s) e = refl
alike_wanted wants (Rough g l r) (Row h k s) e = absurd e
alike_wanted wants (Row g l r) (Node h b) e = absurd e
alike_wanted wants (Row g l r) (Rough h k s) e = absurd e
alike_wanted wants (Row g l r) (Row h k s) e = ap wants e.1

-- an item stands for itself
pub alike_itself : {N : Type 0} (x : Item N) → IsAlike x x
alike_itself (Node g a) = (same_itself g, refl)
alike_itself (Rough g l r) = (same_itself g, refl, refl)
alike_itself (Row g l r) = (same_itself g, refl, refl)

-- the items of use of two lists that are alike are alike
pub zip_wanted : {N : Type 0} (wants : ℕ → Bool) (xs ys : List (Item N)) → AllZip IsAlike xs ys → AllZip IsAlike (wanted_of wants xs) (wanted_of wants ys)
zip_wanted wants [] [] h = h
zip_wanted wants [] (y ∷ ys) h = absurd h
zip_wanted wants (x ∷ xs) [] h = absurd h
zip_wanted wants (x ∷ xs) (y ∷ ys) h =
    let p = is_wanted wants in
    let rest = zip_wanted wants xs ys h.1 in
    let go : (b : Bool) → p y ≡ b → AllZip IsAlike (filter p (x ∷ xs)) (filter p (y ∷ ys)) =
    elim [
      | true ↦ λ e.
          subst (λ l. AllZip IsAlike l (filter p (y ∷ ys))) (sym (filter_here p x xs (alike_wanted wants x y h.0 ∙ e)))
          (subst (AllZip IsAlike (x ∷ filter p xs)) (sym (filter_here p y ys e)) (h.0, rest))
      | false ↦ λ e.
          subst (λ l. AllZip IsAlike l (filter p (y ∷ ys))) (sym (filter_skips p x xs (alike_wanted wants x y h.0 ∙ e)))
          (subst (AllZip IsAlike (filter p xs)) (sym (filter_skips p y ys e)) rest)
    ] in
    go (p y) refl

-- the nodes are all of use
pub nodes_wanted : {N : Type 0} (wants : ℕ → Bool) (items : List (Item N)) → nodes_of (wanted_of wants items) ≡ nodes_of items
nodes_wanted wants [] = refl
nodes_wanted wants (Node gap node ∷ items) = ap (λ l. node ∷ l) (nodes_wanted wants items)
nodes_wanted wants (Rough gap l r ∷ items) = nodes_wanted wants items
nodes_wanted {N} wants (Row gap l r ∷ items) =
    let kept = wanted_of wants items in
    let go : (b : Bool) → nodes_of {N = N} (cond b (Row gap l r ∷ kept) kept) ≡ nodes_of items = elim [ true ↦ nodes_wanted wants items | false ↦ nodes_wanted wants items ] in
    go (wants l)

-- and so are the rough objects
pub roughs_wanted : {N : Type 0} (wants : ℕ → Bool) (items : List (Item N)) → roughs_of (wanted_of wants items) ≡ roughs_of items
roughs_wanted wants [] = refl
roughs_wanted wants (Node gap node ∷ items) = roughs_wanted wants items
roughs_wanted wants (Rough gap l r ∷ items) = ap (λ rest. Rough gap l r ∷ rest) (roughs_wanted wants items)
roughs_wanted {N} wants (Row gap l r ∷ items) =
    let kept = wanted_of wants items in
    let go : (b : Bool) → roughs_of {N = N} (cond b (Row gap l r ∷ kept) kept) ≡ roughs_of items = elim [ true ↦ roughs_wanted wants items | false ↦ roughs_wanted wants items ] in
    go (wants l)

-- what leads to a row with a wanted left id is of use
pub leads_wanted : {N : Type 0} (m : Meaning N) (wants : ℕ → Bool) (hit : Hit) (item : Item N) → LeadsToRow m hit item → wants hit.left ≡ true → is_wanted wants item ≡ true
leads_wanted m wants hit (Node gap node) h e = refl
leads_wanted m wants hit (Rough gap l r) h e = refl
leads_wanted m wants hit (Row gap l r) h e = ap wants h.1 ∙ e

-- two filters change places
filters_by : {X : Type 0} (p q : X → Bool) (x : X) (xs : List X) → filter p (filter q xs) ≡ filter q (filter p xs) → (a b : Bool) → p x ≡ a → q x ≡ b
    → filter p (filter q (x ∷ xs)) ≡ filter q (filter p (x ∷ xs))
filters_by p q x xs rest true true e f =
    ap (filter p) (filter_here q x xs f) ∙ filter_here p x (filter q xs) e ∙ ap (λ l. x ∷ l) rest ∙ sym (ap (filter q) (filter_here p x xs e) ∙ filter_here q x (filter p xs) f)
filters_by p q x xs rest true false e f =
    ap (filter p) (filter_skips q x xs f) ∙ rest ∙ sym (ap (filter q) (filter_here p x xs e) ∙ filter_skips q x (filter p xs) f)
filters_by p q x xs rest false true e f =
    ap (filter p) (filter_here q x xs f) ∙ filter_skips p x (filter q xs) e ∙ rest ∙ sym (ap (filter q) (filter_skips p x xs e))
filters_by p q x xs rest false false e f =
    ap (filter p) (filter_skips q x xs f) ∙ rest ∙ sym (ap (filter q) (filter_skips p x xs e))

-- one filter after the other, in either order
pub filters_commute : {X : Type 0} (p q : X → Bool) (xs : List X) → filter p (filter q xs) ≡ filter q (filter p xs)
filters_commute p q [] = refl
filters_commute p q (x ∷ xs) = filters_by p q x xs (filters_commute p q xs) (p x) (q x) refl refl

-- A list that is alike with all that a node finds, and of whose items those of use are these.
pub record IsFilled {N : Type 0} (wants : ℕ → Bool) (items finds : List (Item N)) : Type 0 where
  pub full : List (Item N)
  pub alike : AllZip IsAlike full finds
  pub kept : wanted_of wants full ≡ items

-- what is alike with the items of use has such a list
pub filled : {N : Type 0} (wants : ℕ → Bool) (items finds : List (Item N)) → AllZip IsAlike items (wanted_of wants finds) → IsFilled wants items finds
filled wants [] [] h = record { full = []; alike = h; kept = refl }
filled wants (x ∷ xs) [] h = absurd h
filled {N} wants items (y ∷ ys) h =
    let p = is_wanted wants in
    let go : (b : Bool) → p y ≡ b → IsFilled wants items (y ∷ ys) =
    elim [
      | true ↦ λ e. filled_here wants items y ys e (subst (AllZip IsAlike items) (filter_here p y ys e) h) (λ xs z. filled wants xs ys z)
      | false ↦ λ e.
          let rest = filled wants items ys (subst (AllZip IsAlike items) (filter_skips p y ys e) h) in
          record { full = y ∷ rest.full; alike = (alike_itself y, rest.alike); kept = filter_skips p y rest.full e ∙ rest.kept }
    ] in
    go (p y) refl
  where
    filled_here : {N : Type 0} (wants : ℕ → Bool) (items : List (Item N)) (y : Item N) (ys : List (Item N)) → is_wanted wants y ≡ true
        → AllZip IsAlike items (y ∷ wanted_of wants ys) → ((xs : List (Item N)) → AllZip IsAlike xs (wanted_of wants ys) → IsFilled wants xs ys) → IsFilled wants items (y ∷ ys)
    filled_here wants [] y ys e h more = absurd h
    filled_here wants (x ∷ xs) y ys e h more =
        let rest = more xs h.1 in
        record { full = x ∷ rest.full; alike = (h.0, rest.alike); kept = filter_here (is_wanted wants) x rest.full (alike_wanted wants x y h.0 ∙ e) ∙ ap (λ l. x ∷ l) rest.kept }

-- the items of use among what was found are those among what is to be found
pub finds_wanted : {N : Type 0} (wants : ℕ → Bool) (finds found : List (Item N)) → FindsAlike finds [] found → FindsAlike (wanted_of wants finds) [] (wanted_of wants found)
finds_wanted wants finds found h = record {
  found = wanted_of wants h.found;
  adds = ap (wanted_of wants) h.adds;
  alike = zip_wanted wants h.found finds h.alike;
}

-- and their nodes weigh as much
pub less_wanted : {N : Type 0} (wants : ℕ → Bool) (weight : N → ℕ) (node : N) (found : List (Item N)) → AddsLess weight node [] found → AddsLess weight node [] (wanted_of wants found)
less_wanted wants weight node found h = record {
  added = wanted_of wants found;
  adds = refl;
  less = subst (λ ns. sum_by weight ns < weight node) (sym (nodes_wanted wants found)) (subst (λ l. sum_by weight (nodes_of l) < weight node) (sym h.adds) h.less);
}
