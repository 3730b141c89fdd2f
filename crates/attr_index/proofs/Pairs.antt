-- The list of entries follows the pairs of the tree.
use Rattle.std.proofs.Common.{◌≡◌, ◌≢◌, ℕ, suc, ◌+◌, ◌*◌, ◌/◌, ◌%◌, ◌^◌, ◌<◌, Bool, true, false, cond, List, [], ◌∷◌, ◌++◌, map, refl, sym, ◌∙◌, ap, ap₂, subst, inl, inr, arith}
use Rattle.std.specs.Prelude.{Some, nat_lt, nat_eq, not, option_map}
use Rattle.std.specs.List.{filter, find}
use Rattle.std.proofs.lemmas.Bool.Decides.{leb_tells, eqb_tells}
use Rattle.std.proofs.lemmas.List.{map-append}
use Rattle.code_btree.specs.Node.{Pair}
use Rattle.code_btree.specs.Items.{Each, Above, Ascending, items_below, items_above, put_item, drop_item}
use Rattle.code_btree.proofs.Lists.{Each-map}
use Rattle.code_btree.proofs.Orders.{lt_is, lt_not, eq_not, below-Above, above-Above}
use Rattle.attr_index.specs.Entries.{Entry, entry_number, IsInOrder, with_entry, without_entry}
use Rattle.attr_index.specs.Index.{index_entry, entries}

-- there and back
number_back : (k : ℕ) → entry_number (index_entry k) ≡ k
number_back k = omega arith

pub entry_back : (key id : ℕ) → id < 2 ^ 32 → index_entry (entry_number (key, id)) ≡ (key, id)
entry_back key id h =
    let a : (key * 2 ^ 32 + id) / 2 ^ 32 ≡ key = omega arith in
    let b : (key * 2 ^ 32 + id) % 2 ^ 32 ≡ id = omega arith in
    ap₂ (λ (i j : ℕ). (i, j)) a b

-- a test of entries goes through to the pairs
entries-filter : (p : ℕ → Bool) (es : List Pair) → entries (filter (λ e. p e.0) es) ≡ filter (λ d. p (entry_number d)) (entries es)
entries-filter p [] = refl
entries-filter p (e ∷ es) =
    (elim (p e.0) as (λ b. entries (cond b (e ∷ filter (λ i. p i.0) es) (filter (λ i. p i.0) es))
    ≡ cond b (index_entry e.0 ∷ filter (λ d. p (entry_number d)) (entries es)) (filter (λ d. p (entry_number d)) (entries es))) [
      | true ↦ ap (λ (r : List Entry). index_entry e.0 ∷ r) (entries-filter p es)
      | false ↦ entries-filter p es
    ])
    ∙ ap (λ (k : ℕ). cond (p k) (index_entry e.0 ∷ filter (λ d. p (entry_number d)) (entries es)) (filter (λ d. p (entry_number d)) (entries es))) (sym (number_back e.0))

pub find-map : {A B : Type 0} (f : A → B) (q : B → Bool) (xs : List A) → find q (map f xs) ≡ option_map f (find (λ x. q (f x)) xs)
find-map f q [] = refl
find-map f q (x ∷ xs) = elim (q (f x)) as (λ b. cond b (Some (f x)) (find q (map f xs)) ≡ option_map f (cond b (Some x) (find (λ y. q (f y)) xs))) [
  | true ↦ refl
  | false ↦ find-map f q xs
]

below_is : (k : ℕ) (es : List Pair) → items_below k es ≡ filter (λ e. nat_lt e.0 k) es
below_is k [] = refl
below_is k (e ∷ es) = ap (λ (r : List Pair). cond (nat_lt e.0 k) (e ∷ r) r) (below_is k es)

above_is : (k : ℕ) (es : List Pair) → items_above k es ≡ filter (λ e. nat_lt k e.0) es
above_is k [] = refl
above_is k (e ∷ es) = ap (λ (r : List Pair). cond (nat_lt k e.0) (e ∷ r) r) (above_is k es)

all_above : (k : ℕ) (es : List Pair) → Above k es → filter (λ e. not (nat_eq e.0 k)) es ≡ es
all_above k [] h = refl
all_above k (e ∷ es) h = let l : k < e.0 = h.0 in let n : e.0 ≢ k = omega arith in rw (eq_not e.0 k n) (ap (λ (r : List Pair). e ∷ r) (all_above k es h.1))

-- a pair is dropped by its key alone
drop_is : (k : ℕ) (es : List Pair) → Ascending es → drop_item k es ≡ filter (λ e. not (nat_eq e.0 k)) es
drop_is k [] a = refl
drop_is k (e ∷ es) a = elim (eqb_tells e.0 k) [
  | inl y ↦
      let P : ℕ → Type 0 = λ i. Above i es in
      let above : Above k es = subst P y.1 a.0 in
      rw (y.0, lt_not e.0 k (omega (arith, y.1)), lt_not k e.0 (omega (arith, y.1)), below-Above k es above, above-Above k es above) (sym (all_above k es above))
  | inr y ↦ elim (leb_tells (suc e.0) k) [
    | inl z ↦ rw (y.0, lt_is e.0 k z.1, lt_not k e.0 (omega (arith, z.1))) (ap (λ (r : List Pair). e ∷ r) (drop_is k es a.1))
    | inr z ↦
        let l : k < e.0 = omega (arith, z.1, y.1) in
        let above : Above k es = Each-map (λ i. e.0 < i.0) (λ i. k < i.0) (λ i j. omega arith) es a.0 in
        rw (y.0, lt_not e.0 k (omega (arith, z.1)), lt_is k e.0 l, below-Above k es above, above-Above k es above) (ap (λ (r : List Pair). e ∷ r) (sym (all_above k es above)))
  ]
]

pub entries_put : (key id kept : ℕ) (es : List Pair) → id < 2 ^ 32 → entries (put_item (entry_number (key, id)) kept es) ≡ with_entry (key, id) (entries es)
entries_put key id kept es h =
    let k : ℕ = entry_number (key, id) in
    let f : Pair → Entry = λ e. index_entry e.0 in
    map-append f (items_below k es) ((k, kept) ∷ items_above k es)
    ∙ (ap₂ (λ (a b : List Entry). a ++ (index_entry k ∷ b))
    (ap (λ (r : List Pair). entries r) (below_is k es) ∙ entries-filter (λ i. nat_lt i k) es)
    (ap (λ (r : List Pair). entries r) (above_is k es) ∙ entries-filter (λ i. nat_lt k i) es)
    ∙ ap (λ (x : Entry). filter (λ d. nat_lt (entry_number d) k) (entries es) ++ (x ∷ filter (λ d. nat_lt k (entry_number d)) (entries es))) (entry_back key id h))

pub entries_drop : (e : Entry) (es : List Pair) → Ascending es → entries (drop_item (entry_number e) es) ≡ without_entry e (entries es)
entries_drop e es a =
    let k : ℕ = entry_number e in
    ap (λ (r : List Pair). entries r) (drop_is k es a) ∙ entries-filter (λ i. not (nat_eq i k)) es

-- what holds of each entry, of those that are left, and of the pairs
pub Each-filter : {A : Type 0} (P : A → Type 0) (q : A → Bool) (xs : List A) → Each P xs → Each P (filter q xs)
Each-filter P q [] h = h
Each-filter P q (x ∷ xs) h = elim (q x) as (λ b. Each P (cond b (x ∷ filter q xs) (filter q xs))) [ true ↦ (h.0, Each-filter P q xs h.1) | false ↦ Each-filter P q xs h.1 ]

pub Each-pairs : (P : Entry → Type 0) (es : List Pair) → Each P (entries es) → Each (λ e. P (index_entry e.0)) es
Each-pairs P [] h = h
Each-pairs P (e ∷ es) h = (h.0, Each-pairs P es h.1)

-- the entries are in the order of the pairs
above_entries : (k : ℕ) (es : List Pair) → Above k es → Each (λ d. entry_number (index_entry k) < entry_number d) (entries es)
above_entries k [] h = h
above_entries k (e ∷ es) h =
    let l : k < e.0 = h.0 in
    (omega (arith, l, number_back k, number_back e.0), above_entries k es h.1)

pub entries_in_order : (es : List Pair) → Ascending es → IsInOrder (entries es)
entries_in_order [] a = a
entries_in_order (e ∷ es) a = (above_entries e.0 es a.0, entries_in_order es a.1)
