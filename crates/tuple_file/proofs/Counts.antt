-- Places and pages, counted: each once, and after an id was put in or dropped.
use Rattle.std.proofs.Common.{◌≡◌, ◌≢◌, ℕ, zero, suc, ◌+◌, ◌*◌, ◌<◌, ◌≤◌, Bool, cond, List, [], ◌∷◌, ◌++◌, map, min, refl, sym, ◌∙◌, ap, ap₂, subst, inl, inr, arith, true≢false}
use Rattle.std.specs.Prelude.{Option, None, Some, is_some}
use Rattle.std.proofs.lemmas.Bool.Decides.{leb_tells, eqb_tells}
use Rattle.std.proofs.lemmas.List.{map-append}
use Rattle.code_btree.specs.Node.{Pair}
use Rattle.code_btree.specs.Items.{Above, Ascending, find_item, items_below, items_above, put_item, drop_item}
use Rattle.code_btree.specs.Tree.{same, times}
use Rattle.code_btree.proofs.Lists.{same_cases, same_self, times-append}
use Rattle.code_btree.proofs.Orders.{lt_is, lt_not, below-Above, above-Above}
use Rattle.tuple_file.specs.File.{page_of, slot_of, tuple_places, homes, first_time, once}

-- a number of a list of distinct ones, counted
first_count : (q x : ℕ) (xs : List ℕ) (n : ℕ) → times x xs ≡ n → times q (once xs) ≡ min 1 (times q xs) → times q (first_time n x (once xs)) ≡ min 1 (same q x + times q xs)
first_count q x xs zero e h = elim (same_cases q x) [
  | inl i ↦ omega (arith, i.0, h, e, ap (λ (k : ℕ). times k xs) i.1)
  | inr i ↦ omega (arith, i.0, h)
]
first_count q x xs (suc n) e h = elim (same_cases q x) [
  | inl i ↦ omega (arith, i.0, h, e, ap (λ (k : ℕ). times k xs) i.1)
  | inr i ↦ omega (arith, i.0, h)
]

pub times-once : (q : ℕ) (xs : List ℕ) → times q (once xs) ≡ min 1 (times q xs)
times-once q [] = omega arith
times-once q (x ∷ xs) = first_count q x xs (times x xs) refl (times-once q xs)

same_small : (q n : ℕ) → same q n ≤ 1
same_small q n = elim (same_cases q n) [ inl i ↦ omega (arith, i.0) | inr i ↦ omega (arith, i.0) ]

-- one place is on one page
same_up : (v x : ℕ) → same v x ≤ same (page_of v) (page_of x)
same_up v x = elim (same_cases (page_of v) (page_of x)) [
  | inl i ↦ omega (arith, i.0, same_small v x)
  | inr i ↦ elim (same_cases v x) [ inl j ↦ absurd (i.1 (ap (λ (k : ℕ). page_of k) j.1)) | inr j ↦ omega (arith, j.0) ]
]

pub times-up : (v : ℕ) (es : List Pair) → times v (tuple_places es) ≤ times (page_of v) (homes es)
times-up v [] = omega arith
times-up v (e ∷ es) = omega (arith, same_up v e.1, times-up v es)

-- a page to none of whose places an id leads is no page of the file
pub none_home : (p : ℕ) (es : List Pair) → ((v : ℕ) → page_of v ≡ p → times v (tuple_places es) ≡ 0) → times p (homes es) ≡ 0
none_home p [] h = refl
none_home p (e ∷ es) h = elim (same_cases p (page_of e.1)) [
  | inl i ↦ let n : same e.1 e.1 + times e.1 (tuple_places es) ≡ 0 = h e.1 (sym i.1) in absurd (omega (arith, n, same_self e.1))
  | inr i ↦
      let rest : (v : ℕ) → page_of v ≡ p → times v (tuple_places es) ≡ 0 = λ v k. (let n : same v e.1 + times v (tuple_places es) ≡ 0 = h v k in omega (arith, n)) in
      omega (arith, i.0, none_home p es rest)
]

-- a place of a page, by its slot
pub page_back : (n slot : ℕ) → slot < 65536 → page_of (n * 65536 + slot) ≡ n
page_back n slot h = omega arith

pub slot_back : (n slot : ℕ) → slot < 65536 → slot_of (n * 65536 + slot) ≡ slot
slot_back n slot h = omega arith

pub place_is : (v n slot : ℕ) → page_of v ≡ n → slot_of v ≡ slot → v ≡ n * 65536 + slot
place_is v n slot h k = omega (arith, h, k)

-- a key that isn't the first one's is looked for behind it
pub find_past : (k : ℕ) (e : Pair) (es : List Pair) (o : Option ℕ) → e.0 ≢ k → find_item k (e ∷ es) ≡ o → find_item k es ≡ o
find_past k e es o n h = elim (eqb_tells e.0 k) [ inl y ↦ absurd (n y.1) | inr y ↦ sym (ap (λ (b : Bool). cond b (Some e.1) (find_item k es)) y.0) ∙ h ]

-- and the first one's is found there
pub find_first : (k : ℕ) (e : Pair) (es : List Pair) (o : Option ℕ) → e.0 ≡ k → find_item k (e ∷ es) ≡ o → Some e.1 ≡ o
find_first k e es o n h = elim (eqb_tells e.0 k) [ inl y ↦ sym (ap (λ (b : Bool). cond b (Some e.1) (find_item k es)) y.0) ∙ h | inr y ↦ absurd (y.1 n) ]

pub none_some : {A : Type 0} (x : A) → Some x ≡ None → ⊥
none_some x h = true≢false (ap (λ o. is_some o) h)

abbrev value_or : Option ℕ → ℕ
value_or None = 0
value_or (Some v) = v

pub some_same : (x y : ℕ) → Some x ≡ Some y → x ≡ y
some_same x y h = ap value_or h

-- the pairs below and above a key that isn't there are all
pub parts_none : (g : Pair → ℕ) (x k : ℕ) (es : List Pair) → find_item k es ≡ None → times x (map g (items_below k es)) + times x (map g (items_above k es)) ≡ times x (map g es)
parts_none g x k [] h = refl
parts_none g x k (e ∷ es) h = elim (eqb_tells e.0 k) [
  | inl y ↦ absurd (none_some e.1 (find_first k e es None y.1 h))
  | inr y ↦
      let rest = parts_none g x k es (find_past k e es None y.1 h) in elim (leb_tells (suc e.0) k) [
        | inl z ↦ rw (lt_is e.0 k z.1, lt_not k e.0 (omega (arith, z.1))) (omega (arith, rest))
        | inr z ↦ rw (lt_not e.0 k (omega (arith, z.1)), lt_is k e.0 (omega (arith, z.1, y.1))) (omega (arith, rest))
      ]
]

pub times-put : (g : Pair → ℕ) (x k v : ℕ) (es : List Pair) → find_item k es ≡ None → times x (map g (put_item k v es)) ≡ same x (g (k, v)) + times x (map g es)
times-put g x k v es h =
    let split : map g (put_item k v es) ≡ map g (items_below k es) ++ (g (k, v) ∷ map g (items_above k es)) = map-append g (items_below k es) ((k, v) ∷ items_above k es) in
    omega (arith, ap (λ (ys : List ℕ). times x ys) split, times-append x (map g (items_below k es)) (g (k, v) ∷ map g (items_above k es)), parts_none g x k es h)

pub times-drop_none : (g : Pair → ℕ) (x k : ℕ) (es : List Pair) → find_item k es ≡ None → times x (map g (drop_item k es)) ≡ times x (map g es)
times-drop_none g x k es h =
    ap (λ (ys : List ℕ). times x ys) (map-append g (items_below k es) (items_above k es)) ∙ (times-append x (map g (items_below k es)) (map g (items_above k es)) ∙ parts_none g x k es h)

-- the pair of a key, the pairs below it and those above it are all
parts_some : (g : Pair → ℕ) (x k v : ℕ) (es : List Pair) → Ascending es → find_item k es ≡ Some v
    → same x (g (k, v)) + (times x (map g (items_below k es)) + times x (map g (items_above k es))) ≡ times x (map g es)
parts_some g x k v [] a h = absurd (none_some v (sym h))
parts_some g x k v (e ∷ es) a h = elim (eqb_tells e.0 k) [
  | inl y ↦
      let P : ℕ → Type 0 = λ i. Above i es in
      let above : Above k es = subst P y.1 a.0 in
      let one : g e ≡ g (k, v) = ap₂ (λ (i j : ℕ). g (i, j)) y.1 (some_same e.1 v (find_first k e es (Some v) y.1 h)) in
      rw (lt_not e.0 k (omega (arith, y.1)), lt_not k e.0 (omega (arith, y.1)), below-Above k es above, above-Above k es above) (omega (arith, ap (λ (j : ℕ). same x j) one))
  | inr y ↦
      let rest = parts_some g x k v es a.1 (find_past k e es (Some v) y.1 h) in elim (leb_tells (suc e.0) k) [
        | inl z ↦ rw (lt_is e.0 k z.1, lt_not k e.0 (omega (arith, z.1))) (omega (arith, rest))
        | inr z ↦ rw (lt_not e.0 k (omega (arith, z.1)), lt_is k e.0 (omega (arith, z.1, y.1))) (omega (arith, rest))
      ]
]

pub times-drop : (g : Pair → ℕ) (x k v : ℕ) (es : List Pair) → Ascending es → find_item k es ≡ Some v → times x (map g es) ≡ same x (g (k, v)) + times x (map g (drop_item k es))
times-drop g x k v es a h =
    omega (
      arith,
      ap (λ (ys : List ℕ). times x ys) (map-append g (items_below k es) (items_above k es)),
      times-append x (map g (items_below k es)) (map g (items_above k es)),
      parts_some g x k v es a h,
    )

pub found_leads : (k v : ℕ) (es : List Pair) → find_item k es ≡ Some v → 1 ≤ times v (tuple_places es)
found_leads k v [] h = absurd (none_some v (sym h))
found_leads k v (e ∷ es) h = elim (eqb_tells e.0 k) [
  | inl y ↦ omega (arith, same_self v, ap (λ (j : ℕ). same v j) (some_same e.1 v (find_first k e es (Some v) y.1 h)))
  | inr y ↦ omega (arith, found_leads k v es (find_past k e es (Some v) y.1 h))
]
