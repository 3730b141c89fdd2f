-- What the answer of a look-up in an attribute index says of the numbers of all entries.
use Rattle.std.proofs.Common.{◌≡◌, ℕ, suc, ◌+◌, ◌*◌, ◌^◌, ◌<◌, ◌≤◌, Bool, true, false, cond, List, [], ◌∷◌, map, refl, sym, ◌∙◌, ap, subst, inl, inr, arith, true≢false}
use Rattle.std.specs.Prelude.{Option, None, Some, is_some, nat_lt, nat_eq, ◌&&◌, option_map}
use Rattle.std.specs.List.{find}
use Rattle.std.proofs.lemmas.Bool.Decides.{leb_tells, eqb_tells}
use Rattle.code_btree.specs.Items.{Each}
use Rattle.code_btree.specs.Node.{Pair}
use Rattle.code_btree.specs.Tree.{same, times}
use Rattle.code_btree.proofs.Lists.{same_cases, Each-map}
use Rattle.code_btree.proofs.Orders.{lt_is, eq_is}
use Rattle.attr_index.specs.Entries.{Entry, entry_number, IsInOrder, equal_id}
use Rattle.attr_index.specs.Index.{entries}

abbrev numbers : List Entry → List ℕ
numbers es = map entry_number es

-- an entry of an index has an id of 32 bits
pub small_ids : (es : List Pair) → Each (λ e. e.1 < 2 ^ 32) (entries es)
small_ids [] = tt
small_ids (e ∷ es) = (omega arith, small_ids es)

-- what holds of each number holds of those that stand as often in another list
pub counted_each : (P : ℕ → Type 0) (ns : List ℕ) (n : ℕ) → Each P ns → 1 ≤ times n ns → P n
counted_each P [] n h l = absurd (omega (arith, l))
counted_each P (x ∷ ns) n h l = elim (same_cases n x) [
  | inl y ↦ subst P (sym y.1) h.0
  | inr y ↦ counted_each P ns n h.1 (omega (arith, y.0, l))
]

pub each_counted : (P : ℕ → Type 0) (ns : List ℕ) → ((n : ℕ) → 1 ≤ times n ns → P n) → Each P ns
each_counted P [] h = tt
each_counted P (x ∷ ns) h = (
  h x (elim (same_cases x x) [ inl y ↦ omega (arith, y.0) | inr y ↦ absurd (y.1 refl) ]),
  each_counted P ns (λ n l. h n (omega (arith, l))),
)

pub each_same : (P : ℕ → Type 0) (ns ks : List ℕ) → ((n : ℕ) → times n ns ≡ times n ks) → Each P ns → Each P ks
each_same P ns ks same h = each_counted P ks (λ n l. counted_each P ns n h (omega (arith, same n, l)))

-- the number is that of an entry of the key and the id
abbrev pub IsOf : ℕ → ℕ → ℕ → Type 0
IsOf key n id = (n ≡ key * 2 ^ 32 + id) × (id < 2 ^ 32)

none_some : {A : Type 0} (x : A) → Some x ≡ None → ⊥
none_some x e = true≢false (ap (λ o. is_some o) e)

-- an entry that doesn't pass isn't of the key, or not above
not_above : (key after id : ℕ) (e : Entry) → e.1 < 2 ^ 32 → IsOf key (entry_number e) id → (nat_eq e.0 key && nat_lt after e.1) ≡ false → id ≤ after
not_above key after id e s is t =
    let k : e.0 ≡ key = omega (arith, is.0, is.1, s) in
    let i : e.1 ≡ id = omega (arith, is.0, is.1, s) in
    elim (leb_tells (suc after) id) [
      | inl x ↦ absurd (true≢false (sym (rw (eq_is e.0 key k) (lt_is after e.1 (omega (arith, i, x.1)))) ∙ t))
      | inr x ↦ omega (arith, x.1)
    ]

-- one that passes is of the key
of_key : (key after : ℕ) (e : Entry) → (nat_eq e.0 key && nat_lt after e.1) ≡ true → e.0 ≡ key
of_key key after e t = elim (eqb_tells e.0 key) [ inl x ↦ x.1 | inr x ↦ absurd (true≢false (sym t ∙ ap (λ b. b && nat_lt after e.1) x.0)) ]

some_is : (x y : ℕ) → Some x ≡ Some y → x ≡ y
some_is x y e = ap value_or e where
  value_or : Option ℕ → ℕ
  value_or None = x
  value_or (Some n) = n

each_number : (P : ℕ → Type 0) (es : List Entry) → Each (λ e. P (entry_number e)) es → Each P (numbers es)
each_number P [] h = tt
each_number P (e ∷ es) h = (h.0, each_number P es h.1)

-- no answer: no entry of the key has an id above
pub equal_none : (key after : ℕ) (es : List Entry) → Each (λ e. e.1 < 2 ^ 32) es → equal_id key after es ≡ None
    → Each (λ n. (id : ℕ) → IsOf key n id → id ≤ after) (numbers es)
equal_none key after [] s h = tt
equal_none key after (e ∷ es) s h =
    let go : (b : Bool) → (nat_eq e.0 key && nat_lt after e.1) ≡ b → option_map (λ (d : Entry). d.1) (cond b (Some e) (find (λ d. nat_eq d.0 key && nat_lt after d.1) es)) ≡ None
    → Each (λ n. (id : ℕ) → IsOf key n id → id ≤ after) (numbers (e ∷ es)) =
    elim [
      | true ↦ λ t k. absurd (none_some e.1 k)
      | false ↦ λ t k. ((λ id is. not_above key after id e s.0 is t), equal_none key after es s.1 k)
    ] in
    go (nat_eq e.0 key && nat_lt after e.1) refl h

-- an answer: no entry of the key has an id above, and below the one that is given
pub equal_some : (key after found : ℕ) (es : List Entry) → Each (λ e. e.1 < 2 ^ 32) es → IsInOrder es → equal_id key after es ≡ Some found
    → Each (λ n. (id : ℕ) → IsOf key n id → after < id → found ≤ id) (numbers es)
equal_some key after found [] s o h = tt
equal_some key after found (e ∷ es) s o h =
    let go : (b : Bool) → (nat_eq e.0 key && nat_lt after e.1) ≡ b → option_map (λ (d : Entry). d.1) (cond b (Some e) (find (λ d. nat_eq d.0 key && nat_lt after d.1) es)) ≡ Some found
    → Each (λ n. (id : ℕ) → IsOf key n id → after < id → found ≤ id) (numbers (e ∷ es)) =
    elim [
      | true ↦ λ t k.
          let f : e.1 ≡ found = some_is e.1 found k in
          let same_key : e.0 ≡ key = of_key key after e t in (
            (λ id is above. omega (arith, is.0, is.1, s.0, same_key, f)),
            Each-map (λ n. entry_number e < n) (λ n. (id : ℕ) → IsOf key n id → after < id → found ≤ id) (λ n l id is above. omega (arith, l, is.0, same_key, f)) (numbers es)
                (each_number (λ n. entry_number e < n) es o.0),
          )
      | false ↦ λ t k. ((λ id is above. absurd (omega (arith, not_above key after id e s.0 is t, above))), equal_some key after found es s.1 o.1 k)
    ] in
    go (nat_eq e.0 key && nat_lt after e.1) refl h

-- an answer is the id of an entry of the key
pub equal_there : (key after found : ℕ) (es : List Entry) → equal_id key after es ≡ Some found → 1 ≤ times (key * 2 ^ 32 + found) (numbers es)
equal_there key after found [] h = absurd (none_some found (sym h))
equal_there key after found (e ∷ es) h =
    let go : (b : Bool) → (nat_eq e.0 key && nat_lt after e.1) ≡ b → option_map (λ (d : Entry). d.1) (cond b (Some e) (find (λ d. nat_eq d.0 key && nat_lt after d.1) es)) ≡ Some found
    → 1 ≤ times (key * 2 ^ 32 + found) (numbers (e ∷ es)) =
    elim [
      | true ↦ λ t k.
          let f : e.1 ≡ found = some_is e.1 found k in
          let same_key : e.0 ≡ key = of_key key after e t in
          let n : entry_number e ≡ key * 2 ^ 32 + found = omega (arith, f, same_key) in
          elim (same_cases (key * 2 ^ 32 + found) (entry_number e)) [ inl y ↦ omega (arith, y.0) | inr y ↦ absurd (y.1 (sym n)) ]
      | false ↦ λ t k. (let rest = equal_there key after found es k in omega (arith, rest))
    ] in
    go (nat_eq e.0 key && nat_lt after e.1) refl h

-- which has 32 bits, as the ids of all entries
pub equal_small : (key after found : ℕ) (es : List Entry) → Each (λ e. e.1 < 2 ^ 32) es → equal_id key after es ≡ Some found → found < 2 ^ 32
equal_small key after found [] s h = absurd (none_some found (sym h))
equal_small key after found (e ∷ es) s h =
    let go : (b : Bool) → option_map (λ (d : Entry). d.1) (cond b (Some e) (find (λ d. nat_eq d.0 key && nat_lt after d.1) es)) ≡ Some found → found < 2 ^ 32 =
    elim [
      | true ↦ λ k. (let f : e.1 ≡ found = some_is e.1 found k in omega (arith, f, s.0))
      | false ↦ λ k. equal_small key after found es s.1 k
    ] in
    go (nat_eq e.0 key && nat_lt after e.1) h
