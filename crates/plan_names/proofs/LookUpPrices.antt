-- The gets of a look-up, entry by entry.
use Rattle.std.proofs.Common.{◌≡◌, ℕ, suc, ◌+◌, ◌*◌, ◌^◌, ◌<◌, ◌≤◌, Bool, true, false, cond, nat_lt, nat_eq, ◌&&◌, List, [], ◌∷◌, length, filter, refl, sym, ◌∙◌, ap, inl}
use Rattle.std.proofs.Common.{inr, arith, true≢false, mul-le-mul_left}
use Rattle.std.specs.Prelude.{Option, None, Some, is_some}
use Rattle.std.proofs.lemmas.Bool.Decides.{leb_tells, eqb_tells}
use Rattle.page_pool.specs.Disk.{PageMap}
use Rattle.pmr_tree.specs.Quadtree.{store_of}
use Rattle.sand_base.specs.declared.value.Value.{Value}
use Rattle.sand_model.specs.Price.{tuple_price}
use Rattle.code_btree.specs.Items.{Each}
use Rattle.code_btree.specs.Tree.{tree_items}
use Rattle.code_btree.proofs.Orders.{lt_not}
use Rattle.attr_index.specs.Entries.{Entry, equal_id}
use Rattle.attr_index.specs.Index.{index_entries}
use Rattle.attr_index.specs.Key.{value_key, key_bytes, key_number}
use Rattle.plan_names.specs.declared.look_up.LookUp.{LookUp}
use Rattle.plan_names.proofs.EqualIds.{small_ids}
use Rattle.plan_names.specs.LookUpCosts.{key_count, entries_above, tells, descent_price, entry_price}

-- above a greater id there are no more entries
fewer_above : (key low high : ℕ) (es : List Entry) → low ≤ high → key_count key high es ≤ key_count key low es
fewer_above key low high [] l = omega arith
fewer_above key low high (e ∷ es) l =
    let rest = fewer_above key low high es l in
    elim (leb_tells (suc high) e.1) [
      | inl x ↦ elim (leb_tells (suc low) e.1) [
        | inl y ↦ rw (x.0, y.0) (both (nat_eq e.0 key) rest)
        | inr y ↦ absurd (omega (arith, x.1, y.1, l))
      ]
      | inr x ↦ rw x.0 (none (nat_eq e.0 key) (nat_lt low e.1) rest)
    ]
  where
    both : (b : Bool) → key_count key high es ≤ key_count key low es
        → length (cond (b && true) (e ∷ filter (λ d. nat_eq d.0 key && nat_lt high d.1) es) (filter (λ d. nat_eq d.0 key && nat_lt high d.1) es))
        ≤ length (cond (b && true) (e ∷ filter (λ d. nat_eq d.0 key && nat_lt low d.1) es) (filter (λ d. nat_eq d.0 key && nat_lt low d.1) es))
    both true h = omega (arith, h)
    both false h = h

    none : (b c : Bool) → key_count key high es ≤ key_count key low es
        → length (cond (b && false) (e ∷ filter (λ d. nat_eq d.0 key && nat_lt high d.1) es) (filter (λ d. nat_eq d.0 key && nat_lt high d.1) es))
        ≤ length (cond (b && c) (e ∷ filter (λ d. nat_eq d.0 key && nat_lt low d.1) es) (filter (λ d. nat_eq d.0 key && nat_lt low d.1) es))
    none true true h = omega (arith, h)
    none true false h = h
    none false c h = h

-- the entry that comes next is one of those before it
pub one_passed : (key last id : ℕ) (es : List Entry) → last < id → equal_id key last es ≡ Some id → key_count key id es + 1 ≤ key_count key last es
one_passed key last id [] l h = absurd (true≢false (sym (ap (λ (o : Option ℕ). is_some o) h)))
one_passed key last id (e ∷ es) l h = elim (eqb_tells e.0 key) [
  | inl k ↦ elim (leb_tells (suc last) e.1) [
    | inl x ↦
        let here : e.1 ≡ id = some_is e.1 id (sym (rw (k.0, x.0) refl) ∙ h) in
        let rest = fewer_above key last id es (omega (arith, l)) in
        elim (leb_tells (suc id) e.1) [
          | inl y ↦ absurd (omega (arith, here, y.1))
          | inr y ↦ rw (k.0, x.0, y.0) (omega (arith, rest))
        ]
    | inr x ↦
        let rest = one_passed key last id es l (sym (rw (k.0, x.0) refl) ∙ h) in
        elim (leb_tells (suc id) e.1) [
          | inl y ↦ absurd (omega (arith, x.1, y.1, l))
          | inr y ↦ rw (k.0, x.0, y.0) rest
        ]
  ]
  | inr k ↦ rw k.0 (one_passed key last id es l (sym (rw k.0 refl) ∙ h))
]
  where
    some_is : (x y : ℕ) → Some x ≡ Some y → x ≡ y
    some_is x y e = ap value_or e where
      value_or : Option ℕ → ℕ
      value_or None = x
      value_or (Some n) = n

-- ---- the gets of one entry

-- so many gets for one entry, of those that are left one more before than after
one_entry : (old new price less more entry : ℕ) → new ≤ old + price → price ≤ entry → less + 1 ≤ more → new + less * entry ≤ old + more * entry
one_entry old new price less more entry h k l =
    let all : entry * (less + 1) ≤ entry * more = mul-le-mul_left entry l in omega (arith, h, k, all)

module _ (m : PageMap) (l : LookUp) (v : Value) (last id : ℕ) (key : List ℕ) (o : Option ℕ) (above : last < id) (same : key ≡ key_bytes v)
    (next : o ≡ equal_id (key_number key) last (index_entries (store_of m) l.index)) (is : o ≡ Some id) where
  passed : entries_above m l v id + 1 ≤ entries_above m l v last
  passed =
      one_passed (value_key v) last id (index_entries (store_of m) l.index) above
      (ap (λ (bytes : List ℕ). equal_id (key_number bytes) last (index_entries (store_of m) l.index)) (sym same) ∙ (sym next ∙ is))

  fewer : entries_above m l v id < entries_above m l v last
  fewer = let less = passed in omega (arith, less)

  -- an entry that tells the value costs a descent
  pub entry_told : (old new : ℕ) → new ≤ old + (l.index.tree.height + 1)
      → (entries_above m l v id < entries_above m l v last) × (new + entries_above m l v id * entry_price l v ≤ old + entries_above m l v last * entry_price l v)
  entry_told old new h = (fewer, one_entry old new (descent_price l) (entries_above m l v id) (entries_above m l v last) (entry_price l v) h (omega arith) passed)

  module _ (untold : tells l v ≡ false) where
    with_tuple : descent_price l + tuple_price l.spot.relation.value.file.tree.height ≡ entry_price l v
    with_tuple = ap (λ b. descent_price l + cond b 0 (tuple_price l.spot.relation.value.file.tree.height)) (sym untold)

    both : (old mid new : ℕ) → mid ≤ old + (l.index.tree.height + 1) → new ≤ mid + (l.spot.relation.value.file.tree.height + 1)
        → new + entries_above m l v id * entry_price l v ≤ old + entries_above m l v last * entry_price l v
    both old mid new h k =
        let price = with_tuple in
        one_entry old new (descent_price l + tuple_price l.spot.relation.value.file.tree.height) (entries_above m l v id) (entries_above m l v last) (entry_price l v)
        (omega (arith, h, k)) (omega (arith, price)) passed

    -- another one costs its tuple too
    pub entry_read : (old mid new : ℕ) → mid ≤ old + (l.index.tree.height + 1) → new ≤ mid + (l.spot.relation.value.file.tree.height + 1)
        → (entries_above m l v id < entries_above m l v last) × (new + entries_above m l v id * entry_price l v ≤ old + entries_above m l v last * entry_price l v)
    entry_read old mid new h k = (fewer, both old mid new h k)

    -- so it does where the tuple is refused
    pub entry_refused : (old mid new : ℕ) → mid ≤ old + (l.index.tree.height + 1) → new ≤ mid + (l.spot.relation.value.file.tree.height + 1)
        → new ≤ old + entries_above m l v last * entry_price l v + descent_price l
    entry_refused old mid new h k = let all = both old mid new h k in omega (arith, all)

-- ---- above the greatest id

none_counted : (key : ℕ) (es : List Entry) → Each (λ e. e.1 < 2 ^ 32) es → key_count key 4294967295 es ≡ 0
none_counted key [] h = refl
none_counted key (e ∷ es) h =
    let rest = none_counted key es h.1 in
    let here = h.0 in
    rw (lt_not 4294967295 e.1 (omega (arith, here)))
    (elim (nat_eq e.0 key) as (λ b. length (cond (b && false) (e ∷ filter (λ d. nat_eq d.0 key && nat_lt 4294967295 d.1) es) (filter (λ d. nat_eq d.0 key && nat_lt 4294967295 d.1) es)) ≡ 0) [
      | true ↦ rest
      | false ↦ rest
    ])

-- no entry is above the greatest id of 32 bits
pub none_past_last : (m : PageMap) (l : LookUp) (v : Value) → entries_above m l v 4294967295 ≡ 0
none_past_last m l v = none_counted (value_key v) (index_entries (store_of m) l.index) (small_ids (tree_items (store_of m) l.index.tree))
