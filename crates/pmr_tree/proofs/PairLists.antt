-- Entries in ascending order of their keys, with an entry put in or taken out.
use Rattle.std.proofs.Common.{◌≡◌, ℕ, ◌<◌, ◌≤◌, Bool, true, false, cond, not, List, [], ◌∷◌, refl, sym, ap, subst, arith}
use Rattle.std.specs.Prelude.{nat_eq, nat_lt}
use Rattle.std.proofs.lemmas.Bool.Decides.{nat_tests}
use Rattle.code_btree.specs.Items.{Ascending, items_below, items_above, items_from, put_item, drop_item}
use Rattle.code_btree.specs.Items as btree
use Rattle.sand_model.specs.Tree.{add, without}
use Rattle.pmr_tree.specs.Lists.{Each, Above, RiseStrictly}
use Rattle.pmr_tree.specs.Keys.{id_in}
use Rattle.pmr_tree.specs.Leaves.{firsts, Passes}
use Rattle.pmr_tree.specs.Listing.{Pair}
use Rattle.pmr_tree.proofs.AscendingLists.{below, same, above, each_append, order}

less_true : (x y : ℕ) → x < y → nat_lt x y ≡ true
less_true x y h = grind (arith, nat_tests)

less_false : (x y : ℕ) → y ≤ x → nat_lt x y ≡ false
less_false x y h = grind (arith, nat_tests)

differ : (x y : ℕ) → (x ≡ y → ⊥) → not (nat_eq x y) ≡ true
differ x y h = grind (arith, nat_tests)

itself : (x : ℕ) → not (nat_eq x x) ≡ false
itself x = grind (arith, nat_tests)

-- the keys of ascending entries rise
firsts_above : (key : ℕ) (es : List Pair) → btree.Above key es → Above key (firsts es)
firsts_above key [] h = tt
firsts_above key (e ∷ es) h = (h.0, firsts_above key es h.1)

pub firsts_rise : (es : List Pair) → Ascending es → RiseStrictly (firsts es)
firsts_rise [] h = tt
firsts_rise (e ∷ es) h = (firsts_above e.0 es h.0, firsts_rise es h.1)

-- nothing is below what all are above
none_below : (key : ℕ) (es : List Pair) (x : ℕ) → key ≤ x → btree.Above x es → items_below key es ≡ []
none_below key [] x l h = refl
none_below key (e ∷ es) x l h = (let no = less_false e.0 key (omega (arith, l, h.0)) in rw no (none_below key es x l h.1))

all_above : (key : ℕ) (es : List Pair) (x : ℕ) → key ≤ x → btree.Above x es → items_above key es ≡ es
all_above key [] x l h = refl
all_above key (e ∷ es) x l h = (let yes = less_true key e.0 (omega (arith, l, h.0)) in rw yes (ap (λ t. e ∷ t) (all_above key es x l h.1)))

-- a put entry's key is one of the keys
pub firsts_put : (key value : ℕ) (es : List Pair) → Ascending es → firsts (put_item key value es) ≡ add key (firsts es)
firsts_put key value [] h = refl
firsts_put key value (e ∷ es) h =
    elim (order key e.0) [
      | below l ↦
          (let no = less_false e.0 key (omega (arith, l)) in
          let yes = less_true key e.0 l in
          rw (no, yes, none_below key es e.0 (omega (arith, l)) h.0, all_above key es e.0 (omega (arith, l)) h.0) refl)
      | same s ↦
          (let no = less_false e.0 key (omega (arith, s)) in
          let nor = less_false key e.0 (omega (arith, s)) in
          rw (no, nor, none_below key es e.0 (omega (arith, s)) h.0, all_above key es e.0 (omega (arith, s)) h.0)
          (ap (λ x. x ∷ firsts es) s))
      | above l ↦
          (let yes = less_true e.0 key l in
          let no = less_false key e.0 (omega (arith, l)) in
          rw (yes, no) (ap (λ t. e.0 ∷ t) (firsts_put key value es h.1)))
    ]

without_above : (key : ℕ) (ks : List ℕ) (x : ℕ) → key ≤ x → Above x ks → without key ks ≡ ks
without_above key [] x l h = refl
without_above key (k ∷ ks) x l h = (let yes = differ k key (λ e. omega (arith, e, l, h.0)) in rw yes (ap (λ t. k ∷ t) (without_above key ks x l h.1)))

-- a taken entry's key is none of the keys
pub firsts_drop : (key : ℕ) (es : List Pair) → Ascending es → firsts (drop_item key es) ≡ without key (firsts es)
firsts_drop key [] h = refl
firsts_drop key (e ∷ es) h =
    elim (order key e.0) [
      | below l ↦
          (let no = less_false e.0 key (omega (arith, l)) in
          let yes = less_true key e.0 l in
          let keep = differ e.0 key (λ s. omega (arith, s, l)) in
          rw (no, yes, none_below key es e.0 (omega (arith, l)) h.0, all_above key es e.0 (omega (arith, l)) h.0, keep)
          (ap (λ t. e.0 ∷ t) (sym (without_above key (firsts es) e.0 (omega (arith, l)) (firsts_above e.0 es h.0)))))
      | same s ↦
          (let no = less_false e.0 key (omega (arith, s)) in
          let nor = less_false key e.0 (omega (arith, s)) in
          let go : not (nat_eq e.0 key) ≡ false = subst (λ x. not (nat_eq x key) ≡ false) s (itself key) in
          rw (no, nor, none_below key es e.0 (omega (arith, s)) h.0, all_above key es e.0 (omega (arith, s)) h.0, go)
          (sym (without_above key (firsts es) e.0 (omega (arith, s)) (firsts_above e.0 es h.0))))
      | above l ↦
          (let yes = less_true e.0 key l in
          let no = less_false key e.0 (omega (arith, l)) in
          let keep = differ e.0 key (λ s. omega (arith, s, l)) in
          rw (yes, no, keep) (ap (λ t. e.0 ∷ t) (firsts_drop key es h.1)))
    ]

each_below : (P : Pair → Type 0) (key : ℕ) (es : List Pair) → Each P es → Each P (items_below key es)
each_below P key [] h = tt
each_below P key (e ∷ es) h =
    elim (nat_lt e.0 key) as (λ b. Each P (cond b (e ∷ items_below key es) (items_below key es))) [ true ↦ (h.0, each_below P key es h.1) | false ↦ each_below P key es h.1 ]

each_above : (P : Pair → Type 0) (key : ℕ) (es : List Pair) → Each P es → Each P (items_above key es)
each_above P key [] h = tt
each_above P key (e ∷ es) h =
    elim (nat_lt key e.0) as (λ b. Each P (cond b (e ∷ items_above key es) (items_above key es))) [ true ↦ (h.0, each_above P key es h.1) | false ↦ each_above P key es h.1 ]

pub put_passes : (test : ℕ → ℕ → Bool) (key value : ℕ) (es : List Pair) → (1 ≤ id_in key → test (id_in key) value ≡ true) → Passes test es → Passes test (put_item key value es)
put_passes test key value es one h =
    let P : Pair → Type 0 = λ e. 1 ≤ id_in e.0 → test (id_in e.0) e.1 ≡ true in
    each_append P (items_below key es) ((key, value) ∷ items_above key es) (each_below P key es h) (one, each_above P key es h)

pub drop_passes : (test : ℕ → ℕ → Bool) (key : ℕ) (es : List Pair) → Passes test es → Passes test (drop_item key es)
drop_passes test key es h =
    let P : Pair → Type 0 = λ e. 1 ≤ id_in e.0 → test (id_in e.0) e.1 ≡ true in
    each_append P (items_below key es) (items_above key es) (each_below P key es h) (each_above P key es h)
