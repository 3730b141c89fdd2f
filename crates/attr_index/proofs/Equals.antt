-- The least id of a key above another one.
use Rattle.std.proofs.Common.{◌≡◌, ◌≢◌, ℕ, ◌+◌, ◌/◌, ◌%◌, ◌^◌, ◌<◌, ◌≤◌, Bool, true, false, List, refl, sym, ◌∙◌, ap, inl, inr, arith}
use Rattle.std.specs.Prelude.{Option, None, Some, nat_lt, nat_eq, ◌&&◌, option_map}
use Rattle.std.specs.List.{find}
use Rattle.std.proofs.lemmas.Bool.Decides.{eqb_tells}
use Rattle.code_btree.specs.Node.{Pair}
use Rattle.code_btree.specs.Items.{ceiling_item}
use Rattle.code_btree.specs.Tree.{Store, tree_items}
use Rattle.code_btree.proofs.Orders.{lt_is, lt_not, eq_is, eq_not}
use Rattle.attr_index.specs.declared.index.AttrIndex.{AttrIndex}
use Rattle.attr_index.specs.Key.{IsKey}
use Rattle.attr_index.specs.Entries.{Entry, entry_number, equal_id}
use Rattle.attr_index.specs.Index.{IsAttrIndex, index_entry, entries, index_entries}
use Rattle.attr_index.proofs.Pairs.{find-map, Each-pairs}
use Rattle.attr_index.proofs.Searches.{IsSearch, none_left, one_found, all_behind, none_passes, ceiling_reached}

-- the test of a place
abbrev has : ℕ → ℕ → ℕ → Bool
has key after k = nat_eq (k / 2 ^ 32) key && nat_lt after (k % 2 ^ 32)

-- a key that is a value's
abbrev Kept : ℕ → Type 0
Kept k = IsKey (k / 2 ^ 32)

-- a place below that of the key and the next id doesn't pass
has_not : (key after k : ℕ) → k < entry_number (key, after) + 1 → has key after k ≡ false
has_not key after k h = elim (eqb_tells (k / 2 ^ 32) key) [
  | inl x ↦ rw x.0 (lt_not after (k % 2 ^ 32) (omega (arith, x.1, h)))
  | inr x ↦ rw x.0 refl
]

-- a place of another key doesn't, nor one behind it
other_key : (key after from at k : ℕ) → from ≡ entry_number (key, after) + 1 → from ≤ at → at / 2 ^ 32 ≢ key → at ≤ k → has key after k ≡ false
other_key key after from at k ef reached other behind = ap (λ (b : Bool). b && nat_lt after (k % 2 ^ 32)) (eq_not (k / 2 ^ 32) key (λ e. other (omega (arith, ef, reached, behind, e))))

searched : (key after from : ℕ) → from ≡ entry_number (key, after) + 1 → IsSearch Kept (has key after) from
searched key after from ef = record { lesser = λ k p l. has_not key after k (omega (arith, l, ef)) }

-- the id that the pair found stands for
id_is : (key after : ℕ) (es : List Pair) (o : Option Pair) → find (λ e. has key after e.0) es ≡ o
    → equal_id key after (entries es) ≡ option_map (λ (d : Entry). d.1) (option_map (λ (e : Pair). index_entry e.0) o)
id_is key after es o h =
    let f : Pair → Entry = λ e. index_entry e.0 in
    let q : Entry → Bool = λ d. nat_eq d.0 key && nat_lt after d.1 in
    ap (λ (p : Option Entry). option_map (λ (d : Entry). d.1) p) (find-map f q es ∙ ap (λ (p : Option Pair). option_map f p) h)

pub equal_none : (m : Store) (x : AttrIndex) (key after from : ℕ) (o : Option Pair) → IsAttrIndex m x → from ≡ entry_number (key, after) + 1
    → o ≡ ceiling_item from (tree_items m x.tree) → o ≡ None → None ≡ equal_id key after (index_entries m x)
equal_none m x key after from o i ef e is =
    sym (id_is key after (tree_items m x.tree) None
    (none_left Kept (has key after) from (tree_items m x.tree) (searched key after from ef) (Each-pairs (λ d. IsKey d.0) (tree_items m x.tree) i.keys) (sym e ∙ is)))

pub equal_behind : (m : Store) (x : AttrIndex) (key after from : ℕ) (o : Option Pair) (d : Pair) → IsAttrIndex m x → from ≡ entry_number (key, after) + 1
    → o ≡ ceiling_item from (tree_items m x.tree) → o ≡ Some d → d.0 / 2 ^ 32 ≢ key → None ≡ equal_id key after (index_entries m x)
equal_behind m x key after from o d i ef e is other =
    let es : List Pair = tree_items m x.tree in
    let reached : from ≤ d.0 = ceiling_reached from d es (sym e ∙ is) in
    sym (id_is key after es None
    (all_behind Kept (has key after) from d es (searched key after from ef) (λ k p l. other_key key after from d.0 k ef reached other l)
    (Each-pairs (λ c. IsKey c.0) es i.keys) i.tree.at.ascending (sym e ∙ is)))

pub equal_found : (m : Store) (x : AttrIndex) (key after from : ℕ) (o : Option Pair) (d : Pair) → IsAttrIndex m x → from ≡ entry_number (key, after) + 1
    → o ≡ ceiling_item from (tree_items m x.tree) → o ≡ Some d → d.0 / 2 ^ 32 ≡ key → after < d.0 % 2 ^ 32 → Some (d.0 % 2 ^ 32) ≡ equal_id key after (index_entries m x)
equal_found m x key after from o d i ef e is same above =
    let es : List Pair = tree_items m x.tree in
    let passes : has key after d.0 ≡ true = rw (eq_is (d.0 / 2 ^ 32) key same) (lt_is after (d.0 % 2 ^ 32) above) in
    sym (id_is key after es (Some d) (one_found Kept (has key after) from d es (searched key after from ef) (Each-pairs (λ c. IsKey c.0) es i.keys) (sym e ∙ is) passes))

pub and_false : (b : Bool) → (b && false) ≡ false
and_false true = refl
and_false false = refl

-- no id is above the greatest
pub equal_spent : (m : Store) (x : AttrIndex) (key after : ℕ) → 2 ^ 32 ≤ after + 1 → None ≡ equal_id key after (index_entries m x)
equal_spent m x key after h =
    let es : List Pair = tree_items m x.tree in
    sym (id_is key after es None
    (none_passes (has key after) es (λ k. ap (λ (b : Bool). nat_eq (k / 2 ^ 32) key && b) (lt_not after (k % 2 ^ 32) (omega (arith, h))) ∙ and_false (nat_eq (k / 2 ^ 32) key))))
