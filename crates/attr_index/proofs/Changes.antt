-- The writing calls, by those of the tree.
use Rattle.std.proofs.Common.{◌≡◌, ℕ, ◌^◌, ◌<◌, ◌≤◌, List, ◌∷◌, refl, sym, ◌∙◌, ap, ap₂, subst, false, true≢false}
use Rattle.std.specs.Prelude.{Option, nat_lt, nat_eq, not}
use Rattle.std.specs.List.{filter}
use Rattle.sand_base.specs.declared.kind.Kind.TheVariants as kind
use Rattle.sand_base.specs.declared.value.Value.{Value}
use Rattle.sand_base.specs.declared.value.Value.TheVariants as value
use Rattle.sand_base.specs.declared.shape.Shape.{Shape}
use Rattle.sand_base.specs.declared.shape.Shape.TheVariants as shape
use Rattle.sand_base.specs.Shape.{kind_of, value_kind, same_kind}
use Rattle.code_btree.specs.declared.map.Tree.{Tree}
use Rattle.code_btree.specs.Node.{Pair}
use Rattle.code_btree.specs.Items.{Each, put_item, drop_item}
use Rattle.code_btree.specs.Tree.{Store, tree_items, times}
use Rattle.code_btree.specs.Calls as of_tree
use Rattle.code_btree.proofs.Frame.{frame}
use Rattle.code_btree.proofs.Lists.{Each-append}
use Rattle.attr_index.specs.declared.index.AttrIndex.{AttrIndex}
use Rattle.attr_index.specs.Key.{value_key, text_length, IsAttribute, IsFit, IsKey, IsIntKey}
use Rattle.attr_index.specs.Entries.{Entry, entry_number, with_entry, without_entry}
use Rattle.attr_index.specs.Index.{IsAttrIndex, entries, index_entries, index_pages}
use Rattle.attr_index.specs.Calls.{EntryAdded, Dropped, IndexUnmoved}
use Rattle.attr_index.proofs.Pairs.{entries_put, entries_drop, Each-filter}

each_with : (P : Entry → Type 0) (e : Entry) (es : List Entry) → P e → Each P es → Each P (with_entry e es)
each_with P e es h k =
    Each-append P (filter (λ d. nat_lt (entry_number d) (entry_number e)) es) (e ∷ filter (λ d. nat_lt (entry_number e) (entry_number d)) es)
    (Each-filter P (λ d. nat_lt (entry_number d) (entry_number e)) es k) (h, Each-filter P (λ d. nat_lt (entry_number e) (entry_number d)) es k)

each_without : (P : Entry → Type 0) (e : Entry) (es : List Entry) → Each P es → Each P (without_entry e es)
each_without P e es k = Each-filter P (λ d. not (nat_eq (entry_number d) (entry_number e))) es k

each_same : (P : Entry → Type 0) (xs ys : List Entry) → xs ≡ ys → Each P ys → Each P xs
each_same P xs ys e h = let Q : List Entry → Type 0 = λ zs. Each P zs in subst Q (sym e) h

-- no shape is of the kind of ints
no_int : (s : Shape) → same_kind (kind_of s) kind.Int ≡ false
no_int (shape.Point p) = refl
no_int (shape.Segment p) = refl
no_int (shape.Polygon p) = refl

int_key_is : (v : Value) → IsFit v → value_kind v ≡ kind.Int → IsIntKey (value_key v)
int_key_is (value.Int n) fit e = (n, (fit, refl))
int_key_is (value.Text bytes) fit e = absurd (true≢false (sym (ap (λ k. same_kind k kind.Int) e)))
int_key_is (value.Shape s) fit e = absurd (true≢false (sym (ap (λ k. same_kind k kind.Int) e) ∙ no_int s))

pub added : (m w : Store) (x : AttrIndex) (u : Tree) (v : Value) (id place kept : ℕ) (was : Option ℕ) → IsAttribute v → IsFit v → id < 2 ^ 32
    → place ≡ entry_number (value_key v, id) → kept ≡ text_length v
    → IsAttrIndex m x → of_tree.Inserted m w x.tree u place kept was → EntryAdded m w x (record { tree = u }) v id
added m w x u v id place kept was attr fit small ep ek is i =
    let y : AttrIndex = record { tree = u } in
    let pairs : tree_items w u ≡ put_item (entry_number (value_key v, id)) (text_length v) (tree_items m x.tree) = i.items ∙ ap₂ (λ (k j : ℕ). put_item k j (tree_items m x.tree)) ep ek in
    let same : index_entries w y ≡ with_entry (value_key v, id) (index_entries m x) = ap (λ (es : List Pair). entries es) pairs
    ∙ entries_put (value_key v) id (text_length v) (tree_items m x.tree) small in
    let index : IsAttrIndex w y = record {
      tree = i.tree;
      keys = each_same (λ e. IsKey e.0) (index_entries w y) (with_entry (value_key v, id) (index_entries m x)) same
          (each_with (λ e. IsKey e.0) (value_key v, id) (index_entries m x) (v, (attr, refl)) is.keys);
    } in
    record {
      index = index;
      entries = same;
      pairs = pairs;
      ints = λ of_int old. record {
        index = index;
        ints = each_same (λ e. IsIntKey e.0) (index_entries w y) (with_entry (value_key v, id) (index_entries m x)) same
            (each_with (λ e. IsIntKey e.0) (value_key v, id) (index_entries m x) (int_key_is v fit of_int) old.ints);
      };
      keeps = i.keeps;
    }

pub dropped : (m w : Store) (x : AttrIndex) (u : Tree) (v : Value) (id place : ℕ) (was : Option ℕ) → place ≡ entry_number (value_key v, id)
    → IsAttrIndex m x → of_tree.Removed m w x.tree u place was → Dropped m w x (record { tree = u }) v id
dropped m w x u v id place was ep is i =
    let y : AttrIndex = record { tree = u } in
    let pairs : tree_items w u ≡ drop_item (entry_number (value_key v, id)) (tree_items m x.tree) = i.items ∙ ap (λ (k : ℕ). drop_item k (tree_items m x.tree)) ep in
    let same : index_entries w y ≡ without_entry (value_key v, id) (index_entries m x) = ap (λ (es : List Pair). entries es) pairs
    ∙ entries_drop (value_key v, id) (tree_items m x.tree) is.tree.at.ascending in
    let index : IsAttrIndex w y = record {
      tree = i.tree;
      keys = each_same (λ e. IsKey e.0) (index_entries w y) (without_entry (value_key v, id) (index_entries m x)) same (each_without (λ e. IsKey e.0) (value_key v, id) (index_entries m x) is.keys);
    } in
    record {
      index = index;
      entries = same;
      ints = λ old. record {
        index = index;
        ints = each_same (λ e. IsIntKey e.0) (index_entries w y) (without_entry (value_key v, id) (index_entries m x)) same
            (each_without (λ e. IsIntKey e.0) (value_key v, id) (index_entries m x) old.ints);
      };
      keeps = i.keeps;
    }

-- an index depends only on its own pages
pub unmoved : (m w : Store) (x : AttrIndex) → ((q : ℕ) → 1 ≤ times q (index_pages m x) → w q ≡ m q) → IndexUnmoved m w x
unmoved m w x h =
    let t = frame m w x.tree h in
    let same : index_entries w x ≡ index_entries m x = ap (λ (es : List Pair). entries es) t.items in
    let index : IsAttrIndex m x → IsAttrIndex w x = λ i. record { tree = t.tree i.tree; keys = each_same (λ e. IsKey e.0) (index_entries w x) (index_entries m x) same i.keys } in
    record {
      entries = same;
      pages = t.pages;
      index = index;
      ints = λ i. record { index = index i.index; ints = each_same (λ e. IsIntKey e.0) (index_entries w x) (index_entries m x) same i.ints };
    }
