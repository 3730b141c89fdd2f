-- What the calls of an attribute index do.
use Rattle.std.specs.Prelude.{◌≡◌, ℕ, []}
use Rattle.sand_base.specs.declared.kind.Kind.TheVariants as kind
use Rattle.sand_base.specs.declared.value.Value.{Value}
use Rattle.sand_base.specs.Shape.{value_kind}
use Rattle.code_btree.specs.Items.{put_item}
use Rattle.code_btree.specs.Tree.{Store, tree_items}
use Rattle.code_btree.specs.Calls.{Keeps}
use Rattle.attr_index.specs.declared.index.AttrIndex.{AttrIndex}
use Rattle.attr_index.specs.Key.{value_key, text_length}
use Rattle.attr_index.specs.Entries.{entry_number, with_entry, without_entry}
use Rattle.attr_index.specs.Index.{IsAttrIndex, IsIntIndex, index_entries, index_pages}

-- a new index of no entries, on pages that weren't live
pub record IndexPlanted (m w : Store) (x : AttrIndex) : Type 0 where
  pub index : IsIntIndex w x
  pub entries : index_entries w x ≡ []
  pub keeps : Keeps m w [] (index_pages w x)

-- The list has the entry of the value and the id, and the tree keeps the length of a text with it. An index of ints is one still, where the value is an int. No other page was touched.
pub record EntryAdded (m w : Store) (x y : AttrIndex) (v : Value) (id : ℕ) : Type 0 where
  pub index : IsAttrIndex w y
  pub entries : index_entries w y ≡ with_entry (value_key v, id) (index_entries m x)
  pub pairs : tree_items w y.tree ≡ put_item (entry_number (value_key v, id)) (text_length v) (tree_items m x.tree)
  pub ints : value_kind v ≡ kind.Int → IsIntIndex m x → IsIntIndex w y
  pub keeps : Keeps m w (index_pages m x) (index_pages w y)

-- the list lacks the entry of the value and the id, an index of ints is one still, and no other page was touched
pub record Dropped (m w : Store) (x y : AttrIndex) (v : Value) (id : ℕ) : Type 0 where
  pub index : IsAttrIndex w y
  pub entries : index_entries w y ≡ without_entry (value_key v, id) (index_entries m x)
  pub ints : IsIntIndex m x → IsIntIndex w y
  pub keeps : Keeps m w (index_pages m x) (index_pages w y)

-- the index is in w what it is in m: its list, its pages, and that it is an index, of ints where it was
pub record IndexUnmoved (m w : Store) (x : AttrIndex) : Type 0 where
  pub entries : index_entries w x ≡ index_entries m x
  pub pages : index_pages w x ≡ index_pages m x
  pub index : IsAttrIndex m x → IsAttrIndex w x
  pub ints : IsIntIndex m x → IsIntIndex w x
