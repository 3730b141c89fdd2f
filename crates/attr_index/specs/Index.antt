-- An attribute index over pages: its list of entries, its pages, and what makes pages an index.
use Rattle.std.specs.Prelude.{ℕ, ◌/◌, ◌%◌, ◌^◌, List, map}
use Rattle.code_btree.specs.Node.{Pair}
use Rattle.code_btree.specs.Items.{Each}
use Rattle.code_btree.specs.Tree.{Store, IsTree, tree_items, tree_pages}
use Rattle.attr_index.specs.declared.index.AttrIndex.{AttrIndex}
use Rattle.attr_index.specs.Key.{IsKey, IsIntKey}
use Rattle.attr_index.specs.Entries.{Entry}

-- the entry that a key of the tree stands for
abbrev pub index_entry : ℕ → Entry
index_entry n = (n / 2 ^ 32, n % 2 ^ 32)

-- the entries for which the pairs of a tree stand
abbrev pub entries : List Pair → List Entry
entries es = map (λ e. index_entry e.0) es

-- an index's list of entries
abbrev pub index_entries : Store → AttrIndex → List Entry
index_entries m x = entries (tree_items m x.tree)

-- an index's pages: those of its tree
abbrev pub index_pages : Store → AttrIndex → List ℕ
index_pages m x = tree_pages m x.tree

-- the pages are a tree, each of whose keys is that of a value and an id
pub record IsAttrIndex (m : Store) (x : AttrIndex) : Type 0 where
  pub tree : IsTree m x.tree
  pub keys : Each (λ e. IsKey e.0) (index_entries m x)

-- an index in which all values are ints
pub record IsIntIndex (m : Store) (x : AttrIndex) : Type 0 where
  pub index : IsAttrIndex m x
  pub ints : Each (λ e. IsIntKey e.0) (index_entries m x)
