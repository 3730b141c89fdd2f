-- What becomes of a relation's R-trees when a row enters or leaves.
use Rattle.std.specs.Prelude.{◌≡◌, ℕ, ◌≤◌, ◌<◌, List, [], ◌∷◌, ◌++◌, All, Some}
use Rattle.code_btree.specs.Tree.{times, live}
use Rattle.code_btree.specs.Calls.{Keeps}
use Rattle.page_pool.specs.Disk.{PageMap}
use Rattle.pmr_tree.specs.Quadtree.{store_of}
use Rattle.sand_base.specs.declared.value.Value.{Value}
use Rattle.r_tree.specs.declared.tree.RTree.{RTree}
use Rattle.r_tree.specs.Tree.{rtree_pages}
use Rattle.tuple_file.specs.Rows.{of_id, without_id}
use Rattle.sand_store.specs.declared.trees.RowChange.{RowChange}
use Rattle.sand_store.specs.declared.trees.RowChange.TheVariants.{Enters, Leaves}
use Rattle.sand_store.specs.Ownership.{trees_pages}
use Rattle.sand_store.specs.Standing.{TreeStands}

-- the rows when the row of an id entered, the last one, or left
abbrev pub rows_after : RowChange → ℕ → List Value → List (ℕ × List Value) → List (ℕ × List Value)
rows_after Enters id row rows = rows ++ (id, row) ∷ []
rows_after Leaves id row rows = without_id id rows

-- the row can enter, since its id is above the others, or it is there to leave
abbrev pub CanChange : RowChange → ℕ → List Value → List (ℕ × List Value) → Type 0
CanChange Enters id row rows = All (λ r. r.0 < id) rows
CanChange Leaves id row rows = of_id id rows ≡ Some row

-- The R-tree of a column lists these rows now, and no page but its own was touched.
pub record TreeChanged (m w : PageMap) (rows : List (ℕ × List Value)) (column : ℕ) (t u : RTree) : Type 0 where
  pub stands : TreeStands w rows (column, u)
  pub keeps : Keeps (store_of m) (store_of w) (rtree_pages (store_of m) t) (rtree_pages (store_of w) u)

-- R-trees list the rows, and no page is one of two.
pub record TreesCanChange (m : PageMap) (rows : List (ℕ × List Value)) (trees : List (ℕ × RTree)) : Type 0 where
  pub stands : All (TreeStands m rows) trees
  pub apart : (q : ℕ) → times q (trees_pages m trees) ≤ live (store_of m) q

-- They list these rows now, and no page but their own was touched.
pub record TreesChanged (m w : PageMap) (rows : List (ℕ × List Value)) (before after : List (ℕ × RTree)) : Type 0 where
  pub stands : All (TreeStands w rows) after
  pub keeps : Keeps (store_of m) (store_of w) (trees_pages m before) (trees_pages w after)
