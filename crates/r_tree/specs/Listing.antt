-- The rows that an R-tree lists (A. Guttman, 1984): each by its id, with its rough shape.
use Rattle.std.specs.Prelude.{◌≡◌, ℕ, ◌≤◌, List, [], map, IsPermutation}
use Rattle.page_pool.specs.Disk.{PageMap}
use Rattle.code_btree.specs.Tree.{times}
use Rattle.code_btree.specs.Calls.{Keeps}
use Rattle.sand_base.specs.declared.goal.Goal.{Goal}
use Rattle.sand_base.specs.declared.shape.Shape.{Shape}
use Rattle.sand_model.specs.Roughs.{row_figure}
use Rattle.pmr_tree.specs.Entries.{figure_of}
use Rattle.pmr_tree.specs.Quadtree.{store_of}
use Rattle.r_tree.specs.declared.tree.RTree.{RTree}
use Rattle.r_tree.specs.Entry.{Member}
use Rattle.r_tree.specs.Tree.{IsRTree, tree_members, rtree_pages}

-- an id with its rough shape as a figure, as an R-tree lists it
abbrev pub member_figure : Member → ℕ × Goal
member_figure i = (i.0, figure_of i.1)

-- Over these pages the value is an R-tree, and it lists exactly the ids of the rows with their rough shapes.
pub record ListsRows (pages : PageMap) (t : RTree) (rows : List (ℕ × Shape)) : Type 0 where
  pub tree : IsRTree (store_of pages) t
  pub lists : IsPermutation (map member_figure (tree_members (store_of pages) t)) (map row_figure rows)

-- members are the rows' ids with their rough shapes, in the rows' order
abbrev pub AreMembersOf : List Member → List (ℕ × Shape) → Type 0
AreMembersOf members rows = map member_figure members ≡ map row_figure rows

-- no row has this id
abbrev pub HasNoRowOf : ℕ → List (ℕ × Shape) → Type 0
HasNoRowOf id rows = times id (map (λ row. row.0) rows) ≡ 0

-- no id is that of two rows
abbrev pub HasRowsOnce : List (ℕ × Shape) → Type 0
HasRowsOnce rows = (id : ℕ) → times id (map (λ row. row.0) rows) ≤ 1

-- A new tree of this number lists the rows, on pages that weren't live.
pub record PlantsRows (m w : PageMap) (t : RTree) (number : ℕ) (rows : List (ℕ × Shape)) : Type 0 where
  pub lists : ListsRows w t rows
  pub numbered : t.number ≡ number
  pub keeps : Keeps (store_of m) (store_of w) [] (rtree_pages (store_of w) t)

-- The tree became one that lists these rows, under its number, and no page but its own was touched.
pub record Relists (m w : PageMap) (t u : RTree) (rows : List (ℕ × Shape)) : Type 0 where
  pub lists : ListsRows w u rows
  pub numbered : u.number ≡ t.number
  pub keeps : Keeps (store_of m) (store_of w) (rtree_pages (store_of m) t) (rtree_pages (store_of w) u)
