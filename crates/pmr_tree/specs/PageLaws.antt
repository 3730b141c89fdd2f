-- Laws of quadtrees in pages, for whoever reads and keeps them.
use Rattle.std.specs.Prelude.{◌≡◌, ℕ, ◌≤◌}
use Rattle.page_pool.specs.Disk.{PageMap}
use Rattle.code_btree.specs.Tree.{times}
use Rattle.sand_model.specs.Tree.{root_block, IsShallow}
use Rattle.pmr_tree.specs.Quadtree.{store_of, pages_at, tree_at, IsPmr}
use Rattle.pmr_tree.specs.Calls.{QuadtreeUnmoved}
use Rattle.pmr_tree.specs.declared.quadtree.Pmr.{Pmr}

-- a quadtree depends only on its own pages
abbrev pub OwnPagesDecide : Type 0
OwnPagesDecide = (m w : PageMap) (t : Pmr) → ((n : ℕ) → 1 ≤ times n (pages_at m t) → store_of w n ≡ store_of m n) → QuadtreeUnmoved m w t

-- no place of a quadtree is below the finest level
abbrev pub IsAlwaysShallow : Type 0
IsAlwaysShallow = (pages : PageMap) (t : Pmr) → IsPmr pages t → IsShallow root_block (tree_at pages t)
