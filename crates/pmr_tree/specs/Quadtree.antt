-- A quadtree in pages: the tree that its entries stand for, what makes entries a quadtree, and the rows that it fits.
use Rattle.std.specs.Prelude.{◌≡◌, ℕ, zero, suc, List, [], ◌∷◌, map, cond, Bool, true, false, Some, is_some, Contains}
use Rattle.std.specs.FinMap as fin
use Rattle.page_pool.specs.Disk.{PageMap}
use Rattle.code_btree.specs.Tree.{Store, IsTree, tree_items, tree_pages}
use Rattle.code_btree.specs.Near.{IsNear}
use Rattle.code_btree.specs.declared.near.Near.{Near}
use Rattle.sand_base.specs.declared.TheConstants.{COORDINATE_BITS}
use Rattle.sand_base.specs.declared.shape.Shape.{Shape}
use Rattle.z_code.specs.Block.{child}
use Rattle.z_code.specs.declared.block.Block.{Block}
use Rattle.sand_model.specs.Measure.{Measure, IsMeasure}
use Rattle.sand_model.specs.Database.{shape_at, meets_block}
use Rattle.sand_model.specs.Tree.{Tree, Leaf, Inner, root_block, Fits, IsFull, IsPlace}
use Rattle.pmr_tree.specs.Lists.{Each, RiseStrictly}
use Rattle.pmr_tree.specs.Keys.{own, ids_in, keys, IsShaped}
use Rattle.pmr_tree.specs.Changes.{ListsWhere}
use Rattle.pmr_tree.specs.Entries.{KeepsIn}
use Rattle.pmr_tree.specs.declared.quadtree.Pmr.{Pmr}

-- pages as the B+-tree sees them
abbrev pub store_of : PageMap → Store
store_of pages = λ n. fin.get pages n

-- the entries, in the order of their keys
abbrev pub quadtree_entries : PageMap → Pmr → List (ℕ × ℕ)
quadtree_entries pages t = tree_items (store_of pages) t.map

-- their keys
abbrev pub keys_at : PageMap → Pmr → List ℕ
keys_at pages t = map (λ e. e.0) (quadtree_entries pages t)

-- the pages of the quadtree, on which alone its entries depend
abbrev pub pages_at : PageMap → Pmr → List ℕ
pages_at pages t = tree_pages (store_of pages) t.map

-- no key of its own makes a block an inner place
abbrev pub is_inner_place : List ℕ → Bool
is_inner_place [] = true
is_inner_place (k ∷ ks) = false

-- the tree of a block, so many levels high at most, that a list of keys stands for
unfoldable pub tree_in : ℕ → Block → List ℕ → Tree
tree_in zero b ks = Leaf (ids_in (own b ks))
tree_in (suc levels) b ks =
    cond (is_inner_place (own b ks))
    (Inner (tree_in levels (child b 0) ks) (tree_in levels (child b 1) ks) (tree_in levels (child b 2) ks) (tree_in levels (child b 3) ks))
    (Leaf (ids_in (own b ks)))

-- the tree that a quadtree stands for over these pages
unfoldable pub tree_at : PageMap → Pmr → Tree
tree_at pages t = tree_in COORDINATE_BITS root_block (keys_at pages t)

-- Over these pages the value is a quadtree: its entries are those of its tree, in which no deletion would have merged a place.
pub record IsPmr (pages : PageMap) (t : Pmr) : Type 0 where
  pub entries : IsTree (store_of pages) t.map
  pub keys : keys_at pages t ≡ keys root_block (tree_at pages t)
  pub shaped : IsShaped root_block (tree_at pages t)
  pub full : IsFull t.threshold (tree_at pages t)

-- the quadtree keeps the rough shape of this shape for the id
abbrev pub KeepsShape : PageMap → Pmr → ℕ → Shape → Type 0
KeepsShape pages t id s = KeepsIn (quadtree_entries pages t) id s

-- The tree fits some of the rows, those of these ids, and the id is none of them.
pub record FitsOthers (gap : Measure) (rows : List (ℕ × Shape)) (id : ℕ) (tree : Tree) : Type 0 where
  pub ids : List ℕ
  pub rise : RiseStrictly ids
  pub listed : Each (λ other. is_some (shape_at rows other) ≡ true) ids
  pub new : Contains ids id → ⊥
  pub fits : Fits (meets_block gap rows) ids root_block tree

-- The quadtree fits the rows: each leaf lists exactly the ids of those whose shapes meet its square, and it keeps their rough shapes.
pub record FitsRows (pages : PageMap) (t : Pmr) (rows : List (ℕ × Shape)) : Type 0 where
  pub tree : IsPmr pages t
  pub fits : (gap : Measure) → IsMeasure gap → Fits (meets_block gap rows) (map (λ row. row.0) rows) root_block (tree_at pages t)
  pub roughs : (id : ℕ) (s : Shape) → shape_at rows id ≡ Some s → KeepsShape pages t id s

-- every leaf that lists the id has a square that the shape meets
abbrev pub IsListedWhereMet : Tree → ℕ → Shape → Type 0
IsListedWhereMet tree id s = (gap : Measure) → IsMeasure gap → ListsWhere (meets_block gap ((id, s) ∷ [])) id root_block tree

-- the block is a place of the tree
abbrev pub HasPlace : Tree → Block → Type 0
HasPlace tree b = (place : Tree) × IsPlace tree b place

-- what is held between two looks is right: the page with the entries of the last one, and the keys that belong there
abbrev pub IsNearIn : PageMap → Pmr → Near → Type 0
IsNearIn pages t near = IsNear (store_of pages) t.map near
