-- The access path and the R-tree of a column, and what they are of the relation.
use Rattle.std.specs.Prelude.{◌≡◌, ℕ, Bool, nat_eq, List, find, Option, Some, None, option_map}
use Rattle.page_pool.specs.Disk.{PageMap}
use Rattle.sand_base.specs.declared.limits.Limits.{Limits}
use Rattle.sand_model.specs.Database.{index_at, Quadtree as tree_index, Attribute as attribute_index}
use Rattle.pmr_tree.specs.Quadtree.{tree_at}
use Rattle.pmr_tree.specs.declared.quadtree.Pmr.{Pmr}
use Rattle.attr_index.specs.declared.index.AttrIndex.{AttrIndex}
use Rattle.r_tree.specs.declared.tree.RTree.{RTree}
use Rattle.sand_store.specs.declared.path.AccessPath.{AccessPath}
use Rattle.sand_store.specs.declared.path.AccessPath.TheVariants.{Quadtree, Attribute}
use Rattle.sand_store.specs.Catalog.{RelationView, IsDescribed, IsColumnAt}
use Rattle.sand_store.specs.Contents.{relation_in, rows_in}
use Rattle.sand_store.specs.Standing.{RelationStands, FitsColumn, HoldsColumn}

-- the access path of a column
abbrev pub path_at : List (ℕ × AccessPath) → ℕ → Option AccessPath
path_at paths column = option_map (λ p. p.1) (find (λ p. nat_eq p.0 column) paths)

-- the R-tree of a column
abbrev pub rtree_at : List (ℕ × RTree) → ℕ → Option RTree
rtree_at trees column = option_map (λ t. t.1) (find (λ t. nat_eq t.0 column) trees)

-- the quadtree that an access path is, and the attribute index

-- the quadtree that an access path is, if it is one
abbrev pub tree_in_path : Option AccessPath → Option Pmr
tree_in_path (Some (Quadtree tree)) = Some tree
tree_in_path _ = None

-- the attribute index that an access path is, if it is one
abbrev pub attribute_in_path : Option AccessPath → Option AttrIndex
attribute_in_path (Some (Attribute index)) = Some index
attribute_in_path _ = None

-- The quadtree is the index of a column, and fits the rows wherever the relation stands.
pub record IsTreeOf (r : RelationView) (column : ℕ) (tree : Pmr) : Type 0 where
  pub index : (pages : PageMap) → index_at (relation_in pages r) column ≡ Some (tree_index tree.threshold (tree_at pages tree))
  pub fits : (pages : PageMap) (limits : Limits) → RelationStands pages limits r → FitsColumn pages limits (rows_in pages r) column tree

-- The attribute index is that of a column, and holds what the rows have there wherever the relation stands.
pub record IsAttributeOf (r : RelationView) (column : ℕ) (attribute : AttrIndex) : Type 0 where
  pub index : (pages : PageMap) → index_at (relation_in pages r) column ≡ Some attribute_index
  pub holds : (pages : PageMap) (limits : Limits) → RelationStands pages limits r → HoldsColumn pages r.schema (rows_in pages r) column attribute

-- a column, where it is of shapes or isn't, has no index
abbrev pub HasNoIndex : RelationView → ℕ → Bool → Type 0
HasNoIndex r column spatial =
    (limits : Limits) → IsDescribed limits r → IsColumnAt r.schema column spatial → (pages : PageMap) → index_at (relation_in pages r) column ≡ None
