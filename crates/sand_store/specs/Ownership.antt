-- Which pages are a relation's, and that no page is one of two structures.
use Rattle.std.specs.Prelude.{ℕ, ◌≤◌, List, ◌++◌}
use Rattle.std.specs.List.{flat_map}
use Rattle.page_pool.specs.Disk.{PageMap}
use Rattle.code_btree.specs.Tree.{times, live}
use Rattle.pmr_tree.specs.Quadtree.{store_of, pages_at}
use Rattle.tuple_file.specs.File.{file_pages}
use Rattle.attr_index.specs.Index.{index_pages}
use Rattle.r_tree.specs.declared.tree.RTree.{RTree}
use Rattle.r_tree.specs.Tree.{rtree_pages}
use Rattle.sand_store.specs.declared.path.AccessPath.{AccessPath}
use Rattle.sand_store.specs.declared.path.AccessPath.TheVariants.{Quadtree, Attribute}
use Rattle.sand_store.specs.Catalog.{RelationView}

-- the pages of an access path
abbrev pub path_pages : PageMap → AccessPath → List ℕ
path_pages pages (Quadtree tree) = pages_at pages tree
path_pages pages (Attribute index) = index_pages (store_of pages) index

-- the pages of all access paths of a relation
abbrev pub paths_pages : PageMap → List (ℕ × AccessPath) → List ℕ
paths_pages pages paths = flat_map (λ p. path_pages pages p.1) paths

-- the pages of all R-trees of a relation
abbrev pub trees_pages : PageMap → List (ℕ × RTree) → List ℕ
trees_pages pages trees = flat_map (λ t. rtree_pages (store_of pages) t.1) trees

-- the pages of a relation: those of its R-trees, of its file and of its access paths
abbrev pub relation_pages : PageMap → RelationView → List ℕ
relation_pages pages r = trees_pages pages r.trees ++ (file_pages (store_of pages) r.file ++ paths_pages pages r.paths)

-- the pages of all relations
abbrev pub catalog_pages : PageMap → List RelationView → List ℕ
catalog_pages pages relations = flat_map (relation_pages pages) relations

-- each of these pages is live and stands there once, so none is one of two structures
abbrev pub OwnsPages : PageMap → List ℕ → Type 0
OwnsPages pages owned = (q : ℕ) → times q owned ≤ live (store_of pages) q
