-- The database for which a catalog stands over pages.
use Rattle.std.specs.Prelude.{ℕ, List, map}
use Rattle.page_pool.specs.Disk.{PageMap}
use Rattle.sand_base.specs.declared.value.Value.{Value}
use Rattle.sand_model.specs.Database.{Database, Relation, Index, Rectangles, Quadtree as tree_index, Attribute as attribute_index, rough_shapes}
use Rattle.pmr_tree.specs.Quadtree.{store_of, tree_at}
use Rattle.sand_base.specs.declared.kind.Kind.{Kind}
use Rattle.r_tree.specs.declared.tree.RTree.{RTree}
use Rattle.tuple_file.specs.declared.file.TupleFile.{TupleFile}
use Rattle.tuple_file.specs.File.{tuples_of}
use Rattle.sand_store.specs.declared.path.AccessPath.{AccessPath}
use Rattle.sand_store.specs.declared.path.AccessPath.TheVariants as path
use Rattle.sand_store.specs.Catalog.{RelationView, StoreState}
use Rattle.sand_store.specs.Tuples.{row_in}

-- the index for which an access path stands
abbrev pub index_in : PageMap → AccessPath → Index
index_in pages (path.Quadtree tree) = tree_index tree.threshold (tree_at pages tree)
index_in pages (path.Attribute index) = attribute_index

-- the indexes, each with the place of its column
abbrev pub indexes_in : PageMap → List (ℕ × AccessPath) → List (ℕ × Index)
indexes_in pages paths = map (λ p. (p.0, index_in pages p.1)) paths

-- the rows of a file by id: those of which its tuples are the encodings
abbrev pub rows_at : PageMap → List (List ℕ × Kind) → TupleFile → List (ℕ × List Value)
rows_at pages schema file = map (λ tuple. (tuple.0, row_in schema tuple.1)) (tuples_of (store_of pages) file)

-- the rows of a relation
abbrev pub rows_in : PageMap → RelationView → List (ℕ × List Value)
rows_in pages r = rows_at pages r.schema r.file

-- what R-trees list, each with the place of its column: the rough shapes of the rows
abbrev pub rectangles_of : List (ℕ × List Value) → List (ℕ × RTree) → List Rectangles
rectangles_of rows trees = map (λ t. (t.0, rough_shapes t.0 rows)) trees

-- the relation for which a relation of the catalog stands
abbrev pub relation_in : PageMap → RelationView → Relation
relation_in pages r = record {
  name = r.name;
  schema = r.schema;
  rows = rows_in pages r;
  next = r.next;
  indexes = indexes_in pages r.paths;
  rectangles = rectangles_of (rows_in pages r) r.trees;
}

-- the database
abbrev pub database_in : PageMap → List RelationView → Database
database_in pages relations = map (relation_in pages) relations

-- the database of a store
abbrev pub database : StoreState → Database
database store = database_in store.pool.pages store.catalog.relations
