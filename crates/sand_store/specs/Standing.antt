-- What holds of a store over pages that are told: every file and every index is one, holds what the rows say, and shares no page.
use Rattle.std.specs.Prelude.{◌≡◌, ℕ, ◌≤◌, ◌<◌, List, map, filter_map, All, Option, Some, option_map}
use Rattle.code_btree.specs.Tree.{times}
use Rattle.page_pool.specs.Disk.{PageMap}
use Rattle.page_pool.specs.Pool.{PoolState, IsClosed, IsTold}
use Rattle.sand_base.specs.declared.kind.Kind.{Kind}
use Rattle.sand_base.specs.declared.kind.Kind.TheVariants as kind
use Rattle.sand_base.specs.declared.limits.Limits.{Limits}
use Rattle.sand_base.specs.declared.value.Value.{Value}
use Rattle.sand_model.specs.Database.{element, shapes_of}
use Rattle.sand_model.specs.Kept.{longest_row}
use Rattle.sand_model.specs.RowSize.{row_size}
use Rattle.sand_model.specs.Tree.{listings}
use Rattle.pmr_tree.specs.Quadtree.{store_of, tree_at, FitsRows}
use Rattle.pmr_tree.specs.declared.quadtree.Pmr.{Pmr}
use Rattle.r_tree.specs.declared.tree.RTree.{RTree}
use Rattle.r_tree.specs.Listing.{ListsRows}
use Rattle.tuple_file.specs.declared.file.TupleFile.{TupleFile}
use Rattle.tuple_file.specs.File.{IsFile, tuples_of}
use Rattle.tuple_file.specs.Spans.{AreKnown}
use Rattle.tuple_file.specs.Table.{encodings, AreRowsFor}
use Rattle.attr_index.specs.declared.index.AttrIndex.{AttrIndex}
use Rattle.attr_index.specs.Entries.{Entry, entry_number}
use Rattle.attr_index.specs.Index.{IsAttrIndex, IsIntIndex, index_entries}
use Rattle.attr_index.specs.Key.{value_key}
use Rattle.sand_store.specs.declared.path.AccessPath.{AccessPath}
use Rattle.sand_store.specs.declared.path.AccessPath.TheVariants.{Quadtree, Attribute}
use Rattle.sand_store.specs.Catalog.{RelationView, CatalogView, IsCatalog}
use Rattle.sand_store.specs.Contents.{rows_at, rows_in}
use Rattle.sand_store.specs.Ownership.{catalog_pages, OwnsPages}

-- the entries that an attribute index of a column has of these rows
abbrev pub column_entries : ℕ → List (ℕ × List Value) → List Entry
column_entries column rows = filter_map (λ row. option_map (λ v. (value_key v, row.0)) (element row.1 column)) rows

-- the kind of a column
abbrev pub kind_at : List (List ℕ × Kind) → ℕ → Option Kind
kind_at schema column = option_map (λ c. c.1) (element schema column)

-- An attribute index of a column: its entries are those of the rows, each once. One of ints is known to have ints alone.
pub record HoldsColumn (pages : PageMap) (schema : List (List ℕ × Kind)) (rows : List (ℕ × List Value)) (column : ℕ) (index : AttrIndex) : Type 0 where
  pub is : IsAttrIndex (store_of pages) index
  pub ints : kind_at schema column ≡ Some kind.Int → IsIntIndex (store_of pages) index
  pub entries : (n : ℕ) → times n (map entry_number (index_entries (store_of pages) index)) ≡ times n (map entry_number (column_entries column rows))

-- a quadtree of a column: its threshold is from 1 to 64, it fits the rows, with their rough shapes, and its listings are within the limit
pub record FitsColumn (pages : PageMap) (limits : Limits) (rows : List (ℕ × List Value)) (column : ℕ) (tree : Pmr) : Type 0 where
  pub split : (1 ≤ tree.threshold) × (tree.threshold ≤ 64)
  pub fits : FitsRows pages tree (shapes_of column rows)
  pub few : listings (tree_at pages tree) ≤ limits.listings

-- an access path holds what the rows have in its column
abbrev pub PathStands : PageMap → Limits → List (List ℕ × Kind) → List (ℕ × List Value) → ℕ × AccessPath → Type 0
PathStands pages limits schema rows (column, Quadtree tree) = FitsColumn pages limits rows column tree
PathStands pages limits schema rows (column, Attribute index) = HoldsColumn pages schema rows column index

-- an R-tree of a column lists the ids of the rows with the rough shapes that they have there
abbrev pub TreeStands : PageMap → List (ℕ × List Value) → ℕ × RTree → Type 0
TreeStands pages rows tree = ListsRows pages tree.1 (shapes_of tree.0 rows)

-- a file of rows of a schema: its tuples are their encodings
pub record TableStands (pages : PageMap) (schema : List (List ℕ × Kind)) (at : TupleFile) : Type 0 where
  pub file : IsFile (store_of pages) at
  pub tuples : tuples_of (store_of pages) at ≡ encodings (rows_at pages schema at)
  pub rows : AreRowsFor schema (rows_at pages schema at)

-- A relation: its file holds rows of the schema under ids that were given out, what is known of where they lie is true, and each access path and each R-tree holds what the rows have.
pub record RelationStands (pages : PageMap) (limits : Limits) (r : RelationView) : Type 0 where
  pub table : TableStands pages r.schema r.file
  pub short : All (λ row. row_size row.1 ≤ longest_row) (rows_in pages r)
  pub given_out : All (λ row. (1 ≤ row.0) × (row.0 < r.next)) (rows_in pages r)
  pub known : AreKnown (store_of pages) r.file r.spans
  pub paths : All (PathStands pages limits r.schema (rows_in pages r)) r.paths
  pub trees : All (TreeStands pages (rows_in pages r)) r.trees

-- all relations stand, and no page is one of two structures
pub record CatalogStands (pages : PageMap) (catalog : CatalogView) : Type 0 where
  pub relations : All (RelationStands pages catalog.limits) catalog.relations
  pub owns : OwnsPages pages (catalog_pages pages catalog.relations)

-- A store: no command is open, and where the disk tells its pages the catalog stands in them.
pub record IsStore (catalog : CatalogView) (pool : PoolState) : Type 0 where
  pub closed : IsClosed pool
  pub described : IsCatalog catalog
  pub stands : IsTold pool → CatalogStands pool.pages catalog
