-- Where a store's pages are told, its database is one, for every measure.
use Rattle.std.proofs.Common.{◌≡◌, ℕ, ◌+◌, ◌<◌, ◌≤◌, Bool, true, false, List, [], ◌∷◌, length, map, refl, sym, ◌∙◌, ap, ap₂, subst, arith, All}
use Rattle.std.proofs.lemmas.List.{length-map}
use Rattle.std.proofs.lemmas.List.Elements.{All-nil, All-cons, All-head, All-tail}
use Rattle.page_pool.specs.Disk.{PageMap}
use Rattle.page_pool.specs.Pool.{PoolState, IsTold}
use Rattle.code_btree.specs.Node.{Pair}
use Rattle.code_btree.specs.Items.{Above, Ascending}
use Rattle.code_btree.specs.Tree.{Store, tree_items}
use Rattle.pmr_tree.specs.Lists.{RiseStrictly, Above as AboveAll}
use Rattle.pmr_tree.specs.Quadtree.{store_of, tree_at}
use Rattle.pmr_tree.proofs.TreeAt.{shaped_shallow}
use Rattle.sand_base.specs.declared.kind.Kind.{Kind}
use Rattle.sand_base.specs.declared.limits.Limits.{Limits}
use Rattle.sand_base.specs.declared.value.Value.{Value}
use Rattle.r_tree.specs.declared.tree.RTree.{RTree}
use Rattle.sand_model.specs.Database.{Relation, Index, Rectangles, rough_shapes}
use Rattle.sand_model.specs.Kept.{has_twice, has_number_twice, IsAscending, IsIndex, IsRectangles, IsRelation, IsDatabase}
use Rattle.sand_model.specs.Measure.{Measure, IsMeasure}
use Rattle.sand_model.specs.Tree.{root_block}
use Rattle.tuple_codec.specs.Decoding.{IsRowFor}
use Rattle.tuple_file.specs.declared.file.TupleFile.{TupleFile}
use Rattle.tuple_file.specs.File.{tuples, IsFile}
use Rattle.sand_store.specs.declared.path.AccessPath.{AccessPath}
use Rattle.sand_store.specs.declared.path.AccessPath.TheVariants.{Quadtree, Attribute}
use Rattle.sand_store.specs.Catalog.{RelationView, CatalogView, IsColumnAt, IsPathOf, IsDescribed}
use Rattle.sand_store.specs.Contents.{index_in, indexes_in, rows_at, rows_in, rectangles_of, relation_in, database_in}
use Rattle.sand_store.specs.Standing.{PathStands, RelationStands, IsStore}
use Rattle.sand_store.specs.Tuples.{row_in}

-- the ids of rows
abbrev ids : List (ℕ × List Value) → List ℕ
ids rows = map (λ (r : ℕ × List Value). r.0) rows

abbrev rows_of : Store → List (List ℕ × Kind) → List Pair → List (ℕ × List Value)
rows_of m schema es = map (λ (t : ℕ × List ℕ). (t.0, row_in schema t.1)) (tuples m es)

-- the ids of a file's rows rise, as the keys of its tree do
above_ids : (m : Store) (schema : List (List ℕ × Kind)) (n : ℕ) (es : List Pair) → Above n es → AboveAll n (ids (rows_of m schema es))
above_ids m schema n [] h = tt
above_ids m schema n (e ∷ es) h = (h.0, above_ids m schema n es h.1)

rises_of : (m : Store) (schema : List (List ℕ × Kind)) (es : List Pair) → Ascending es → RiseStrictly (ids (rows_of m schema es))
rises_of m schema [] h = tt
rises_of m schema (e ∷ es) h = (above_ids m schema e.0 es h.0, rises_of m schema es h.1)

pub rises_at : (m : PageMap) (schema : List (List ℕ × Kind)) (file : TupleFile) → IsFile (store_of m) file → RiseStrictly (ids (rows_at m schema file))
rises_at m schema file h = rises_of (store_of m) schema (tree_items (store_of m) file.tree) h.tree.at.ascending

above_all : (n : ℕ) (ns : List ℕ) → AboveAll n ns → All (λ k. n < k) ns
above_all n [] h = All-nil (λ k. n < k)
above_all n (k ∷ ns) h = All-cons (λ k. n < k) k ns h.0 (above_all n ns h.1)

ascending_from : (ns : List ℕ) → RiseStrictly ns → IsAscending ns
ascending_from [] h = tt
ascending_from (n ∷ ns) h = (above_all n ns h.0, ascending_from ns h.1)

-- the places of indexes are those of the access paths
places_same : (m : PageMap) (ps : List (ℕ × AccessPath)) → map (λ (i : ℕ × Index). i.0) (indexes_in m ps) ≡ map (λ (p : ℕ × AccessPath). p.0) ps
places_same m [] = refl
places_same m (p ∷ ps) = ap (λ (ns : List ℕ). p.0 ∷ ns) (places_same m ps)

names_same : (m : PageMap) (rs : List RelationView) → map (λ (r : Relation). r.name) (database_in m rs) ≡ map (λ (r : RelationView). r.name) rs
names_same m [] = refl
names_same m (r ∷ rs) = ap (λ (ns : List (List ℕ)). r.name ∷ ns) (names_same m rs)

-- each index is one
index_is : (gap : Measure) → IsMeasure gap → (limits : Limits) (m : PageMap) (r : RelationView) (at : ℕ) (a : AccessPath)
    → IsPathOf r.schema (at, a) → PathStands m limits r.schema (rows_in m r) (at, a) → IsIndex gap limits (relation_in m r) (at, index_in m a)
index_is gap is limits m r at (Quadtree t) k h = (
  k,
  record {
    split = h.split;
    fits = h.fits.fits gap is;
    shallow = shaped_shallow root_block (tree_at m t) h.fits.tree.shaped;
    full = h.fits.tree.full;
    few = h.few;
  },
)
index_is gap is limits m r at (Attribute x) k h = k

indexes_are : (gap : Measure) → IsMeasure gap → (limits : Limits) (m : PageMap) (r : RelationView) (ps : List (ℕ × AccessPath))
    → All (IsPathOf r.schema) ps → All (PathStands m limits r.schema (rows_in m r)) ps → All (IsIndex gap limits (relation_in m r)) (indexes_in m ps)
indexes_are gap is limits m r [] k h = All-nil (IsIndex gap limits (relation_in m r))
indexes_are gap is limits m r (p ∷ ps) k h = All-cons (IsIndex gap limits (relation_in m r)) (p.0, index_in m p.1) (indexes_in m ps)
    (index_is gap is limits m r p.0 p.1 (All-head (IsPathOf r.schema) p ps k) (All-head (PathStands m limits r.schema (rows_in m r)) p ps h))
    (indexes_are gap is limits m r ps (All-tail (IsPathOf r.schema) p ps k) (All-tail (PathStands m limits r.schema (rows_in m r)) p ps h))

-- the places of R-trees are those of their columns
columns_same : (rows : List (ℕ × List Value)) (ts : List (ℕ × RTree)) → map (λ (t : Rectangles). t.0) (rectangles_of rows ts) ≡ map (λ (t : ℕ × RTree). t.0) ts
columns_same rows [] = refl
columns_same rows (t ∷ ts) = ap (λ (ns : List ℕ). t.0 ∷ ns) (columns_same rows ts)

-- each R-tree is one
rectangles_are : (m : PageMap) (r : RelationView) (ts : List (ℕ × RTree)) → All (λ n. IsColumnAt r.schema n true) (map (λ t. t.0) ts)
    → All (IsRectangles (relation_in m r)) (rectangles_of (rows_in m r) ts)
rectangles_are m r [] k = All-nil (IsRectangles (relation_in m r))
rectangles_are m r (t ∷ ts) k = All-cons (IsRectangles (relation_in m r)) (t.0, rough_shapes t.0 (rows_in m r)) (rectangles_of (rows_in m r) ts)
    (All-head (λ (n : ℕ). IsColumnAt r.schema n true) t.0 (map (λ (x : ℕ × RTree). x.0) ts) k, refl)
    (rectangles_are m r ts (All-tail (λ (n : ℕ). IsColumnAt r.schema n true) t.0 (map (λ (x : ℕ × RTree). x.0) ts) k))

-- each relation is one
relation_is : (gap : Measure) → IsMeasure gap → (limits : Limits) (m : PageMap) (r : RelationView) → IsDescribed limits r → RelationStands m limits r → IsRelation gap limits (relation_in m r)
relation_is gap is limits m r d h = record {
  schema = d.schema;
  columns = d.columns;
  rows = λ k x l. (let row : IsRowFor r.schema (Rattle.std.proofs.Common.slice_index_or (rows_in m r) k x).1 = h.table.rows k x l in (row.of_schema, row.in_range, h.short k x l));
  ids = ascending_from (ids (rows_in m r)) (rises_at m r.schema r.file h.table.file);
  begun = d.begun;
  few = d.few;
  given_out = h.given_out;
  indexed = ap (λ (ns : List ℕ). has_number_twice ns) (places_same m r.paths) ∙ d.indexed;
  indexes = indexes_are gap is limits m r r.paths d.paths h.paths;
  bounded = ap (λ (ns : List ℕ). has_number_twice ns) (columns_same (rows_in m r) r.trees) ∙ d.bounded;
  rectangles = rectangles_are m r r.trees d.trees;
}

relations_are : (gap : Measure) → IsMeasure gap → (limits : Limits) (m : PageMap) (rs : List RelationView) → All (IsDescribed limits) rs → All (RelationStands m limits) rs
    → All (IsRelation gap limits) (database_in m rs)
relations_are gap is limits m [] d h = All-nil (IsRelation gap limits)
relations_are gap is limits m (r ∷ rs) d h = All-cons (IsRelation gap limits) (relation_in m r) (database_in m rs)
    (relation_is gap is limits m r (All-head (IsDescribed limits) r rs d) (All-head (RelationStands m limits) r rs h))
    (relations_are gap is limits m rs (All-tail (IsDescribed limits) r rs d) (All-tail (RelationStands m limits) r rs h))

-- The database of a store is one.
pub database_is : (catalog : CatalogView) (pool : PoolState) → IsStore catalog pool → IsTold pool → (gap : Measure) → IsMeasure gap
    → IsDatabase gap catalog.limits (database_in pool.pages catalog.relations)
database_is catalog pool h told gap is = record {
  names = ap (λ (ns : List (List ℕ)). has_twice ns) (names_same pool.pages catalog.relations) ∙ h.described.names;
  few = (let n : length (database_in pool.pages catalog.relations) ≡ length catalog.relations = length-map catalog.relations (relation_in pool.pages) in omega (arith, n, h.described.few));
  relations = relations_are gap is catalog.limits pool.pages catalog.relations h.described.relations (h.stands told).relations;
}
