-- A relation is what it was where its own pages stay.
use Rattle.std.proofs.Common.{◌≡◌, ℕ, ◌<◌, ◌≤◌, List, [], ◌∷◌, ◌++◌, map, refl, sym, ◌∙◌, ap, ap₂, subst, arith, All}
use Rattle.std.proofs.lemmas.List.Elements.{All-nil, All-cons, All-head, All-tail}
use Rattle.page_pool.specs.Disk.{PageMap}
use Rattle.sand_base.specs.declared.kind.Kind.{Kind}
use Rattle.sand_base.specs.declared.limits.Limits.{Limits}
use Rattle.sand_base.specs.declared.shape.Shape.{Shape}
use Rattle.sand_base.specs.declared.value.Value.{Value}
use Rattle.sand_model.specs.Database.{Relation, Index, Quadtree as tree_index, shapes_of, meets_block}
use Rattle.sand_model.specs.Measure.{Measure}
use Rattle.sand_model.specs.Kept.{longest_row}
use Rattle.sand_model.specs.RowSize.{row_size}
use Rattle.sand_model.specs.Tree.{Tree, root_block, Fits, listings}
use Rattle.code_btree.specs.Tree.{times}
use Rattle.code_btree.proofs.Lists.{times-append}
use Rattle.code_btree.proofs.Frame.{frame}
use Rattle.pmr_tree.specs.Quadtree.{store_of}
use Rattle.pmr_tree.specs.Entries.{KeepsIn}
use Rattle.pmr_tree.proofs.OwnLaws.{pmr_unmoved}
use Rattle.tuple_file.specs.File.{file_pages}
use Rattle.tuple_file.proofs.Houses as houses
use Rattle.tuple_file.proofs.Leads.{still_known}
use Rattle.attr_index.specs.Entries.{Entry, entry_number}
use Rattle.attr_index.proofs.Changes as attributes
use Rattle.sand_store.specs.declared.path.AccessPath.{AccessPath}
use Rattle.sand_store.specs.declared.path.AccessPath.TheVariants.{Quadtree, Attribute}
use Rattle.sand_store.specs.Catalog.{RelationView}
use Rattle.r_tree.specs.declared.tree.RTree.{RTree}
use Rattle.r_tree.specs.Tree.{rtree_pages}
use Rattle.r_tree.proofs.Unmoved.{tree_pages_stay, lists_stay}
use Rattle.sand_store.specs.Contents.{index_in, indexes_in, rows_in, rectangles_of, relation_in, database_in}
use Rattle.sand_store.specs.Ownership.{path_pages, paths_pages, trees_pages, relation_pages, catalog_pages}
use Rattle.sand_store.specs.Standing.{PathStands, TreeStands, RelationStands}
use Rattle.sand_store.specs.TableLaws.{SameOn, rows_same, table_same}

pub same_left : (m w : PageMap) (a b : List ℕ) → SameOn m w (a ++ b) → SameOn m w a
same_left m w a b same q l = same q (omega (arith, l, times-append q a b))

pub same_right : (m w : PageMap) (a b : List ℕ) → SameOn m w (a ++ b) → SameOn m w b
same_right m w a b same q l = same q (omega (arith, l, times-append q a b))

-- an access path: its pages, its index, and what it holds
pub path_pages_stay : (m w : PageMap) (a : AccessPath) → SameOn m w (path_pages m a) → path_pages w a ≡ path_pages m a
path_pages_stay m w (Quadtree t) same = (pmr_unmoved m w t (frame (store_of m) (store_of w) t.map same)).pages
path_pages_stay m w (Attribute x) same = (attributes.unmoved (store_of m) (store_of w) x same).pages

pub index_stays : (m w : PageMap) (a : AccessPath) → SameOn m w (path_pages m a) → index_in w a ≡ index_in m a
index_stays m w (Quadtree t) same = ap (λ (x : Tree). tree_index t.threshold x) (pmr_unmoved m w t (frame (store_of m) (store_of w) t.map same)).tree
index_stays m w (Attribute x) same = refl

pub path_stands : (m w : PageMap) (limits : Limits) (schema : List (List ℕ × Kind)) (rows : List (ℕ × List Value)) (column : ℕ) (a : AccessPath)
    → SameOn m w (path_pages m a) → PathStands m limits schema rows (column, a) → PathStands w limits schema rows (column, a)
path_stands m w limits schema rows column (Quadtree t) same h =
    let u = pmr_unmoved m w t (frame (store_of m) (store_of w) t.map same) in
    let shapes : List (ℕ × Shape) = shapes_of column rows in
    let P : Measure → Tree → Type 0 = λ gap x. Fits (meets_block gap shapes) (map (λ row. row.0) shapes) root_block x in
    let K : ℕ → Shape → List (ℕ × ℕ) → Type 0 = λ id s es. KeepsIn es id s in
    record {
      split = h.split;
      fits = record {
        tree = u.is h.fits.tree;
        fits = λ gap is. subst (P gap) (sym u.tree) (h.fits.fits gap is);
        roughs = λ id s e. subst (K id s) (sym u.entries) (h.fits.roughs id s e);
      };
      few = omega (arith, h.few, ap (λ (x : Tree). listings x) u.tree);
    }
path_stands m w limits schema rows column (Attribute x) same h =
    let u = attributes.unmoved (store_of m) (store_of w) x same in
    record {
      is = u.index h.is;
      ints = λ k. u.ints (h.ints k);
      entries = λ n. ap (λ (es : List Entry). times n (map entry_number es)) u.entries ∙ h.entries n;
    }

-- all access paths of a relation
pub paths_pages_stay : (m w : PageMap) (ps : List (ℕ × AccessPath)) → SameOn m w (paths_pages m ps) → paths_pages w ps ≡ paths_pages m ps
paths_pages_stay m w [] same = refl
paths_pages_stay m w (p ∷ ps) same =
    ap₂ (λ (a b : List ℕ). a ++ b) (path_pages_stay m w p.1 (same_left m w (path_pages m p.1) (paths_pages m ps) same))
    (paths_pages_stay m w ps (same_right m w (path_pages m p.1) (paths_pages m ps) same))

pub indexes_stay : (m w : PageMap) (ps : List (ℕ × AccessPath)) → SameOn m w (paths_pages m ps) → indexes_in w ps ≡ indexes_in m ps
indexes_stay m w [] same = refl
indexes_stay m w (p ∷ ps) same =
    ap₂ (λ (i : Index) (is : List (ℕ × Index)). (p.0, i) ∷ is) (index_stays m w p.1 (same_left m w (path_pages m p.1) (paths_pages m ps) same))
    (indexes_stay m w ps (same_right m w (path_pages m p.1) (paths_pages m ps) same))

pub paths_stand : (m w : PageMap) (limits : Limits) (schema : List (List ℕ × Kind)) (rows : List (ℕ × List Value)) (ps : List (ℕ × AccessPath))
    → SameOn m w (paths_pages m ps) → All (PathStands m limits schema rows) ps → All (PathStands w limits schema rows) ps
paths_stand m w limits schema rows [] same h = All-nil (PathStands w limits schema rows)
paths_stand m w limits schema rows (p ∷ ps) same h = All-cons (PathStands w limits schema rows) p ps
    (path_stands m w limits schema rows p.0 p.1 (same_left m w (path_pages m p.1) (paths_pages m ps) same) (All-head (PathStands m limits schema rows) p ps h))
    (paths_stand m w limits schema rows ps (same_right m w (path_pages m p.1) (paths_pages m ps) same) (All-tail (PathStands m limits schema rows) p ps h))

-- all R-trees of a relation
pub trees_pages_stay : (m w : PageMap) (ts : List (ℕ × RTree)) → SameOn m w (trees_pages m ts) → trees_pages w ts ≡ trees_pages m ts
trees_pages_stay m w [] same = refl
trees_pages_stay m w (t ∷ ts) same =
    ap₂ (λ (a b : List ℕ). a ++ b) (tree_pages_stay m w t.1 (same_left m w (rtree_pages (store_of m) t.1) (trees_pages m ts) same))
    (trees_pages_stay m w ts (same_right m w (rtree_pages (store_of m) t.1) (trees_pages m ts) same))

pub trees_stand : (m w : PageMap) (rows : List (ℕ × List Value)) (ts : List (ℕ × RTree)) → SameOn m w (trees_pages m ts) → All (TreeStands m rows) ts → All (TreeStands w rows) ts
trees_stand m w rows [] same h = All-nil (TreeStands w rows)
trees_stand m w rows (t ∷ ts) same h = All-cons (TreeStands w rows) t ts
    (lists_stay m w t.1 (shapes_of t.0 rows) (same_left m w (rtree_pages (store_of m) t.1) (trees_pages m ts) same) (All-head (TreeStands m rows) t ts h))
    (trees_stand m w rows ts (same_right m w (rtree_pages (store_of m) t.1) (trees_pages m ts) same) (All-tail (TreeStands m rows) t ts h))

-- the pages of a relation's file and access paths
abbrev pub table_pages : PageMap → RelationView → List ℕ
table_pages m r = file_pages (store_of m) r.file ++ paths_pages m r.paths

-- where all pages of a relation stay, those of its file, its access paths and its R-trees do
pub file_left : (m w : PageMap) (r : RelationView) → SameOn m w (relation_pages m r) → SameOn m w (file_pages (store_of m) r.file)
file_left m w r same = same_left m w (file_pages (store_of m) r.file) (paths_pages m r.paths) (same_right m w (trees_pages m r.trees) (table_pages m r) same)

pub paths_left : (m w : PageMap) (r : RelationView) → SameOn m w (relation_pages m r) → SameOn m w (paths_pages m r.paths)
paths_left m w r same = same_right m w (file_pages (store_of m) r.file) (paths_pages m r.paths) (same_right m w (trees_pages m r.trees) (table_pages m r) same)

pub trees_left : (m w : PageMap) (r : RelationView) → SameOn m w (relation_pages m r) → SameOn m w (trees_pages m r.trees)
trees_left m w r same = same_left m w (trees_pages m r.trees) (table_pages m r) same

-- a relation
pub rows_stay : (m w : PageMap) (r : RelationView) → SameOn m w (file_pages (store_of m) r.file) → rows_in w r ≡ rows_in m r
rows_stay m w r same = rows_same m w r.schema r.file same

pub relation_pages_stay : (m w : PageMap) (r : RelationView) → SameOn m w (relation_pages m r) → relation_pages w r ≡ relation_pages m r
relation_pages_stay m w r same =
    ap₂ (λ (c d : List ℕ). c ++ d) (trees_pages_stay m w r.trees (trees_left m w r same))
    (ap₂ (λ (a b : List ℕ). a ++ b) (houses.unmoved (store_of m) (store_of w) r.file (file_left m w r same)).pages (paths_pages_stay m w r.paths (paths_left m w r same)))

pub relation_stays : (m w : PageMap) (r : RelationView) → SameOn m w (relation_pages m r) → relation_in w r ≡ relation_in m r
relation_stays m w r same =
    ap₂ (λ (rows : List (ℕ × List Value)) (is : List (ℕ × Index)). record { name = r.name; schema = r.schema; rows = rows; next = r.next; indexes = is; rectangles = rectangles_of rows r.trees })
    (rows_stay m w r (file_left m w r same))
    (indexes_stay m w r.paths (paths_left m w r same))

pub relation_stands : (m w : PageMap) (limits : Limits) (r : RelationView) → SameOn m w (relation_pages m r) → RelationStands m limits r → RelationStands w limits r
relation_stands m w limits r same h =
    let here : SameOn m w (file_pages (store_of m) r.file) = file_left m w r same in
    let e : rows_in w r ≡ rows_in m r = rows_stay m w r here in
    let Short : List (ℕ × List Value) → Type 0 = λ rows. All (λ row. row_size row.1 ≤ longest_row) rows in
    let Given : List (ℕ × List Value) → Type 0 = λ rows. All (λ row. (1 ≤ row.0) × (row.0 < r.next)) rows in
    let Paths : List (ℕ × List Value) → Type 0 = λ rows. All (PathStands w limits r.schema rows) r.paths in
    let Trees : List (ℕ × List Value) → Type 0 = λ rows. All (TreeStands w rows) r.trees in
    record {
      table = table_same m w r.schema r.file here h.table;
      short = subst Short (sym e) h.short;
      given_out = subst Given (sym e) h.given_out;
      known = still_known (store_of m) (store_of w) r.file r.spans (houses.unmoved (store_of m) (store_of w) r.file here) h.known;
      paths = subst Paths (sym e) (paths_stand m w limits r.schema (rows_in m r) r.paths (paths_left m w r same) h.paths);
      trees = subst Trees (sym e) (trees_stand m w (rows_in m r) r.trees (trees_left m w r same) h.trees);
    }

-- all relations
pub catalog_pages_stay : (m w : PageMap) (rs : List RelationView) → SameOn m w (catalog_pages m rs) → catalog_pages w rs ≡ catalog_pages m rs
catalog_pages_stay m w [] same = refl
catalog_pages_stay m w (r ∷ rs) same =
    ap₂ (λ (a b : List ℕ). a ++ b) (relation_pages_stay m w r (same_left m w (relation_pages m r) (catalog_pages m rs) same))
    (catalog_pages_stay m w rs (same_right m w (relation_pages m r) (catalog_pages m rs) same))

pub database_stays : (m w : PageMap) (rs : List RelationView) → SameOn m w (catalog_pages m rs) → database_in w rs ≡ database_in m rs
database_stays m w [] same = refl
database_stays m w (r ∷ rs) same =
    ap₂ (λ (x : Relation) (xs : List Relation). x ∷ xs) (relation_stays m w r (same_left m w (relation_pages m r) (catalog_pages m rs) same))
    (database_stays m w rs (same_right m w (relation_pages m r) (catalog_pages m rs) same))

pub relations_stand : (m w : PageMap) (limits : Limits) (rs : List RelationView) → SameOn m w (catalog_pages m rs) → All (RelationStands m limits) rs → All (RelationStands w limits) rs
relations_stand m w limits [] same h = All-nil (RelationStands w limits)
relations_stand m w limits (r ∷ rs) same h = All-cons (RelationStands w limits) r rs
    (relation_stands m w limits r (same_left m w (relation_pages m r) (catalog_pages m rs) same) (All-head (RelationStands m limits) r rs h))
    (relations_stand m w limits rs (same_right m w (relation_pages m r) (catalog_pages m rs) same) (All-tail (RelationStands m limits) r rs h))
