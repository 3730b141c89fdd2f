-- A relation changes in its file and access paths first, as if it had no R-trees, and then in each R-tree.
use Rattle.std.proofs.Common.{◌≡◌, ℕ, ◌+◌, ◌≤◌, Bool, nat_eq, List, [], ◌∷◌, ◌++◌, map, filter, refl, sym, ◌∙◌, ap, ap₂, subst, Option, None, Some, arith, All}
use Rattle.std.specs.Prelude.{not}
use Rattle.std.proofs.lemmas.List.{map-append}
use Rattle.std.proofs.lemmas.List.Elements.{All-nil}
use Rattle.page_pool.specs.Disk.{PageMap}
use Rattle.code_btree.specs.Tree.{times, live}
use Rattle.code_btree.proofs.Lists.{times-append}
use Rattle.pmr_tree.specs.Quadtree.{store_of}
use Rattle.pmr_tree.proofs.Entries.{map_filter}
use Rattle.pmr_tree.proofs.OwnPages.{keeps_then}
use Rattle.r_tree.specs.declared.tree.RTree.{RTree}
use Rattle.sand_base.specs.declared.goal.Goal.{Goal}
use Rattle.sand_base.specs.declared.limits.Limits.{Limits}
use Rattle.sand_base.specs.declared.shape.Shape.{Shape}
use Rattle.sand_base.specs.declared.value.Value.{Value}
use Rattle.sand_model.specs.Database.{Relation, Rectangles, shape_in, shapes_of, rough_shapes, rectangles_with, rectangles_without}
use Rattle.sand_model.specs.Measure.{Measure, IsMeasure}
use Rattle.sand_model.specs.Roughs.{row_figure}
use Rattle.tuple_file.specs.Rows.{without_id}
use Rattle.sand_store.specs.Catalog.{RelationView}
use Rattle.sand_store.specs.Contents.{rows_in, rectangles_of, relation_in}
use Rattle.sand_store.specs.Ownership.{trees_pages, relation_pages}
use Rattle.sand_store.specs.Standing.{TreeStands, RelationStands}
use Rattle.sand_store.specs.Steps.{Became, SameColumns}
use Rattle.sand_store.specs.TableLaws.{SameOn}
use Rattle.sand_store.specs.Trees.{TreesCanChange, TreesChanged}
use Rattle.sand_store.proofs.Frames.{untouched, owns_after, keeps_with}
use Rattle.sand_store.proofs.RowLists.{Rows, Shapes}
use Rattle.sand_store.proofs.RowsLeft.{shapes_left}
use Rattle.sand_store.proofs.Stays.{table_pages, file_left, rows_stay, trees_pages_stay, trees_stand, relation_pages_stay, relation_stays, relation_stands}

-- the pages of a relation are live, each once
abbrev pub OwnsOf : PageMap → RelationView → Type 0
OwnsOf m r = (q : ℕ) → times q (relation_pages m r) ≤ live (store_of m) q

-- the relation without its R-trees
abbrev pub bare : RelationView → RelationView
bare r = record { name = r.name; schema = r.schema; next = r.next; file = r.file; spans = r.spans; paths = r.paths; trees = [] }

-- a relation of the model with these R-trees
abbrev pub treed_relation : Relation → List Rectangles → Relation
treed_relation r ts = record { name = r.name; schema = r.schema; rows = r.rows; next = r.next; indexes = r.indexes; rectangles = ts }

-- what holds of a relation holds of it without its R-trees
pub bare_stands : (m : PageMap) (limits : Limits) (r : RelationView) → RelationStands m limits r → RelationStands m limits (bare r)
bare_stands m limits r h = record {
  table = h.table;
  short = h.short;
  given_out = h.given_out;
  known = h.known;
  paths = h.paths;
  trees = All-nil (TreeStands m (rows_in m r));
}

pages_counted : (m : PageMap) (r : RelationView) (q : ℕ) → times q (relation_pages m r) ≡ times q (trees_pages m r.trees) + times q (table_pages m r)
pages_counted m r q = times-append q (trees_pages m r.trees) (table_pages m r)

pub bare_owns : (m : PageMap) (r : RelationView) → OwnsOf m r → OwnsOf m (bare r)
bare_owns m r owns q =
    let o : times q (relation_pages m r) ≤ live (store_of m) q = owns q in
    let n : times q (table_pages m r) ≤ live (store_of m) q = omega (arith, o, pages_counted m r q) in
    n

-- the R-trees share no page with the others
apart_of : (m : PageMap) (r : RelationView) → OwnsOf m r → (q : ℕ) → times q (relation_pages m (bare r)) + times q (trees_pages m r.trees) ≤ live (store_of m) q
apart_of m r owns q =
    let o : times q (relation_pages m r) ≤ live (store_of m) q = owns q in
    let n : times q (table_pages m r) + times q (trees_pages m r.trees) ≤ live (store_of m) q = omega (arith, o, pages_counted m r q) in
    n

-- so they stay while the others change
trees_same : (m v : PageMap) (limits : Limits) (r u : RelationView) (change : Measure → Relation → Relation) → OwnsOf m r → Became m v limits (bare r) (bare u) change
    → SameOn m v (trees_pages m r.trees)
trees_same m v limits r u change owns b =
    untouched (store_of m) (store_of v) (relation_pages m (bare r)) (relation_pages v (bare u)) (trees_pages m r.trees) b.keeps (apart_of m r owns)

-- and share no page with what those became
apart_then : (m v : PageMap) (limits : Limits) (r u : RelationView) (change : Measure → Relation → Relation) → OwnsOf m r → Became m v limits (bare r) (bare u) change
    → (q : ℕ) → times q (trees_pages v r.trees) + times q (relation_pages v (bare u)) ≤ live (store_of v) q
apart_then m v limits r u change owns b q =
    let a : times q (relation_pages v (bare u)) + times q (trees_pages m r.trees) ≤ live (store_of v) q =
    owns_after (store_of m) (store_of v) (relation_pages m (bare r)) (relation_pages v (bare u)) (trees_pages m r.trees) b.keeps (apart_of m r owns) q in
    omega (arith, a, ap (λ (ps : List ℕ). times q ps) (trees_pages_stay m v r.trees (trees_same m v limits r u change owns b)))

-- What the loop over the R-trees asks.
pub trees_can : (m v : PageMap) (limits : Limits) (r u : RelationView) (change : Measure → Relation → Relation) → RelationStands m limits r → OwnsOf m r
    → Became m v limits (bare r) (bare u) change → TreesCanChange v (rows_in m r) r.trees
trees_can m v limits r u change h owns b = record {
  stands = trees_stand m v (rows_in m r) r.trees (trees_same m v limits r u change owns b) h.trees;
  apart = λ q. (let a : times q (trees_pages v r.trees) + times q (relation_pages v (bare u)) ≤ live (store_of v) q = apart_then m v limits r u change owns b q in omega (arith, a));
}

-- A relation whose file and access paths changed, and then its R-trees.
pub with_trees : (m v x : PageMap) (limits : Limits) (r u : RelationView) (change : Measure → Relation → Relation) → RelationStands m limits r → OwnsOf m r
    → Became m v limits (bare r) (bare u) change → TreesChanged v x (rows_in v u) r.trees u.trees
    → ((gap : Measure) → IsMeasure gap → change gap (relation_in m r) ≡ treed_relation (change gap (relation_in m (bare r))) (rectangles_of (rows_in v u) u.trees))
    → Became m x limits r u change
with_trees m v x limits r u change h owns b t listed =
    let same : SameOn v x (relation_pages v (bare u)) =
    untouched (store_of v) (store_of x) (trees_pages v r.trees) (trees_pages x u.trees) (relation_pages v (bare u)) t.keeps (apart_then m v limits r u change owns b) in
    let s : RelationStands x limits (bare u) = relation_stands v x limits (bare u) same b.stands in
    let e : rows_in x u ≡ rows_in v u = rows_stay v x (bare u) (file_left v x (bare u) same) in
    let T : Rows → Type 0 = λ rows. All (TreeStands x rows) u.trees in
    let pages_trees : trees_pages v r.trees ≡ trees_pages m r.trees = trees_pages_stay m v r.trees (trees_same m v limits r u change owns b) in
    let pages_table : table_pages x u ≡ table_pages v u = relation_pages_stay v x (bare u) same in
    let mid : List ℕ = trees_pages m r.trees ++ table_pages v u in
    record {
      stands = record { table = s.table; short = s.short; given_out = s.given_out; known = s.known; paths = s.paths; trees = subst T (sym e) t.stands };
      means = λ gap is.
          ap₂ (λ (a : Relation) (rows : Rows). treed_relation a (rectangles_of rows u.trees)) (relation_stays v x (bare u) same ∙ b.means gap is) e
          ∙ sym (listed gap is);
      keeps = keeps_then (store_of m) (store_of v) (store_of x) (relation_pages m r) mid (relation_pages x u)
          (keeps_with (store_of m) (store_of v) (table_pages m r) (table_pages v u) (trees_pages m r.trees) (relation_pages m r) mid b.keeps
          (λ q. omega (arith, pages_counted m r q)) (λ q. omega (arith, times-append q (trees_pages m r.trees) (table_pages v u))))
          (keeps_with (store_of v) (store_of x) (trees_pages v r.trees) (trees_pages x u.trees) (table_pages v u) mid (relation_pages x u) t.keeps
          (λ q. omega (arith, times-append q (trees_pages m r.trees) (table_pages v u), ap (λ (ps : List ℕ). times q ps) pages_trees))
          (λ q. omega (arith, pages_counted x u q, ap (λ (ps : List ℕ). times q ps) pages_table)));
    }

-- what R-trees of these columns list
abbrev listed_in : Rows → List ℕ → List Rectangles
listed_in rows columns = map (λ (c : ℕ). (c, rough_shapes c rows)) columns

abbrev columns_of : List (ℕ × RTree) → List ℕ
columns_of trees = map (λ (t : ℕ × RTree). t.0) trees

listed_is : (rows : Rows) (trees : List (ℕ × RTree)) → rectangles_of rows trees ≡ listed_in rows (columns_of trees)
listed_is rows [] = refl
listed_is rows (t ∷ trees) = ap (λ (ts : List Rectangles). (t.0, rough_shapes t.0 rows) ∷ ts) (listed_is rows trees)

-- the shapes of rows in two parts
shapes_append : (column : ℕ) (rows more : Rows) → shapes_of column (rows ++ more) ≡ shapes_of column rows ++ shapes_of column more
shapes_append column [] more = refl
shapes_append column (r ∷ rows) more =
    let rest : shapes_of column (rows ++ more) ≡ shapes_of column rows ++ shapes_of column more = shapes_append column rows more in
    let go : (o : Option Shape) → shape_in column r.1 ≡ o → shapes_of column ((r ∷ rows) ++ more) ≡ shapes_of column (r ∷ rows) ++ shapes_of column more =
    elim [ None ↦ λ n. rw n rest | Some x ↦ λ n. rw n (ap (λ (xs : Shapes). (r.0, x) ∷ xs) rest) ] in
    go (shape_in column r.1) refl

-- what an R-tree lists with one row more
rough_more : (column : ℕ) (rows : Rows) (id : ℕ) (row : List Value) → rough_shapes column rows ++ rough_shapes column ((id, row) ∷ []) ≡ rough_shapes column (rows ++ (id, row) ∷ [])
rough_more column rows id row =
    sym (ap (λ (xs : Shapes). map row_figure xs) (shapes_append column rows ((id, row) ∷ [])) ∙ map-append row_figure (shapes_of column rows) (shapes_of column ((id, row) ∷ [])))

-- and without a row
rough_left : (column : ℕ) (rows : Rows) (id : ℕ) → filter (λ (listed : ℕ × Goal). not (nat_eq listed.0 id)) (rough_shapes column rows) ≡ rough_shapes column (without_id id rows)
rough_left column rows id =
    let p : ℕ × Goal → Bool = λ x. not (nat_eq x.0 id) in
    sym (ap (λ (xs : Shapes). map row_figure xs) (shapes_left column id rows) ∙ map_filter row_figure p (shapes_of column rows))

grown_listed : (id : ℕ) (row : List Value) (rows : Rows) (columns : List ℕ) → map (rectangles_with id row) (listed_in rows columns) ≡ listed_in (rows ++ (id, row) ∷ []) columns
grown_listed id row rows [] = refl
grown_listed id row rows (c ∷ columns) =
    ap₂ (λ (l : List (ℕ × Goal)) (ts : List Rectangles). (c, l) ∷ ts) (rough_more c rows id row) (grown_listed id row rows columns)

left_listed : (id : ℕ) (rows : Rows) (columns : List ℕ) → map (rectangles_without id) (listed_in rows columns) ≡ listed_in (without_id id rows) columns
left_listed id rows [] = refl
left_listed id rows (c ∷ columns) =
    ap₂ (λ (l : List (ℕ × Goal)) (ts : List Rectangles). (c, l) ∷ ts) (rough_left c rows id) (left_listed id rows columns)

-- The R-trees of the model get the row that those of the catalog got.
pub rectangles_grown : (id : ℕ) (row : List Value) (rows : Rows) (before after : List (ℕ × RTree)) → SameColumns before after
    → map (rectangles_with id row) (rectangles_of rows before) ≡ rectangles_of (rows ++ (id, row) ∷ []) after
rectangles_grown id row rows before after same =
    ap (λ (ts : List Rectangles). map (rectangles_with id row) ts) (listed_is rows before)
    ∙ (grown_listed id row rows (columns_of before)
    ∙ (ap (λ (cs : List ℕ). listed_in (rows ++ (id, row) ∷ []) cs) (sym same) ∙ sym (listed_is (rows ++ (id, row) ∷ []) after)))

-- And lose the one that those lost.
pub rectangles_left : (id : ℕ) (rows : Rows) (before after : List (ℕ × RTree)) → SameColumns before after
    → map (rectangles_without id) (rectangles_of rows before) ≡ rectangles_of (without_id id rows) after
rectangles_left id rows before after same =
    ap (λ (ts : List Rectangles). map (rectangles_without id) ts) (listed_is rows before)
    ∙ (left_listed id rows (columns_of before)
    ∙ (ap (λ (cs : List ℕ). listed_in (without_id id rows) cs) (sym same) ∙ sym (listed_is (without_id id rows) after)))
