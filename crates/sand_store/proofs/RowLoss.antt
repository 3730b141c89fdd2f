-- A relation loses a row: its file first, then each access path, then each R-tree.
use Rattle.std.proofs.Common.{◌≡◌, ℕ, ◌+◌, ◌^◌, ◌<◌, ◌≤◌, Bool, nat_eq, List, [], ◌++◌, map, refl, sym, ◌∙◌, ap, ap₂, subst, inr, arith, All}
use Rattle.std.specs.Prelude.{not}
use Rattle.std.proofs.lemmas.List.Elements.{All-nil, All-filter, All-weaker}
use Rattle.page_pool.specs.Disk.{PageMap}
use Rattle.code_btree.specs.Tree.{times, live}
use Rattle.code_btree.proofs.Lists.{times-append}
use Rattle.pmr_tree.specs.Quadtree.{store_of}
use Rattle.pmr_tree.proofs.Entries.{map_filter}
use Rattle.pmr_tree.proofs.OwnPages.{keeps_then}
use Rattle.sand_base.specs.declared.limits.Limits.{Limits}
use Rattle.sand_base.specs.declared.value.Value.{Value}
use Rattle.r_tree.specs.declared.tree.RTree.{RTree}
use Rattle.sand_model.specs.Database.{Index, Rectangles, index_without, without_row}
use Rattle.sand_model.specs.Kept.{longest_row}
use Rattle.sand_model.specs.RowSize.{row_size}
use Rattle.sand_base.specs.declared.kind.Kind.{Kind}
use Rattle.tuple_codec.specs.Decoding.{IsRowFor}
use Rattle.tuple_file.specs.declared.file.TupleFile.{TupleFile}
use Rattle.tuple_file.specs.Calls.{TupleTaken}
use Rattle.tuple_file.specs.File.{tuples_of, file_pages}
use Rattle.tuple_file.specs.Rows.{without_id}
use Rattle.tuple_file.specs.Table.{encodings}
use Rattle.tuple_file.proofs.Houses as houses
use Rattle.tuple_file.proofs.Leads.{still_known, lost_known}
use Rattle.tuple_file.specs.Spans.{Forgot}
use Rattle.tuple_file.proofs.Tables.{encodings-without}
use Rattle.sand_store.specs.declared.path.AccessPath.{AccessPath}
use Rattle.sand_store.specs.Catalog.{RelationView, IsPathOf}
use Rattle.sand_store.specs.declared.trees.RowChange.TheVariants.{Leaves}
use Rattle.sand_store.specs.Contents.{rows_at, rows_in, rectangles_of, relation_in}
use Rattle.sand_store.specs.Ownership.{paths_pages, relation_pages}
use Rattle.sand_store.specs.Standing.{PathStands, TreeStands, TableStands}
use Rattle.sand_store.specs.Steps.{Became, SamePlaces, SameColumns}
use Rattle.sand_store.specs.Trees.{CanChange, rows_after, TreesCanChange, TreesChanged}
use Rattle.sand_store.specs.Leaving.{Holding, HoldsRow, losing, AllCanLose, AllChanged, RelationCanLose, Shrank, shrunk_view}
use Rattle.sand_store.specs.TableLaws.{SameOn, rows_same, table_same}
use Rattle.sand_store.specs.Tuples.{row_in}
use Rattle.sand_store.proofs.Databases.{rises_at}
use Rattle.sand_store.proofs.Frames.{untouched, keeps_with}
use Rattle.sand_store.proofs.RowLists.{Rows}
use Rattle.sand_store.proofs.RelationTrees.{bare, bare_stands, bare_owns, treed_relation, trees_can, with_trees, rectangles_left}
use Rattle.sand_store.proofs.Stays.{table_pages, paths_pages_stay, indexes_stay, paths_stand}

-- the rows without the one that was taken
rows_taken : (m w : PageMap) (r : RelationView) (g : TupleFile) (id : ℕ) (was : Bool) → TupleTaken (store_of m) (store_of w) r.file g id was → rows_at w r.schema g ≡ without_id id (rows_in m r)
rows_taken m w r g id was t =
    let f : ℕ × List ℕ → ℕ × List Value = λ x. (x.0, row_in r.schema x.1) in
    ap (λ (ts : List (ℕ × List ℕ)). map f ts) t.rows ∙ map_filter f (λ (x : ℕ × List Value). not (nat_eq x.0 id)) (tuples_of (store_of m) r.file)

-- the file holds them
table_taken : (m w : PageMap) (limits : Limits) (r : RelationView) (g : TupleFile) (id : ℕ) (row : List Value) (was : Bool) → RelationCanLose m limits (bare r) id row
    → TupleTaken (store_of m) (store_of w) r.file g id was → TableStands w r.schema g
table_taken m w limits r g id row was h t =
    let e : rows_at w r.schema g ≡ without_id id (rows_in m r) = rows_taken m w r g id was t in
    let P : Rows → Type 0 = λ rows. All (λ (x : ℕ × List Value). IsRowFor r.schema x.1) rows in
    record {
      file = t.file;
      tuples = t.rows ∙ (ap (λ (ts : List (ℕ × List ℕ)). without_id id ts) h.stands.table.tuples
          ∙ (sym (encodings-without id (rows_in m r)) ∙ ap (λ (rows : Rows). encodings rows) (sym e)));
      rows = subst P (sym e) (All-filter (λ (x : ℕ × List Value). not (nat_eq x.0 id)) (λ (x : ℕ × List Value). IsRowFor r.schema x.1) (rows_in m r) h.stands.table.rows);
    }

-- what the access paths of a relation hold
abbrev pub held_by : PageMap → Limits → RelationView → Holding
held_by m limits r = record { limits = limits; schema = r.schema; rows = rows_in m r }

has_row : (m : PageMap) (limits : Limits) (r : RelationView) (id : ℕ) (row : List Value) → RelationCanLose m limits (bare r) id row → HoldsRow (held_by m limits r) id row
has_row m limits r id row h = record {
  rows = h.stands.table.rows;
  rise = rises_at m r.schema r.file h.stands.table.file;
  small = All-weaker (λ (x : ℕ × List Value). (1 ≤ x.0) × (x.0 < r.next)) (λ (x : ℕ × List Value). (1 ≤ x.0) × (x.0 < 2 ^ 32))
      (λ x b. (b.0, omega (arith, b.1, h.small))) (rows_in m r) h.stands.given_out;
  there = h.there;
}

-- the access paths stay while the tuple is taken
paths_same : (m w : PageMap) (limits : Limits) (r : RelationView) (g : TupleFile) (id : ℕ) (row : List Value) (was : Bool) → RelationCanLose m limits (bare r) id row
    → TupleTaken (store_of m) (store_of w) r.file g id was → SameOn m w (paths_pages m r.paths)
paths_same m w limits r g id row was h t =
    untouched (store_of m) (store_of w) (file_pages (store_of m) r.file) (file_pages (store_of w) g) (paths_pages m r.paths) t.keeps
    (λ q. (let o : times q (table_pages m r) ≤ live (store_of m) q = h.owns q in omega (arith, o, times-append q (file_pages (store_of m) r.file) (paths_pages m r.paths))))

-- and share no page with the file
apart_taken : (m w : PageMap) (limits : Limits) (r : RelationView) (g : TupleFile) (id : ℕ) (row : List Value) (was : Bool) → RelationCanLose m limits (bare r) id row
    → TupleTaken (store_of m) (store_of w) r.file g id was → (q : ℕ) → times q (paths_pages w r.paths) + times q (file_pages (store_of w) g) ≤ live (store_of w) q
apart_taken m w limits r g id row was h t q =
    let same : SameOn m w (paths_pages m r.paths) = paths_same m w limits r g id row was h t in
    let o : times q (table_pages m r) ≤ live (store_of m) q = h.owns q in
    omega (arith, o, times-append q (file_pages (store_of m) r.file) (paths_pages m r.paths), ap (λ (ps : List ℕ). times q ps) (paths_pages_stay m w r.paths same), t.keeps.moved q)

-- after it they can lose the row
can_lose : (m w : PageMap) (limits : Limits) (r : RelationView) (g : TupleFile) (id : ℕ) (row : List Value) (was : Bool) → RelationCanLose m limits (bare r) id row
    → TupleTaken (store_of m) (store_of w) r.file g id was → AllCanLose w (held_by m limits r) id row r.paths
can_lose m w limits r g id row was h t = record {
  has = has_row m limits r id row h;
  stands = paths_stand m w limits r.schema (rows_in m r) r.paths (paths_same m w limits r g id row was h t) h.stands.paths;
  apart = λ q. (let a : times q (paths_pages w r.paths) + times q (file_pages (store_of w) g) ≤ live (store_of w) q = apart_taken m w limits r g id row was h t q in omega (arith, a));
}

-- A relation lost a row.
row_lost : (m w v : PageMap) (limits : Limits) (r : RelationView) (g : TupleFile) (id : ℕ) (row : List Value) (was : Bool) (after : List (ℕ × AccessPath)) → RelationCanLose m limits (bare r) id row
    → TupleTaken (store_of m) (store_of w) r.file g id was → AllChanged w v (losing (held_by m limits r) id) r.paths after
    → (spans : List ℕ) → Forgot r.spans id spans → Became m v limits (bare r) (shrunk_view (bare r) spans g after []) (λ gap. without_row id)
row_lost m w v limits r g id row was after h t a spans forgot =
    let file : SameOn w v (file_pages (store_of w) g) =
    untouched (store_of w) (store_of v) (paths_pages w r.paths) (paths_pages v after) (file_pages (store_of w) g) a.keeps (apart_taken m w limits r g id row was h t) in
    let paths : SameOn m w (paths_pages m r.paths) = paths_same m w limits r g id row was h t in
    let f : rows_at v r.schema g ≡ without_id id (rows_in m r) = rows_same w v r.schema g file ∙ rows_taken m w r g id was t in
    let pages_file : file_pages (store_of v) g ≡ file_pages (store_of w) g = (houses.unmoved (store_of w) (store_of v) g file).pages in
    let pages_paths : paths_pages w r.paths ≡ paths_pages m r.paths = paths_pages_stay m w r.paths paths in
    let mid : List ℕ = file_pages (store_of w) g ++ paths_pages m r.paths in
    let Short : Rows → Type 0 = λ rows. All (λ (x : ℕ × List Value). row_size x.1 ≤ longest_row) rows in
    let Given : Rows → Type 0 = λ rows. All (λ (x : ℕ × List Value). (1 ≤ x.0) × (x.0 < r.next)) rows in
    let Stand : Rows → Type 0 = λ rows. All (PathStands v limits r.schema rows) after in
    let other : ℕ × List Value → Bool = λ x. not (nat_eq x.0 id) in
    record {
      stands = record {
        table = table_same w v r.schema g file (table_taken m w limits r g id row was h t);
        short = subst Short (sym f) (All-filter other (λ (x : ℕ × List Value). row_size x.1 ≤ longest_row) (rows_in m r) h.stands.short);
        given_out = subst Given (sym f) (All-filter other (λ (x : ℕ × List Value). (1 ≤ x.0) × (x.0 < r.next)) (rows_in m r) h.stands.given_out);
        known = still_known (store_of w) (store_of v) g spans (houses.unmoved (store_of w) (store_of v) g file)
            (lost_known (store_of m) (store_of w) r.file g id was r.spans spans t h.stands.known forgot);
        paths = subst Stand (sym f) a.stands;
        trees = All-nil (TreeStands v (rows_at v r.schema g));
      };
      means = λ gap is. ap₂ (λ (rows : Rows) (indexes : List (ℕ × Index)). record { name = r.name; schema = r.schema; rows = rows; next = r.next; indexes = indexes; rectangles = [] }) f
          (a.means gap is ∙ ap (λ (xs : List (ℕ × Index)). map (index_without id) xs) (indexes_stay m w r.paths paths));
      keeps = keeps_then (store_of m) (store_of w) (store_of v) (relation_pages m (bare r)) mid (relation_pages v (shrunk_view (bare r) spans g after []))
          (keeps_with (store_of m) (store_of w) (file_pages (store_of m) r.file) (file_pages (store_of w) g) (paths_pages m r.paths) (relation_pages m (bare r)) mid t.keeps
          (λ q. times-append q (file_pages (store_of m) r.file) (paths_pages m r.paths)) (λ q. times-append q (file_pages (store_of w) g) (paths_pages m r.paths)))
          (keeps_with (store_of w) (store_of v) (paths_pages w r.paths) (paths_pages v after) (file_pages (store_of w) g) mid (relation_pages v (shrunk_view (bare r) spans g after [])) a.keeps
          (λ q. omega (arith, times-append q (file_pages (store_of w) g) (paths_pages m r.paths), ap (λ (ps : List ℕ). times q ps) pages_paths))
          (λ q. omega (arith, times-append q (file_pages (store_of v) g) (paths_pages v after), ap (λ (ps : List ℕ). times q ps) pages_file)));
    }

-- it can lose a row without its R-trees too
bare_can : (m : PageMap) (limits : Limits) (r : RelationView) (id : ℕ) (row : List Value) → RelationCanLose m limits r id row → RelationCanLose m limits (bare r) id row
bare_can m limits r id row h = record { stands = bare_stands m limits r h.stands; owns = bare_owns m r h.owns; small = h.small; there = h.there }

-- the rows without it, once the access paths have lost it
rows_lost : (m w v : PageMap) (limits : Limits) (r : RelationView) (g : TupleFile) (id : ℕ) (row : List Value) (was : Bool) (after : List (ℕ × AccessPath)) → RelationCanLose m limits (bare r) id row
    → TupleTaken (store_of m) (store_of w) r.file g id was → AllChanged w v (losing (held_by m limits r) id) r.paths after → rows_at v r.schema g ≡ without_id id (rows_in m r)
rows_lost m w v limits r g id row was after h t a =
    let file : SameOn w v (file_pages (store_of w) g) =
    untouched (store_of w) (store_of v) (paths_pages w r.paths) (paths_pages v after) (file_pages (store_of w) g) a.keeps (apart_taken m w limits r g id row was h t) in
    rows_same w v r.schema g file ∙ rows_taken m w r g id was t

-- What the loop over the R-trees asks then.
lost_asks : (m w v : PageMap) (limits : Limits) (r : RelationView) (g : TupleFile) (id : ℕ) (row : List Value) (was : Bool) (after : List (ℕ × AccessPath)) → RelationCanLose m limits r id row
    → TupleTaken (store_of m) (store_of w) r.file g id was → AllChanged w v (losing (held_by m limits r) id) r.paths after
    → TreesCanChange v (rows_in m r) r.trees × CanChange Leaves id row (rows_in m r)
lost_asks m w v limits r g id row was after h t a = (
  trees_can m v limits r (shrunk_view r [] g after []) (λ gap. without_row id) h.stands h.owns
      (row_lost m w v limits r g id row was after (bare_can m limits r id row h) t a [] (inr refl)),
  h.there,
)

-- A relation lost a row, its R-trees too.
row_shrank : (m w v z : PageMap) (limits : Limits) (r : RelationView) (g : TupleFile) (id : ℕ) (row : List Value) (was : Bool) (after : List (ℕ × AccessPath)) (trees : List (ℕ × RTree))
    → RelationCanLose m limits r id row → TupleTaken (store_of m) (store_of w) r.file g id was → AllChanged w v (losing (held_by m limits r) id) r.paths after
    → TreesChanged v z (rows_after Leaves id row (rows_in m r)) r.trees trees → SameColumns r.trees trees → Shrank m z limits r id g after trees
row_shrank m w v z limits r g id row was after trees h t a changed columns = record {
  became = λ spans forgot.
      let u : RelationView = shrunk_view r spans g after trees in
      let e : rows_at v r.schema g ≡ without_id id (rows_in m r) = rows_lost m w v limits r g id row was after (bare_can m limits r id row h) t a in
      let T : Rows → Type 0 = λ rows. TreesChanged v z rows r.trees trees in
      with_trees m v z limits r u (λ gap. without_row id) h.stands h.owns
      (row_lost m w v limits r g id row was after (bare_can m limits r id row h) t a spans forgot) (subst T (sym e) changed)
      (λ gap is. ap (λ (ts : List Rectangles). treed_relation (without_row id (relation_in m (bare r))) ts)
      (rectangles_left id (rows_in m r) r.trees trees columns ∙ ap (λ (rows : Rows). rectangles_of rows trees) (sym e)));
}

-- The same of a relation x that is r, as code sees its parts. What the loop over the access paths asks.
pub loss_asks : (m w : PageMap) (limits : Limits) (x r : RelationView) (g : TupleFile) (id : ℕ) (row : List Value) (was : Bool) (paths : List (ℕ × AccessPath)) → x ≡ r → paths ≡ x.paths
    → RelationCanLose m limits r id row → TupleTaken (store_of m) (store_of w) x.file g id was → AllCanLose w (held_by m limits x) id row paths
loss_asks m w limits x r g id row was paths e ps h t =
    let A : List (ℕ × AccessPath) → Type 0 = λ xs. AllCanLose w (held_by m limits x) id row xs in
    let H : RelationView → Type 0 = λ y. RelationCanLose m limits y id row in
    subst A (sym ps) (can_lose m w limits x g id row was (bare_can m limits x id row (subst H (sym e) h)) t)

-- What it gives.
paths_lost : (m w v : PageMap) (limits : Limits) (x r : RelationView) (g : TupleFile) (id : ℕ) (row : List Value) (was : Bool) (paths after : List (ℕ × AccessPath)) → x ≡ r → paths ≡ x.paths
    → RelationCanLose m limits r id row → TupleTaken (store_of m) (store_of w) x.file g id was
    → ((held : Holding) → AllCanLose w held id row paths → AllChanged w v (losing held id) paths after) → AllChanged w v (losing (held_by m limits x) id) x.paths after
paths_lost m w v limits x r g id row was paths after e ps h t lost =
    let A : List (ℕ × AccessPath) → Type 0 = λ xs. AllChanged w v (losing (held_by m limits x) id) xs after in
    subst A ps (lost (held_by m limits x) (loss_asks m w limits x r g id row was paths e ps h t))

-- What the loop over the R-trees asks, and what both give.
pub loss_tree_asks : (m w v : PageMap) (limits : Limits) (x r : RelationView) (g : TupleFile) (id : ℕ) (row : List Value) (was : Bool) (paths after : List (ℕ × AccessPath)) (trees : List (ℕ × RTree))
    → x ≡ r → paths ≡ x.paths → trees ≡ x.trees → RelationCanLose m limits r id row → TupleTaken (store_of m) (store_of w) x.file g id was
    → ((held : Holding) → AllCanLose w held id row paths → AllChanged w v (losing held id) paths after) → TreesCanChange v (rows_in m x) trees × CanChange Leaves id row (rows_in m x)
loss_tree_asks m w v limits x r g id row was paths after trees e ps ts h t lost =
    let H : RelationView → Type 0 = λ y. RelationCanLose m limits y id row in
    let T : List (ℕ × RTree) → Type 0 = λ xs. TreesCanChange v (rows_in m x) xs × CanChange Leaves id row (rows_in m x) in
    subst T (sym ts) (lost_asks m w v limits x g id row was after (subst H (sym e) h) t (paths_lost m w v limits x r g id row was paths after e ps h t lost))

pub loss_got : (m w v z : PageMap) (limits : Limits) (x r : RelationView) (g : TupleFile) (id : ℕ) (row : List Value) (was : Bool) (paths after : List (ℕ × AccessPath)) (trees now : List (ℕ × RTree))
    → x ≡ r → paths ≡ x.paths → trees ≡ x.trees → RelationCanLose m limits r id row → TupleTaken (store_of m) (store_of w) x.file g id was
    → ((held : Holding) → AllCanLose w held id row paths → AllChanged w v (losing held id) paths after)
    → ((rows : Rows) → TreesCanChange v rows trees → CanChange Leaves id row rows → TreesChanged v z (rows_after Leaves id row rows) trees now) → SameColumns trees now
    → Shrank m z limits r id g after now
loss_got m w v z limits x r g id row was paths after trees now e ps ts h t lost changed columns =
    let H : RelationView → Type 0 = λ y. RelationCanLose m limits y id row in
    let B : RelationView → Type 0 = λ y. Shrank m z limits y id g after now in
    let C : List (ℕ × RTree) → Type 0 = λ xs. SameColumns xs now in
    let T : List (ℕ × RTree) → Type 0 = λ xs. TreesChanged v z (rows_after Leaves id row (rows_in m x)) xs now in
    let can = loss_tree_asks m w v limits x r g id row was paths after trees e ps ts h t lost in
    subst B e (row_shrank m w v z limits x g id row was after now (subst H (sym e) h) t (paths_lost m w v limits x r g id row was paths after e ps h t lost)
    (subst T ts (changed (rows_in m x) can.0 can.1)) (subst C ts columns))

-- Its access paths are of the same columns.
pub loss_places : (x r : RelationView) (paths after : List (ℕ × AccessPath)) → x ≡ r → paths ≡ x.paths
    → ((schema : List (List ℕ × Kind)) → All (IsPathOf schema) paths → SamePlaces schema paths after) → All (IsPathOf r.schema) r.paths → SamePlaces r.schema r.paths after
loss_places x r paths after e ps same of =
    let P : List (ℕ × AccessPath) → Type 0 = λ xs. All (IsPathOf r.schema) xs → SamePlaces r.schema xs after in
    subst P (ps ∙ ap (λ (y : RelationView). y.paths) e) (same r.schema) of

-- And so are its R-trees.
pub loss_columns : (x r : RelationView) (trees now : List (ℕ × RTree)) → x ≡ r → trees ≡ x.trees → SameColumns trees now → SameColumns r.trees now
loss_columns x r trees now e ts same =
    let P : List (ℕ × RTree) → Type 0 = λ xs. SameColumns xs now in
    subst P (ts ∙ ap (λ (y : RelationView). y.trees) e) same

-- What a command came to, told by the pages before it began and after it ended.
pub loss_committed : (m b w n : PageMap) (bounds : Limits) (r : RelationView) (id : ℕ) (row : List Value) (file : TupleFile) (paths : List (ℕ × AccessPath)) (trees : List (ℕ × RTree)) → b ≡ m → n ≡ w
    → ((limits : Limits) → RelationCanLose b limits r id row → Shrank b w limits r id file paths trees) → RelationCanLose m bounds r id row
    → Shrank m n bounds r id file paths trees
loss_committed m b w n bounds r id row file paths trees begun ended shrank can =
    let C : PageMap → Type 0 = λ x. RelationCanLose x bounds r id row in
    let B : PageMap → Type 0 = λ x. Shrank x w bounds r id file paths trees in
    let E : PageMap → Type 0 = λ x. Shrank m x bounds r id file paths trees in
    subst E (sym ended) (subst B begun (shrank bounds (subst C (sym begun) can)))
