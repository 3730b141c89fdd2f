-- A relation gets a row: its file first, then each access path, then each R-tree.
use Rattle.std.proofs.Common.{◌≡◌, ℕ, ◌+◌, ◌<◌, ◌≤◌, List, [], ◌∷◌, ◌++◌, length, map, refl, sym, ◌∙◌, ap, ap₂, subst, arith, All, inl, inr}
use Rattle.std.proofs.lemmas.List.{map-append, length-append}
use Rattle.sand_base.specs.InRange.{IsRowOf}
use Rattle.sand_base.specs.declared.shape.Shape.TheVariants as shape
use Rattle.sand_base.specs.declared.value.Value.TheVariants as value
use Rattle.tuple_codec.proofs.Numbers.{length-coordinate_bytes, length-int_bytes}
use Rattle.std.proofs.lemmas.List.Elements.{All-nil, All-push, All-weaker, All-map, All-head, All-tail}
use Rattle.std.proofs.lemmas.Bool.Decides.{eqb_tells}
use Rattle.std.specs.Prelude.{None, Some, Bool, true}
use Rattle.std.specs.List.{list_any}
use Rattle.sand_base.specs.declared.refusal.Refusal.TheVariants as why
use Rattle.sand_model.specs.StatementChecks.{is_overfull, check_listings, refused_where}
use Rattle.page_pool.specs.Disk.{PageMap}
use Rattle.code_btree.specs.Tree.{times, live}
use Rattle.code_btree.proofs.Lists.{times-append}
use Rattle.pmr_tree.specs.Quadtree.{store_of}
use Rattle.pmr_tree.proofs.OwnPages.{keeps_then}
use Rattle.sand_base.specs.declared.kind.Kind.{Kind}
use Rattle.sand_base.specs.declared.limits.Limits.{Limits}
use Rattle.sand_base.specs.declared.value.Value.{Value}
use Rattle.r_tree.specs.declared.tree.RTree.{RTree}
use Rattle.sand_model.specs.Database.{Index, Rectangles, index_with, with_row}
use Rattle.sand_model.specs.Kept.{longest_row}
use Rattle.sand_model.specs.Measure.{Measure}
use Rattle.sand_model.specs.RowSize.{row_size}
use Rattle.tuple_codec.specs.Encoding.{coordinate_bytes, point_bytes, value_bytes, encoding}
use Rattle.tuple_codec.specs.Decoding.{IsRowFor}
use Rattle.tuple_file.specs.declared.file.TupleFile.{TupleFile}
use Rattle.tuple_file.specs.File.{tuples_of, file_pages}
use Rattle.tuple_file.specs.Calls.{Put}
use Rattle.tuple_file.specs.Table.{encodings}
use Rattle.tuple_file.proofs.Tables.{greatest_last}
use Rattle.tuple_file.specs.Rows.{of_id}
use Rattle.tuple_file.proofs.Houses as houses
use Rattle.tuple_file.proofs.Leads.{put_known, still_known}
use Rattle.tuple_file.specs.declared.span.Span.{Span}
use Rattle.tuple_file.specs.Spans.{Lies, Learnt}
use Rattle.sand_store.specs.declared.path.AccessPath.{AccessPath}
use Rattle.sand_store.specs.Catalog.{RelationView}
use Rattle.sand_store.specs.declared.trees.RowChange.TheVariants.{Enters}
use Rattle.sand_store.specs.Contents.{rows_at, rows_in, indexes_in, rectangles_of, relation_in}
use Rattle.sand_store.specs.Ownership.{paths_pages, relation_pages}
use Rattle.sand_store.specs.Standing.{PathStands, TreeStands, TableStands, RelationStands}
use Rattle.sand_store.specs.Steps.{AllCanGrow, AllGrew, Became, Grew, SameColumns, grown_view}
use Rattle.sand_store.specs.Trees.{CanChange, rows_after, TreesCanChange, TreesChanged}
use Rattle.sand_store.specs.TableLaws.{SameOn, rows_same, table_same}
use Rattle.sand_store.specs.Tuples.{row_in}
use Rattle.sand_store.proofs.Databases.{rises_at}
use Rattle.sand_store.proofs.Decodes.{row_back}
use Rattle.sand_store.proofs.Frames.{untouched, keeps_with}
use Rattle.sand_store.proofs.RowLists.{Rows}
use Rattle.sand_store.proofs.RelationTrees.{OwnsOf, bare, bare_stands, bare_owns, treed_relation, trees_can, with_trees, rectangles_grown}
use Rattle.sand_store.proofs.Stays.{table_pages, paths_pages_stay, indexes_stay, paths_stand}

-- the ids of a file are below the next one
below_next : (m : PageMap) (limits : Limits) (r : RelationView) → RelationStands m limits (bare r) → All (λ t. t.0 < r.next) (tuples_of (store_of m) r.file)
below_next m limits r h =
    let P : List (ℕ × List ℕ) → Type 0 = λ ts. All (λ t. t.0 < r.next) ts in
    subst P (sym h.table.tuples) (All-map (λ (t : ℕ × List ℕ). t.0 < r.next) (λ (x : ℕ × List Value). (x.0, encoding x.1)) (rows_in m r)
    (All-weaker (λ (x : ℕ × List Value). (1 ≤ x.0) × (x.0 < r.next)) (λ (x : ℕ × List Value). x.0 < r.next) (λ x b. b.1) (rows_in m r) h.given_out))

-- the tuples with the new one
tuples_put : (m w : PageMap) (limits : Limits) (r : RelationView) (g : TupleFile) (bytes : List ℕ) → RelationStands m limits (bare r)
    → Put (store_of m) (store_of w) r.file g r.next bytes → tuples_of (store_of w) g ≡ tuples_of (store_of m) r.file ++ (r.next, bytes) ∷ []
tuples_put m w limits r g bytes h p = p.rows ∙ greatest_last r.next bytes (tuples_of (store_of m) r.file) (below_next m limits r h)

-- the rows with the new one
rows_put : (m w : PageMap) (limits : Limits) (r : RelationView) (g : TupleFile) (row : List Value) → RelationStands m limits (bare r) → IsRowFor r.schema row
    → Put (store_of m) (store_of w) r.file g r.next (encoding row) → rows_at w r.schema g ≡ rows_in m r ++ (r.next, row) ∷ []
rows_put m w limits r g row h of p =
    let f : ℕ × List ℕ → ℕ × List Value = λ t. (t.0, row_in r.schema t.1) in
    ap (λ (ts : List (ℕ × List ℕ)). map f ts) (tuples_put m w limits r g (encoding row) h p)
    ∙ (map-append f (tuples_of (store_of m) r.file) ((r.next, encoding row) ∷ []) ∙ ap (λ (x : List Value). rows_in m r ++ (r.next, x) ∷ []) (row_back r.schema row of))

-- the file holds them
table_put : (m w : PageMap) (limits : Limits) (r : RelationView) (g : TupleFile) (row : List Value) → RelationStands m limits (bare r) → IsRowFor r.schema row
    → Put (store_of m) (store_of w) r.file g r.next (encoding row) → TableStands w r.schema g
table_put m w limits r g row h of p =
    let e : rows_at w r.schema g ≡ rows_in m r ++ (r.next, row) ∷ [] = rows_put m w limits r g row h of p in
    let c : ℕ × List Value → ℕ × List ℕ = λ x. (x.0, encoding x.1) in
    let P : Rows → Type 0 = λ rows. All (λ (x : ℕ × List Value). IsRowFor r.schema x.1) rows in
    record {
      file = p.file;
      tuples = tuples_put m w limits r g (encoding row) h p ∙ (ap (λ (ts : List (ℕ × List ℕ)). ts ++ (r.next, encoding row) ∷ []) h.table.tuples
          ∙ (sym (map-append c (rows_in m r) ((r.next, row) ∷ [])) ∙ ap (λ (rows : Rows). encodings rows) (sym e)));
      rows = subst P (sym e) (All-push (λ (x : ℕ × List Value). IsRowFor r.schema x.1) (rows_in m r) (r.next, row) h.table.rows of);
    }

-- the access paths stay while the tuple is put
paths_same : (m w : PageMap) (r : RelationView) (g : TupleFile) (bytes : List ℕ) → ((q : ℕ) → times q (relation_pages m (bare r)) ≤ live (store_of m) q)
    → Put (store_of m) (store_of w) r.file g r.next bytes → SameOn m w (paths_pages m r.paths)
paths_same m w r g bytes owns p =
    untouched (store_of m) (store_of w) (file_pages (store_of m) r.file) (file_pages (store_of w) g) (paths_pages m r.paths) p.keeps
    (λ q. (let o : times q (table_pages m r) ≤ live (store_of m) q = owns q in omega (arith, o, times-append q (file_pages (store_of m) r.file) (paths_pages m r.paths))))

-- after it they can grow
pub can_grow : (m w : PageMap) (limits : Limits) (r : RelationView) (g : TupleFile) (row : List Value) → RelationStands m limits (bare r) → IsRowFor r.schema row
    → ((q : ℕ) → times q (relation_pages m (bare r)) ≤ live (store_of m) q) → Put (store_of m) (store_of w) r.file g r.next (encoding row)
    → AllCanGrow w limits r.schema g r.next row r.paths
can_grow m w limits r g row h of owns p =
    let same : SameOn m w (paths_pages m r.paths) = paths_same m w r g (encoding row) owns p in
    record {
      before = rows_in m r;
      table = table_put m w limits r g row h of p;
      rows = rows_put m w limits r g row h of p;
      rise = rises_at m r.schema r.file h.table.file;
      below = h.given_out;
      stands = paths_stand m w limits r.schema (rows_in m r) r.paths same h.paths;
      apart = λ q.
          let o : times q (table_pages m r) ≤ live (store_of m) q = owns q in
          omega (arith, o, times-append q (file_pages (store_of m) r.file) (paths_pages m r.paths), ap (λ (ps : List ℕ). times q ps) (paths_pages_stay m w r.paths same), p.keeps.moved q);
    }

-- the file stays while the access paths grow
file_same : (w v : PageMap) (limits : Limits) (schema : List (List ℕ × Kind)) (g : TupleFile) (id : ℕ) (row : List Value) (paths after : List (ℕ × AccessPath))
    → AllCanGrow w limits schema g id row paths → AllGrew w v limits schema (rows_at w schema g) id paths after → SameOn w v (file_pages (store_of w) g)
file_same w v limits schema g id row paths after c a =
    untouched (store_of w) (store_of v) (paths_pages w paths) (paths_pages v after) (file_pages (store_of w) g) a.keeps c.apart

-- A relation got a row, and it may be known where it lies.
row_became : (m w v : PageMap) (limits : Limits) (r : RelationView) (g : TupleFile) (row : List Value) (after : List (ℕ × AccessPath)) (span : Span) (spans : List ℕ) → RelationStands m limits (bare r)
    → IsRowFor r.schema row → row_size row ≤ longest_row → 1 ≤ r.next → ((q : ℕ) → times q (relation_pages m (bare r)) ≤ live (store_of m) q)
    → Put (store_of m) (store_of w) r.file g r.next (encoding row) → AllGrew w v limits r.schema (rows_at w r.schema g) r.next r.paths after
    → Lies (store_of w) g r.next span → Learnt r.spans r.next span spans → Became m v limits (bare r) (grown_view (bare r) g after [] spans) (λ gap. with_row gap row)
row_became m w v limits r g row after span spans h of short begun owns p a leads learnt =
    let can = can_grow m w limits r g row h of owns p in
    let file : SameOn w v (file_pages (store_of w) g) = file_same w v limits r.schema g r.next row r.paths after can a in
    let paths : SameOn m w (paths_pages m r.paths) = paths_same m w r g (encoding row) owns p in
    let new : Rows = rows_in m r ++ (r.next, row) ∷ [] in
    let e : rows_at w r.schema g ≡ new = rows_put m w limits r g row h of p in
    let f : rows_at v r.schema g ≡ new = rows_same w v r.schema g file ∙ e in
    let pages_file : file_pages (store_of v) g ≡ file_pages (store_of w) g = (houses.unmoved (store_of w) (store_of v) g file).pages in
    let pages_paths : paths_pages w r.paths ≡ paths_pages m r.paths = paths_pages_stay m w r.paths paths in
    let mid : List ℕ = file_pages (store_of w) g ++ paths_pages m r.paths in
    let Short : Rows → Type 0 = λ rows. All (λ (x : ℕ × List Value). row_size x.1 ≤ longest_row) rows in
    let Given : Rows → Type 0 = λ rows. All (λ (x : ℕ × List Value). (1 ≤ x.0) × (x.0 < r.next + 1)) rows in
    let Stand : Rows → Type 0 = λ rows. All (PathStands v limits r.schema rows) after in
    record {
      stands = record {
        table = table_same w v r.schema g file can.table;
        short = subst Short (sym f) (All-push (λ (x : ℕ × List Value). row_size x.1 ≤ longest_row) (rows_in m r) (r.next, row) h.short short);
        given_out = subst Given (sym f) (All-push (λ (x : ℕ × List Value). (1 ≤ x.0) × (x.0 < r.next + 1)) (rows_in m r) (r.next, row)
            (All-weaker (λ (x : ℕ × List Value). (1 ≤ x.0) × (x.0 < r.next)) (λ (x : ℕ × List Value). (1 ≤ x.0) × (x.0 < r.next + 1)) (λ x b. (b.0, omega (arith, b.1))) (rows_in m r) h.given_out)
            (begun, omega arith));
        known = still_known (store_of w) (store_of v) g spans (houses.unmoved (store_of w) (store_of v) g file)
            (put_known (store_of m) (store_of w) r.file g r.next span (encoding row) r.spans spans p leads h.known learnt);
        paths = subst Stand (sym (rows_same w v r.schema g file)) a.stands;
        trees = All-nil (TreeStands v (rows_at v r.schema g));
      };
      means = λ gap is. ap₂ (λ (rows : Rows) (indexes : List (ℕ × Index)). record { name = r.name; schema = r.schema; rows = rows; next = r.next + 1; indexes = indexes; rectangles = [] }) f
          (a.means gap is ∙ ap₂ (λ (rows : Rows) (is : List (ℕ × Index)). map (index_with gap rows r.next) is) e (indexes_stay m w r.paths paths));
      keeps = keeps_then (store_of m) (store_of w) (store_of v) (relation_pages m (bare r)) mid (relation_pages v (grown_view (bare r) g after [] spans))
          (keeps_with (store_of m) (store_of w) (file_pages (store_of m) r.file) (file_pages (store_of w) g) (paths_pages m r.paths) (relation_pages m (bare r)) mid p.keeps
          (λ q. times-append q (file_pages (store_of m) r.file) (paths_pages m r.paths)) (λ q. times-append q (file_pages (store_of w) g) (paths_pages m r.paths)))
          (keeps_with (store_of w) (store_of v) (paths_pages w r.paths) (paths_pages v after) (file_pages (store_of w) g) mid (relation_pages v (grown_view (bare r) g after [] spans)) a.keeps
          (λ q. omega (arith, times-append q (file_pages (store_of w) g) (paths_pages m r.paths), ap (λ (ps : List ℕ). times q ps) pages_paths))
          (λ q. omega (arith, times-append q (file_pages (store_of v) g) (paths_pages v after), ap (λ (ps : List ℕ). times q ps) pages_file)));
    }

-- a value has a byte at least, and so has a row
bytes_some : (v : Value) → 1 ≤ length (value_bytes v)
bytes_some (value.Int n) = omega (arith, length-int_bytes n)
bytes_some (value.Text bytes) = omega arith
bytes_some (value.Shape (shape.Point p)) = omega (arith, length-append (coordinate_bytes p.x) (coordinate_bytes p.y), length-coordinate_bytes p.x)
bytes_some (value.Shape (shape.Segment s)) =
    omega (arith, length-append (point_bytes s.a) (point_bytes s.b), length-append (coordinate_bytes s.a.x) (coordinate_bytes s.a.y), length-coordinate_bytes s.a.x)
bytes_some (value.Shape (shape.Polygon corners)) = omega arith

pub row_some : (schema : List (List ℕ × Kind)) (row : List Value) → 1 ≤ length schema → IsRowOf schema row → 1 ≤ length (encoding row)
row_some [] row l e = absurd (omega arith)
row_some (c ∷ schema) [] l e = (let n : 0 ≡ length (map (λ (x : List ℕ × Kind). x.1) (c ∷ schema)) = ap (λ (ks : List Kind). length ks) e in absurd (omega (arith, n)))
row_some schema (v ∷ row) l e = omega (arith, length-append (value_bytes v) (encoding row), bytes_some v)

-- the next id isn't there
none_at : {A : Type 0} (n : ℕ) (xs : List (ℕ × A)) → All (λ (x : ℕ × A). x.0 < n) xs → of_id n xs ≡ None
none_at n [] h = refl
none_at {A} n (x ∷ xs) h = elim (eqb_tells x.0 n) [
  | inl y ↦ absurd (let l : x.0 < n = All-head (λ (z : ℕ × A). z.0 < n) x xs h in omega (arith, y.1, l))
  | inr y ↦ rw y.0 (none_at n xs (All-tail (λ (z : ℕ × A). z.0 < n) x xs h))
]

pub next_is_fresh : (m : PageMap) (limits : Limits) (r : RelationView) → RelationStands m limits r → of_id r.next (tuples_of (store_of m) r.file) ≡ None
next_is_fresh m limits r h = none_at r.next (tuples_of (store_of m) r.file) (below_next m limits r (bare_stands m limits r h))

-- What the loop over the access paths asks, of a relation x that is r, as code sees its parts.
pub asks : (m w : PageMap) (limits : Limits) (x r : RelationView) (g : TupleFile) (row : List Value) (bytes : List ℕ) (paths : List (ℕ × AccessPath)) → x ≡ r → bytes ≡ encoding row → paths ≡ x.paths
    → RelationStands m limits r → IsRowFor r.schema row → OwnsOf m r → Put (store_of m) (store_of w) x.file g x.next bytes → AllCanGrow w limits x.schema g x.next row paths
asks m w limits x r g row bytes paths e b ps h of owns p =
    let A : List (ℕ × AccessPath) → Type 0 = λ xs. AllCanGrow w limits x.schema g x.next row xs in
    let H : RelationView → Type 0 = λ y. RelationStands m limits y in
    let F : RelationView → Type 0 = λ y. IsRowFor y.schema row in
    let P : List ℕ → Type 0 = λ bs. Put (store_of m) (store_of w) x.file g x.next bs in
    subst A (sym ps) (can_grow m w limits x g row (bare_stands m limits x (subst H (sym e) h)) (subst F (sym e) of) (bare_owns m x (subst (OwnsOf m) (sym e) owns)) (subst P b p))

-- the rows with the new one, once the access paths have grown
rows_grew : (m w v : PageMap) (limits : Limits) (r : RelationView) (g : TupleFile) (row : List Value) (after : List (ℕ × AccessPath)) → RelationStands m limits (bare r) → IsRowFor r.schema row
    → OwnsOf m (bare r) → Put (store_of m) (store_of w) r.file g r.next (encoding row) → AllGrew w v limits r.schema (rows_at w r.schema g) r.next r.paths after
    → rows_at v r.schema g ≡ rows_in m r ++ (r.next, row) ∷ []
rows_grew m w v limits r g row after h of owns p a =
    rows_same w v r.schema g (file_same w v limits r.schema g r.next row r.paths after (can_grow m w limits r g row h of owns p) a) ∙ rows_put m w limits r g row h of p

-- the ids of the rows are below the next one
ids_below : (m : PageMap) (limits : Limits) (r : RelationView) → RelationStands m limits r → All (λ (x : ℕ × List Value). x.0 < r.next) (rows_in m r)
ids_below m limits r h = All-weaker (λ (x : ℕ × List Value). (1 ≤ x.0) × (x.0 < r.next)) (λ (x : ℕ × List Value). x.0 < r.next) (λ x b. b.1) (rows_in m r) h.given_out

-- nothing is known of where rows lie, which is learnt from any row
none_learnt : (old : List ℕ) (id : ℕ) (span : Span) → Learnt old id span []
none_learnt old id span n l = absurd (omega (arith, l))

-- What the loop over the R-trees asks then.
grown_asks : (m w v : PageMap) (limits : Limits) (r : RelationView) (g : TupleFile) (row : List Value) (after : List (ℕ × AccessPath)) (span : Span) → RelationStands m limits r
    → IsRowFor r.schema row → row_size row ≤ longest_row → 1 ≤ r.next → OwnsOf m r → Put (store_of m) (store_of w) r.file g r.next (encoding row)
    → AllGrew w v limits r.schema (rows_at w r.schema g) r.next r.paths after → Lies (store_of w) g r.next span
    → TreesCanChange v (rows_in m r) r.trees × CanChange Enters r.next row (rows_in m r)
grown_asks m w v limits r g row after span h of short begun owns p a leads = (
  trees_can m v limits r (grown_view r g after [] []) (λ gap. with_row gap row) h owns
      (row_became m w v limits r g row after span [] (bare_stands m limits r h) of short begun (bare_owns m r owns) p a leads (none_learnt r.spans r.next span)),
  ids_below m limits r h,
)

-- A relation got a row, its R-trees too.
row_grew : (m w v z : PageMap) (limits : Limits) (r : RelationView) (g : TupleFile) (row : List Value) (after : List (ℕ × AccessPath)) (trees : List (ℕ × RTree)) (span : Span)
    → RelationStands m limits r → IsRowFor r.schema row → row_size row ≤ longest_row → 1 ≤ r.next → OwnsOf m r → Put (store_of m) (store_of w) r.file g r.next (encoding row)
    → AllGrew w v limits r.schema (rows_at w r.schema g) r.next r.paths after → Lies (store_of w) g r.next span
    → TreesChanged v z (rows_after Enters r.next row (rows_in m r)) r.trees trees → SameColumns r.trees trees → Grew m z limits r g after trees span row
row_grew m w v z limits r g row after trees span h of short begun owns p a leads t columns = record {
  became = λ spans learnt.
      let u : RelationView = grown_view r g after trees spans in
      let e : rows_at v r.schema g ≡ rows_in m r ++ (r.next, row) ∷ [] = rows_grew m w v limits r g row after (bare_stands m limits r h) of (bare_owns m r owns) p a in
      let T : Rows → Type 0 = λ rows. TreesChanged v z rows r.trees trees in
      with_trees m v z limits r u (λ gap. with_row gap row) h owns
      (row_became m w v limits r g row after span spans (bare_stands m limits r h) of short begun (bare_owns m r owns) p a leads learnt)
      (subst T (sym e) t)
      (λ gap is. ap (λ (ts : List Rectangles). treed_relation (with_row gap row (relation_in m (bare r))) ts)
      (rectangles_grown r.next row (rows_in m r) r.trees trees columns ∙ ap (λ (rows : Rows). rectangles_of rows trees) (sym e)));
}

-- Both, of a relation x that is r, as code sees its parts.
pub tree_asks : (m w v : PageMap) (limits : Limits) (x r : RelationView) (g : TupleFile) (row : List Value) (bytes : List ℕ) (paths after : List (ℕ × AccessPath))
    (trees : List (ℕ × RTree)) (span : Span)
    → x ≡ r → bytes ≡ encoding row → paths ≡ x.paths → trees ≡ x.trees
    → RelationStands m limits r → IsRowFor r.schema row → row_size row ≤ longest_row → 1 ≤ r.next → OwnsOf m r → Put (store_of m) (store_of w) x.file g x.next bytes
    → AllGrew w v limits x.schema (rows_at w x.schema g) x.next paths after → Lies (store_of w) g x.next span
    → (rows : Rows) × (TreesCanChange v rows trees × CanChange Enters x.next row rows)
tree_asks m w v limits x r g row bytes paths after trees span e b ps ts h of short begun owns p a leads =
    let A : List (ℕ × AccessPath) → Type 0 = λ xs. AllGrew w v limits x.schema (rows_at w x.schema g) x.next xs after in
    let H : RelationView → Type 0 = λ y. RelationStands m limits y in
    let F : RelationView → Type 0 = λ y. IsRowFor y.schema row in
    let N : RelationView → Type 0 = λ y. 1 ≤ y.next in
    let P : List ℕ → Type 0 = λ bs. Put (store_of m) (store_of w) x.file g x.next bs in
    let T : List (ℕ × RTree) → Type 0 = λ xs. TreesCanChange v (rows_in m x) xs × CanChange Enters x.next row (rows_in m x) in (
      rows_in m x,
      subst T (sym ts) (grown_asks m w v limits x g row after span (subst H (sym e) h) (subst F (sym e) of) short (subst N (sym e) begun) (subst (OwnsOf m) (sym e) owns)
          (subst P b p) (subst A ps a) leads),
    )

pub got : (m w v z : PageMap) (limits : Limits) (x r : RelationView) (g : TupleFile) (row : List Value) (bytes : List ℕ) (paths after : List (ℕ × AccessPath))
    (trees now : List (ℕ × RTree)) (span : Span)
    → x ≡ r → bytes ≡ encoding row → paths ≡ x.paths → trees ≡ x.trees
    → RelationStands m limits r → IsRowFor r.schema row → row_size row ≤ longest_row → 1 ≤ r.next → OwnsOf m r → Put (store_of m) (store_of w) x.file g x.next bytes
    → AllGrew w v limits x.schema (rows_at w x.schema g) x.next paths after → Lies (store_of w) g x.next span
    → ((rows : Rows) → TreesCanChange v rows trees → CanChange Enters x.next row rows → TreesChanged v z (rows_after Enters x.next row rows) trees now) → SameColumns trees now
    → Grew m z limits r g after now span row
got m w v z limits x r g row bytes paths after trees now span e b ps ts h of short begun owns p a leads changed columns =
    let A : List (ℕ × AccessPath) → Type 0 = λ xs. AllGrew w v limits x.schema (rows_at w x.schema g) x.next xs after in
    let H : RelationView → Type 0 = λ y. RelationStands m limits y in
    let F : RelationView → Type 0 = λ y. IsRowFor y.schema row in
    let N : RelationView → Type 0 = λ y. 1 ≤ y.next in
    let P : List ℕ → Type 0 = λ bs. Put (store_of m) (store_of w) x.file g x.next bs in
    let B : RelationView → Type 0 = λ y. Grew m z limits y g after now span row in
    let C : List (ℕ × RTree) → Type 0 = λ xs. SameColumns xs now in
    let T : List (ℕ × RTree) → Type 0 = λ xs. TreesChanged v z (rows_after Enters x.next row (rows_in m x)) xs now in
    let hx : RelationStands m limits x = subst H (sym e) h in
    let can_x = grown_asks m w v limits x g row after span hx (subst F (sym e) of) short (subst N (sym e) begun) (subst (OwnsOf m) (sym e) owns) (subst P b p) (subst A ps a) leads in
    let K : List (ℕ × RTree) → Type 0 = λ xs. TreesCanChange v (rows_in m x) xs in
    subst B e (row_grew m w v z limits x g row after now span hx (subst F (sym e) of) short (subst N (sym e) begun) (subst (OwnsOf m) (sym e) owns) (subst P b p) (subst A ps a) leads
    (subst T ts (changed (rows_in m x) (subst K (sym ts) can_x.0) can_x.1)) (subst C ts columns))

-- And why it may be refused.
pub too_full : (m w : PageMap) (limits : Limits) (x r : RelationView) (g : TupleFile) (row : List Value) (bytes : List ℕ) (paths : List (ℕ × AccessPath)) (gap : Measure)
    → x ≡ r → bytes ≡ encoding row → paths ≡ x.paths
    → RelationStands m limits r → IsRowFor r.schema row → OwnsOf m r → Put (store_of m) (store_of w) x.file g x.next bytes
    → list_any (is_overfull limits) (map (index_with gap (rows_at w x.schema g) x.next) (indexes_in w paths)) ≡ true
    → check_listings limits (with_row gap row (relation_in m r)) ≡ Some why.IndexFull
too_full m w limits x r g row bytes paths gap e b ps h of owns p full =
    let H : RelationView → Type 0 = λ y. RelationStands m limits y in
    let F : RelationView → Type 0 = λ y. IsRowFor y.schema row in
    let P : List ℕ → Type 0 = λ bs. Put (store_of m) (store_of w) x.file g x.next bs in
    let C : RelationView → Type 0 = λ y. check_listings limits (with_row gap row (relation_in m y)) ≡ Some why.IndexFull in
    let put = subst P b p in
    let same : indexes_in w x.paths ≡ indexes_in m x.paths = indexes_stay m w x.paths (paths_same m w x g (encoding row) (bare_owns m x (subst (OwnsOf m) (sym e) owns)) put) in
    let rows : rows_at w x.schema g ≡ rows_in m x ++ (x.next, row) ∷ [] = rows_put m w limits x g row (bare_stands m limits x (subst H (sym e) h)) (subst F (sym e) of) put in
    let over : list_any (is_overfull limits) (map (index_with gap (rows_in m x ++ (x.next, row) ∷ []) x.next) (indexes_in m x.paths)) ≡ true =
    ap (λ (ts : Rows). list_any (is_overfull limits) (map (index_with gap ts x.next) (indexes_in m x.paths))) (sym rows)
    ∙ (ap (λ (is : List (ℕ × Index)). list_any (is_overfull limits) (map (index_with gap (rows_at w x.schema g) x.next) is)) (sym same)
    ∙ (ap (λ (xs : List (ℕ × AccessPath)). list_any (is_overfull limits) (map (index_with gap (rows_at w x.schema g) x.next) (indexes_in w xs))) (sym ps) ∙ full)) in
    subst C e (ap (λ (t : Bool). refused_where t why.IndexFull) over)
