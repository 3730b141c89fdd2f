-- What the call answers that makes an R-tree: why it is refused, and what the store is after it.
use Rattle.std.proofs.Common.{◌≡◌, ◌⊎◌, ℕ, ◌+◌, ◌<◌, ◌≤◌, Bool, true, false, not, cond, ◌||◌, nat_eq, List, [], ◌∷◌, ◌++◌, length, map, get_or, set, Option, Some, None}
use Rattle.std.proofs.Common.{refl, sym, ◌∙◌, ap, ap₂, subst, arith, inl, inr, true≢false, All}
use Rattle.std.specs.Prelude.{is_some}
use Rattle.std.specs.List.{position, find, list_any}
use Rattle.std.specs.Option.{option_map}
use Rattle.std.proofs.lemmas.List.{map-append}
use Rattle.std.proofs.lemmas.List.Elements.{All-nil, All-cons, All-head, All-tail, All-push}
use Rattle.code_btree.specs.Tree.{times, live}
use Rattle.code_btree.proofs.Lists.{times-append}
use Rattle.page_pool.specs.Disk.{PageMap}
use Rattle.page_pool.specs.Pool.{PoolState, IsTold, IsClosed}
use Rattle.pmr_tree.specs.Quadtree.{store_of}
use Rattle.r_tree.specs.declared.tree.RTree.{RTree}
use Rattle.r_tree.specs.Tree.{rtree_pages}
use Rattle.r_tree.specs.Listing.{PlantsRows}
use Rattle.sand_base.specs.declared.kind.Kind.{Kind}
use Rattle.sand_base.specs.declared.limits.Limits.{Limits}
use Rattle.sand_base.specs.declared.refusal.Refusal.{Refusal}
use Rattle.sand_base.specs.declared.refusal.Refusal.TheVariants as why
use Rattle.sand_base.specs.declared.value.Value.{Value}
use Rattle.sand_base.specs.Shape.{is_spatial}
use Rattle.sand_model.specs.Checks.{first_refusal, has_rectangles}
use Rattle.sand_model.specs.Database.{Relation, Rectangles, Index, element, column_named, shapes_of, rough_shapes, with_rectangles}
use Rattle.sand_model.specs.Kept.{has_number_twice}
use Rattle.sand_model.specs.Measure.{Measure, IsMeasure}
use Rattle.sand_model.specs.StatementChecks.{Setting, IsSetting, early, late, refused_where, is_there, treed_by}
use Rattle.statements.specs.Statement.{Rtree}
use Rattle.statements.specs.declared.column.Column.{Column}
use Rattle.sand_store.specs.Calls.{alone, Refuses, IsStatementRefused, IsUnchanged, Treed, is_none, early_at, late_at}
use Rattle.sand_store.specs.Catalog.{RelationView, StoreState, is_named, IsColumnAt, IsDescribed}
use Rattle.sand_store.specs.Contents.{rows_in, indexes_in, rectangles_of, relation_in, database_in}
use Rattle.sand_store.specs.Ownership.{trees_pages, relation_pages}
use Rattle.sand_store.specs.Paths.{rtree_at}
use Rattle.sand_store.specs.Sketches.{sketch_of, with_treed}
use Rattle.sand_store.specs.Standing.{TreeStands, RelationStands, IsStore}
use Rattle.sand_store.specs.Steps.{store_from, Became, FirstAt, IsOutside}
use Rattle.sand_store.specs.TableLaws.{SameOn}
use Rattle.sand_store.specs.Treeing.{rtree_check, found_rtree_check, IsTreeWanted, treed_view, HasTree}
use Rattle.sand_store.proofs.Changes.{put_in_place, becomes_in_place}
use Rattle.sand_store.proofs.ColumnTrees.{any_found}
use Rattle.sand_store.proofs.ColumnsOfShapes.{some_same}
use Rattle.sand_store.proofs.Found.{none_found, found_at}
use Rattle.sand_store.proofs.Frames.{untouched, keeps_with}
use Rattle.sand_store.proofs.IndexRefusals.{any_last, or_false}
use Rattle.sand_store.proofs.Places.{named_in}
use Rattle.sand_store.proofs.Refusals.{outside_refuses}
use Rattle.sand_store.proofs.RelationTrees.{OwnsOf}
use Rattle.sand_store.proofs.RowLists.{Rows}
use Rattle.sand_store.proofs.Sketched.{sketched_in_place}
use Rattle.sand_store.proofs.Stays.{table_pages, file_left, paths_left, relation_stands, relation_pages_stay, rows_stay, indexes_stay}
use Rattle.sand_store.proofs.TreeSteps.{Trees, trees_append, trees_cons}

-- a column has an R-tree of the model where it has one of the catalog

there_mapped : (o : Option (ℕ × RTree)) → is_there (option_map (λ (t : ℕ × RTree). t.1) o) ≡ is_some o
there_mapped None = refl
there_mapped (Some t) = refl

pub rectangles_there : (rows : Rows) (at : ℕ) (ts : Trees) → list_any (λ (t : Rectangles). nat_eq t.0 at) (rectangles_of rows ts) ≡ is_there (rtree_at ts at)
rectangles_there rows at ts = any_found rows at ts ∙ sym (there_mapped (find (λ (t : ℕ × RTree). nat_eq t.0 at) ts))

abbrev any_at : Relation → Option ℕ → Bool
any_at relation None = false
any_at relation (Some at) = list_any (λ (t : Rectangles). nat_eq t.0 at) relation.rectangles

treed_same : (m : PageMap) (r : RelationView) (name : List ℕ) (at : ℕ) → column_named r.schema name ≡ Some at → has_rectangles (relation_in m r) name ≡ is_there (rtree_at r.trees at)
treed_same m r name at f = ap (λ (o : Option ℕ). any_at (relation_in m r) o) f ∙ rectangles_there (rows_in m r) at r.trees

-- the early checks of an R-tree are those of the relation of the catalog
abbrev IsTreeCheck : Setting → PageMap → List RelationView → Column → Type 0
IsTreeCheck setting m rs column = early setting (alone (database_in m rs)) (Rtree column) ≡ found_rtree_check column.column (find (is_named column.relation) rs)

early_rtree : (setting : Setting) (m : PageMap) (rs : List RelationView) (column : Column) → IsTreeCheck setting m rs column
early_rtree setting m rs column = in_catalog (find (is_named column.relation) rs) refl where
  tested : (r : RelationView) (at : ℕ) (c : List ℕ × Kind) (a b : Bool) → find (is_named column.relation) rs ≡ Some r → column_named r.schema column.column ≡ Some at
      → element r.schema at ≡ Some c → is_there (rtree_at r.trees at) ≡ a → is_spatial c.1 ≡ b → IsTreeCheck setting m rs column
  tested r at c a true e f g h k = rw (named_in m rs column.relation, e, f, g, treed_same m r column.column at f, h, k) refl
  tested r at c a false e f g h k = rw (named_in m rs column.relation, e, f, g, treed_same m r column.column at f, h, k) refl

  at_column : (r : RelationView) (at : ℕ) (o : Option (List ℕ × Kind)) → find (is_named column.relation) rs ≡ Some r → column_named r.schema column.column ≡ Some at → element r.schema at ≡ o
      → IsTreeCheck setting m rs column
  at_column r at None e f g = rw (named_in m rs column.relation, e, f, g) refl
  at_column r at (Some c) e f g = tested r at c (is_there (rtree_at r.trees at)) (is_spatial c.1) e f g refl refl

  in_schema : (r : RelationView) (o : Option ℕ) → find (is_named column.relation) rs ≡ Some r → column_named r.schema column.column ≡ o → IsTreeCheck setting m rs column
  in_schema r None e f = rw (named_in m rs column.relation, e, f) refl
  in_schema r (Some at) e f = at_column r at (element r.schema at) e f refl

  in_catalog : (o : Option RelationView) → find (is_named column.relation) rs ≡ o → IsTreeCheck setting m rs column
  in_catalog None e = rw (named_in m rs column.relation, e) refl
  in_catalog (Some r) e = in_schema r (column_named r.schema column.column) e refl

-- no relation has the name
pub no_relation_to_tree : (pool : PoolState) (rs : List RelationView) (limits : Limits) (column : Column) → position (is_named column.relation) rs ≡ None
    → IsStatementRefused is_none (store_from rs limits pool) (Rtree column) why.UnknownRelation
no_relation_to_tree pool rs limits column e = λ setting is l.
    early_rtree setting pool.pages rs column ∙ ap (λ (o : Option RelationView). found_rtree_check column.column o) (none_found column.relation rs e)

-- the early checks where the relation is there
early_there : (setting : Setting) (m : PageMap) (rs : List RelationView) (column : Column) (at : ℕ) (r : RelationView) → FirstAt column.relation rs at → r ≡ get_or rs at r
    → early setting (alone (database_in m rs)) (Rtree column) ≡ rtree_check r column.column
early_there setting m rs column at r first here =
    early_rtree setting m rs column ∙ ap (λ (o : Option RelationView). found_rtree_check column.column o) (found_at column.relation rs at r first here)

-- what the checks find
abbrev IsOneOfThree : Refusal → Type 0
IsOneOfThree w = (w ≡ why.UnknownColumn) ⊎ ((w ≡ why.WrongKind) ⊎ (w ≡ why.IndexThere))

failed : (r : RelationView) (name : List ℕ) (w : Refusal) → rtree_check r name ≡ Some w → IsOneOfThree w
failed r name w e = in_schema (column_named r.schema name) refl where
  is : (x : Refusal) → rtree_check r name ≡ Some x → w ≡ x
  is x k = sym (some_same x w (sym k ∙ e))

  tested : (at : ℕ) (c : List ℕ × Kind) (a b : Bool) → column_named r.schema name ≡ Some at → element r.schema at ≡ Some c → is_there (rtree_at r.trees at) ≡ a → is_spatial c.1 ≡ b → IsOneOfThree w
  tested at c a false f g h k = inr (inl (is why.WrongKind (rw (f, g, k) refl)))
  tested at c true true f g h k = inr (inr (is why.IndexThere (rw (f, g, k, h) refl)))
  tested at c false true f g h k = (let none : rtree_check r name ≡ None = rw (f, g, k, h) refl in absurd (true≢false (sym (ap (λ (o : Option Refusal). is_some o) (sym none ∙ e)))))

  at_column : (at : ℕ) (o : Option (List ℕ × Kind)) → column_named r.schema name ≡ Some at → element r.schema at ≡ o → IsOneOfThree w
  at_column at None f g = inl (is why.UnknownColumn (rw (f, g) refl))
  at_column at (Some c) f g = tested at c (is_there (rtree_at r.trees at)) (is_spatial c.1) f g refl refl

  in_schema : (o : Option ℕ) → column_named r.schema name ≡ o → IsOneOfThree w
  in_schema None f = inl (is why.UnknownColumn (rw f refl))
  in_schema (Some at) f = at_column at (element r.schema at) f refl

-- a check of the column refuses
pub tree_refused : (pool : PoolState) (rs : List RelationView) (limits : Limits) (column : Column) (at : ℕ) (r : RelationView) (w : Refusal)
    → FirstAt column.relation rs at → r ≡ get_or rs at r → rtree_check r column.column ≡ Some w → IsStatementRefused is_none (store_from rs limits pool) (Rtree column) w
tree_refused pool rs limits column at r w first here refused =
    let P : Refusal → Type 0 = λ x. rtree_check r column.column ≡ Some x → IsStatementRefused is_none (store_from rs limits pool) (Rtree column) x in
    elim (failed r column.column w refused) [
      | inl i ↦ subst P (sym i) (λ h setting is l. early_there setting pool.pages rs column at r first here ∙ h) refused
      | inr (inl i) ↦ subst P (sym i) (λ h setting is l. early_there setting pool.pages rs column at r first here ∙ h) refused
      | inr (inr i) ↦ subst P (sym i) (λ h setting is l. early_there setting pool.pages rs column at r first here ∙ h) refused
    ]

-- the command is refused
pub tree_stopped : (pool : PoolState) (rs : List RelationView) (limits : Limits) (column : Column) (at : ℕ) (r : RelationView) (place : ℕ) (w : Refusal)
    → FirstAt column.relation rs at → r ≡ get_or rs at r → IsTreeWanted r column.column place → IsOutside w → IsStatementRefused is_none (store_from rs limits pool) (Rtree column) w
tree_stopped pool rs limits column at r place w first here wanted outside = λ setting is l.
    let store : StoreState = store_from rs limits pool in
    outside_refuses (IsTold pool) is_none (early_at setting store (Rtree column)) (late_at setting store (Rtree column)) w outside
    (early_there setting pool.pages rs column at r first here ∙ wanted.passes)

-- a column without an R-tree is none of those that have one

abbrev columns_of : Trees → List ℕ
columns_of ts = map (λ (t : ℕ × RTree). t.0) ts

free_rest : (t : ℕ × RTree) (ts : Trees) (at : ℕ) → rtree_at (t ∷ ts) at ≡ None → (nat_eq t.0 at ≡ false) × (rtree_at ts at ≡ None)
free_rest t ts at e =
    let go : (b : Bool) → nat_eq t.0 at ≡ b → option_map (λ (q : ℕ × RTree). q.1) (cond b (Some t) (find (λ q. nat_eq q.0 at) ts)) ≡ None → (nat_eq t.0 at ≡ false) × (rtree_at ts at ≡ None) =
    elim [
      | true ↦ λ h k. absurd (true≢false (ap (λ (o : Option RTree). is_some o) k))
      | false ↦ λ h k. (h, k)
    ] in
    go (nat_eq t.0 at) refl e

once_more : (ts : Trees) (at : ℕ) (a : RTree) → has_number_twice (columns_of ts) ≡ false → rtree_at ts at ≡ None → has_number_twice (columns_of (ts ++ (at, a) ∷ [])) ≡ false
once_more [] at a h e = refl
once_more (t ∷ ts) at a h e =
    let free = free_rest t ts at e in
    let parts = or_false (list_any (nat_eq t.0) (columns_of ts)) (has_number_twice (columns_of ts)) h in
    let split : columns_of (ts ++ (at, a) ∷ []) ≡ columns_of ts ++ at ∷ [] = map-append (λ (q : ℕ × RTree). q.0) ts ((at, a) ∷ []) in
    let none : list_any (nat_eq t.0) (columns_of (ts ++ (at, a) ∷ [])) ≡ false =
    ap (λ (ns : List ℕ). list_any (nat_eq t.0) ns) split ∙ any_last (nat_eq t.0) (columns_of ts) at parts.0 free.0 in
    rw none (once_more ts at a parts.1 free.1)

-- the relation with the R-tree is described
treed_described : (limits : Limits) (r : RelationView) (name : List ℕ) (at : ℕ) (a : RTree) → IsDescribed limits r → IsTreeWanted r name at → IsDescribed limits (treed_view r at a)
treed_described limits r name at a d w =
    let P : List ℕ → Type 0 = λ ns. All (λ n. IsColumnAt r.schema n true) ns in
    record {
      schema = d.schema;
      columns = d.columns;
      begun = d.begun;
      few = d.few;
      indexed = d.indexed;
      paths = d.paths;
      bounded = once_more r.trees at a d.bounded w.free;
      trees = subst P (sym (map-append (λ (q : ℕ × RTree). q.0) r.trees ((at, a) ∷ [])))
          (All-push (λ (n : ℕ). IsColumnAt r.schema n true) (columns_of r.trees) at d.trees (w.column.0, w.column.1, w.here, w.spatial));
    }

-- A relation has got an R-tree.
tree_became : (m w : PageMap) (limits : Limits) (r : RelationView) (at number : ℕ) (a : RTree) → RelationStands m limits r → OwnsOf m r
    → PlantsRows m w a number (shapes_of at (rows_in m r)) → Became m w limits r (treed_view r at a) (λ gap. with_rectangles at)
tree_became m w limits r at number a h owns b =
    let new : List ℕ = rtree_pages (store_of w) a in
    let same : SameOn m w (relation_pages m r) = untouched (store_of m) (store_of w) [] new (relation_pages m r) b.keeps
    (λ q. (let o : times q (relation_pages m r) ≤ live (store_of m) q = owns q in omega (arith, o))) in
    let was = relation_stands m w limits r same h in
    let rows : rows_in w r ≡ rows_in m r = rows_stay m w r (file_left m w r same) in
    let pages : relation_pages w r ≡ relation_pages m r = relation_pages_stay m w r same in
    let u : RelationView = treed_view r at a in
    let P : Rows → Type 0 = λ xs. TreeStands w xs (at, a) in
    let split : rectangles_of (rows_in w r) (r.trees ++ (at, a) ∷ []) ≡ rectangles_of (rows_in w r) r.trees ++ (at, rough_shapes at (rows_in w r)) ∷ [] =
    map-append (λ (t : ℕ × RTree). (t.0, rough_shapes t.0 (rows_in w r))) r.trees ((at, a) ∷ []) in
    record {
      stands = record {
        table = was.table;
        short = was.short;
        given_out = was.given_out;
        known = was.known;
        paths = was.paths;
        trees = All-push (TreeStands w (rows_in w r)) r.trees (at, a) was.trees (subst P (sym rows) b.lists);
      };
      means = λ gap is.
          ap (λ (ts : List Rectangles). record { name = r.name; schema = r.schema; rows = rows_in w r; next = r.next; indexes = indexes_in w r.paths; rectangles = ts }) split
          ∙ ap₂ (λ (xs : Rows) (is : List (ℕ × Index)). record {
            name = r.name;
            schema = r.schema;
            rows = xs;
            next = r.next;
            indexes = is;
            rectangles = rectangles_of xs r.trees ++ (at, rough_shapes at xs) ∷ [];
          })
          rows (indexes_stay m w r.paths (paths_left m w r same));
      keeps = keeps_with (store_of m) (store_of w) [] new (relation_pages m r) (relation_pages m r) (relation_pages w u) b.keeps (λ q. omega arith)
          (λ q. omega (
            arith,
            times-append q (trees_pages w (r.trees ++ (at, a) ∷ [])) (table_pages w r),
            trees_append w r.trees ((at, a) ∷ []) q,
            trees_cons w (at, a) [] q,
            times-append q (trees_pages w r.trees) (table_pages w r),
            ap (λ (ps : List ℕ). times q ps) pages,
          ));
    }

-- The command, from where it began to where it ended.
pub tree_command : (old began now done : PoolState) (limits : Limits) (r u : RelationView) (at number : ℕ) (a : RTree) → (IsTold old → began.pages ≡ old.pages)
    → began.disk.told ≡ old.disk.told → done.pages ≡ now.pages → (IsTold old → RelationStands old.pages limits r) → (IsTold old → OwnsOf old.pages r)
    → (IsTold began → PlantsRows began.pages now.pages a number (shapes_of at (rows_in began.pages r))) → u ≡ treed_view r at a → IsTold old
    → Became old.pages done.pages limits r u (λ gap. with_rectangles at)
tree_command old began now done limits r u at number a pages same ended stands owns plants is told =
    let B : PageMap → Type 0 = λ m. PlantsRows m now.pages a number (shapes_of at (rows_in m r)) in
    let D : PageMap → Type 0 = λ m. Became old.pages m limits r (treed_view r at a) (λ gap. with_rectangles at) in
    let U : RelationView → Type 0 = λ y. Became old.pages done.pages limits r y (λ gap. with_rectangles at) in
    subst U (sym is) (subst D (sym ended) (tree_became old.pages now.pages limits r at number a (stands told) (owns told) (subst B (pages told) (plants (same ∙ told)))))

-- what the relation was before the command began stands where it began
pub stands_begun : (old began : PoolState) (limits : Limits) (r : RelationView) → (IsTold old → began.pages ≡ old.pages) → began.disk.told ≡ old.disk.told
    → (IsTold old → RelationStands old.pages limits r) → IsTold began → RelationStands began.pages limits r
stands_begun old began limits r pages same stands told =
    let P : PageMap → Type 0 = λ m. RelationStands m limits r in
    let t : IsTold old = sym same ∙ told in
    subst P (sym (pages t)) (stands t)

-- the same change, told by the statement
treed_is : (m : PageMap) (column : Column) (r : RelationView) (place : ℕ) → IsTreeWanted r column.column place → treed_by column (relation_in m r) ≡ with_rectangles place (relation_in m r)
treed_is m column r place w = rw w.place refl

tree_by : (m w : PageMap) (limits : Limits) (r u : RelationView) (column : Column) (place : ℕ) → IsTreeWanted r column.column place
    → Became m w limits r u (λ gap. with_rectangles place) → Became m w limits r u (λ gap. treed_by column)
tree_by m w limits r u column place wanted b = record {
  stands = b.stands;
  means = λ gap is. b.means gap is ∙ sym (treed_is m column r place wanted);
  keeps = b.keeps;
}

-- a tree more
treed_sketch : (r u : RelationView) (name : List ℕ) (at : ℕ) → column_named r.schema name ≡ Some at → HasTree r u at → sketch_of u ≡ with_treed name (sketch_of r)
treed_sketch r u name at place h =
    let P : RelationView → Type 0 = λ y. sketch_of y ≡ with_treed name (sketch_of r) in
    subst P (sym h.added) (rw place (
    ap (λ (ns : List ℕ). record { name = r.name; schema = r.schema; next = r.next; indexed = map (λ path. path.0) r.paths; treed = ns })
    (map-append (λ (t : ℕ × RTree). t.0) r.trees ((at, h.tree) ∷ []))))

-- The relation that has got an R-tree, put in its place; it is x, as it was read a second time.

tree_described : (limits : Limits) (r u : RelationView) (name : List ℕ) (place : ℕ) → IsDescribed limits r → IsTreeWanted r name place → HasTree r u place → IsDescribed limits u × (u.name ≡ r.name)
tree_described limits r u name place d w p =
    let P : RelationView → Type 0 = λ y. IsDescribed limits y × (y.name ≡ r.name) in
    subst P (sym p.added) (treed_described limits r name place p.tree d w, refl)

pub store_treed : (old new : PoolState) (limits : Limits) (column : Column) (rs us : List RelationView) (at : ℕ) (r x u : RelationView) (place : ℕ)
    → IsStore (record { relations = rs; limits = limits }) old → FirstAt column.relation rs at → at < length rs → r ≡ get_or rs at r → x ≡ r → us ≡ set rs at u → IsDescribed limits r
    → IsTreeWanted r column.column place → HasTree x u place → new.disk.told ≡ old.disk.told → IsClosed new
    → (IsTold old → Became old.pages new.pages limits x u (λ gap. with_rectangles place)) → IsStore (record { relations = us; limits = limits }) new
store_treed old new limits column rs us at r x u place h first l here same is d wanted tree told closed b =
    let H : RelationView → Type 0 = λ y. HasTree y u place in
    let B : RelationView → Type 0 = λ y. IsTold old → Became old.pages new.pages limits y u (λ gap. with_rectangles place) in
    let k = tree_described limits r u column.column place d wanted (subst H same tree) in
    put_in_place old new limits column.relation rs us at r u (λ gap. with_rectangles place) h first l here is k.1 k.0 told closed (subst B same b)

pub database_treed : (old new : PoolState) (limits : Limits) (column : Column) (rs us : List RelationView) (at : ℕ) (r x u : RelationView) (place : ℕ)
    → IsStore (record { relations = rs; limits = limits }) old → FirstAt column.relation rs at → at < length rs → r ≡ get_or rs at r → x ≡ r → us ≡ set rs at u
    → IsTreeWanted r column.column place → HasTree x u place → (IsTold old → Became old.pages new.pages limits x u (λ gap. with_rectangles place))
    → Treed (store_from rs limits old) (store_from us limits new) column
database_treed old new limits column rs us at r x u place h first l here same is wanted tree b =
    let H : RelationView → Type 0 = λ y. HasTree y u place in
    let B : RelationView → Type 0 = λ y. IsTold old → Became old.pages new.pages limits y u (λ gap. with_rectangles place) in
    let became : IsTold old → Became old.pages new.pages limits r u (λ gap. treed_by column) = λ told. tree_by old.pages new.pages limits r u column place wanted (subst B same b told) in
    record {
      passes = λ setting s e. (early_there setting old.pages rs column at r first here ∙ wanted.passes, λ told. refl);
      sketched = sketched_in_place column.relation rs us at r u (with_treed column.column) first here is (treed_sketch r u column.column place wanted.place (subst H same tree));
      becomes = λ told gap s. becomes_in_place old new limits column.relation rs us at r u (λ g. treed_by column) h first l here is became told gap s;
    }
