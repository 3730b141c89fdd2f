-- What the call answers that makes an index: why it is refused, and what the store is after it.
use Rattle.std.proofs.Common.{◌≡◌, ℕ, zero, suc, ◌+◌, ◌<◌, ◌≤◌, Bool, true, false, List, [], ◌∷◌, ◌++◌, length, get_or, set}
use Rattle.std.proofs.Common.{Option, Some, None, refl, sym, ◌∙◌, ap, ap₂, subst, arith}
use Rattle.std.proofs.lemmas.List.{map-append}
use Rattle.std.proofs.lemmas.List.Concat.{flat_map-append}
use Rattle.std.proofs.lemmas.List.Elements.{All-push}
use Rattle.code_btree.specs.Tree.{times, live}
use Rattle.code_btree.proofs.Lists.{times-append}
use Rattle.page_pool.specs.Disk.{PageMap}
use Rattle.page_pool.specs.Pool.{PoolState, IsTold, IsClosed}
use Rattle.pmr_tree.specs.Quadtree.{store_of}
use Rattle.sand_base.specs.declared.kind.Kind.{Kind}
use Rattle.sand_base.specs.declared.limits.Limits.{Limits}
use Rattle.sand_base.specs.declared.refusal.Refusal.{Refusal}
use Rattle.sand_base.specs.declared.refusal.Refusal.TheVariants as why
use Rattle.sand_base.specs.Shape.{is_spatial}
use Rattle.sand_model.specs.Database.{Relation, Index, new_index, with_index}
use Rattle.sand_model.specs.Measure.{Measure, IsMeasure}
use Rattle.statements.specs.declared.column.Column.{Column}
use Rattle.sand_model.specs.StatementChecks.{refused_where, is_there, is_overfull, check_listings, indexed_by, threshold_of}
use Rattle.tuple_file.specs.File.{file_pages}
use Rattle.sand_store.specs.declared.path.AccessPath.{AccessPath}
use Rattle.sand_store.specs.Building.{IsWanted, IsThreshold, HasPath, indexed_view, Builds}
use Rattle.sand_store.specs.Calls.{IsUnchanged, Indexed}
use Rattle.sand_store.specs.Catalog.{RelationView, IsColumnAt, IsDescribed, IsPathOf}
use Rattle.sand_store.specs.Contents.{index_in, indexes_in, rectangles_of, relation_in, rows_in}
use Rattle.sand_store.specs.Ownership.{path_pages, paths_pages, trees_pages, relation_pages}
use Rattle.sand_store.specs.Sketches.{with_indexed}
use Rattle.sand_store.specs.Standing.{PathStands, RelationStands, CatalogStands, IsStore}
use Rattle.sand_store.specs.Steps.{store_from, Became, FirstAt}
use Rattle.sand_store.specs.TableLaws.{SameOn}
use Rattle.sand_store.proofs.Changes.{put_in_place, becomes_in_place}
use Rattle.sand_store.proofs.Frames.{untouched, keeps_with}
use Rattle.sand_store.proofs.InsertCall.{stands_within}
use Rattle.sand_store.proofs.Midway.{full_mid}
use Rattle.sand_store.proofs.RowLists.{Rows}
use Rattle.sand_store.proofs.Sketched.{indexed_sketch, sketched_in_place}
use Rattle.sand_store.proofs.Stays.{table_pages, file_left, paths_left, relation_stands, relation_pages_stay, rows_stay, indexes_stay}
use Rattle.sand_store.proofs.IndexRefusals.{Paths, early_there, wanted_is, late_there, once_more}

-- the relation with the index is described
pub indexed_described : (limits : Limits) (r : RelationView) (name : List ℕ) (given : Option ℕ) (at : ℕ) (threshold : Option ℕ) (a : AccessPath) → IsDescribed limits r
    → IsWanted r name given at threshold
    → IsPathOf r.schema (at, a) → IsDescribed limits (indexed_view r at a)
indexed_described limits r name given at threshold a d w of = record {
  schema = d.schema;
  columns = d.columns;
  begun = d.begun;
  few = d.few;
  indexed = once_more r.paths at a d.indexed w.free;
  paths = All-push (IsPathOf r.schema) r.paths (at, a) d.paths of;
  bounded = d.bounded;
  trees = d.trees;
}

-- the pages of the relation with the index
pages_more : (w : PageMap) (ps : Paths) (p : ℕ × AccessPath) (q : ℕ) → times q (paths_pages w (ps ++ p ∷ [])) ≡ times q (paths_pages w ps) + times q (path_pages w p.1)
pages_more w ps p q =
    omega (
      arith,
      ap (λ (ns : List ℕ). times q ns) (flat_map-append (λ (x : ℕ × AccessPath). path_pages w x.1) ps (p ∷ [])),
      times-append q (paths_pages w ps) (paths_pages w (p ∷ [])),
      times-append q (path_pages w p.1) (paths_pages w []),
    )

-- A relation has got an index.
pub index_became : (m w : PageMap) (limits : Limits) (r : RelationView) (at : ℕ) (threshold : Option ℕ) (a : AccessPath) → RelationStands m limits r
    → ((q : ℕ) → times q (relation_pages m r) ≤ live (store_of m) q) → Builds m w limits r.schema (rows_in m r) at threshold a
    → Became m w limits r (indexed_view r at a) (λ gap. with_index gap at threshold)
index_became m w limits r at threshold a h owns b =
    let same : SameOn m w (relation_pages m r) = untouched (store_of m) (store_of w) [] (path_pages w a) (relation_pages m r) b.keeps (λ q. omega (arith, owns q)) in
    let same_file : SameOn m w (file_pages (store_of m) r.file) = file_left m w r same in
    let same_paths : SameOn m w (paths_pages m r.paths) = paths_left m w r same in
    let was = relation_stands m w limits r same h in
    let rows : rows_in w r ≡ rows_in m r = rows_stay m w r same_file in
    let pages : relation_pages w r ≡ relation_pages m r = relation_pages_stay m w r same in
    let u : RelationView = indexed_view r at a in
    let P : Rows → Type 0 = λ xs. PathStands w limits r.schema xs (at, a) in
    record {
      stands = record {
        table = was.table;
        short = was.short;
        given_out = was.given_out;
        known = was.known;
        paths = All-push (PathStands w limits r.schema (rows_in w r)) r.paths (at, a) was.paths (subst P (sym rows) b.stands);
        trees = was.trees;
      };
      means = λ gap is.
          let split : indexes_in w (r.paths ++ (at, a) ∷ []) ≡ indexes_in w r.paths ++ (at, index_in w a) ∷ [] = map-append (λ (x : ℕ × AccessPath). (x.0, index_in w x.1)) r.paths ((at, a) ∷ []) in
          ap₂ (λ (xs : Rows) (is : List (ℕ × Index)). record { name = r.name; schema = r.schema; rows = xs; next = r.next; indexes = is; rectangles = rectangles_of xs r.trees }) rows
          (split ∙ ap₂ (λ (is : List (ℕ × Index)) (i : Index). is ++ (at, i) ∷ []) (indexes_stay m w r.paths same_paths) (b.means gap is));
      keeps = keeps_with (store_of m) (store_of w) [] (path_pages w a) (relation_pages m r) (relation_pages m r) (relation_pages w u) b.keeps (λ q. omega arith)
          (λ q. omega (
            arith,
            times-append q (trees_pages w r.trees) (table_pages w u),
            times-append q (trees_pages w r.trees) (table_pages w r),
            times-append q (file_pages (store_of w) r.file) (paths_pages w (r.paths ++ (at, a) ∷ [])),
            pages_more w r.paths (at, a) q,
            times-append q (file_pages (store_of w) r.file) (paths_pages w r.paths),
            ap (λ (ps : List ℕ). times q ps) pages,
          ));
    }

-- an index that is too full makes the relation so
pub index_too_full : (gap : Measure) (m : PageMap) (limits : Limits) (r : RelationView) (at : ℕ) (threshold : Option ℕ) → is_overfull limits (at, new_index gap (rows_in m r) at threshold) ≡ true
    → check_listings limits (with_index gap at threshold (relation_in m r)) ≡ Some why.IndexFull
index_too_full gap m limits r at threshold over =
    ap (λ (b : Bool). refused_where b why.IndexFull) (full_mid (is_overfull limits) (indexes_in m r.paths) [] (at, new_index gap (rows_in m r) at threshold) over)

-- the same change, told by the statement
pub became_by : (m w : PageMap) (limits : Limits) (r u : RelationView) (column : Column) (given : Option ℕ) (place : ℕ) (threshold : Option ℕ) → IsWanted r column.column given place threshold
    → Became m w limits r u (λ gap. with_index gap place threshold) → Became m w limits r u (λ gap. indexed_by gap column given)
became_by m w limits r u column given place threshold wanted b = record {
  stands = b.stands;
  means = λ gap is. b.means gap is ∙ sym (wanted_is gap m column given r place threshold wanted);
  keeps = b.keeps;
}

-- what the new index is to the database
pub indexed_is : (old new : PoolState) (limits : Limits) (column : Column) (given : Option ℕ) (rs us : List RelationView) (at : ℕ) (r u : RelationView) (place : ℕ) (threshold : Option ℕ)
    → IsStore (record { relations = rs; limits = limits }) old → FirstAt column.relation rs at → at < length rs → r ≡ get_or rs at r → us ≡ set rs at u → IsWanted r column.column given place threshold
    → HasPath r u place → (IsTold old → Became old.pages new.pages limits r u (λ gap. indexed_by gap column given)) → Indexed (store_from rs limits old) (store_from us limits new) column given
indexed_is old new limits column given rs us at r u place threshold h first l here is wanted path b = record {
  passes = λ setting s e. (
    early_there setting old.pages rs column given at r first here ∙ wanted.passes,
    λ told.
        late_there setting limits old.pages rs column given at r first here e
        ∙ (ap (λ (x : Relation). check_listings limits x) (sym ((b told).means setting.gap s.gap)) ∙ stands_within new.pages limits u (b told).stands),
  );
  sketched = sketched_in_place column.relation rs us at r u (with_indexed column.column) first here is (indexed_sketch r u column.column place wanted.place path);
  becomes = λ told gap s. becomes_in_place old new limits column.relation rs us at r u (λ g. indexed_by g column given) h first l here is b told gap s;
}

-- The command, from where it began to where it ended.

pub command_became : (old began now done : PoolState) (limits : Limits) (r u : RelationView) (at : ℕ) (threshold : Option ℕ) (a : AccessPath) → (IsTold old → began.pages ≡ old.pages)
    → began.disk.told ≡ old.disk.told → done.pages ≡ now.pages → (IsTold old → RelationStands old.pages limits r)
    → (IsTold old → (q : ℕ) → times q (relation_pages old.pages r) ≤ live (store_of old.pages) q)
    → (IsTold began → Builds began.pages now.pages limits r.schema (rows_in began.pages r) at threshold a) → u ≡ indexed_view r at a → IsTold old
    → Became old.pages done.pages limits r u (λ gap. with_index gap at threshold)
command_became old began now done limits r u at threshold a pages same ended stands owns builds is told =
    let B : PageMap → Type 0 = λ m. Builds m now.pages limits r.schema (rows_in m r) at threshold a in
    let D : PageMap → Type 0 = λ m. Became old.pages m limits r (indexed_view r at a) (λ gap. with_index gap at threshold) in
    let U : RelationView → Type 0 = λ y. Became old.pages done.pages limits r y (λ gap. with_index gap at threshold) in
    subst U (sym is) (subst D (sym ended) (index_became old.pages now.pages limits r at threshold a (stands told) (owns told) (subst B (pages told) (builds (same ∙ told)))))

pub command_full : (gap : Measure) (old began : PoolState) (limits : Limits) (r : RelationView) (at : ℕ) (threshold : Option ℕ) → (IsTold old → began.pages ≡ old.pages)
    → began.disk.told ≡ old.disk.told
    → (IsTold began → is_overfull limits (at, new_index gap (rows_in began.pages r) at threshold) ≡ true) → IsTold old
    → check_listings limits (with_index gap at threshold (relation_in old.pages r)) ≡ Some why.IndexFull
command_full gap old began limits r at threshold pages same full told =
    let P : PageMap → Type 0 = λ m. is_overfull limits (at, new_index gap (rows_in m r) at threshold) ≡ true in
    index_too_full gap old.pages limits r at threshold (subst P (pages told) (full (same ∙ told)))

-- What the command is given: a column of its kind, and a threshold where it has shapes.

threshold_there : (k : Kind) (given : Option ℕ) → is_there (threshold_of k given) ≡ is_spatial k
threshold_there k given =
    let go : (b : Bool) → is_spatial k ≡ b → is_there (threshold_of k given) ≡ is_spatial k = elim [ true ↦ λ e. rw e refl | false ↦ λ e. rw e refl ] in
    go (is_spatial k) refl

threshold_fits : (k : Kind) (given : Option ℕ) → IsThreshold given → IsThreshold (threshold_of k given)
threshold_fits k None h =
    let go : (b : Bool) → is_spatial k ≡ b → IsThreshold (threshold_of k None) = elim [ true ↦ λ e. rw e (omega arith, omega arith) | false ↦ λ e. rw e tt ] in
    go (is_spatial k) refl
threshold_fits k (Some t) h =
    let go : (b : Bool) → is_spatial k ≡ b → IsThreshold (threshold_of k (Some t)) = elim [ true ↦ λ e. rw e h | false ↦ λ e. rw e tt ] in
    go (is_spatial k) refl

-- of a relation x that was read a second time

pub wanted_column : (x r : RelationView) (name : List ℕ) (given : Option ℕ) (at : ℕ) (threshold : Option ℕ) → x ≡ r → IsWanted r name given at threshold → IsColumnAt x.schema at (is_there threshold)
wanted_column x r name given at threshold e w =
    let kind : is_spatial w.column.1 ≡ is_there threshold = sym (ap (λ (t : Option ℕ). is_there t) w.asked ∙ threshold_there w.column.1 given) in
    let P : RelationView → Type 0 = λ y. IsColumnAt y.schema at (is_there threshold) in
    subst P (sym e) (w.column.0, w.column.1, w.here, kind)

pub wanted_threshold : (r : RelationView) (name : List ℕ) (given : Option ℕ) (at : ℕ) (threshold : Option ℕ) → IsThreshold given → IsWanted r name given at threshold → IsThreshold threshold
wanted_threshold r name given at threshold h w = subst IsThreshold (sym w.asked) (threshold_fits w.column.1 given h)

-- a relation that is put in its own place changes nothing
pub set_same : (rs : List RelationView) (at : ℕ) (x u : RelationView) → at < length rs → x ≡ get_or rs at x → u ≡ x → set rs at u ≡ rs
set_same [] at x u l here e = absurd (omega arith)
set_same (y ∷ rs) zero x u l here e = ap (λ (z : RelationView). z ∷ rs) (e ∙ here)
set_same (y ∷ rs) (suc at) x u l here e = ap (λ (zs : List RelationView). y ∷ zs) (set_same rs at x u (omega arith) here e)

-- so after a refusal the store is what it was

pub reverted_store : (old new : PoolState) (limits : Limits) (rs us : List RelationView) → IsStore (record { relations = rs; limits = limits }) old → us ≡ rs
    → IsClosed new → new.disk.told ≡ old.disk.told
    → (IsTold old → new.pages ≡ old.pages) → IsStore (record { relations = us; limits = limits }) new
reverted_store old new limits rs us h same closed told pages =
    let P : List RelationView → Type 0 = λ xs. IsStore (record { relations = xs; limits = limits }) new in
    let Q : PageMap → Type 0 = λ m. CatalogStands m (record { relations = rs; limits = limits }) in
    subst P (sym same) (record {
      closed = closed;
      described = h.described;
      stands = λ t. (let o : IsTold old = sym told ∙ t in subst Q (sym (pages o)) (h.stands o));
    })

pub reverted_unchanged : (old new : PoolState) (limits : Limits) (rs us : List RelationView) → us ≡ rs → new.disk.told ≡ old.disk.told → (IsTold old → new.pages ≡ old.pages)
    → IsUnchanged (store_from rs limits old) (store_from us limits new)
reverted_unchanged old new limits rs us same told pages = record {
  catalog = ap (λ (xs : List RelationView). record { relations = xs; limits = limits }) same;
  told = told;
  pages = pages;
}

-- The relation that has got an index, put in its place; it is x, as it was read a second time.

path_described : (limits : Limits) (r u : RelationView) (name : List ℕ) (given : Option ℕ) (place : ℕ) (threshold : Option ℕ) → IsDescribed limits r
    → IsWanted r name given place threshold → HasPath r u place
    → IsDescribed limits u × (u.name ≡ r.name)
path_described limits r u name given place threshold d w p =
    let P : RelationView → Type 0 = λ y. IsDescribed limits y × (y.name ≡ r.name) in
    subst P (sym p.added) (indexed_described limits r name given place threshold p.path d w p.of, refl)

pub store_indexed : (old new : PoolState) (limits : Limits) (column : Column) (given : Option ℕ) (rs us : List RelationView) (at : ℕ) (r x u : RelationView) (place : ℕ) (threshold : Option ℕ)
    → IsStore (record { relations = rs; limits = limits }) old → FirstAt column.relation rs at → at < length rs → r ≡ get_or rs at r → x ≡ r → us ≡ set rs at u → IsDescribed limits r
    → IsWanted r column.column given place threshold → HasPath x u place → new.disk.told ≡ old.disk.told → IsClosed new
    → (IsTold old → Became old.pages new.pages limits x u (λ gap. with_index gap place threshold)) → IsStore (record { relations = us; limits = limits }) new
store_indexed old new limits column given rs us at r x u place threshold h first l here same is d wanted path told closed b =
    let H : RelationView → Type 0 = λ y. HasPath y u place in
    let B : RelationView → Type 0 = λ y. IsTold old → Became old.pages new.pages limits y u (λ gap. with_index gap place threshold) in
    let k = path_described limits r u column.column given place threshold d wanted (subst H same path) in
    put_in_place old new limits column.relation rs us at r u (λ gap. with_index gap place threshold) h first l here is k.1 k.0 told closed (subst B same b)

pub database_indexed : (old new : PoolState) (limits : Limits) (column : Column) (given : Option ℕ) (rs us : List RelationView) (at : ℕ) (r x u : RelationView) (place : ℕ) (threshold : Option ℕ)
    → IsStore (record { relations = rs; limits = limits }) old → FirstAt column.relation rs at → at < length rs → r ≡ get_or rs at r → x ≡ r → us ≡ set rs at u
    → IsWanted r column.column given place threshold → HasPath x u place → (IsTold old → Became old.pages new.pages limits x u (λ gap. with_index gap place threshold))
    → Indexed (store_from rs limits old) (store_from us limits new) column given
database_indexed old new limits column given rs us at r x u place threshold h first l here same is wanted path b =
    let H : RelationView → Type 0 = λ y. HasPath y u place in
    let B : RelationView → Type 0 = λ y. IsTold old → Became old.pages new.pages limits y u (λ gap. with_index gap place threshold) in
    indexed_is old new limits column given rs us at r u place threshold h first l here is wanted (subst H same path)
    (λ told. became_by old.pages new.pages limits r u column given place threshold wanted (subst B same b told))

-- a full quadtree, told of the relation as it was read first
pub full_by : (pool : PoolState) (limits : Limits) (r x : RelationView) (place : ℕ) (threshold : Option ℕ) (w : Refusal) → x ≡ r
    → (w ≡ why.IndexFull → IsTold pool → (gap : Measure) → IsMeasure gap → check_listings limits (with_index gap place threshold (relation_in pool.pages x)) ≡ Some why.IndexFull)
    → w ≡ why.IndexFull → IsTold pool → (gap : Measure) → IsMeasure gap → check_listings limits (with_index gap place threshold (relation_in pool.pages r)) ≡ Some why.IndexFull
full_by pool limits r x place threshold w same full =
    let P : RelationView → Type 0 = λ y. w ≡ why.IndexFull → IsTold pool → (gap : Measure) → IsMeasure gap
    → check_listings limits (with_index gap place threshold (relation_in pool.pages y)) ≡ Some why.IndexFull in
    subst P same full
