-- What the call answers that deletes a row: why it is refused, and what the store is after it.
use Rattle.std.proofs.Common.{◌≡◌, ℕ, ◌<◌, ◌≤◌, true, List, [], ◌∷◌, length, get_or, set, Option, Some, None, refl, sym, ◌∙◌, ap, subst, arith, All, inl, inr}
use Rattle.std.specs.Prelude.{not}
use Rattle.std.specs.List.{find, position}
use Rattle.std.proofs.lemmas.Bool.Decides.{eqb_tells}
use Rattle.std.proofs.lemmas.List.Elements.{All-head, All-tail}
use Rattle.page_pool.specs.Disk.{PageMap}
use Rattle.page_pool.specs.Pool.{PoolState, IsTold}
use Rattle.page_pool.specs.Reads.{IsRead}
use Rattle.page_pool.specs.Steps.{IsClosed-read}
use Rattle.sand_base.specs.declared.limits.Limits.{Limits}
use Rattle.sand_base.specs.declared.refusal.Refusal.{Refusal}
use Rattle.sand_base.specs.declared.refusal.Refusal.TheVariants as why
use Rattle.sand_base.specs.declared.value.Value.{Value}
use Rattle.sand_model.specs.Database.{without_row}
use Rattle.sand_model.specs.Kept.{has_number_twice}
use Rattle.statements.specs.Statement.{Delete}
use Rattle.sand_model.specs.StatementChecks.{Setting, early, late, refused_where, is_there}
use Rattle.r_tree.specs.declared.tree.RTree.{RTree}
use Rattle.tuple_file.specs.declared.file.TupleFile.{TupleFile}
use Rattle.tuple_file.specs.Calls.{IsRowAt}
use Rattle.tuple_file.specs.File.{tuples_of}
use Rattle.tuple_file.specs.Rows.{of_id}
use Rattle.tuple_file.proofs.Tables.{fetched}
use Rattle.pmr_tree.specs.Quadtree.{store_of}
use Rattle.sand_store.specs.declared.path.AccessPath.{AccessPath}
use Rattle.sand_store.specs.Calls.{alone, Refuses, IsStatementRefused, Deleted, is_missing, early_at, late_at}
use Rattle.sand_store.specs.Catalog.{RelationView, CatalogView, StoreState, is_named, IsColumnAt, IsDescribed}
use Rattle.sand_store.specs.Contents.{rows_in, database_in}
use Rattle.sand_store.specs.Leaving.{RelationCanLose, shrunk_view, IsOutsideOrMissing, there_check}
use Rattle.sand_store.specs.Sketches.{sketch_of}
use Rattle.sand_store.specs.Standing.{CatalogStands, RelationStands, IsStore}
use Rattle.sand_store.specs.Steps.{store_from, Became, FirstAt, SamePlaces, SameColumns, IsOutside}
use Rattle.sand_store.proofs.Changes.{becomes_in_place}
use Rattle.sand_store.proofs.Found.{none_found, found_at, relation_at}
use Rattle.sand_store.proofs.Inserts.{described_at, stands_at, owns_at}
use Rattle.sand_store.proofs.Places.{named_in}
use Rattle.sand_store.proofs.Refusals.{outside_refuses}
use Rattle.sand_store.proofs.Sketched.{kept_in_place}

-- the early check of a deletion is that its relation is there
early_delete : (setting : Setting) (m : PageMap) (rs : List RelationView) (name : List ℕ) (id : ℕ)
    → early setting (alone (database_in m rs)) (Delete name id) ≡ there_check (find (is_named name) rs)
early_delete setting m rs name id =
    let go : (o : Option RelationView) → find (is_named name) rs ≡ o → early setting (alone (database_in m rs)) (Delete name id) ≡ there_check (find (is_named name) rs) =
    elim [ None ↦ λ e. rw (named_in m rs name, e) refl | Some r ↦ λ e. rw (named_in m rs name, e) refl ] in
    go (find (is_named name) rs) refl

early_passes : (setting : Setting) (m : PageMap) (rs : List RelationView) (name : List ℕ) (id at : ℕ) (r : RelationView) → FirstAt name rs at → r ≡ get_or rs at r
    → early setting (alone (database_in m rs)) (Delete name id) ≡ None
early_passes setting m rs name id at r first here =
    early_delete setting m rs name id ∙ ap (λ (o : Option RelationView). there_check o) (found_at name rs at r first here)

-- the late one is that the id has a row
late_delete : (setting : Setting) (m : PageMap) (rs : List RelationView) (name : List ℕ) (id at : ℕ) (r : RelationView) (found : Option (List Value)) → FirstAt name rs at → r ≡ get_or rs at r
    → of_id id (rows_in m r) ≡ found → late setting (alone (database_in m rs)) (Delete name id) ≡ refused_where (not (is_there found)) why.NoSuchId
late_delete setting m rs name id at r found first here e =
    rw (relation_at m name rs at r first here) (ap (λ (o : Option (List Value)). refused_where (not (is_there o)) why.NoSuchId) e)

-- no relation has the name
pub none_to_lose : (pool : PoolState) (rs : List RelationView) (limits : Limits) (name : List ℕ) (id : ℕ) → position (is_named name) rs ≡ None
    → IsStatementRefused is_missing (store_from rs limits pool) (Delete name id) why.UnknownRelation
none_to_lose pool rs limits name id e = λ setting is l.
    early_delete setting pool.pages rs name id ∙ ap (λ (o : Option RelationView). there_check o) (none_found name rs e)

-- the id has no row
outside_or_missing : (told : Type 0) (before behind : Option Refusal) (w : Refusal) → IsOutsideOrMissing w → before ≡ None → (w ≡ why.NoSuchId → told → behind ≡ Some why.NoSuchId)
    → Refuses told is_missing before behind w
outside_or_missing told before behind why.Memory o e f = tt
outside_or_missing told before behind why.Device o e f = e
outside_or_missing told before behind (why.Damaged n kept read) o e f = e
outside_or_missing told before behind why.NoSuchId o e f = (e, f refl)
outside_or_missing told before behind _ o e f = absurd o

pub not_found : (pool : PoolState) (rs : List RelationView) (limits : Limits) (name : List ℕ) (id at : ℕ) (r : RelationView) (w : Refusal) → FirstAt name rs at → r ≡ get_or rs at r
    → IsOutsideOrMissing w → (w ≡ why.NoSuchId → IsTold pool → of_id id (rows_in pool.pages r) ≡ None) → IsStatementRefused is_missing (store_from rs limits pool) (Delete name id) w
not_found pool rs limits name id at r w first here outside missing = λ setting is l.
    let store : StoreState = store_from rs limits pool in
    outside_or_missing (IsTold pool) (early_at setting store (Delete name id)) (late_at setting store (Delete name id)) w outside
    (early_passes setting pool.pages rs name id at r first here) (λ e told. late_delete setting pool.pages rs name id at r None first here (missing e told))

-- the command is refused
pub remove_refused : (pool : PoolState) (rs : List RelationView) (limits : Limits) (name : List ℕ) (id at : ℕ) (r : RelationView) (w : Refusal) → FirstAt name rs at → r ≡ get_or rs at r
    → IsOutside w → IsStatementRefused is_missing (store_from rs limits pool) (Delete name id) w
remove_refused pool rs limits name id at r w first here outside = λ setting is l.
    let store : StoreState = store_from rs limits pool in
    outside_refuses (IsTold pool) is_missing (early_at setting store (Delete name id)) (late_at setting store (Delete name id)) w outside (early_passes setting pool.pages rs name id at r first here)

-- what was fetched is the row of the id
pub row_fetched : (m : PageMap) (limits : Limits) (x r : RelationView) (id : ℕ) (found : Option (List Value)) → x ≡ r → RelationStands m limits r
    → IsRowAt x.schema (tuples_of (store_of m) x.file) id found
    → of_id id (rows_in m r) ≡ found
row_fetched m limits x r id found e h is =
    let P : RelationView → Type 0 = λ y. IsRowAt y.schema (tuples_of (store_of m) y.file) id found in
    let Q : List (ℕ × List ℕ) → Type 0 = λ ts. IsRowAt r.schema ts id found in
    sym (fetched r.schema (rows_in m r) id found h.table.rows (subst Q h.table.tuples (subst P e is)))

-- the id 0 has none
pub none_at_zero : (m : PageMap) (limits : Limits) (r : RelationView) (id : ℕ) → id ≡ 0 → RelationStands m limits r → of_id id (rows_in m r) ≡ None
none_at_zero m limits r id e h =
    ap (λ (i : ℕ). of_id i (rows_in m r)) e ∙ go (rows_in m r) h.given_out where
      go : (rows : List (ℕ × List Value)) → All (λ (x : ℕ × List Value). (1 ≤ x.0) × (x.0 < r.next)) rows → of_id 0 rows ≡ None
      go [] a = refl
      go (x ∷ rows) a =
          let here : (1 ≤ x.0) × (x.0 < r.next) = All-head (λ (y : ℕ × List Value). (1 ≤ y.0) × (y.0 < r.next)) x rows a in
          let rest : of_id 0 rows ≡ None = go rows (All-tail (λ (y : ℕ × List Value). (1 ≤ y.0) × (y.0 < r.next)) x rows a) in
          elim (eqb_tells x.0 0) [ inl y ↦ absurd (omega (arith, y.1, here.0)) | inr y ↦ rw y.0 rest ]

-- what reading leaves
read_store : (old new : PoolState) (catalog : CatalogView) → IsRead old new → IsStore catalog old → IsStore catalog new
read_store old new catalog read h =
    let P : PageMap → Type 0 = λ m. CatalogStands m catalog in
    record {
      closed = IsClosed-read old new read h.closed;
      described = h.described;
      stands = λ told. subst P (sym read.pages) (h.stands (sym read.told ∙ told));
    }

-- a relation of a store can lose a row that it has
pub can_lose_at : (pool : PoolState) (rs : List RelationView) (limits : Limits) (at : ℕ) (r : RelationView) (id : ℕ) (row : List Value) → IsStore (record { relations = rs; limits = limits }) pool
    → at < length rs → r ≡ get_or rs at r → IsTold pool → of_id id (rows_in pool.pages r) ≡ Some row → RelationCanLose pool.pages limits r id row
can_lose_at pool rs limits at r id row h l here told there = record {
  stands = stands_at pool rs limits at r h l here told;
  owns = owns_at pool rs limits at r h l here told;
  small = omega (arith, (described_at pool rs limits at r h l here).few, h.described.limits.few_ids);
  there = there;
}

-- a row that was there before the reading is there after it
row_read : (old new : PoolState) (r : RelationView) (id : ℕ) (row : List Value) → IsRead old new → (IsTold old → of_id id (rows_in old.pages r) ≡ Some row) → IsTold new
    → of_id id (rows_in new.pages r) ≡ Some row
row_read old new r id row read there told =
    let P : PageMap → Type 0 = λ m. of_id id (rows_in m r) ≡ Some row in
    subst P (sym read.pages) (there (sym read.told ∙ told))

-- so the relation can lose it then
pub can_lose_read : (old new : PoolState) (rs : List RelationView) (limits : Limits) (at : ℕ) (r : RelationView) (id : ℕ) (row : List Value)
    → IsStore (record { relations = rs; limits = limits }) old → IsRead old new → at < length rs → r ≡ get_or rs at r → (IsTold old → of_id id (rows_in old.pages r) ≡ Some row) → IsTold new
    → RelationCanLose new.pages limits r id row
can_lose_read old new rs limits at r id row h read l here there told =
    can_lose_at new rs limits at r id row (read_store old new (record { relations = rs; limits = limits }) read h) l here told (row_read old new r id row read there told)

-- and what it became is told by the pages of before
pub became_read : (old mid new : PoolState) (rs : List RelationView) (limits : Limits) (at : ℕ) (r u : RelationView) (id : ℕ) (row : List Value)
    → IsStore (record { relations = rs; limits = limits }) old → IsRead old mid → at < length rs → r ≡ get_or rs at r → (IsTold old → of_id id (rows_in old.pages r) ≡ Some row)
    → (IsTold mid → (bounds : Limits) → RelationCanLose mid.pages bounds r id row → Became mid.pages new.pages bounds r u (λ gap. without_row id))
    → IsTold old → Became old.pages new.pages limits r u (λ gap. without_row id)
became_read old mid new rs limits at r u id row h read l here there b told =
    let P : PageMap → Type 0 = λ m. Became m new.pages limits r u (λ gap. without_row id) in
    let after : IsTold mid = read.told ∙ told in
    subst P read.pages (b after limits (can_lose_read old mid rs limits at r id row h read l here there after))

-- the relation without the row is described
pub shrunk_described : (limits : Limits) (r : RelationView) (spans : List ℕ) (file : TupleFile) (after : List (ℕ × AccessPath)) (trees : List (ℕ × RTree))
    → IsDescribed limits r → SamePlaces r.schema r.paths after
    → SameColumns r.trees trees → IsDescribed limits (shrunk_view r spans file after trees)
shrunk_described limits r spans file after trees h p t = record {
  schema = h.schema;
  columns = h.columns;
  begun = h.begun;
  few = h.few;
  indexed = ap (λ (ns : List ℕ). has_number_twice ns) p.places ∙ h.indexed;
  paths = p.paths;
  bounded = ap (λ (ns : List ℕ). has_number_twice ns) t ∙ h.bounded;
  trees = subst (λ (ns : List ℕ). All (λ n. IsColumnAt r.schema n true) ns) (sym t) h.trees;
}

-- what the loss of a row is to the database
pub deleted_is : (old new : PoolState) (limits : Limits) (name : List ℕ) (id : ℕ) (row : List Value) (rs us : List RelationView) (at : ℕ) (r u : RelationView)
    → IsStore (record { relations = rs; limits = limits }) old → FirstAt name rs at → at < length rs → r ≡ get_or rs at r → us ≡ set rs at u
    → sketch_of u ≡ sketch_of r → (IsTold old → of_id id (rows_in old.pages r) ≡ Some row) → (IsTold old → Became old.pages new.pages limits r u (λ gap. without_row id))
    → Deleted (store_from rs limits old) (store_from us limits new) name id
deleted_is old new limits name id row rs us at r u h first l here is sketch there b = record {
  passes = λ setting s e. (early_passes setting old.pages rs name id at r first here, λ told. late_delete setting old.pages rs name id at r (Some row) first here (there told));
  sketched = kept_in_place rs us at r u l here is sketch;
  becomes = λ told gap s. becomes_in_place old new limits name rs us at r u (λ g. without_row id) h first l here is b told gap s;
}
