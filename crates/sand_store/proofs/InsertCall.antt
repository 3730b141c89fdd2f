-- What the call answers that inserts a row: why it is refused, and what the store is after it.
use Rattle.std.proofs.Common.{◌≡◌, ◌⊎◌, ℕ, ◌-◌, ◌<◌, ◌≤◌, Bool, true, false, List, [], ◌∷◌, length, get_or, set, Option, Some, None, refl, sym, ◌∙◌, ap, subst, arith, inl, inr, true≢false, All}
use Rattle.std.specs.Prelude.{nat_le, nat_lt, not, is_some}
use Rattle.std.specs.List.{position, list_any}
use Rattle.std.proofs.lemmas.Bool.{leb-false}
use Rattle.std.proofs.lemmas.List.Elements.{All-head, All-tail}
use Rattle.code_btree.proofs.Orders.{lt_not}
use Rattle.page_pool.specs.Disk.{PageMap}
use Rattle.page_pool.specs.Pool.{PoolState, IsTold}
use Rattle.sand_base.specs.declared.kind.Kind.{Kind}
use Rattle.sand_base.specs.declared.limits.Limits.{Limits}
use Rattle.sand_base.specs.declared.refusal.Refusal.{Refusal}
use Rattle.sand_base.specs.declared.refusal.Refusal.TheVariants as why
use Rattle.sand_base.specs.declared.value.Value.{Value}
use Rattle.sand_model.specs.Checks.{first_refusal}
use Rattle.tuple_codec.specs.Encoding.{encoding}
use Rattle.tuple_codec.specs.Decoding.{IsRowFor}
use Rattle.sand_model.specs.Database.{Relation, with_row}
use Rattle.sand_model.specs.Kept.{has_number_twice, longest_row}
use Rattle.sand_model.specs.Measure.{Measure, IsMeasure}
use Rattle.sand_model.specs.RowSize.{row_size}
use Rattle.statements.specs.Statement.{Insert}
use Rattle.sand_model.specs.StatementChecks.{Setting, early, late, refused_where, is_row_of, is_overfull, check_listings}
use Rattle.sand_model.specs.Tree.{listings}
use Rattle.pmr_tree.specs.Quadtree.{tree_at}
use Rattle.tuple_file.specs.declared.file.TupleFile.{TupleFile}
use Rattle.sand_store.specs.declared.path.AccessPath.{AccessPath}
use Rattle.sand_store.specs.declared.path.AccessPath.TheVariants.{Quadtree, Attribute}
use Rattle.sand_store.specs.Calls.{alone, Refuses, IsStatementRefused, RowInserted, is_index_full, early_at, late_at}
use Rattle.r_tree.specs.declared.tree.RTree.{RTree}
use Rattle.sand_store.specs.Catalog.{RelationView, StoreState, is_named, IsColumnAt, IsDescribed}
use Rattle.sand_store.specs.Contents.{index_in, indexes_in, relation_in, database_in}
use Rattle.sand_store.specs.Sketches.{sketch_of, with_ids}
use Rattle.sand_store.specs.Standing.{PathStands, RelationStands, IsStore}
use Rattle.sand_store.specs.Steps.{store_from, row_check, found_check, grown_view, Became, FirstAt, SamePlaces, IsOutsideOrFull, IsRefusedOrSpent, SameColumns}
use Rattle.sand_store.proofs.Changes.{becomes_in_place}
use Rattle.sand_store.proofs.ColumnsOfShapes.{some_same}
use Rattle.sand_store.proofs.Found.{none_found, found_at, relation_at}
use Rattle.sand_store.proofs.Places.{early_insert}
use Rattle.sand_store.proofs.RowGrowth.{row_some}
use Rattle.sand_store.proofs.Sketched.{sketched_in_place}

-- no relation has the name
pub no_relation : (pool : PoolState) (rs : List RelationView) (limits : Limits) (name : List ℕ) (row : List Value) → position (is_named name) rs ≡ None
    → IsStatementRefused is_index_full (store_from rs limits pool) (Insert name row) why.UnknownRelation
no_relation pool rs limits name row e = λ setting is l.
    early_insert setting pool.pages rs name row ∙ ap (λ (o : Option RelationView). found_check setting.limits row o) (none_found name rs e)

-- the checks of a row of a relation that is there

early_there : (setting : Setting) (limits : Limits) (m : PageMap) (rs : List RelationView) (name : List ℕ) (row : List Value) (at : ℕ) (r : RelationView) → FirstAt name rs at → r ≡ get_or rs at r
    → setting.limits ≡ limits → early setting (alone (database_in m rs)) (Insert name row) ≡ row_check limits r row
early_there setting limits m rs name row at r first here l =
    early_insert setting m rs name row
    ∙ (ap (λ (o : Option RelationView). found_check setting.limits row o) (found_at name rs at r first here) ∙ ap (λ (n : Limits). row_check n r row) l)

late_there : (setting : Setting) (limits : Limits) (m : PageMap) (rs : List RelationView) (name : List ℕ) (row : List Value) (at : ℕ) (r : RelationView) → FirstAt name rs at → r ≡ get_or rs at r
    → setting.limits ≡ limits → late setting (alone (database_in m rs)) (Insert name row) ≡ check_listings limits (with_row setting.gap row (relation_in m r))
late_there setting limits m rs name row at r first here l =
    rw (relation_at m name rs at r first here) (ap (λ (n : Limits). check_listings n (with_row setting.gap row (relation_in m r))) l)

-- the first of three checks that fails is one of the three
one_of_three : (a b c : Bool) (u v w x : Refusal) → first_refusal (refused_where a u ∷ refused_where b v ∷ refused_where c w ∷ []) ≡ Some x → (x ≡ u) ⊎ ((x ≡ v) ⊎ (x ≡ w))
one_of_three true b c u v w x e = inl (sym (some_same u x e))
one_of_three false true c u v w x e = inr (inl (sym (some_same v x e)))
one_of_three false false true u v w x e = inr (inr (sym (some_same w x e)))
one_of_three false false false u v w x e = absurd (true≢false (sym (ap (λ (o : Option Refusal). is_some o) e)))

-- a check of the row refuses, or there is no memory
pub row_refused : (pool : PoolState) (rs : List RelationView) (limits : Limits) (name : List ℕ) (row : List Value) (at : ℕ) (r : RelationView) (w : Refusal)
    → FirstAt name rs at → r ≡ get_or rs at r → IsRefusedOrSpent (row_check limits r row) w → IsStatementRefused is_index_full (store_from rs limits pool) (Insert name row) w
row_refused pool rs limits name row at r w first here (inl spent) =
    let P : Refusal → Type 0 = λ x. IsStatementRefused is_index_full (store_from rs limits pool) (Insert name row) x in
    subst P (sym spent) (λ setting is l. tt)
row_refused pool rs limits name row at r w first here (inr refused) =
    let P : Refusal → Type 0 = λ x. row_check limits r row ≡ Some x → IsStatementRefused is_index_full (store_from rs limits pool) (Insert name row) x in
    elim (one_of_three (not (is_row_of r.schema row)) (nat_lt longest_row (row_size row)) (nat_le limits.ids (r.next - 1)) why.WrongKind why.TupleTooLong why.IdsSpent w refused) [
      | inl i ↦ subst P (sym i) (λ h setting is l. early_there setting limits pool.pages rs name row at r first here l ∙ h) refused
      | inr (inl i) ↦ subst P (sym i) (λ h setting is l. early_there setting limits pool.pages rs name row at r first here l ∙ h) refused
      | inr (inr i) ↦ subst P (sym i) (λ h setting is l. early_there setting limits pool.pages rs name row at r first here l ∙ h) refused
    ]

-- a refusal from outside comes where the early checks pass, and a full quadtree where the late ones say so
outside_or_full : (told : Type 0) (before behind : Option Refusal) (w : Refusal) → IsOutsideOrFull w → before ≡ None → (w ≡ why.IndexFull → told → behind ≡ Some why.IndexFull)
    → Refuses told is_index_full before behind w
outside_or_full told before behind why.Memory o e f = tt
outside_or_full told before behind why.Device o e f = e
outside_or_full told before behind (why.Damaged n kept read) o e f = e
outside_or_full told before behind why.IndexFull o e f = (e, f refl)
outside_or_full told before behind _ o e f = absurd o

-- the command is refused
pub add_refused : (pool : PoolState) (rs : List RelationView) (limits : Limits) (name : List ℕ) (row : List Value) (at : ℕ) (r : RelationView) (w : Refusal)
    → FirstAt name rs at → r ≡ get_or rs at r → row_check limits r row ≡ None → IsOutsideOrFull w
    → (w ≡ why.IndexFull → IsTold pool → (gap : Measure) → IsMeasure gap → check_listings limits (with_row gap row (relation_in pool.pages r)) ≡ Some why.IndexFull)
    → IsStatementRefused is_index_full (store_from rs limits pool) (Insert name row) w
add_refused pool rs limits name row at r w first here passes outside full = λ setting is l.
    let store : StoreState = store_from rs limits pool in
    outside_or_full (IsTold pool) (early_at setting store (Insert name row)) (late_at setting store (Insert name row)) w outside
    (early_there setting limits pool.pages rs name row at r first here l ∙ passes)
    (λ e told. late_there setting limits pool.pages rs name row at r first here l ∙ full e told setting.gap is.gap)

-- where all three checks pass, the last one does
third_passes : (a b c : Bool) (u v w : Refusal) → first_refusal (refused_where a u ∷ refused_where b v ∷ refused_where c w ∷ []) ≡ None → c ≡ false
third_passes true b c u v w e = absurd (true≢false (ap (λ (o : Option Refusal). is_some o) e))
third_passes false true c u v w e = absurd (true≢false (ap (λ (o : Option Refusal). is_some o) e))
third_passes false false true u v w e = absurd (true≢false (ap (λ (o : Option Refusal). is_some o) e))
third_passes false false false u v w e = refl

-- so an id is left to give out
pub id_left : (limits : Limits) (r : RelationView) (row : List Value) → row_check limits r row ≡ None → r.next - 1 < limits.ids
id_left limits r row e =
    leb-false limits.ids (r.next - 1)
    (third_passes (not (is_row_of r.schema row)) (nat_lt longest_row (row_size row)) (nat_le limits.ids (r.next - 1)) why.WrongKind why.TupleTooLong why.IdsSpent e)

-- its encoding has a byte at least
pub bytes_there : (limits : Limits) (r : RelationView) (row : List Value) (bytes seen : List ℕ) → IsDescribed limits r → IsRowFor r.schema row → bytes ≡ encoding row → seen ≡ bytes → 1 ≤ length seen
bytes_there limits r row bytes seen h of e same =
    let P : List ℕ → Type 0 = λ bs. 1 ≤ length bs in
    subst P (sym (same ∙ e)) (row_some r.schema row h.schema.some of.of_schema)

-- the relation with the row is described
pub grown_described : (limits : Limits) (r : RelationView) (file : TupleFile) (after : List (ℕ × AccessPath)) (trees : List (ℕ × RTree)) (spans : List ℕ) (row : List Value) → IsDescribed limits r
    → row_check limits r row ≡ None → SamePlaces r.schema r.paths after → SameColumns r.trees trees → IsDescribed limits (grown_view r file after trees spans)
grown_described limits r file after trees spans row h passes p t = record {
  schema = h.schema;
  columns = h.columns;
  begun = omega arith;
  few = omega (arith, h.begun, id_left limits r row passes);
  indexed = ap (λ (ns : List ℕ). has_number_twice ns) p.places ∙ h.indexed;
  paths = p.paths;
  bounded = ap (λ (ns : List ℕ). has_number_twice ns) t ∙ h.bounded;
  trees = subst (λ (ns : List ℕ). All (λ n. IsColumnAt r.schema n true) ns) (sym t) h.trees;
}

-- a quadtree that stands isn't overfull
not_over : (m : PageMap) (limits : Limits) (schema : List (List ℕ × Kind)) (rows : List (ℕ × List Value)) (p : ℕ × AccessPath) → PathStands m limits schema rows p
    → is_overfull limits (p.0, index_in m p.1) ≡ false
not_over m limits schema rows (column, Quadtree t) h = lt_not limits.listings (listings (tree_at m t)) h.few
not_over m limits schema rows (column, Attribute x) h = refl

pub none_over : (m : PageMap) (limits : Limits) (schema : List (List ℕ × Kind)) (rows : List (ℕ × List Value)) (ps : List (ℕ × AccessPath)) → All (PathStands m limits schema rows) ps
    → list_any (is_overfull limits) (indexes_in m ps) ≡ false
none_over m limits schema rows [] h = refl
none_over m limits schema rows (p ∷ ps) h =
    rw (not_over m limits schema rows p (All-head (PathStands m limits schema rows) p ps h)) (none_over m limits schema rows ps (All-tail (PathStands m limits schema rows) p ps h))

-- a relation that stands passes the late check
pub stands_within : (m : PageMap) (limits : Limits) (r : RelationView) → RelationStands m limits r → check_listings limits (relation_in m r) ≡ None
stands_within m limits r h = ap (λ (t : Bool). refused_where t why.IndexFull) (none_over m limits r.schema _ r.paths h.paths)

-- what the new row is to the database
pub inserted_is : (old new : PoolState) (limits : Limits) (name : List ℕ) (row : List Value) (rs us : List RelationView) (at : ℕ) (r u : RelationView)
    → IsStore (record { relations = rs; limits = limits }) old → FirstAt name rs at → at < length rs → r ≡ get_or rs at r → us ≡ set rs at u → row_check limits r row ≡ None
    → sketch_of u ≡ with_ids 1 (sketch_of r) → (IsTold old → Became old.pages new.pages limits r u (λ gap. with_row gap row))
    → RowInserted (store_from rs limits old) (store_from us limits new) name row r.next
inserted_is old new limits name row rs us at r u h first l here is passes sketch b = record {
  passes = λ setting s e. (
    early_there setting limits old.pages rs name row at r first here e ∙ passes,
    λ told.
        late_there setting limits old.pages rs name row at r first here e
        ∙ (ap (λ (x : Relation). check_listings limits x) (sym ((b told).means setting.gap s.gap)) ∙ stands_within new.pages limits u (b told).stands),
  );
  next = (relation_in old.pages r, (relation_at old.pages name rs at r first here, refl));
  sketched = sketched_in_place name rs us at r u (with_ids 1) first here is sketch;
  becomes = λ told gap s. becomes_in_place old new limits name rs us at r u (λ g. with_row g row) h first l here is b told gap s;
}
