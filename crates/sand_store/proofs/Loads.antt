-- Rows enter a relation one after another: those that did, and those still to enter, make up the load.
use Rattle.std.proofs.Common.{◌≡◌, ℕ, zero, suc, ◌+◌, ◌-◌, ◌<◌, true, List, [], ◌∷◌, ◌++◌, length, take, drop, get_or, set, refl, sym, ◌∙◌, ap, subst, arith, Option, Some, None, inl, inr, true≢false}
use Rattle.std.specs.List.{find}
use Rattle.std.proofs.lemmas.List.{take-append-drop}
use Rattle.page_pool.specs.Causes.{failures_of}
use Rattle.page_pool.specs.Disk.{PageMap}
use Rattle.page_pool.specs.Pool.{PoolState, IsTold, IsClosed}
use Rattle.page_pool.specs.Steps.{InCommand, InCommand-trans}
use Rattle.pmr_tree.specs.Quadtree.{store_of}
use Rattle.pmr_tree.proofs.OwnPages.{keeps_then}
use Rattle.sand_base.specs.declared.limits.Limits.{Limits}
use Rattle.sand_base.specs.declared.refusal.Refusal.{Refusal}
use Rattle.sand_base.specs.declared.refusal.Refusal.TheVariants as why
use Rattle.sand_base.specs.declared.value.Value.{Value}
use Rattle.sand_model.specs.Database.{Relation, with_row}
use Rattle.sand_model.specs.StatementChecks.{Setting, IsSetting}
use Rattle.r_tree.specs.declared.tree.RTree.{RTree}
use Rattle.tuple_file.specs.declared.file.TupleFile.{TupleFile}
use Rattle.sand_store.specs.declared.path.AccessPath.{AccessPath}
use Rattle.sand_store.specs.Calls.{Refuses, is_of_a_row, loaded, load_early, load_late, load_plain, LoadIsRefusedBy, RefusesRows, OnePasses, IsRefusedPlainly, Loaded}
use Rattle.sand_store.specs.Catalog.{RelationView, StoreState, is_named, IsDescribed}
use Rattle.sand_store.specs.Contents.{relation_in}
use Rattle.sand_store.specs.Loads.{row_refusal, plain_of, StopsAt, CountsRows, Enters}
use Rattle.sand_store.specs.Ownership.{relation_pages}
use Rattle.sand_store.specs.Sketches.{sketch_of, with_ids}
use Rattle.sand_store.specs.Standing.{IsStore}
use Rattle.sand_store.specs.Steps.{store_from, Became, SamePlaces, SameColumns, FirstAt, grown_view, row_check}
use Rattle.sand_store.proofs.Changes.{put_in_place, becomes_in_place}
use Rattle.sand_store.proofs.Found.{found_at}
use Rattle.sand_store.proofs.InsertCall.{grown_described}
use Rattle.sand_store.proofs.Places.{named_in}
use Rattle.sand_store.proofs.PlainChecks.{load_plain_is, plain_next, plain_stops, refuses_by}
use Rattle.sand_store.proofs.Refusals.{outside_refuses}
use Rattle.sand_store.proofs.RowChecks.{row_passes}
use Rattle.sand_store.proofs.Sketched.{counted_sketch, sketched_in_place}

-- rows as lists of values
abbrev Rows : Type 0
Rows = List (List Value)

-- a relation that took in a row
pub counts_one : (limits : Limits) (r : RelationView) (file : TupleFile) (paths : List (ℕ × AccessPath)) (trees : List (ℕ × RTree)) (known : List ℕ) (row : List Value) → IsDescribed limits r
    → row_check limits r row ≡ None → SamePlaces r.schema r.paths paths → SameColumns r.trees trees → CountsRows limits r (grown_view r file paths trees known) 1
counts_one limits r file paths trees known row h passes same columns = record {
  name = refl;
  schema = refl;
  next = refl;
  places = same.places;
  columns = columns;
  described = grown_described limits r file paths trees known row h passes same columns;
}

-- the first row of a load passes, and the others enter the relation with it
loaded_next : (setting : Setting) (row : List Value) (rest : Rows) (relation : Relation) → row_refusal setting row relation ≡ None
    → loaded setting (row ∷ rest) relation ≡ loaded setting rest (with_row setting.gap row relation)
loaded_next setting row rest relation e = rw e refl

-- or it is refused, and the load with it
loaded_stops : (setting : Setting) (row : List Value) (rest : Rows) (relation : Relation) (w : Refusal) → row_refusal setting row relation ≡ Some w
    → (loaded setting (row ∷ rest) relation).0 ≡ Some w
loaded_stops setting row rest relation w e = rw e refl

-- one row more
pub enters_next : (m v w : PageMap) (limits : Limits) (r u x : RelationView) (rows : Rows) (row : List Value) (rest : Rows) → Enters m v limits r u rows (row ∷ rest)
    → row_check limits u row ≡ None → Became v w limits u x (λ gap. with_row gap row) → Enters m w limits r x rows rest
enters_next m v w limits r u x rows row rest k passes b = record {
  stands = b.stands;
  keeps = keeps_then (store_of m) (store_of v) (store_of w) (relation_pages m r) (relation_pages v u) (relation_pages w x) k.keeps b.keeps;
  whole = λ setting is l. (
      k.whole setting is l
      ∙ (loaded_next setting row rest (relation_in v u) (row_passes setting v w limits u x row is.gap l passes b)
      ∙ ap (λ (y : Relation). loaded setting rest y) (sym (b.means setting.gap is.gap))));
}

-- Between two rows of the loop: what holds of the pages where they are told, and what holds anyway.
pub record Loading (first now : PoolState) (limits : Limits) (r u : RelationView) (rows : Rows) (at : ℕ) : Type 0 where
  pub within : InCommand first now
  pub counted : failures_of now ≡ failures_of first
  pub counts : CountsRows limits r u at
  pub passed : plain_of limits r (take at rows) ≡ None
  pub enters : IsTold first → Enters first.pages now.pages limits r u rows (drop at rows)

-- what is left begins with the row at the place
drop_row : (rows : Rows) (at : ℕ) (row : List Value) → at < length rows → row ≡ get_or rows at row → drop at rows ≡ row ∷ drop (at + 1) rows
drop_row [] at row l e = absurd (omega arith)
drop_row (x ∷ rows) zero row l e = ap (λ (y : List Value). y ∷ rows) (sym e)
drop_row (x ∷ rows) (suc at) row l e =
    let n : suc at + 1 ≡ suc (at + 1) = omega arith in
    drop_row rows at row (omega arith) e ∙ ap (λ (ys : Rows). row ∷ ys) (ap (λ (k : ℕ). drop k (x ∷ rows)) (sym n))

-- what entered so far, before the row at the place
before_row : (first now : PoolState) (limits : Limits) (r u : RelationView) (rows : Rows) (at : ℕ) (row : List Value) → Loading first now limits r u rows at
    → at < length rows → row ≡ get_or rows at row → IsTold first → Enters first.pages now.pages limits r u rows (row ∷ drop (at + 1) rows)
before_row first now limits r u rows at row k l here told =
    let P : Rows → Type 0 = λ rest. Enters first.pages now.pages limits r u rows rest in
    subst P (drop_row rows at row l here) (k.enters told)

-- a step of the loop
pub loading_next : (first now next : PoolState) (limits : Limits) (r u x : RelationView) (rows : Rows) (at : ℕ) (row : List Value) → Loading first now limits r u rows at
    → at < length rows → row ≡ get_or rows at row → InCommand now next → failures_of next ≡ failures_of now → CountsRows limits u x 1 → row_check limits u row ≡ None
    → (IsTold now → Became now.pages next.pages limits u x (λ gap. with_row gap row)) → Loading first next limits r x rows (at + 1)
loading_next first now next limits r u x rows at row k l here within counted counts passes became = record {
  within = InCommand-trans first now next k.within within;
  counted = counted ∙ k.counted;
  counts = record {
    name = counts.name ∙ k.counts.name;
    schema = counts.schema ∙ k.counts.schema;
    next = omega (arith, counts.next, k.counts.next);
    places = counts.places ∙ k.counts.places;
    columns = counts.columns ∙ k.counts.columns;
    described = counts.described;
  };
  passed = plain_next limits r u rows at row k.counts.schema k.counts.next k.passed l here passes;
  enters = λ told. enters_next first.pages now.pages next.pages limits r u x rows row (drop (at + 1) rows) (before_row first now limits r u rows at row k l here told) passes
      (became (k.within.told ∙ told));
}

-- a row that is refused refuses the load
pub loading_stops : (first now : PoolState) (limits : Limits) (r u : RelationView) (rows : Rows) (at : ℕ) (row : List Value) (w : Refusal) → Loading first now limits r u rows at
    → at < length rows → row ≡ get_or rows at row → StopsAt (IsTold now) limits (λ setting. row_refusal setting row (relation_in now.pages u)) w
    → StopsAt (IsTold first) limits (λ setting. (loaded setting rows (relation_in first.pages r)).0) w
loading_stops first now limits r u rows at row w k l here h = elim h [
  | inl o ↦ inl o
  | inr p ↦ inr (
    p.0,
    λ told setting is e. (
        ap (λ (x : Option Refusal × Relation). x.0) ((before_row first now limits r u rows at row k l here told).whole setting is e)
        ∙ loaded_stops setting row (drop (at + 1) rows) (relation_in now.pages u) w (p.1 (k.within.told ∙ told) setting is e)),
  )
]

-- one of its checks is the first of the load's that fails, or it passes
pub loading_refuses : (first now : PoolState) (limits : Limits) (r u : RelationView) (rows : Rows) (at : ℕ) (row : List Value) (w : Refusal) → Loading first now limits r u rows at
    → at < length rows → row ≡ get_or rows at row → RefusesRows (row_check limits u row) (row_check limits u row ≡ None) w
    → RefusesRows (plain_of limits r rows) (OnePasses rows (plain_of limits r)) w
loading_refuses first now limits r u rows at row w k l here h =
    let split : rows ≡ take at rows ++ row ∷ drop (at + 1) rows = sym (take-append-drop at rows) ∙ ap (λ (rest : Rows). take at rows ++ rest) (drop_row rows at row l here) in
    refuses_by (row_check limits u row) (plain_of limits r rows) (row_check limits u row ≡ None) (OnePasses rows (plain_of limits r)) w
    (λ x fails. plain_stops limits r u rows at row (drop (at + 1) rows) x k.counts.schema k.counts.next k.passed l split fails)
    (λ passes. (at, l, plain_next limits r u rows at row k.counts.schema k.counts.next k.passed l here passes)) h

-- what a load refuses that is of a row
late_refuses : (told : Type 0) (before behind : Option Refusal) (w : Refusal) → is_of_a_row w ≡ true → before ≡ None → (told → behind ≡ Some w)
    → Refuses told is_of_a_row before behind w
late_refuses told before behind why.WrongKind t e f = (e, f)
late_refuses told before behind why.TupleTooLong t e f = (e, f)
late_refuses told before behind why.IdsSpent t e f = (e, f)
late_refuses told before behind why.IndexFull t e f = (e, f)
late_refuses told before behind _ t e f = absurd (true≢false (sym t))

-- the checks of a load of rows of a relation that is found
early_load : (pool : PoolState) (rs : List RelationView) (limits : Limits) (name : List ℕ) (r : RelationView) → find (is_named name) rs ≡ Some r
    → load_early (store_from rs limits pool) name ≡ None
early_load pool rs limits name r e = rw (named_in pool.pages rs name, e) refl

late_load : (setting : Setting) (pool : PoolState) (rs : List RelationView) (limits : Limits) (name : List ℕ) (rows : Rows) (r : RelationView) → find (is_named name) rs ≡ Some r
    → load_late setting (store_from rs limits pool) name rows ≡ (loaded setting rows (relation_in pool.pages r)).0
late_load setting pool rs limits name rows r e = rw (named_in pool.pages rs name, e) refl

-- no relation has the name
pub load_unknown : (pool : PoolState) (rs : List RelationView) (limits : Limits) (name : List ℕ) (rows : Rows) → find (is_named name) rs ≡ None
    → LoadIsRefusedBy (store_from rs limits pool) name rows why.UnknownRelation
load_unknown pool rs limits name rows e = λ setting is l. rw (named_in pool.pages rs name, e) refl

-- the command was refused
pub load_stopped : (pool : PoolState) (rs : List RelationView) (limits : Limits) (name : List ℕ) (rows : Rows) (r : RelationView) (w : Refusal) → find (is_named name) rs ≡ Some r
    → StopsAt (IsTold pool) limits (λ setting. (loaded setting rows (relation_in pool.pages r)).0) w → LoadIsRefusedBy (store_from rs limits pool) name rows w
load_stopped pool rs limits name rows r w e h = λ setting is l.
    let store : StoreState = store_from rs limits pool in
    let before : load_early store name ≡ None = early_load pool rs limits name r e in
    elim h [
      | inl o ↦ outside_refuses (IsTold pool) is_of_a_row (load_early store name) (load_late setting store name rows) w o before
      | inr p ↦ late_refuses (IsTold pool) (load_early store name) (load_late setting store name rows) w p.0 before
          (λ told. late_load setting pool rs limits name rows r e ∙ p.1 told setting is l)
    ]

-- as far as its checks tell that need no page
pub load_refuses : (pool : PoolState) (rs : List RelationView) (limits : Limits) (name : List ℕ) (rows : Rows) (r : RelationView) (w : Refusal) → find (is_named name) rs ≡ Some r
    → RefusesRows (plain_of limits r rows) (OnePasses rows (plain_of limits r)) w → IsRefusedPlainly (store_from rs limits pool) name rows w
load_refuses pool rs limits name rows r w e h =
    let is : (xs : Rows) → load_plain (store_from rs limits pool) name xs ≡ plain_of limits r xs = λ xs. load_plain_is pool rs limits name xs r e in
    refuses_by (plain_of limits r rows) (load_plain (store_from rs limits pool) name rows) (OnePasses rows (plain_of limits r)) (OnePasses rows (load_plain (store_from rs limits pool) name)) w
    (λ x fails. is rows ∙ fails) (λ one. (one.0, one.1, is (take (one.0 + 1) rows) ∙ one.2)) h

-- a relation that all rows entered became that one, and so it did by the load in each setting
entered : (m w : PageMap) (limits : Limits) (r u : RelationView) (rows : Rows) → Enters m w limits r u rows [] → Became m w limits r u (λ gap relation. relation_in w u)
entered m w limits r u rows k = record { stands = k.stands; means = λ gap is. refl; keeps = k.keeps }

entered_in : (setting : Setting) → IsSetting setting → (m w : PageMap) (limits : Limits) (r u : RelationView) (rows : Rows) → setting.limits ≡ limits → Enters m w limits r u rows []
    → Became m w limits r u (λ gap relation. (loaded setting rows relation).1)
entered_in setting is m w limits r u rows l k = record {
  stands = k.stands;
  means = λ gap measure. ap (λ (x : Option Refusal × Relation). x.1) (sym (k.whole setting is l));
  keeps = k.keeps;
}

-- the store with the rows is one
pub loaded_store : (old new : PoolState) (rs us : List RelationView) (limits : Limits) (name : List ℕ) (rows : Rows) (at : ℕ) (r u : RelationView)
    → IsStore (record { relations = rs; limits = limits }) old → FirstAt name rs at → at < length rs → r ≡ get_or rs at r → us ≡ set rs at u → CountsRows limits r u (length rows)
    → new.disk.told ≡ old.disk.told → IsClosed new → (IsTold old → Enters old.pages new.pages limits r u rows []) → IsStore (record { relations = us; limits = limits }) new
loaded_store old new rs us limits name rows at r u h first l here is counts told closed enters =
    put_in_place old new limits name rs us at r u (λ gap relation. relation_in new.pages u) h first l here is counts.name counts.described told closed
    (λ t. entered old.pages new.pages limits r u rows (enters t))

-- what the rows are to the database
pub loaded_is : (old new : PoolState) (rs us : List RelationView) (limits : Limits) (name : List ℕ) (rows : Rows) (at : ℕ) (r u : RelationView) (count : ℕ)
    → IsStore (record { relations = rs; limits = limits }) old → FirstAt name rs at → at < length rs → r ≡ get_or rs at r → us ≡ set rs at u → CountsRows limits r u (length rows)
    → count ≡ u.next - r.next → plain_of limits r rows ≡ None → (IsTold old → Enters old.pages new.pages limits r u rows [])
    → Loaded (store_from rs limits old) (store_from us limits new) name rows count
loaded_is old new rs us limits name rows at r u count h first l here is counts counted passed enters =
    let found : find (is_named name) rs ≡ Some r = found_at name rs at r first here in
    let all : count ≡ length rows = omega (arith, counted, counts.next) in
    record {
      counted = all;
      early = early_load old rs limits name r found;
      plain = load_plain_is old rs limits name rows r found ∙ passed;
      sketched = sketched_in_place name rs us at r u (with_ids count) first here is
          (counted_sketch limits r u (length rows) counts ∙ ap (λ (n : ℕ). with_ids n (sketch_of r)) (sym all));
      late = λ told setting s e. late_load setting old rs limits name rows r found ∙ ap (λ (x : Option Refusal × Relation). x.0) ((enters told).whole setting s e);
      becomes = λ told setting s e. becomes_in_place old new limits name rs us at r u (λ gap relation. (loaded setting rows relation).1) h first l here is
          (λ t. entered_in setting s old.pages new.pages limits r u rows e (enters t)) told setting.gap s.gap;
    }
