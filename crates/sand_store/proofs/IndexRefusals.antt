-- Why the call that makes an index is refused.
use Rattle.std.proofs.Common.{◌≡◌, ◌⊎◌, ℕ, ◌+◌, Bool, true, false, ◌||◌, ◌&&◌, not, nat_eq, cond, List, [], ◌∷◌, ◌++◌, map, get_or}
use Rattle.std.proofs.Common.{Option, Some, None, refl, sym, ◌∙◌, ap, subst, inl, inr, true≢false}
use Rattle.std.specs.Prelude.{is_some}
use Rattle.std.specs.List.{find, position, list_any}
use Rattle.std.specs.Option.{option_map}
use Rattle.std.proofs.lemmas.List.{map-append}
use Rattle.page_pool.specs.Disk.{PageMap}
use Rattle.page_pool.specs.Pool.{PoolState, IsTold}
use Rattle.sand_base.specs.declared.kind.Kind.{Kind}
use Rattle.sand_base.specs.declared.limits.Limits.{Limits}
use Rattle.sand_base.specs.declared.refusal.Refusal.{Refusal}
use Rattle.sand_base.specs.declared.refusal.Refusal.TheVariants as why
use Rattle.sand_base.specs.Shape.{is_spatial}
use Rattle.sand_model.specs.Checks.{is_indexed}
use Rattle.sand_model.specs.Database.{Relation, Index, element, column_named, index_at, with_index}
use Rattle.sand_model.specs.Kept.{has_number_twice}
use Rattle.sand_model.specs.Measure.{Measure, IsMeasure}
use Rattle.statements.specs.declared.column.Column.{Column}
use Rattle.statements.specs.Statement.{Index as IndexOn}
use Rattle.sand_model.specs.StatementChecks.{Setting, early, late, is_there, check_listings, indexed_by}
use Rattle.sand_store.specs.declared.path.AccessPath.{AccessPath}
use Rattle.sand_store.specs.Building.{index_check, found_index_check, IsWanted}
use Rattle.sand_store.specs.Calls.{alone, Refuses, IsStatementRefused, is_index_full, early_at, late_at}
use Rattle.sand_store.specs.Catalog.{RelationView, StoreState, is_named}
use Rattle.sand_store.specs.Contents.{index_in, relation_in, database_in}
use Rattle.sand_store.specs.Paths.{path_at}
use Rattle.sand_store.specs.Steps.{store_from, FirstAt, IsOutsideOrFull}
use Rattle.sand_store.proofs.ColumnPaths.{index_at_path}
use Rattle.sand_store.proofs.ColumnsOfShapes.{some_same}
use Rattle.sand_store.proofs.Found.{none_found, found_at, relation_at}
use Rattle.sand_store.proofs.Places.{named_in}

abbrev pub Paths : Type 0
Paths = List (ℕ × AccessPath)

-- a column has an index where it has an access path

abbrev has_index : Option Index → Bool
has_index (Some index) = true
has_index None = false

abbrev index_at_place : Relation → Option ℕ → Bool
index_at_place relation None = false
index_at_place relation (Some at) = has_index (index_at relation at)

mapped_there : (m : PageMap) (o : Option AccessPath) → has_index (option_map (index_in m) o) ≡ is_there o
mapped_there m None = refl
mapped_there m (Some a) = refl

indexed_same : (m : PageMap) (r : RelationView) (name : List ℕ) (at : ℕ) → column_named r.schema name ≡ Some at → is_indexed (relation_in m r) name ≡ is_there (path_at r.paths at)
indexed_same m r name at f =
    ap (λ (o : Option ℕ). index_at_place (relation_in m r) o) f ∙ (ap (λ (o : Option Index). has_index o) (index_at_path m r at) ∙ mapped_there m (path_at r.paths at))

abbrev IsSameCheck : Setting → PageMap → List RelationView → Column → Option ℕ → Type 0
IsSameCheck setting m rs column given = early setting (alone (database_in m rs)) (IndexOn column given) ≡ found_index_check column.column given (find (is_named column.relation) rs)

-- the early checks of an index are those of the relation of the catalog
pub early_index : (setting : Setting) (m : PageMap) (rs : List RelationView) (column : Column) (given : Option ℕ)
    → early setting (alone (database_in m rs)) (IndexOn column given) ≡ found_index_check column.column given (find (is_named column.relation) rs)
early_index setting m rs column given = in_catalog (find (is_named column.relation) rs) refl where
  tested : (r : RelationView) (at : ℕ) (c : List ℕ × Kind) (p : Option AccessPath) (b : Bool) → find (is_named column.relation) rs ≡ Some r → column_named r.schema column.column ≡ Some at
      → element r.schema at ≡ Some c → path_at r.paths at ≡ p → (is_there given && not (is_spatial c.1)) ≡ b → IsSameCheck setting m rs column given
  tested r at c None true e f g h k = rw (named_in m rs column.relation, e, f, g, indexed_same m r column.column at f, h, k) refl
  tested r at c None false e f g h k = rw (named_in m rs column.relation, e, f, g, indexed_same m r column.column at f, h, k) refl
  tested r at c (Some a) true e f g h k = rw (named_in m rs column.relation, e, f, g, indexed_same m r column.column at f, h, k) refl
  tested r at c (Some a) false e f g h k = rw (named_in m rs column.relation, e, f, g, indexed_same m r column.column at f, h, k) refl

  at_column : (r : RelationView) (at : ℕ) (o : Option (List ℕ × Kind)) → find (is_named column.relation) rs ≡ Some r → column_named r.schema column.column ≡ Some at
      → element r.schema at ≡ o → IsSameCheck setting m rs column given
  at_column r at None e f g = rw (named_in m rs column.relation, e, f, g) refl
  at_column r at (Some c) e f g = tested r at c (path_at r.paths at) (is_there given && not (is_spatial c.1)) e f g refl refl

  in_schema : (r : RelationView) (o : Option ℕ) → find (is_named column.relation) rs ≡ Some r → column_named r.schema column.column ≡ o → IsSameCheck setting m rs column given
  in_schema r None e f = rw (named_in m rs column.relation, e, f) refl
  in_schema r (Some at) e f = at_column r at (element r.schema at) e f refl

  in_catalog : (o : Option RelationView) → find (is_named column.relation) rs ≡ o → IsSameCheck setting m rs column given
  in_catalog None e = rw (named_in m rs column.relation, e) refl
  in_catalog (Some r) e = in_schema r (column_named r.schema column.column) e refl

-- no relation has the name
pub no_relation_to_index : (pool : PoolState) (rs : List RelationView) (limits : Limits) (column : Column) (given : Option ℕ) → position (is_named column.relation) rs ≡ None
    → IsStatementRefused is_index_full (store_from rs limits pool) (IndexOn column given) why.UnknownRelation
no_relation_to_index pool rs limits column given e = λ setting is l.
    early_index setting pool.pages rs column given ∙ ap (λ (o : Option RelationView). found_index_check column.column given o) (none_found column.relation rs e)

-- the early checks where the relation is there
pub early_there : (setting : Setting) (m : PageMap) (rs : List RelationView) (column : Column) (given : Option ℕ) (at : ℕ) (r : RelationView) → FirstAt column.relation rs at → r ≡ get_or rs at r
    → early setting (alone (database_in m rs)) (IndexOn column given) ≡ index_check r column.column given
early_there setting m rs column given at r first here =
    early_index setting m rs column given ∙ ap (λ (o : Option RelationView). found_index_check column.column given o) (found_at column.relation rs at r first here)

abbrev IsOneOfThree : Refusal → Type 0
IsOneOfThree w = (w ≡ why.UnknownColumn) ⊎ ((w ≡ why.WrongKind) ⊎ (w ≡ why.IndexThere))

-- the check that fails is one of three
failed : (r : RelationView) (name : List ℕ) (given : Option ℕ) (w : Refusal) → index_check r name given ≡ Some w → (w ≡ why.UnknownColumn) ⊎ ((w ≡ why.WrongKind) ⊎ (w ≡ why.IndexThere))
failed r name given w e = in_schema (column_named r.schema name) refl where
  is : (x : Refusal) → index_check r name given ≡ Some x → w ≡ x
  is x k = sym (some_same x w (sym k ∙ e))

  tested : (at : ℕ) (c : List ℕ × Kind) (a b : Bool) → column_named r.schema name ≡ Some at → element r.schema at ≡ Some c → is_there (path_at r.paths at) ≡ a
      → (is_there given && not (is_spatial c.1)) ≡ b
      → IsOneOfThree w
  tested at c a true f g h k = inr (inl (is why.WrongKind (rw (f, g, k) refl)))
  tested at c true false f g h k = inr (inr (is why.IndexThere (rw (f, g, k, h) refl)))
  tested at c false false f g h k = (let none : index_check r name given ≡ None = rw (f, g, k, h) refl in absurd (true≢false (sym (ap (λ (o : Option Refusal). is_some o) (sym none ∙ e)))))

  at_column : (at : ℕ) (o : Option (List ℕ × Kind)) → column_named r.schema name ≡ Some at → element r.schema at ≡ o → IsOneOfThree w
  at_column at None f g = inl (is why.UnknownColumn (rw (f, g) refl))
  at_column at (Some c) f g = tested at c (is_there (path_at r.paths at)) (is_there given && not (is_spatial c.1)) f g refl refl

  in_schema : (o : Option ℕ) → column_named r.schema name ≡ o → IsOneOfThree w
  in_schema None f = inl (is why.UnknownColumn (rw f refl))
  in_schema (Some at) f = at_column at (element r.schema at) f refl

-- a check of the column refuses
pub column_refused : (pool : PoolState) (rs : List RelationView) (limits : Limits) (column : Column) (given : Option ℕ) (at : ℕ) (r : RelationView) (w : Refusal)
    → FirstAt column.relation rs at → r ≡ get_or rs at r → index_check r column.column given ≡ Some w → IsStatementRefused is_index_full (store_from rs limits pool) (IndexOn column given) w
column_refused pool rs limits column given at r w first here refused =
    let P : Refusal → Type 0 = λ x. index_check r column.column given ≡ Some x → IsStatementRefused is_index_full (store_from rs limits pool) (IndexOn column given) x in
    elim (failed r column.column given w refused) [
      | inl i ↦ subst P (sym i) (λ h setting is l. early_there setting pool.pages rs column given at r first here ∙ h) refused
      | inr (inl i) ↦ subst P (sym i) (λ h setting is l. early_there setting pool.pages rs column given at r first here ∙ h) refused
      | inr (inr i) ↦ subst P (sym i) (λ h setting is l. early_there setting pool.pages rs column given at r first here ∙ h) refused
    ]

-- the index of the statement is that which the checks found
pub wanted_is : (gap : Measure) (m : PageMap) (column : Column) (given : Option ℕ) (r : RelationView) (place : ℕ) (threshold : Option ℕ) → IsWanted r column.column given place threshold
    → indexed_by gap column given (relation_in m r) ≡ with_index gap place threshold (relation_in m r)
wanted_is gap m column given r place threshold w = rw (w.place, w.here) (ap (λ (t : Option ℕ). with_index gap place t (relation_in m r)) (sym w.asked))

pub late_there : (setting : Setting) (limits : Limits) (m : PageMap) (rs : List RelationView) (column : Column) (given : Option ℕ) (at : ℕ) (r : RelationView)
    → FirstAt column.relation rs at → r ≡ get_or rs at r
    → setting.limits ≡ limits → late setting (alone (database_in m rs)) (IndexOn column given) ≡ check_listings limits (indexed_by setting.gap column given (relation_in m r))
late_there setting limits m rs column given at r first here l =
    rw (relation_at m column.relation rs at r first here) (ap (λ (n : Limits). check_listings n (indexed_by setting.gap column given (relation_in m r))) l)

-- a refusal from outside comes where the early checks pass, and a full quadtree where the late ones say so
stopped : (told : Type 0) (before behind : Option Refusal) (w : Refusal) → IsOutsideOrFull w → before ≡ None → (w ≡ why.IndexFull → told → behind ≡ Some why.IndexFull)
    → Refuses told is_index_full before behind w
stopped told before behind why.Memory o e f = tt
stopped told before behind why.Device o e f = e
stopped told before behind (why.Damaged n kept read) o e f = e
stopped told before behind why.IndexFull o e f = (e, f refl)
stopped told before behind _ o e f = absurd o

-- the command is refused
pub index_refused : (pool : PoolState) (rs : List RelationView) (limits : Limits) (column : Column) (given : Option ℕ) (at : ℕ) (r : RelationView) (place : ℕ) (threshold : Option ℕ) (w : Refusal)
    → FirstAt column.relation rs at → r ≡ get_or rs at r → IsWanted r column.column given place threshold → IsOutsideOrFull w
    → (w ≡ why.IndexFull → IsTold pool → (gap : Measure) → IsMeasure gap → check_listings limits (with_index gap place threshold (relation_in pool.pages r)) ≡ Some why.IndexFull)
    → IsStatementRefused is_index_full (store_from rs limits pool) (IndexOn column given) w
index_refused pool rs limits column given at r place threshold w first here wanted outside full = λ setting is l.
    let store : StoreState = store_from rs limits pool in
    stopped (IsTold pool) (early_at setting store (IndexOn column given)) (late_at setting store (IndexOn column given)) w outside
    (early_there setting pool.pages rs column given at r first here ∙ wanted.passes)
    (λ e told. late_there setting limits pool.pages rs column given at r first here l
    ∙ (ap (λ (x : Relation). check_listings limits x) (wanted_is setting.gap pool.pages column given r place threshold wanted) ∙ full e told setting.gap is.gap))

-- a column without an access path is none of those that have one

pub or_false : (a b : Bool) → a || b ≡ false → (a ≡ false) × (b ≡ false)
or_false true b h = absurd (true≢false h)
or_false false b h = (refl, h)

pub any_last : (f : ℕ → Bool) (ns : List ℕ) (n : ℕ) → list_any f ns ≡ false → f n ≡ false → list_any f (ns ++ n ∷ []) ≡ false
any_last f [] n h k = rw k refl
any_last f (x ∷ ns) n h k = (let p = or_false (f x) (list_any f ns) h in rw p.0 (any_last f ns n p.1 k))

free_rest : (p : ℕ × AccessPath) (ps : Paths) (at : ℕ) → path_at (p ∷ ps) at ≡ None → (nat_eq p.0 at ≡ false) × (path_at ps at ≡ None)
free_rest p ps at e =
    let go : (b : Bool) → nat_eq p.0 at ≡ b → option_map (λ (q : ℕ × AccessPath). q.1) (cond b (Some p) (find (λ q. nat_eq q.0 at) ps)) ≡ None → (nat_eq p.0 at ≡ false) × (path_at ps at ≡ None) =
    elim [
      | true ↦ λ t k. absurd (true≢false (ap (λ (o : Option AccessPath). is_some o) k))
      | false ↦ λ t k. (t, k)
    ] in
    go (nat_eq p.0 at) refl e

abbrev pub places : Paths → List ℕ
places ps = map (λ (p : ℕ × AccessPath). p.0) ps

pub once_more : (ps : Paths) (at : ℕ) (a : AccessPath) → has_number_twice (places ps) ≡ false → path_at ps at ≡ None → has_number_twice (places (ps ++ (at, a) ∷ [])) ≡ false
once_more [] at a h e = refl
once_more (p ∷ ps) at a h e =
    let free = free_rest p ps at e in
    let parts = or_false (list_any (nat_eq p.0) (places ps)) (has_number_twice (places ps)) h in
    let split : places (ps ++ (at, a) ∷ []) ≡ places ps ++ at ∷ [] = map-append (λ (q : ℕ × AccessPath). q.0) ps ((at, a) ∷ []) in
    let none : list_any (nat_eq p.0) (places (ps ++ (at, a) ∷ [])) ≡ false =
    ap (λ (ns : List ℕ). list_any (nat_eq p.0) ns) split ∙ any_last (nat_eq p.0) (places ps) at parts.0 free.0 in
    rw none (once_more ps at a parts.1 free.1)
