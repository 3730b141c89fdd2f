-- What the calls of a store do to its database, and why they are refused.
use Rattle.std.specs.Prelude.{◌≡◌, ℕ, ◌+◌, ◌<◌, Bool, true, false, not, List, [], ◌∷◌, ◌++◌, length, take, Option, Some, None, Result, Ok, Err, IfErr, ⊤}
use Rattle.sand_base.specs.Faults.{next_count}
use Rattle.sand_base.specs.declared.kind.Kind.{Kind}
use Rattle.sand_base.specs.declared.limits.Limits.{Limits}
use Rattle.sand_base.specs.declared.refusal.Refusal.{Refusal}
use Rattle.sand_base.specs.declared.refusal.Refusal.TheVariants as why
use Rattle.sand_base.specs.declared.value.Value.{Value}
use Rattle.page_pool.specs.Causes.{IsDamage, failures_of}
use Rattle.page_pool.specs.Commands.{SettlesStamps}
use Rattle.page_pool.specs.Pool.{PoolState, IsTold}
use Rattle.page_pool.specs.declared.fault.PageFault.{PageFault}
use Rattle.page_pool.specs.declared.fault.PageFault.TheVariants as page
use Rattle.sand_model.specs.Checks.{first_refusal}
use Rattle.sand_model.specs.Cursor.{State}
use Rattle.sand_model.specs.Database.{Database, Relation, relation_named, changed_at, with_relation, new_relation, with_row, without_row}
use Rattle.sand_model.specs.Measure.{Measure, IsMeasure}
use Rattle.statements.specs.declared.column.Column.{Column}
use Rattle.statements.specs.Statement.{Statement, Create, Insert, Delete, Index, Rtree}
use Rattle.sand_model.specs.StatementChecks.{Setting, IsSetting, early, late, refused_where, in_relation, is_row_of, check_length, check_ids, check_listings, indexed_by, treed_by}
use Rattle.sand_store.specs.Catalog.{StoreState}
use Rattle.sand_store.specs.Contents.{database}
use Rattle.sand_store.specs.Sketches.{sketches, new_sketch, with_ids, with_indexed, with_treed, sketched_at}

-- a fault of a page, as a statement is refused by it
abbrev pub refusal_of : PageFault → Refusal
refusal_of page.Memory = why.Memory
refusal_of page.Device = why.Device
refusal_of (page.Damaged n kept read) = why.Damaged n kept read

-- the counts of a pool's failures after this refusal: one more failure of the disk at Device, and one more damaged page at Damaged
abbrev pub store_failures_at : ℕ × ℕ → Refusal → ℕ × ℕ
store_failures_at before why.Device = (next_count before.0, before.1)
store_failures_at before (why.Damaged n kept read) = (before.0, next_count before.1)
store_failures_at before _ = before

-- these counts after a call: the same at Ok
abbrev pub store_failures_after : {T : Type 0} → ℕ × ℕ → Result T Refusal → ℕ × ℕ
store_failures_after before (Ok _) = before
store_failures_after before (Err refusal) = store_failures_at before refusal

-- the refusal is no damage, or a page of these is damaged
abbrev pub IsStoreDamage : PoolState → Refusal → Type 0
IsStoreDamage s (why.Damaged n kept read) = IsDamage s n kept read
IsStoreDamage s _ = ⊤

-- A call has its cause: the disk's count rose by one at Device, that of damaged pages by one at Damaged, and neither at any other answer; and a page is damaged where the answer says so.
pub record HasStoreCause {T : Type 0} (old new : PoolState) (result : Result T Refusal) : Type 0 where
  pub counted : failures_of new ≡ store_failures_after (failures_of old) result
  pub damaged : IfErr result (IsStoreDamage new)

-- What every call keeps: the limits, whether the disk tells its pages, and the maps of the held stamps, whose dirty pages may be written.
pub record Carries (old new : StoreState) : Type 0 where
  pub limits : new.catalog.limits ≡ old.catalog.limits
  pub told : new.pool.disk.told ≡ old.pool.disk.told
  pub stamps : SettlesStamps old.pool new.pool

-- what a refusal leaves: the catalog, and the pages where the disk tells them, so the database is as it was
pub record IsUnchanged (old new : StoreState) : Type 0 where
  pub catalog : new.catalog ≡ old.catalog
  pub told : new.pool.disk.told ≡ old.pool.disk.told
  pub pages : IsTold old.pool → new.pool.pages ≡ old.pool.pages

-- a database while no cursor is open
abbrev pub alone : Database → State
alone d = record { database = d; cursors = [] }

-- the checks of a statement before any page is touched, and those with the change

-- the first refusal of a statement before any page is touched, if any
abbrev pub early_at : Setting → StoreState → Statement → Option Refusal
early_at setting store statement = early setting (alone (database store)) statement

-- the first refusal of a statement with its change, if any
abbrev pub late_at : Setting → StoreState → Statement → Option Refusal
late_at setting store statement = late setting (alone (database store)) statement

-- Why a call is refused: out of memory at any point; by a page where the early checks pass; else by the first check that fails. What the late checks give is known where the disk tells its pages.
abbrev pub Refuses : Type 0 → (Refusal → Bool) → Option Refusal → Option Refusal → Refusal → Type 0
Refuses told is_late before behind why.Memory = ⊤
Refuses told is_late before behind why.Device = before ≡ None
Refuses told is_late before behind (why.Damaged n kept read) = before ≡ None
Refuses told is_late before behind refusal = by_check (is_late refusal) where
  by_check : Bool → Type 0
  by_check true = (before ≡ None) × (told → behind ≡ Some refusal)
  by_check false = before ≡ Some refusal

-- of every setting with the limits of the store
abbrev pub Within : StoreState → (Setting → Type 0) → Type 0
Within store P = (setting : Setting) → IsSetting setting → setting.limits ≡ store.catalog.limits → P setting

-- a statement is refused so
abbrev pub IsStatementRefused : (Refusal → Bool) → StoreState → Statement → Refusal → Type 0
IsStatementRefused is_late store statement refusal =
    Within store (λ setting. Refuses (IsTold store.pool) is_late (early_at setting store statement) (late_at setting store statement) refusal)

-- all checks of a statement pass
abbrev pub Passes : StoreState → Statement → Type 0
Passes store statement =
    Within store (λ setting. (early_at setting store statement ≡ None) × (IsTold store.pool → late_at setting store statement ≡ None))

-- the refusals that only the change can find

-- only the change can find that a quadtree would be too large
abbrev pub is_index_full : Refusal → Bool
is_index_full why.IndexFull = true
is_index_full _ = false

-- only the change can find that there is no row of the id
abbrev pub is_missing : Refusal → Bool
is_missing why.NoSuchId = true
is_missing _ = false

-- only a load finds, row by row, that one is of other kinds, too long, over the ids or over the listings
abbrev pub is_of_a_row : Refusal → Bool
is_of_a_row why.WrongKind = true
is_of_a_row why.TupleTooLong = true
is_of_a_row why.IdsSpent = true
is_of_a_row why.IndexFull = true
is_of_a_row _ = false

-- no refusal is found by the change alone
abbrev pub is_none : Refusal → Bool
is_none _ = false

-- the database changed so, where the disk tells its pages
abbrev pub DatabaseBecomes : StoreState → StoreState → (Measure → Database → Database) → Type 0
DatabaseBecomes old new change = IsTold old.pool → (gap : Measure) → IsMeasure gap → database new ≡ change gap (database old)

-- What a call does at Ok: its checks pass; over any disk the sketches change so, and where the disk tells its pages the database does.

-- a new relation is there, the last one
pub record Created (old new : StoreState) (name : List ℕ) (schema : List (List ℕ × Kind)) : Type 0 where
  pub passes : Passes old (Create name schema)
  pub sketched : sketches new ≡ sketches old ++ new_sketch name schema ∷ []
  pub becomes : DatabaseBecomes old new (λ gap d. with_relation (new_relation name schema) d)

-- the relation has the row, under the id that was its next one
pub record RowInserted (old new : StoreState) (name : List ℕ) (row : List Value) (id : ℕ) : Type 0 where
  pub passes : Passes old (Insert name row)
  pub next : (relation : Relation) × ((relation_named (database old) name ≡ Some relation) × (id ≡ relation.next))
  pub sketched : sketches new ≡ sketched_at name (with_ids 1) (sketches old)
  pub becomes : DatabaseBecomes old new (λ gap d. changed_at name (with_row gap row) d)

-- the relation lacks the row of the id
pub record Deleted (old new : StoreState) (name : List ℕ) (id : ℕ) : Type 0 where
  pub passes : Passes old (Delete name id)
  pub sketched : sketches new ≡ sketches old
  pub becomes : DatabaseBecomes old new (λ gap d. changed_at name (without_row id) d)

-- the relation has an index of the column, with the rows that were there
pub record Indexed (old new : StoreState) (column : Column) (threshold : Option ℕ) : Type 0 where
  pub passes : Passes old (Index column threshold)
  pub sketched : sketches new ≡ sketched_at column.relation (with_indexed column.column) (sketches old)
  pub becomes : DatabaseBecomes old new (λ gap d. changed_at column.relation (indexed_by gap column threshold) d)

-- the relation has an R-tree of the column, with the rows that were there
pub record Treed (old new : StoreState) (column : Column) : Type 0 where
  pub passes : Passes old (Rtree column)
  pub sketched : sketches new ≡ sketched_at column.relation (with_treed column.column) (sketches old)
  pub becomes : DatabaseBecomes old new (λ gap d. changed_at column.relation (treed_by column) d)

-- the values of a row are of the kinds of the columns
abbrev pub check_kinds : Relation → List Value → Option Refusal
check_kinds relation row = refused_where (not (is_row_of relation.schema row)) why.WrongKind

-- the relation with rows more, in order, and the first refusal of one of them
abbrev pub loaded : Setting → List (List Value) → Relation → Option Refusal × Relation
loaded setting [] relation = (None, relation)
loaded setting (row ∷ rows) relation =
    let grown = with_row setting.gap row relation in
    or_refused
    (first_refusal (check_kinds relation row ∷ check_length row ∷ check_ids setting.limits relation ∷ check_listings setting.limits grown ∷ []))
    (loaded setting rows grown) where
      or_refused : Option Refusal → Option Refusal × Relation → Option Refusal × Relation
      or_refused (Some refusal) goes_on = (Some refusal, relation)
      or_refused None goes_on = goes_on

-- the checks of a load of rows: its relation is there; each row passes

-- the first refusal of a load before any page is touched: its relation is there
abbrev pub load_early : StoreState → List ℕ → Option Refusal
load_early store name = in_relation (database store) name (λ relation. None)

-- the first refusal of the rows of a load, one after the other
abbrev pub load_late : Setting → StoreState → List ℕ → List (List Value) → Option Refusal
load_late setting store name rows = in_relation (database store) name (λ relation. (loaded setting rows relation).0)

-- a load is refused so
abbrev pub LoadIsRefusedBy : StoreState → List ℕ → List (List Value) → Refusal → Type 0
LoadIsRefusedBy store name rows refusal =
    Within store (λ setting. Refuses (IsTold store.pool) is_of_a_row (load_early store name) (load_late setting store name rows) refusal)

-- the checks of rows that need no page, each row under the id that it would get

-- the checks of rows that need no page, each row under the id that it would get
abbrev pub plain_checks : Limits → List (List Value) → Relation → Option Refusal
plain_checks limits [] relation = None
plain_checks limits (row ∷ rows) relation =
    first_refusal (check_kinds relation row ∷ check_length row ∷ check_ids limits relation ∷ plain_checks limits rows (record relation { next = relation.next + 1 }) ∷ [])

-- the checks of the rows of a load that need no page
abbrev pub load_plain : StoreState → List ℕ → List (List Value) → Option Refusal
load_plain store name rows = in_relation (database store) name (plain_checks store.catalog.limits rows)

-- Why rows are refused, as far as these checks tell: by the first of them that fails; or a quadtree is full, after some passed.
abbrev pub RefusesRows : Option Refusal → Type 0 → Refusal → Type 0
RefusesRows check passed why.WrongKind = check ≡ Some why.WrongKind
RefusesRows check passed why.TupleTooLong = check ≡ Some why.TupleTooLong
RefusesRows check passed why.IdsSpent = check ≡ Some why.IdsSpent
RefusesRows check passed why.IndexFull = passed
RefusesRows check passed _ = ⊤

-- one of the rows passes the checks, with all before it
abbrev pub OnePasses : List (List Value) → (List (List Value) → Option Refusal) → Type 0
OnePasses rows checks = (at : ℕ) × (at < length rows) × (checks (take (at + 1) rows) ≡ None)

-- a load is refused so, over any disk
abbrev pub IsRefusedPlainly : StoreState → List ℕ → List (List Value) → Refusal → Type 0
IsRefusedPlainly store name rows refusal = RefusesRows (load_plain store name rows) (OnePasses rows (load_plain store name)) refusal

-- the relation has the rows, and so many they are
pub record Loaded (old new : StoreState) (name : List ℕ) (rows : List (List Value)) (count : ℕ) : Type 0 where
  pub counted : count ≡ length rows
  pub early : load_early old name ≡ None
  pub plain : load_plain old name rows ≡ None
  pub sketched : sketches new ≡ sketched_at name (with_ids count) (sketches old)
  pub late : IsTold old.pool → Within old (λ setting. load_late setting old name rows ≡ None)
  pub becomes : IsTold old.pool → Within old (λ setting. database new ≡ changed_at name (λ relation. (loaded setting rows relation).1) (database old))
