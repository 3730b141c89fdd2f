-- What the calls of a store do is the outcome of the model.
use Rattle.std.proofs.Common.{◌≡◌, ◌||◌, ◌&&◌, not, ℕ, Bool, true, false, List, [], ◌∷◌, length, map, Option, Some, None, refl, sym, ◌∙◌, ap, subst}
use Rattle.std.specs.Prelude.{◌-◌, nat_le, nat_lt, Ok, Err}
use Rattle.sand_base.specs.declared.kind.Kind.{Kind}
use Rattle.sand_base.specs.declared.refusal.Refusal.{Refusal}
use Rattle.sand_base.specs.declared.refusal.Refusal.TheVariants as why
use Rattle.sand_base.specs.declared.value.Value.{Value}
use Rattle.sand_base.specs.Shape.{is_spatial}
use Rattle.sand_model.specs.Checks.{check_relation, first_refusal, has_rectangles, is_indexed}
use Rattle.sand_model.specs.Cursor.{Cursor, Accepted, Id, Refused}
use Rattle.sand_model.specs.Database.{Database, Relation, relation_named}
use Rattle.sand_model.specs.Kept.{has_twice, most_relations, longest_row}
use Rattle.sand_model.specs.Outcome.{Rises, uses_pages}
use Rattle.statements.specs.declared.column.Column.{Column}
use Rattle.sand_model.specs.RowSize.{row_size}
use Rattle.statements.specs.Statement.{Statement, Create, Insert, Delete, Index, Rtree}
use Rattle.sand_model.specs.StatementChecks.{Setting, IsSetting, refused_where, is_there, in_relation, in_column, is_row_of, check_length, check_ids, early, late}
use Rattle.sand_store.specs.Calls.{HasStoreCause, IsUnchanged, IsStatementRefused, Created, RowInserted, Deleted, Indexed, Treed, Refuses, early_at, late_at}
use Rattle.sand_store.specs.Catalog.{StoreState}
use Rattle.sand_store.specs.Contents.{database}
use Rattle.page_pool.specs.Pool.{IsTold}
use Rattle.statement_exec.specs.Deciding.{ComesBehind}
use Rattle.statement_exec.specs.Moment.{rises_between, state_with, while_open}
use Rattle.statement_exec.specs.Performing.{ChangesStore}
use Rattle.statement_exec.specs.declared.reply.Reply.TheVariants as reply
use Rattle.statement_exec.proofs.DecidedCalls.{created_decides, inserted_decides, deleted_decides, indexed_decides, treed_decides, refused_decides}
use Rattle.statement_exec.proofs.Outcomes.{outcome_done, outcome_over}
use Rattle.statement_exec.proofs.CausedLines.{caused_plain, caused_refusal, pools_cause}
use Rattle.statement_exec.proofs.SomeSetting.{some_setting, is_some_setting}
use Rattle.statement_exec.proofs.Refusals.{refused, allowed, no_file, Never, never_where, never_first, never_relation, never_column}

pub created : (old new : StoreState) (name : List ℕ) (schema : List (List ℕ × Kind)) → Created old new name schema
    → ChangesStore (Create name schema) old new (Ok reply.Accepted)
created old new name schema h = λ cs files shelf. (
  (
    caused_plain (while_open old files shelf cs) (while_open new files shelf cs) (Accepted ∷ []) refl,
    created_decides old new cs files shelf name schema h,
  ),
  λ told disk few setting s.
      let p = h.passes setting s.is s.limits in
      outcome_done setting (rises_between (while_open old files shelf cs) (while_open new files shelf cs)) (state_with cs (database old)) (Create name schema)
      (Accepted ∷ []) (state_with cs (database new))
      p.0 (p.1 told) (refl, ap (state_with cs) (h.becomes told setting.gap s.is.gap)),
)

pub inserted : (old new : StoreState) (name : List ℕ) (row : List Value) (id : ℕ) → RowInserted old new name row id
    → ChangesStore (Insert name row) old new (Ok (reply.Id id))
inserted old new name row id h = λ cs files shelf. (
  (
    caused_plain (while_open old files shelf cs) (while_open new files shelf cs) (Id id ∷ []) refl,
    inserted_decides old new cs files shelf name row id h,
  ),
  λ told disk few setting s.
      let p = h.passes setting s.is s.limits in
      outcome_done setting (rises_between (while_open old files shelf cs) (while_open new files shelf cs)) (state_with cs (database old)) (Insert name row) (Id id ∷ []) (state_with cs (database new))
      p.0 (p.1 told) (h.next.0, h.next.1.0, (ap (λ (n : ℕ). Id n ∷ []) h.next.1.1, ap (state_with cs) (h.becomes told setting.gap s.is.gap))),
)

pub deleted : (old new : StoreState) (name : List ℕ) (id : ℕ) → Deleted old new name id
    → ChangesStore (Delete name id) old new (Ok reply.Accepted)
deleted old new name id h = λ cs files shelf. (
  (
    caused_plain (while_open old files shelf cs) (while_open new files shelf cs) (Accepted ∷ []) refl,
    deleted_decides old new cs files shelf name id h,
  ),
  λ told disk few setting s.
      let p = h.passes setting s.is s.limits in
      outcome_done setting (rises_between (while_open old files shelf cs) (while_open new files shelf cs)) (state_with cs (database old)) (Delete name id)
      (Accepted ∷ []) (state_with cs (database new))
      p.0 (p.1 told) (refl, ap (state_with cs) (h.becomes told setting.gap s.is.gap)),
)

pub indexed : (old new : StoreState) (column : Column) (threshold : Option ℕ) → Indexed old new column threshold
    → ChangesStore (Index column threshold) old new (Ok reply.Accepted)
indexed old new column threshold h = λ cs files shelf. (
  (
    caused_plain (while_open old files shelf cs) (while_open new files shelf cs) (Accepted ∷ []) refl,
    indexed_decides old new cs files shelf column threshold h,
  ),
  λ told disk few setting s.
      let p = h.passes setting s.is s.limits in
      outcome_done setting (rises_between (while_open old files shelf cs) (while_open new files shelf cs)) (state_with cs (database old)) (Index column threshold)
      (Accepted ∷ []) (state_with cs (database new))
      p.0 (p.1 told) (refl, ap (state_with cs) (h.becomes told setting.gap s.is.gap)),
)

pub treed : (old new : StoreState) (column : Column) → Treed old new column → ChangesStore (Rtree column) old new (Ok reply.Accepted)
treed old new column h = λ cs files shelf. (
  (
    caused_plain (while_open old files shelf cs) (while_open new files shelf cs) (Accepted ∷ []) refl,
    treed_decides old new cs files shelf column h,
  ),
  λ told disk few setting s.
      let p = h.passes setting s.is s.limits in
      outcome_done setting (rises_between (while_open old files shelf cs) (while_open new files shelf cs)) (state_with cs (database old)) (Rtree column) (Accepted ∷ []) (state_with cs (database new))
      p.0 (p.1 told) (refl, ap (state_with cs) (h.becomes told setting.gap s.is.gap)),
)

-- a database whose pages and catalog are as before is as before
pub same_database : (old new : StoreState) → IsUnchanged old new → IsTold old.pool → database new ≡ database old
same_database old new h told = rw (h.catalog, h.pages told) refl

-- the checks of the statement read the database alone, whatever cursors are open
abbrev pub ReadsDatabase : StoreState → Statement → Type 0
ReadsDatabase old statement = (cs : List Cursor) (setting : Setting) → (early setting (state_with cs (database old)) statement ≡ early_at setting old statement)
    × (late setting (state_with cs (database old)) statement ≡ late_at setting old statement)

-- a refusal of a call is one of its statement
pub refused_call : {T : Type 0} (old new : StoreState) (statement : Statement) (is_late : Refusal → Bool) (w : Refusal) → uses_pages statement ≡ true
    → is_late why.File ≡ false → ReadsDatabase old statement → ((setting : Setting) → Never (early_at setting old statement))
    → ((r : Refusal) → is_late r ≡ true → ComesBehind statement r) → IsUnchanged old new
    → IsStatementRefused is_late old statement w → HasStoreCause {T = T} old.pool new.pool (Err w) → ChangesStore statement old new (Err w)
refused_call {T} old new statement is_late w uses late_file alike never may same h cause = λ cs files shelf. (
  (
    caused_refusal (while_open old files shelf cs) (while_open new files shelf cs) w
        (pools_cause cs cs old.catalog new.catalog old.pool new.pool same.told files files shelf shelf {T = T} w cause (by_setting (some_setting old) (is_some_setting old) refl)),
    refused_decides old new cs files shelf statement is_late w uses (alike cs) may same h,
  ),
  λ told disk few setting s.
      let told' : IsTold new.pool = same.told ∙ told in
      let rises : Rises = rises_between (while_open old files shelf cs) (while_open new files shelf cs) in
      let r : Refuses (IsTold old.pool) is_late (early setting (state_with cs (database old)) statement) (late setting (state_with cs (database old)) statement) w =
      subst (λ (o : Option Refusal). Refuses (IsTold old.pool) is_late o (late setting (state_with cs (database old)) statement) w) (sym (alike cs setting).0)
      (subst (λ (o : Option Refusal). Refuses (IsTold old.pool) is_late (early_at setting old statement) o w) (sym (alike cs setting).1) (h setting s.is s.limits)) in
      outcome_over files setting rises (state_with cs (database old)) statement (Refused w ∷ []) (state_with cs (database new)) s.files
      (refused setting rises (state_with cs (database old)) statement (Refused w ∷ []) (state_with cs (database new)) (IsTold old.pool) told is_late uses w
      (allowed {T = T} rises old.pool new.pool w cause told' disk refl (by_setting setting s.is s.limits)) r (refl, ap (state_with cs) (same_database old new same told))),
) where
  -- no check asks for a file
  by_setting : (setting : Setting) → IsSetting setting → setting.limits ≡ old.catalog.limits → w ≡ why.File → ⊥
  by_setting setting is limits = no_file (IsTold old.pool) is_late (early_at setting old statement) (late_at setting old statement) w late_file (never setting) (h setting is limits)

-- no check of these statements asks for a file

-- the check of a relation's name, which is its own
never_known : (d : Database) (name : List ℕ) → Never (check_relation d name)
never_known d name =
    let go : (o : Option Relation) → relation_named d name ≡ o → Never (check_relation d name) = elim [ None ↦ λ e. rw e refl | Some r ↦ λ e. rw e refl ] in
    go (relation_named d name) refl

pub never_create : (old : StoreState) (name : List ℕ) (schema : List (List ℕ × Kind)) (setting : Setting) → Never (early_at setting old (Create name schema))
never_create old name schema setting =
    let taken : Bool = is_there (relation_named (database old) name) || has_twice (map (λ (column : List ℕ × Kind). column.0) schema) in
    let many : Bool = nat_le most_relations (length (database old)) in
    never_first (refused_where taken why.NameTaken) (refused_where many why.TooManyRelations ∷ []) (never_where taken why.NameTaken refl)
    (never_first (refused_where many why.TooManyRelations) [] (never_where many why.TooManyRelations refl) refl)

pub never_delete : (old : StoreState) (name : List ℕ) (id : ℕ) (setting : Setting) → Never (early_at setting old (Delete name id))
never_delete old name id setting = never_known (database old) name

pub never_insert : (old : StoreState) (name : List ℕ) (row : List Value) (setting : Setting) → Never (early_at setting old (Insert name row))
never_insert old name row setting =
    let d : Database = database old in
    let of_kinds : Option Refusal = in_relation d name (λ relation. refused_where (not (is_row_of relation.schema row)) why.WrongKind) in
    let long : Bool = nat_lt longest_row (row_size row) in
    let ids : Option Refusal = in_relation d name (check_ids setting.limits) in
    never_first of_kinds (check_length row ∷ ids ∷ [])
    (never_relation d name (λ relation. refused_where (not (is_row_of relation.schema row)) why.WrongKind) (λ r. never_where (not (is_row_of r.schema row)) why.WrongKind refl))
    (never_first (check_length row) (ids ∷ []) (never_where long why.TupleTooLong refl)
    (never_first ids [] (never_relation d name (check_ids setting.limits) (λ r. never_where (nat_le setting.limits.ids (r.next - 1)) why.IdsSpent refl)) refl))

pub never_index : (old : StoreState) (column : Column) (threshold : Option ℕ) (setting : Setting) → Never (early_at setting old (Index column threshold))
never_index old column threshold setting =
    let d : Database = database old in
    let spatial : Relation → Kind → Option Refusal = λ relation kind. refused_where (is_there threshold && not (is_spatial kind)) why.WrongKind in
    let there : Relation → Kind → Option Refusal = λ relation kind. refused_where (is_indexed relation column.column) why.IndexThere in
    never_first (in_column d column spatial) (in_column d column there ∷ [])
    (never_column d column spatial (λ r k. never_where (is_there threshold && not (is_spatial k)) why.WrongKind refl))
    (never_first (in_column d column there) []
    (never_column d column there (λ r k. never_where (is_indexed r column.column) why.IndexThere refl)) refl)

pub never_rtree : (old : StoreState) (column : Column) (setting : Setting) → Never (early_at setting old (Rtree column))
never_rtree old column setting =
    let d : Database = database old in
    let checks : Relation → Kind → Option Refusal = λ relation kind.
    first_refusal (refused_where (not (is_spatial kind)) why.WrongKind ∷ refused_where (has_rectangles relation column.column) why.IndexThere ∷ []) in
    never_column d column checks (λ r k. never_first (refused_where (not (is_spatial k)) why.WrongKind) (refused_where (has_rectangles r column.column) why.IndexThere ∷ [])
    (never_where (not (is_spatial k)) why.WrongKind refl)
    (never_first (refused_where (has_rectangles r column.column) why.IndexThere) [] (never_where (has_rectangles r column.column) why.IndexThere refl) refl))
