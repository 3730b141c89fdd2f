-- What a load does is the outcome of the model.
use Rattle.std.proofs.Common.{◌≡◌, ℕ, ◌<◌, Bool, true, false, cond, List, [], ◌∷◌, length, Option, Some, None, refl, sym, ◌∙◌, ap, subst, true≢false}
use Rattle.std.specs.Prelude.{Err, is_some}
use Rattle.sand_base.specs.Faults.{last_count}
use Rattle.sand_base.specs.Shelf.{Files}
use Rattle.sand_base.specs.declared.refusal.Refusal.{Refusal}
use Rattle.sand_base.specs.declared.refusal.Refusal.TheVariants as why
use Rattle.sand_base.specs.declared.value.Value.{Value}
use Rattle.page_pool.specs.Pool.{IsTold}
use Rattle.sand_model.specs.Cursor.{Cursor, Loaded as LoadedLine, Refused}
use Rattle.sand_model.specs.Database.{Database, Relation, relation_named, changed_at, has_name}
use Rattle.sand_model.specs.Outcome.{Rises, Outcome}
use Rattle.statements.specs.Statement.{Statement, Load}
use Rattle.sand_model.specs.StatementChecks.{Setting, IsSetting, early, late, entered, file_rows, in_relation}
use Rattle.sand_store.proofs.SchemaRows.{loaded_entered}
use Rattle.sand_store.specs.Calls.{Refuses, HasStoreCause, IsUnchanged, Loaded, LoadIsRefusedBy, IsRefusedPlainly, loaded, load_early, load_late, is_of_a_row}
use Rattle.sand_store.specs.Catalog.{StoreState}
use Rattle.sand_store.specs.Contents.{database}
use Rattle.statement_exec.specs.Loading.{LoadOf, Yields, InSettings, IsOfNoPage, IsRefusedEarly, shelf_at}
use Rattle.statement_exec.specs.Moment.{rises_between, state_with, while_open}
use Rattle.statement_exec.specs.Performing.{Performs}
use Rattle.statement_exec.proofs.DecidedCalls.{loaded_decides, refused_rows_decide, unloaded_decides}
use Rattle.statement_exec.proofs.LoadChecks.{setting_with}
use Rattle.statement_exec.proofs.Outcomes.{outcome_done, outcome_outside, outcome_early}
use Rattle.statement_exec.proofs.Refusals.{refused, allowed, rose, Never, never_relation, no_file}
use Rattle.statement_exec.proofs.CausedLines.{HasItsCause, caused_plain, caused_refusal, pools_cause}
use Rattle.statement_exec.proofs.SomeSetting.{some_setting, is_some_setting}
use Rattle.statement_exec.proofs.StoreCalls.{same_database}

never_early : (d : Database) (name : List ℕ) → Never (in_relation d name (λ relation. None))
never_early d name = never_relation d name (λ relation. None) (λ r. refl)

-- the store's load of rows asks for no file
pub not_of_file : (old : StoreState) (name : List ℕ) (rows : List (List Value)) (w : Refusal) → LoadIsRefusedBy old name rows w → w ≡ why.File → ⊥
not_of_file old name rows w h =
    no_file (IsTold old.pool) is_of_a_row (load_early old name) (load_late (some_setting old) old name rows) w refl (never_early (database old) name)
    (h (some_setting old) (is_some_setting old) refl)

-- a relation that is changed alike is the same afterwards
changed_alike : (f g : Relation → Relation) (name : List ℕ) (d : Database) (r : Relation) → relation_named d name ≡ Some r → f r ≡ g r → changed_at name f d ≡ changed_at name g d
changed_alike f g name [] r named same = refl
changed_alike f g name (x ∷ d) r named same =
    let go : (b : Bool) → cond b (Some x) (relation_named d name) ≡ Some r → cond b (f x ∷ d) (x ∷ changed_at name f d) ≡ cond b (g x ∷ d) (x ∷ changed_at name g d) =
    elim [
      | true ↦ λ e. let is : x ≡ r = some_same x r e in
          ap (λ (y : Relation). y ∷ d) (subst (λ (y : Relation). f y ≡ g y) (sym is) same)
      | false ↦ λ e. ap (λ (rest : Database). x ∷ rest) (changed_alike f g name d r e same)
    ] in
    go (has_name name x) named where
      some_same : (x y : Relation) → Some x ≡ Some y → x ≡ y
      some_same x y e = ap value e where
        value : Option Relation → Relation
        value None = x
        value (Some a) = a

-- the statement of a load
abbrev pub load_statement : LoadOf → Statement
load_statement load = Load load.relation load.file load.header

module _ (old new : StoreState) (load : LoadOf) (cs : List Cursor) (files files' : Option Files) (shelf shelf' : ℕ) where
  abbrev rises : Rises
  rises = rises_between (while_open old files shelf cs) (while_open new files' shelf' cs)

  -- the late checks of the store are those of the model
  late_is : (setting : Setting) (rows : List (List Value)) → Yields setting (state_with cs (database old)) load rows
      → load_late setting old load.relation rows ≡ late setting (state_with cs (database old)) (load_statement load)
  late_is setting rows y =
      let of_model : late setting (state_with cs (database old)) (load_statement load) ≡ (entered setting (file_rows setting load.file load.header y.relation) y.relation).0 = rw y.named refl in
      let of_store : load_late setting old load.relation rows ≡ (loaded setting rows y.relation).0 = rw y.named refl in
      let rows_are : (entered setting (file_rows setting load.file load.header y.relation) y.relation).0 ≡ (entered setting rows y.relation).0 =
      ap (λ (xs : List (List Value)). (entered setting xs y.relation).0) y.rows_are in
      of_store ∙ (ap (λ (p : Option Refusal × Relation). p.0) (loaded_entered setting rows y.relation y.of_schema) ∙ sym (of_model ∙ rows_are))

  -- the rows were added
  pub loaded_call : (rows : List (List Value)) (count : ℕ) → InSettings old.catalog files (λ setting state. Yields setting state load rows)
      → Loaded old new load.relation rows count → Performs (load_statement load) (while_open old files shelf cs) (while_open new files' shelf' cs) (LoadedLine count ∷ [])
  loaded_call rows count given h = (
    (
      caused_plain (while_open old files shelf cs) (while_open new files' shelf' cs) (LoadedLine count ∷ []) refl,
      loaded_decides old new load cs files files' shelf shelf' rows given count h,
    ),
    λ told disk few setting s.
        let own : Setting = record setting { files = given.0 } in
        let is : IsSetting own = setting_with setting given.0 s.is in
        let y : Yields own (state_with cs (database old)) load rows = given.2 cs old.pool shelf setting s in
        let passes : late own (state_with cs (database old)) (load_statement load) ≡ None = sym (late_is own rows y) ∙ h.late told own is s.limits in
        let d : Database = database old in
        let by_rows : (Relation → Relation) = λ r. (loaded own rows r).1 in
        let by_file : (Relation → Relation) = λ r. (entered own (file_rows own load.file load.header y.relation) r).1 in
        let same : by_rows y.relation ≡ by_file y.relation =
        ap (λ (p : Option Refusal × Relation). p.1) (loaded_entered own rows y.relation y.of_schema)
        ∙ sym (ap (λ (xs : List (List Value)). (entered own xs y.relation).1) y.rows_are) in
        let becomes : database new ≡ changed_at load.relation by_file d = h.becomes told own is s.limits ∙ changed_alike by_rows by_file load.relation d y.relation y.named same in
        let counted : count ≡ length (file_rows own load.file load.header y.relation) = h.counted ∙ sym (ap (λ (xs : List (List Value)). length xs) y.rows_are) in (
          given.0,
          given.1,
          outcome_done own rises (state_with cs d) (load_statement load) (LoadedLine count ∷ []) (state_with cs (database new)) y.passes passes
              (y.relation, y.named, (ap (λ (n : ℕ). LoadedLine n ∷ []) counted, ap (state_with cs) becomes)),
        ),
  )

  -- a row was refused, or the outside refused
  pub refused_load : {T : Type 0} (rows : List (List Value)) (w : Refusal) → InSettings old.catalog files (λ setting state. Yields setting state load rows)
      → LoadIsRefusedBy old load.relation rows w → IsRefusedPlainly old load.relation rows w → IsUnchanged old new → HasStoreCause {T = T} old.pool new.pool (Err w)
      → Performs (load_statement load) (while_open old files shelf cs) (while_open new files' shelf' cs) (Refused w ∷ [])
  refused_load {T} rows w given h plain same cause = (
    (
      caused_refusal (while_open old files shelf cs) (while_open new files' shelf' cs) w
          (pools_cause cs cs old.catalog new.catalog old.pool new.pool same.told files files' shelf shelf' {T = T} w cause (not_of_file old load.relation rows w h)),
      refused_rows_decide old new load cs files files' shelf shelf' rows given w h plain same,
    ),
    λ told disk few setting s.
        let own : Setting = record setting { files = given.0 } in
        let y : Yields own (state_with cs (database old)) load rows = given.2 cs old.pool shelf setting s in
        let before : load_early old load.relation ≡ None = rw y.named refl in
        let r : Refuses (IsTold old.pool) is_of_a_row (early own (state_with cs (database old)) (load_statement load)) (late own (state_with cs (database old)) (load_statement load)) w =
        subst (λ (b : Option Refusal). Refuses (IsTold old.pool) is_of_a_row b (late own (state_with cs (database old)) (load_statement load)) w) (before ∙ sym y.passes)
        (subst (λ (b : Option Refusal). Refuses (IsTold old.pool) is_of_a_row (load_early old load.relation) b w) (late_is own rows y) (h own (setting_with setting given.0 s.is) s.limits)) in
        let told' : IsTold new.pool = same.told ∙ told in
        let n : w ≡ why.File → ⊥ = λ e.
        let k : Refuses (IsTold old.pool) is_of_a_row (early own (state_with cs (database old)) (load_statement load)) (late own (state_with cs (database old)) (load_statement load)) why.File =
        rw e at r in
        true≢false (sym (ap (λ (o : Option Refusal). is_some o) k) ∙ ap (λ (o : Option Refusal). is_some o) y.passes) in (
          given.0,
          given.1,
          refused own rises (state_with cs (database old)) (load_statement load) (Refused w ∷ []) (state_with cs (database new)) (IsTold old.pool) told is_of_a_row refl w
              (allowed {T = T} rises old.pool new.pool w cause told' disk refl n) r (refl, ap (state_with cs) (same_database old new same told)),
        ),
  )

pub shelf_stays : (shelf : ℕ) (w : Refusal) → (w ≡ why.File → ⊥) → shelf ≡ shelf_at shelf w
shelf_stays shelf why.File n = absurd (n refl)
shelf_stays shelf _ n = refl

module _ (old : StoreState) (load : LoadOf) (cs : List Cursor) (files files' : Option Files) (shelf shelf' : ℕ) where
  abbrev reading : Rises
  reading = rises_between (while_open old files shelf cs) (while_open old files' shelf' cs)

  by_refusal : (setting : Setting) (w : Refusal) → IsRefusedEarly setting (state_with cs (database old)) load w → shelf' ≡ shelf_at shelf w → shelf' < last_count
      → Outcome setting reading (state_with cs (database old)) (load_statement load) (Refused w ∷ []) (state_with cs (database old))
  by_refusal setting why.Memory h e few = outcome_outside setting reading (state_with cs (database old)) (load_statement load) (Refused why.Memory ∷ [])
      (state_with cs (database old)) why.Memory tt (refl, refl)
  by_refusal setting why.File h e few =
      outcome_outside setting reading (state_with cs (database old)) (load_statement load) (Refused why.File ∷ []) (state_with cs (database old)) why.File (h, rose shelf shelf' e few) (refl, refl)
  by_refusal setting w h e few = outcome_early setting reading (state_with cs (database old)) (load_statement load) (Refused w ∷ []) (state_with cs (database old)) w h tt (refl, refl)

  -- an early check refuses, or the shelf fails
  pub refused_early : (w : Refusal) → InSettings old.catalog files (λ setting state. IsRefusedEarly setting state load w) → shelf' ≡ shelf_at shelf w → IsOfNoPage w
      → Performs (load_statement load) (while_open old files shelf cs) (while_open old files' shelf' cs) (Refused w ∷ [])
  refused_early w given counted none = (
    (
      caused_refusal (while_open old files shelf cs) (while_open old files' shelf' cs) w (by_shelf w counted none),
      unloaded_decides old load cs files files' shelf shelf' w given,
    ),
    λ told disk few setting s. (given.0, given.1, by_refusal (record setting { files = given.0 }) w (given.2 cs old.pool shelf setting s) counted few),
  ) where
    by_shelf : (v : Refusal) → shelf' ≡ shelf_at shelf v → IsOfNoPage v → HasItsCause (while_open old files shelf cs) (while_open old files' shelf' cs) v
    by_shelf why.Device e h = absurd h
    by_shelf (why.Damaged n kept read) e h = absurd h
    by_shelf why.File e h = λ few. rose shelf shelf' e few
    by_shelf _ e h = tt
