-- What the calls of a store decide of the lines of their statements, over any disk.
use Rattle.std.proofs.Common.{◌≡◌, ℕ, ◌++◌, Bool, true, false, List, [], ◌∷◌, length, map, Option, Some, None, refl, sym, ◌∙◌, ap, ap₂, subst, true≢false}
use Rattle.std.specs.Prelude.{is_some}
use Rattle.page_pool.specs.Disk.{PageMap}
use Rattle.page_pool.specs.Pool.{IsTold}
use Rattle.sand_base.specs.Shelf.{Files}
use Rattle.sand_base.specs.declared.kind.Kind.{Kind}
use Rattle.sand_base.specs.declared.limits.Limits.{Limits}
use Rattle.sand_base.specs.declared.refusal.Refusal.{Refusal}
use Rattle.sand_base.specs.declared.refusal.Refusal.TheVariants as why
use Rattle.sand_base.specs.declared.value.Value.{Value}
use Rattle.sand_model.specs.Cursor.{Cursor, Accepted, Id, Loaded as LoadedLine, Refused}
use Rattle.sand_model.specs.Database.{Index}
use Rattle.sand_model.specs.Outcome.{uses_pages}
use Rattle.statements.specs.declared.column.Column.{Column}
use Rattle.statements.specs.Statement.{Statement, Create, Insert, Delete, Load, Index as IndexOn, Rtree}
use Rattle.sand_model.specs.StatementChecks.{Setting, early, file_rows, late}
use Rattle.sand_store.specs.Calls.{Refuses, IsStatementRefused, IsUnchanged, Created, RowInserted, Deleted, Indexed, Treed, Loaded, LoadIsRefusedBy, IsRefusedPlainly, early_at}
use Rattle.sand_store.specs.Calls.{late_at, load_early, load_late, load_plain, plain_checks, is_none, is_index_full, is_missing, is_of_a_row}
use Rattle.sand_store.specs.Catalog.{CatalogView, RelationView, StoreState}
use Rattle.r_tree.specs.declared.tree.RTree.{RTree}
use Rattle.sand_model.specs.Database.{Rectangles}
use Rattle.sand_store.specs.Contents.{database, database_in, indexes_in, rectangles_of, rows_in}
use Rattle.sand_store.specs.Sketches.{Sketch, sketch_of, sketches, new_sketch, with_ids, with_indexed, with_treed, sketched_at}
use Rattle.sand_store.specs.declared.path.AccessPath.{AccessPath}
use Rattle.statement_exec.specs.Deciding.{ComesBehind, DecidesEarly, PrintsPassed, line_of_rows}
use Rattle.statement_exec.specs.Loading.{LoadOf, Yields, InSettings, IsRefusedEarly}
use Rattle.statement_exec.specs.Moment.{state_with, while_open}
use Rattle.statement_exec.specs.Outline.{outline_of, sketch_in, bare}
use Rattle.statement_exec.specs.Performing.{IsDecided}
use Rattle.statement_exec.proofs.Decided.{found_own, after_refusal, by_early, by_memory, by_behind, by_passing, by_shelf}
use Rattle.statement_exec.proofs.LoadChecks.{setting_with}
use Rattle.statement_exec.proofs.OutlinedRelations.{shown, named_shown}
use Rattle.statement_exec.proofs.Outlines.{rows_shown, plain_shown}

-- ---- outlines

indexed_same : (pages : PageMap) (paths : List (ℕ × AccessPath)) → map (λ (index : ℕ × Index). index.0) (indexes_in pages paths) ≡ map (λ (path : ℕ × AccessPath). path.0) paths
indexed_same pages [] = refl
indexed_same pages (path ∷ paths) = ap (λ (places : List ℕ). path.0 ∷ places) (indexed_same pages paths)

treed_same : (rows : List (ℕ × List Value)) (trees : List (ℕ × RTree)) → map (λ (tree : Rectangles). tree.0) (rectangles_of rows trees) ≡ map (λ (tree : ℕ × RTree). tree.0) trees
treed_same rows [] = refl
treed_same rows (tree ∷ trees) = ap (λ (places : List ℕ). tree.0 ∷ places) (treed_same rows trees)

-- the sketches of a catalog's relations are those of its database, whatever the pages
pub sketched_in : (pages : PageMap) (rs : List RelationView) → map sketch_in (database_in pages rs) ≡ map sketch_of rs
sketched_in pages [] = refl
sketched_in pages (r ∷ rs) =
    ap₂ (λ (places : List ℕ × List ℕ) (rest : List Sketch). record { name = r.name; schema = r.schema; next = r.next; indexed = places.0; treed = places.1 } ∷ rest)
    (ap₂ (λ (indexed treed : List ℕ). (indexed, treed)) (indexed_same pages r.paths) (treed_same (rows_in pages r) r.trees)) (sketched_in pages rs)

-- beside any cursors the outline of a catalog is the same over any pages
pub outline_in : (catalog : CatalogView) (pages pages' : PageMap) (cs : List Cursor)
    → outline_of (record { database = database_in pages catalog.relations; cursors = cs }) ≡ outline_of (record { database = database_in pages' catalog.relations; cursors = cs })
outline_in catalog pages pages' cs =
    ap (λ (rs : List Sketch). record { relations = rs; cursors = map (λ (c : Cursor). c.name) cs }) (sketched_in pages catalog.relations ∙ sym (sketched_in pages' catalog.relations))

module _ (old new : StoreState) where
  outline_changed : (cs : List Cursor) (change : List Sketch → List Sketch) → sketches new ≡ change (sketches old)
      → outline_of (state_with cs (database new)) ≡ record { relations = change (map sketch_in (database old)); cursors = map (λ (c : Cursor). c.name) cs }
  outline_changed cs change h =
      ap (λ (rs : List Sketch). record { relations = rs; cursors = map (λ (c : Cursor). c.name) cs })
      (sketched_in new.pool.pages new.catalog.relations ∙ (h ∙ ap change (sym (sketched_in old.pool.pages old.catalog.relations))))

  outline_kept : (cs : List Cursor) → new.catalog ≡ old.catalog → outline_of (state_with cs (database new)) ≡ outline_of (state_with cs (database old))
  outline_kept cs same = outline_changed cs (λ rs. rs) (ap (λ (catalog : CatalogView). map sketch_of catalog.relations) same)

  -- ---- calls that touch no file

  module _ (cs : List Cursor) (files : Option Files) (shelf : ℕ) where
    pub created_decides : (name : List ℕ) (schema : List (List ℕ × Kind)) → Created old new name schema
        → IsDecided (Create name schema) (while_open old files shelf cs) (while_open new files shelf cs) (Accepted ∷ [])
    created_decides name schema h = λ setting s. (
      by_passing setting (state_with cs (database old)) (Create name schema) (Accepted ∷ []) (h.passes setting s.is s.limits).0 refl,
      outline_changed cs (λ rs. rs ++ new_sketch name schema ∷ []) h.sketched,
    )

    pub inserted_decides : (name : List ℕ) (row : List Value) (id : ℕ) → RowInserted old new name row id
        → IsDecided (Insert name row) (while_open old files shelf cs) (while_open new files shelf cs) (Id id ∷ [])
    inserted_decides name row id h = λ setting s. (
      by_passing setting (state_with cs (database old)) (Insert name row) (Id id ∷ []) (h.passes setting s.is s.limits).0
          (shown h.next.0, named_shown (database old) name (Some h.next.0) h.next.1.0, ap (λ (n : ℕ). Id n ∷ []) h.next.1.1),
      outline_changed cs (sketched_at name (with_ids 1)) h.sketched,
    )

    pub deleted_decides : (name : List ℕ) (id : ℕ) → Deleted old new name id
        → IsDecided (Delete name id) (while_open old files shelf cs) (while_open new files shelf cs) (Accepted ∷ [])
    deleted_decides name id h = λ setting s. (
      by_passing setting (state_with cs (database old)) (Delete name id) (Accepted ∷ []) (h.passes setting s.is s.limits).0 refl,
      outline_changed cs (λ rs. rs) h.sketched,
    )

    pub indexed_decides : (column : Column) (threshold : Option ℕ) → Indexed old new column threshold
        → IsDecided (IndexOn column threshold) (while_open old files shelf cs) (while_open new files shelf cs) (Accepted ∷ [])
    indexed_decides column threshold h = λ setting s. (
      by_passing setting (state_with cs (database old)) (IndexOn column threshold) (Accepted ∷ []) (h.passes setting s.is s.limits).0 refl,
      outline_changed cs (sketched_at column.relation (with_indexed column.column)) h.sketched,
    )

    pub treed_decides : (column : Column) → Treed old new column → IsDecided (Rtree column) (while_open old files shelf cs) (while_open new files shelf cs) (Accepted ∷ [])
    treed_decides column h = λ setting s. (
      by_passing setting (state_with cs (database old)) (Rtree column) (Accepted ∷ []) (h.passes setting s.is s.limits).0 refl,
      outline_changed cs (sketched_at column.relation (with_treed column.column)) h.sketched,
    )

    -- a refusal of the call
    pub refused_decides : (statement : Statement) (is_late : Refusal → Bool) (w : Refusal) → uses_pages statement ≡ true
        → ((setting : Setting) → (early setting (state_with cs (database old)) statement ≡ early_at setting old statement)
        × (late setting (state_with cs (database old)) statement ≡ late_at setting old statement)) → ((r : Refusal) → is_late r ≡ true → ComesBehind statement r)
        → IsUnchanged old new → IsStatementRefused is_late old statement w → IsDecided statement (while_open old files shelf cs) (while_open new files shelf cs) (Refused w ∷ [])
    refused_decides statement is_late w uses alike may same h = λ setting s. (
      found_own files setting statement (λ own. DecidesEarly own (bare (outline_of (state_with cs (database old)))) statement (Refused w ∷ [])) s.files
          (by_refusal setting (late_at setting old statement) w (h setting s.is s.limits)),
      outline_kept cs same.catalog ∙ sym (after_refusal (outline_of (state_with cs (database old))) statement w),
    ) where
      by_refusal : (setting : Setting) (behind : Option Refusal) (r : Refusal) → Refuses (IsTold old.pool) is_late (early_at setting old statement) behind r
          → DecidesEarly setting (bare (outline_of (state_with cs (database old)))) statement (Refused r ∷ [])
      by_refusal setting behind why.Memory k = by_memory setting (state_with cs (database old)) statement
      by_refusal setting behind why.Device k = by_behind setting (state_with cs (database old)) statement why.Device ((alike setting).0 ∙ k) uses
      by_refusal setting behind (why.Damaged page kept read) k = by_behind setting (state_with cs (database old)) statement (why.Damaged page kept read) ((alike setting).0 ∙ k) uses
      by_refusal setting behind r k = elim (is_late r) as (λ b. is_late r ≡ b → DecidesEarly setting (bare (outline_of (state_with cs (database old)))) statement (Refused r ∷ [])) [
        | true ↦ λ e. let both : (early_at setting old statement ≡ None) × (IsTold old.pool → behind ≡ Some r) = rw e at k in
            by_behind setting (state_with cs (database old)) statement r ((alike setting).0 ∙ both.0) (may r e)
        | false ↦ λ e. let first : early_at setting old statement ≡ Some r = rw e at k in by_early setting (state_with cs (database old)) statement r ((alike setting).0 ∙ first)
      ] refl

-- the refusals that only the change can find come behind the early checks

pub late_create : (name : List ℕ) (schema : List (List ℕ × Kind)) (r : Refusal) → is_none r ≡ true → ComesBehind (Create name schema) r
late_create name schema r e = absurd (true≢false (sym e))

pub late_insert : (name : List ℕ) (row : List Value) (r : Refusal) → is_index_full r ≡ true → ComesBehind (Insert name row) r
late_insert name row why.IndexFull e = tt
late_insert name row _ e = absurd (true≢false (sym e))

pub late_delete : (name : List ℕ) (id : ℕ) (r : Refusal) → is_missing r ≡ true → ComesBehind (Delete name id) r
late_delete name id why.NoSuchId e = tt
late_delete name id _ e = absurd (true≢false (sym e))

pub late_index : (column : Column) (threshold : Option ℕ) (r : Refusal) → is_index_full r ≡ true → ComesBehind (IndexOn column threshold) r
late_index column threshold why.IndexFull e = tt
late_index column threshold _ e = absurd (true≢false (sym e))

pub late_rtree : (column : Column) (r : Refusal) → is_none r ≡ true → ComesBehind (Rtree column) r
late_rtree column r e = absurd (true≢false (sym e))

-- ---- loads

module _ (old new : StoreState) (load : LoadOf) (cs : List Cursor) (files files' : Option Files) (shelf shelf' : ℕ) (rows : List (List Value))
    (given : InSettings old.catalog files (λ setting state. Yields setting state load rows)) where
  -- the checks of the rows that need no page, as the outline has them
  rows_decide : (own : Setting) (o : Option Refusal) → own.limits ≡ old.catalog.limits → Yields own (state_with cs (database old)) load rows → load_plain old load.relation rows ≡ o
      → PrintsPassed own (bare (outline_of (state_with cs (database old)))) (Load load.relation load.file load.header) (line_of_rows o (length rows) ∷ [])
  rows_decide own o limits y plain =
      let of_relation : load_plain old load.relation rows ≡ plain_checks old.catalog.limits rows y.relation = rw y.named refl in
      let same_rows : file_rows own load.file load.header (shown y.relation) ≡ rows = rows_shown own load.file load.header y.relation ∙ y.rows_are in
      let checks : plain_checks own.limits (file_rows own load.file load.header (shown y.relation)) (shown y.relation) ≡ o =
      ap₂ (λ (l : Limits) (xs : List (List Value)). plain_checks l xs (shown y.relation)) limits same_rows ∙ (plain_shown old.catalog.limits rows y.relation ∙ (sym of_relation ∙ plain)) in (
        shown y.relation,
        named_shown (database old) load.relation (Some y.relation) y.named,
        ap₂ (λ (r : Option Refusal) (n : ℕ). line_of_rows r n ∷ []) (sym checks) (ap (λ (xs : List (List Value)). length xs) (sym same_rows)),
      )

  -- the rows were added
  pub loaded_decides : (count : ℕ) → Loaded old new load.relation rows count
      → IsDecided (Load load.relation load.file load.header) (while_open old files shelf cs) (while_open new files' shelf' cs) (LoadedLine count ∷ [])
  loaded_decides count h = λ setting s.
      let own : Setting = record setting { files = given.0 } in
      let y : Yields own (state_with cs (database old)) load rows = given.2 cs old.pool shelf setting s in
      let line : PrintsPassed own (bare (outline_of (state_with cs (database old)))) (Load load.relation load.file load.header) (LoadedLine count ∷ []) =
      subst (λ (n : ℕ). PrintsPassed own (bare (outline_of (state_with cs (database old)))) (Load load.relation load.file load.header) (LoadedLine n ∷ []))
      (sym h.counted) (rows_decide own None s.limits y h.plain) in (
        (given.0, given.1, by_passing own (state_with cs (database old)) (Load load.relation load.file load.header) (LoadedLine count ∷ []) y.passes line),
        outline_changed old new cs (sketched_at load.relation (with_ids count)) h.sketched,
      )

  -- a row was refused, or the outside refused
  pub refused_rows_decide : (w : Refusal) → LoadIsRefusedBy old load.relation rows w → IsRefusedPlainly old load.relation rows w → IsUnchanged old new
      → IsDecided (Load load.relation load.file load.header) (while_open old files shelf cs) (while_open new files' shelf' cs) (Refused w ∷ [])
  refused_rows_decide w h plain same = λ setting s.
      let own : Setting = record setting { files = given.0 } in
      let y : Yields own (state_with cs (database old)) load rows = given.2 cs old.pool shelf setting s in (
        (given.0, given.1, by_refusal own s.limits y (load_late own old load.relation rows) w (h own (setting_with setting given.0 s.is) s.limits) plain),
        outline_kept old new cs same.catalog,
      ) where
        by_row : (own : Setting) → own.limits ≡ old.catalog.limits → Yields own (state_with cs (database old)) load rows → (r : Refusal) → load_plain old load.relation rows ≡ Some r
            → DecidesEarly own (bare (outline_of (state_with cs (database old)))) (Load load.relation load.file load.header) (Refused r ∷ [])
        by_row own limits y r k = by_passing own (state_with cs (database old)) (Load load.relation load.file load.header) (Refused r ∷ []) y.passes (rows_decide own (Some r) limits y k)

        none_other : (own : Setting) → Yields own (state_with cs (database old)) load rows → (r : Refusal) → load_early old load.relation ≡ Some r → ⊥
        none_other own y r k =
            let none : load_early old load.relation ≡ None = rw y.named refl in
            true≢false (sym (ap (λ (o : Option Refusal). is_some o) k) ∙ ap (λ (o : Option Refusal). is_some o) none)

        by_refusal : (own : Setting) → own.limits ≡ old.catalog.limits → Yields own (state_with cs (database old)) load rows → (behind : Option Refusal) (r : Refusal)
            → Refuses (IsTold old.pool) is_of_a_row (load_early old load.relation) behind r → IsRefusedPlainly old load.relation rows r
            → DecidesEarly own (bare (outline_of (state_with cs (database old)))) (Load load.relation load.file load.header) (Refused r ∷ [])
        by_refusal own limits y behind why.Memory k p = by_memory own (state_with cs (database old)) (Load load.relation load.file load.header)
        by_refusal own limits y behind why.Device k p = by_behind own (state_with cs (database old)) (Load load.relation load.file load.header) why.Device y.passes refl
        by_refusal own limits y behind (why.Damaged page kept read) k p =
            by_behind own (state_with cs (database old)) (Load load.relation load.file load.header) (why.Damaged page kept read) y.passes refl
        by_refusal own limits y behind why.IndexFull k p = by_behind own (state_with cs (database old)) (Load load.relation load.file load.header) why.IndexFull y.passes tt
        by_refusal own limits y behind why.WrongKind k p = by_row own limits y why.WrongKind p
        by_refusal own limits y behind why.TupleTooLong k p = by_row own limits y why.TupleTooLong p
        by_refusal own limits y behind why.IdsSpent k p = by_row own limits y why.IdsSpent p
        by_refusal own limits y behind r k p = absurd (none_other own y r k)

-- an early check refuses, or the shelf fails
pub unloaded_decides : (old : StoreState) (load : LoadOf) (cs : List Cursor) (files files' : Option Files) (shelf shelf' : ℕ) (w : Refusal)
    → InSettings old.catalog files (λ setting state. IsRefusedEarly setting state load w)
    → IsDecided (Load load.relation load.file load.header) (while_open old files shelf cs) (while_open old files' shelf' cs) (Refused w ∷ [])
unloaded_decides old load cs files files' shelf shelf' w given = λ setting s. (
  (given.0, given.1, by_refusal (record setting { files = given.0 }) w (given.2 cs old.pool shelf setting s)),
  refl,
) where
  by_refusal : (own : Setting) (r : Refusal) → IsRefusedEarly own (state_with cs (database old)) load r
      → DecidesEarly own (bare (outline_of (state_with cs (database old)))) (Load load.relation load.file load.header) (Refused r ∷ [])
  by_refusal own why.Memory k = by_memory own (state_with cs (database old)) (Load load.relation load.file load.header)
  by_refusal own why.File k = by_shelf own (state_with cs (database old)) load.relation load.file load.header k
  by_refusal own r k = by_early own (state_with cs (database old)) (Load load.relation load.file load.header) r k
