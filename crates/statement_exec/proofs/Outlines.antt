-- The early checks read no more of a state than its outline.
use Rattle.std.proofs.Common.{◌≡◌, ℕ, ◌+◌, Bool, true, false, cond, not, ◌&&◌, ◌||◌, List, [], ◌∷◌, length, map, Option, Some, None, refl, ◌∙◌, ap, ap₂}
use Rattle.std.specs.Prelude.{nat_le, nat_lt, find}
use Rattle.std.proofs.lemmas.List.{length-map}
use Rattle.sand_base.specs.declared.kind.Kind.{Kind}
use Rattle.sand_base.specs.declared.limits.Limits.{Limits}
use Rattle.sand_base.specs.declared.refusal.Refusal.{Refusal}
use Rattle.sand_base.specs.declared.refusal.Refusal.TheVariants as why
use Rattle.sand_base.specs.declared.value.Value.{Value}
use Rattle.sand_base.specs.declared.shape.Shape.TheVariants as shape
use Rattle.sand_base.specs.Shape.{is_spatial}
use Rattle.sand_base.specs.declared.kind.Kind.TheVariants as kind
use Rattle.sand_model.specs.Checks.{first_refusal, is_indexed, has_rectangles}
use Rattle.sand_model.specs.Cursor.{State, Cursor, new_cursor}
use Rattle.sand_model.specs.Database.{Relation, same_name}
use Rattle.sand_model.specs.Kept.{has_twice, most_relations}
use Rattle.statements.specs.Plan as plan
use Rattle.statements.specs.Plan.{Scan}
use Rattle.statements.specs.Statement.{Statement, Create, Insert, Delete, Load, Index as IndexOn, Rtree, OpenCursor, Next, CloseCursor, Show, Stats, Far, Blocks}
use Rattle.sand_model.specs.StatementChecks.{Setting, FileRows, AreRows, HasBad, early, refused_where, is_there, is_row_of, check_cursor}
use Rattle.sand_model.specs.StatementChecks.{check_length, check_ids, check_load, check_records, check_depth, in_file, file_rows, most_cursors, longest_file}
use Rattle.sand_store.specs.Calls.{plain_checks, check_kinds}
use Rattle.statement_exec.specs.Outline.{sketch_in, outline_of, bare, bare_relation}
use Rattle.statement_exec.proofs.OutlinedRelations.{shown, indexed_shown, treed_shown, there_shown, relation_shown, known_shown, column_shown, operators_shown}

-- ---- data files

records_shown : (setting : Setting) (file : List ℕ) (header : Bool) (r : Relation) → check_records setting file header (shown r) ≡ check_records setting file header r
records_shown setting file header r =
    let at : (bytes : List ℕ) → setting.files file ≡ Some bytes → check_records setting file header (shown r) ≡ check_records setting file header r = λ bytes e.
    let go : (rows : FileRows) → setting.rows_of bytes r.schema header ≡ rows → check_records setting file header (shown r) ≡ check_records setting file header r = elim [
      | AreRows rows ↦ λ k. rw (e, k) refl
      | HasBad row column ↦ λ k. rw (e, k) refl
    ] in
    go (setting.rows_of bytes r.schema header) refl in
    let go : (o : Option (List ℕ)) → setting.files file ≡ o → check_records setting file header (shown r) ≡ check_records setting file header r = elim [
      | None ↦ λ e. rw e refl
      | Some bytes ↦ λ e. at bytes e
    ] in
    go (setting.files file) refl

pub rows_shown : (setting : Setting) (file : List ℕ) (header : Bool) (r : Relation) → file_rows setting file header (shown r) ≡ file_rows setting file header r
rows_shown setting file header r =
    let at : (bytes : List ℕ) → setting.files file ≡ Some bytes → file_rows setting file header (shown r) ≡ file_rows setting file header r = λ bytes e.
    let go : (rows : FileRows) → setting.rows_of bytes r.schema header ≡ rows → file_rows setting file header (shown r) ≡ file_rows setting file header r = elim [
      | AreRows rows ↦ λ k. rw (e, k) refl
      | HasBad row column ↦ λ k. rw (e, k) refl
    ] in
    go (setting.rows_of bytes r.schema header) refl in
    let go : (o : Option (List ℕ)) → setting.files file ≡ o → file_rows setting file header (shown r) ≡ file_rows setting file header r = elim [
      | None ↦ λ e. rw e refl
      | Some bytes ↦ λ e. at bytes e
    ] in
    go (setting.files file) refl

-- the checks of rows that need no page
pub plain_shown : (limits : Limits) (rows : List (List Value)) (r : Relation) → plain_checks limits rows (shown r) ≡ plain_checks limits rows r
plain_shown limits [] r = refl
plain_shown limits (row ∷ rows) r =
    ap (λ (o : Option Refusal). first_refusal (check_kinds r row ∷ check_length row ∷ check_ids limits r ∷ o ∷ [])) (plain_shown limits rows (record r { next = r.next + 1 }))

-- ---- cursors

-- cursors with no more than their names
abbrev named_only : List Cursor → List Cursor
named_only cs = map (λ name. new_cursor name (Scan []) []) (map (λ (c : Cursor). c.name) cs)

cursors_counted : (cs : List Cursor) → length (named_only cs) ≡ length cs
cursors_counted cs = length-map (map (λ (c : Cursor). c.name) cs) (λ name. new_cursor name (Scan []) []) ∙ length-map cs (λ (c : Cursor). c.name)

cursor_shown : (cs : List Cursor) (name : List ℕ) → is_there (find (λ (c : Cursor). same_name c.name name) (named_only cs)) ≡ is_there (find (λ (c : Cursor). same_name c.name name) cs)
cursor_shown [] name = refl
cursor_shown (c ∷ cs) name =
    let go : (b : Bool) → is_there (cond b (Some (new_cursor c.name (Scan []) [])) (find (λ (k : Cursor). same_name k.name name) (named_only cs)))
    ≡ is_there (cond b (Some c) (find (λ (k : Cursor). same_name k.name name) cs)) = elim [
      | true ↦ refl
      | false ↦ cursor_shown cs name
    ] in
    go (same_name c.name name)

-- ---- statements

module _ (state : State) where
  open_shown : (name : List ℕ) → check_cursor (bare (outline_of state)) name ≡ check_cursor state name
  open_shown name = ap (λ (b : Bool). refused_where (not b) why.UnknownCursor) (cursor_shown state.cursors name)

  -- the checks of a load before its file is chosen
  pub load_shown : (name : List ℕ) → check_load (bare (outline_of state)) name ≡ check_load state name
  load_shown name = known_shown state.database name

  -- the early checks of a statement
  pub early_shown : (setting : Setting) (statement : Statement) → early setting (bare (outline_of state)) statement ≡ early setting state statement
  early_shown setting (Create name columns) =
      ap₂ (λ (a : Bool) (os : List (Option Refusal)). first_refusal (refused_where (a || has_twice (map (λ (column : List ℕ × Kind). column.0) columns)) why.NameTaken ∷ os))
      (there_shown state.database name)
      (ap (λ (n : ℕ). refused_where (nat_le most_relations n) why.TooManyRelations ∷ [])
      (length-map (map sketch_in state.database) bare_relation ∙ length-map state.database sketch_in))
  early_shown setting (Insert name row) =
      ap₂ (λ (a : Option Refusal) (os : List (Option Refusal)). first_refusal (a ∷ os))
      (relation_shown state.database name (λ relation. refused_where (not (is_row_of relation.schema row)) why.WrongKind) (λ r. refl))
      (ap (λ (b : Option Refusal). check_length row ∷ b ∷ []) (relation_shown state.database name (check_ids setting.limits) (λ r. refl)))
  early_shown setting (Delete name id) = known_shown state.database name
  early_shown setting (Load name file header) =
      ap₂ (λ (a b : Option Refusal). first_refusal (a ∷ in_file setting file (λ bytes. refused_where (nat_lt longest_file (length bytes)) why.FileTooLong) ∷ b ∷ [])) (load_shown name)
      (relation_shown state.database name (check_records setting file header) (λ r. records_shown setting file header r))
  early_shown setting (IndexOn column threshold) =
      ap₂ (λ (a : Option Refusal) (os : List (Option Refusal)). first_refusal (a ∷ os))
      (column_shown state.database column (λ relation kind. refused_where (is_there threshold && not (is_spatial kind)) why.WrongKind) (λ r k. refl))
      (ap (λ (a : Option Refusal). a ∷ [])
      (column_shown state.database column (λ relation kind. refused_where (is_indexed relation column.column) why.IndexThere)
      (λ r k. ap (λ (b : Bool). refused_where b why.IndexThere) (indexed_shown r column.column))))
  early_shown setting (Rtree column) =
      column_shown state.database column (λ relation kind.
      first_refusal (refused_where (not (is_spatial kind)) why.WrongKind ∷ refused_where (has_rectangles relation column.column) why.IndexThere ∷ []))
      (λ r k. ap (λ (b : Bool). first_refusal (refused_where (not (is_spatial k)) why.WrongKind ∷ refused_where b why.IndexThere ∷ [])) (treed_shown r column.column))
  early_shown setting (OpenCursor name p) =
      ap₂ (λ (b : Bool) (os : List (Option Refusal)). first_refusal (refused_where b why.CursorNameTaken ∷ os)) (cursor_shown state.cursors name)
      (ap₂ (λ (a : Option Refusal) (n : ℕ). a ∷ refused_where (nat_le most_cursors n) why.TooManyCursors ∷ check_depth p ∷ []) (operators_shown state.database p) (cursors_counted state.cursors))
  early_shown setting (Next name count) = open_shown name
  early_shown setting (CloseCursor name) = open_shown name
  early_shown setting (Show count p) = ap (λ (a : Option Refusal). first_refusal (a ∷ check_depth p ∷ [])) (operators_shown state.database p)
  early_shown setting (Stats name) = open_shown name
  early_shown setting (Far count column goal) = operators_shown state.database (plan.Rank column (shape.Point goal) None)
  early_shown setting (Blocks column) =
      column_shown state.database column (λ relation kind.
      first_refusal (refused_where (not (is_spatial kind)) why.WrongKind ∷ refused_where (not (is_indexed relation column.column)) why.NoIndex ∷ []))
      (λ r k. ap (λ (b : Bool). first_refusal (refused_where (not (is_spatial k)) why.WrongKind ∷ refused_where (not b) why.NoIndex ∷ [])) (indexed_shown r column.column))
