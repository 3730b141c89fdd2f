-- No check of a statement speaks of the outside, but that a file isn't there.
use Rattle.std.proofs.Common.{◌≡◌, ℕ, ◌-◌, Bool, true, false, not, ◌&&◌, ◌||◌, List, [], ◌∷◌, length, map, Option, Some, None, refl}
use Rattle.std.specs.Prelude.{nat_le, nat_lt}
use Rattle.std.specs.List.{list_any}
use Rattle.sand_base.specs.declared.kind.Kind.{Kind}
use Rattle.sand_base.specs.declared.limits.Limits.{Limits}
use Rattle.sand_base.specs.declared.refusal.Refusal.{Refusal}
use Rattle.sand_base.specs.declared.refusal.Refusal.TheVariants as why
use Rattle.sand_base.specs.declared.value.Value.{Value}
use Rattle.sand_base.specs.Shape.{is_spatial}
use Rattle.sand_model.specs.Checks.{first_refusal, kind_named, is_indexed, has_rectangles, most_operators}
use Rattle.sand_model.specs.Cursor.{State}
use Rattle.sand_model.specs.Database.{Database, Relation, relation_named, row_at, with_row}
use Rattle.sand_model.specs.Kept.{has_twice, most_relations, longest_row}
use Rattle.sand_base.specs.declared.shape.Shape.TheVariants as shape
use Rattle.statements.specs.Plan as plan
use Rattle.statements.specs.Plan.{Plan, depth}
use Rattle.statements.specs.declared.column.Column.{Column}
use Rattle.sand_model.specs.RowSize.{row_size}
use Rattle.statements.specs.Statement.{Statement, Create, Insert, Delete, Load, Index as IndexOn, Rtree, OpenCursor, Next, CloseCursor, Show, Stats, Far, Blocks}
use Rattle.sand_model.specs.StatementChecks.{Setting, FileRows, AreRows, HasBad, refused_where, in_relation, in_column, in_file, is_there, is_row_of, cursor_named}
use Rattle.sand_model.specs.StatementChecks.{check_cursor, check_length, check_ids, check_listings, check_depth, check_load, check_records, is_overfull, entered}
use Rattle.sand_model.specs.StatementChecks.{file_rows, indexed_by, most_cursors, longest_file, early, late}
use Rattle.run_laws.proofs.PlanChecks.{IsInside, inside_two, inside_three, inside_four, inside_relation, inside_operators}

inside_where : (b : Bool) (refusal : Refusal) → IsInside (Some refusal) → IsInside (refused_where b refusal)
inside_where true refusal h = h
inside_where false refusal h = refl

inside_named : (d : Database) (name : List ℕ) (check : Relation → Option Refusal) → ((r : Relation) → IsInside (check r)) → IsInside (in_relation d name check)
inside_named d name check h = go (relation_named d name) refl where
  go : (o : Option Relation) → relation_named d name ≡ o → IsInside (in_relation d name check)
  go None e = rw e refl
  go (Some r) e = rw e (h r)

inside_column : (d : Database) (column : Column) (check : Relation → Kind → Option Refusal) → ((r : Relation) (k : Kind) → IsInside (check r k)) → IsInside (in_column d column check)
inside_column d column check h = go (relation_named d column.relation) refl where
  at_kind : (r : Relation) → relation_named d column.relation ≡ Some r → (o : Option Kind) → kind_named r column.column ≡ o → IsInside (in_column d column check)
  at_kind r e None k = rw (e, k) refl
  at_kind r e (Some kind) k = rw (e, k) (h r kind)

  go : (o : Option Relation) → relation_named d column.relation ≡ o → IsInside (in_column d column check)
  go None e = rw e refl
  go (Some r) e = at_kind r e (kind_named r column.column) refl

inside_file : (setting : Setting) (file : List ℕ) (check : List ℕ → Option Refusal) → ((bytes : List ℕ) → IsInside (check bytes)) → IsInside (in_file setting file check)
inside_file setting file check h = go (setting.files file) refl where
  go : (o : Option (List ℕ)) → setting.files file ≡ o → IsInside (in_file setting file check)
  go None e = rw e refl
  go (Some bytes) e = rw e (h bytes)

inside_records : (setting : Setting) (file : List ℕ) (header : Bool) (r : Relation) → IsInside (check_records setting file header r)
inside_records setting file header r = go (setting.files file) refl where
  at_rows : (bytes : List ℕ) → setting.files file ≡ Some bytes → (o : FileRows) → setting.rows_of bytes r.schema header ≡ o → IsInside (check_records setting file header r)
  at_rows bytes e (AreRows rows) k = rw (e, k) refl
  at_rows bytes e (HasBad row column) k = rw (e, k) refl

  go : (o : Option (List ℕ)) → setting.files file ≡ o → IsInside (check_records setting file header r)
  go None e = rw e refl
  go (Some bytes) e = at_rows bytes e (setting.rows_of bytes r.schema header) refl

inside_cursor : (state : State) (name : List ℕ) → IsInside (check_cursor state name)
inside_cursor state name = inside_where (not (is_there (cursor_named state name))) why.UnknownCursor refl

inside_length : (row : List Value) → IsInside (check_length row)
inside_length row = inside_where (nat_lt longest_row (row_size row)) why.TupleTooLong refl

inside_ids : (limits : Limits) (r : Relation) → IsInside (check_ids limits r)
inside_ids limits r = inside_where (nat_le limits.ids (r.next - 1)) why.IdsSpent refl

inside_listings : (limits : Limits) (r : Relation) → IsInside (check_listings limits r)
inside_listings limits r = inside_where (list_any (is_overfull limits) r.indexes) why.IndexFull refl

inside_depth : (p : Plan) → IsInside (check_depth p)
inside_depth p = inside_where (nat_lt most_operators (depth p)) why.PlanTooDeep refl

-- the checks of one row of a file
abbrev row_checks : Setting → List Value → Relation → List (Option Refusal)
row_checks setting row r = check_length row ∷ check_ids setting.limits r ∷ check_listings setting.limits (with_row setting.gap row r) ∷ []

inside_row : (setting : Setting) (row : List Value) (r : Relation) → IsInside (first_refusal (row_checks setting row r))
inside_row setting row r = inside_three _ _ _ (inside_length row) (inside_ids setting.limits r) (inside_listings setting.limits (with_row setting.gap row r))

-- the rows of a file, entered one after the other
inside_entered : (setting : Setting) (rows : List (List Value)) (r : Relation) → IsInside (entered setting rows r).0
inside_entered setting [] r = refl
inside_entered setting (row ∷ rows) r = go (inside_entered setting rows (with_row setting.gap row r)) (first_refusal (row_checks setting row r)) refl where
  go : IsInside (entered setting rows (with_row setting.gap row r)).0 → (o : Option Refusal) → first_refusal (row_checks setting row r) ≡ o
      → IsInside (entered setting (row ∷ rows) r).0
  go h None e = rw e h
  go behind (Some refusal) e = let h : IsInside (first_refusal (row_checks setting row r)) = inside_row setting row r in rw e (rw e at h)

pub inside_load : (state : State) (name : List ℕ) → IsInside (check_load state name)
inside_load state name = inside_relation state.database name

pub inside_early : (setting : Setting) (state : State) (statement : Statement) → IsInside (early setting state statement)
inside_early setting state (Create name columns) =
    inside_two _ _ (inside_where (is_there (relation_named state.database name) || has_twice (map (λ column. column.0) columns)) why.NameTaken refl)
    (inside_where (nat_le most_relations (length state.database)) why.TooManyRelations refl)
inside_early setting state (Insert name row) =
    inside_three _ _ _ (inside_named state.database name _ (λ r. inside_where (not (is_row_of r.schema row)) why.WrongKind refl))
    (inside_length row) (inside_named state.database name (check_ids setting.limits) (inside_ids setting.limits))
inside_early setting state (Delete name id) = inside_relation state.database name
inside_early setting state (Load name file header) =
    inside_three _ _ _ (inside_load state name) (inside_file setting file _ (λ bytes. inside_where (nat_lt longest_file (length bytes)) why.FileTooLong refl))
    (inside_named state.database name (check_records setting file header) (inside_records setting file header))
inside_early setting state (IndexOn column threshold) =
    inside_two _ _ (inside_column state.database column _ (λ r k. inside_where (is_there threshold && not (is_spatial k)) why.WrongKind refl))
    (inside_column state.database column _ (λ r k. inside_where (is_indexed r column.column) why.IndexThere refl))
inside_early setting state (Rtree column) =
    inside_column state.database column _ (λ r k. inside_two _ _ (inside_where (not (is_spatial k)) why.WrongKind refl)
    (inside_where (has_rectangles r column.column) why.IndexThere refl))
inside_early setting state (OpenCursor name p) =
    inside_four _ _ _ _ (inside_where (is_there (cursor_named state name)) why.CursorNameTaken refl) (inside_operators state.database p)
    (inside_where (nat_le most_cursors (length state.cursors)) why.TooManyCursors refl) (inside_depth p)
inside_early setting state (Next name count) = inside_cursor state name
inside_early setting state (CloseCursor name) = inside_cursor state name
inside_early setting state (Show count p) = inside_two _ _ (inside_operators state.database p) (inside_depth p)
inside_early setting state (Stats name) = inside_cursor state name
inside_early setting state (Far count column goal) = inside_operators state.database (plan.Rank column (shape.Point goal) None)
inside_early setting state (Blocks column) =
    inside_column state.database column _ (λ r k. inside_two _ _ (inside_where (not (is_spatial k)) why.WrongKind refl)
    (inside_where (not (is_indexed r column.column)) why.NoIndex refl))

inside_late : (setting : Setting) (state : State) (statement : Statement) → IsInside (late setting state statement)
inside_late setting state (Insert name row) = inside_named state.database name _ (λ r. inside_listings setting.limits (with_row setting.gap row r))
inside_late setting state (Delete name id) = inside_named state.database name _ (λ r. inside_where (not (is_there (row_at r id))) why.NoSuchId refl)
inside_late setting state (Load name file header) = inside_named state.database name _ (λ r. inside_entered setting (file_rows setting file header r) r)
inside_late setting state (IndexOn column threshold) =
    inside_named state.database column.relation _ (λ r. inside_listings setting.limits (indexed_by setting.gap column threshold r))
inside_late setting state _ = refl

-- all checks of a statement
pub inside_checks : (setting : Setting) (state : State) (statement : Statement) → IsInside (first_refusal (early setting state statement ∷ late setting state statement ∷ []))
inside_checks setting state statement = inside_two _ _ (inside_early setting state statement) (inside_late setting state statement)
