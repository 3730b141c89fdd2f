-- The checks of each statement in their order. Those of `early` come before any page is touched, those of `late` with the change.
use Rattle.std.specs.Prelude.{◌≡◌, ℕ, ◌-◌, Bool, true, false, cond, nat_le, nat_lt, not, ◌&&◌, ◌||◌, List, [], ◌∷◌, length, map, find, All, Option, Some, None}
use Rattle.std.specs.List.{list_any}
use Rattle.sand_base.specs.declared.kind.Kind.{Kind}
use Rattle.sand_base.specs.declared.limits.Limits.{Limits}
use Rattle.sand_base.specs.declared.refusal.Refusal.{Refusal}
use Rattle.sand_base.specs.declared.refusal.Refusal.TheVariants as why
use Rattle.sand_base.specs.declared.value.Value.{Value}
use Rattle.sand_base.specs.InRange.{IsRowOf, IsRowInRange}
use Rattle.sand_base.specs.Shape.{value_kind, same_kind, is_spatial}
use Rattle.sand_model.specs.Checks.{check_column, first_refusal, check_relation, check_operators, kind_named, is_indexed, has_rectangles, most_operators}
use Rattle.sand_model.specs.Cursor.{State, Cursor}
use Rattle.sand_model.specs.Database.{Database, Relation, Index, Quadtree, Attribute, relation_named, same_name, column_named, row_at, with_row, with_index, with_rectangles}
use Rattle.sand_model.specs.Kept.{has_twice, most_relations, longest_row}
use Rattle.sand_model.specs.Measure.{Measure, IsMeasure}
use Rattle.statements.specs.Plan.{Plan, depth}
use Rattle.statements.specs.declared.column.Column.{Column}
use Rattle.sand_model.specs.RowSize.{row_size}
use Rattle.statements.specs.Statement.{Statement, Create, Insert, Delete, Load, Index as IndexOn, Rtree, OpenCursor, Next, CloseCursor, Show, Stats, Far, Blocks}
use Rattle.sand_model.specs.Tree.{listings}

-- the records of a data file: its rows, or the first that is no row, with its leftmost bad column, both counted from 1
pub data FileRows : Type 0 where
  AreRows : List (List Value) → FileRows
  HasBad : ℕ → ℕ → FileRows

-- What a script is carried out in: how far figures are apart, the limits, the data files by their names, how a file's
-- bytes are read as rows of a schema (behind a header or not), and whether the disk tells its pages.
pub record Setting : Type 0 where
  pub gap : Measure
  pub limits : Limits
  pub files : List ℕ → Option (List ℕ)
  pub rows_of : List ℕ → List (List ℕ × Kind) → Bool → FileRows
  pub tells : Bool

-- how far figures are apart is the gap, and a file's rows are rows of the schema
pub record IsSetting (setting : Setting) : Type 0 where
  pub gap : IsMeasure setting.gap
  pub rows_of : (bytes : List ℕ) (schema : List (List ℕ × Kind)) (header : Bool) (rows : List (List Value))
      → setting.rows_of bytes schema header ≡ AreRows rows → All (λ row. IsRowOf schema row × IsRowInRange row) rows

-- the longest data file, the most open cursors, and the threshold where none is given

-- the longest data file, in bytes
abbrev pub longest_file : ℕ
longest_file = 67108864

-- the most cursors that may be open
abbrev pub most_cursors : ℕ
most_cursors = 16

-- the threshold of a quadtree where none is given
abbrev pub plain_threshold : ℕ
plain_threshold = 8

-- a check that refuses where the mark is true
abbrev pub refused_where : Bool → Refusal → Option Refusal
refused_where is_wrong refusal = cond is_wrong (Some refusal) None

-- a check of the relation of this name, which must be there
abbrev pub in_relation : Database → List ℕ → (Relation → Option Refusal) → Option Refusal
in_relation database name check = of_relation (relation_named database name) where
  of_relation : Option Relation → Option Refusal
  of_relation None = Some why.UnknownRelation
  of_relation (Some relation) = check relation

-- a check of the kind of a column, which must be there
abbrev pub in_column : Database → Column → (Relation → Kind → Option Refusal) → Option Refusal
in_column database column check = in_relation database column.relation (λ relation. of_kind relation (kind_named relation column.column)) where
  of_kind : Relation → Option Kind → Option Refusal
  of_kind relation None = Some why.UnknownColumn
  of_kind relation (Some kind) = check relation kind

-- something is there
abbrev pub is_there : {A : Type 0} → Option A → Bool
is_there None = false
is_there (Some a) = true

-- the open cursor of this name
abbrev pub cursor_named : State → List ℕ → Option Cursor
cursor_named state name = find (λ cursor. same_name cursor.name name) state.cursors

-- a cursor of this name is open
abbrev pub check_cursor : State → List ℕ → Option Refusal
check_cursor state name = refused_where (not (is_there (cursor_named state name))) why.UnknownCursor

-- the row has a value of its kind for each column
abbrev pub is_row_of : List (List ℕ × Kind) → List Value → Bool
is_row_of [] [] = true
is_row_of (column ∷ columns) (v ∷ row) = same_kind (value_kind v) column.1 && is_row_of columns row
is_row_of _ _ = false

-- the encoding of the row isn't too long
abbrev pub check_length : List Value → Option Refusal
check_length row = refused_where (nat_lt longest_row (row_size row)) why.TupleTooLong

-- the relation has an id left to give out
abbrev pub check_ids : Limits → Relation → Option Refusal
check_ids limits relation = refused_where (nat_le limits.ids (relation.next - 1)) why.IdsSpent

-- the index is a quadtree with too many listings
abbrev pub is_overfull : Limits → ℕ × Index → Bool
is_overfull limits (column, Quadtree threshold tree) = nat_lt limits.listings (listings tree)
is_overfull limits (column, Attribute) = false

-- no quadtree of the relation has too many listings
abbrev pub check_listings : Limits → Relation → Option Refusal
check_listings limits relation = refused_where (list_any (is_overfull limits) relation.indexes) why.IndexFull

-- the threshold of a column's index: none where it isn't spatial
abbrev pub threshold_of : Kind → Option ℕ → Option ℕ
threshold_of kind given = cond (is_spatial kind) (Some (or_plain given)) None where
  or_plain : Option ℕ → ℕ
  or_plain None = plain_threshold
  or_plain (Some threshold) = threshold

-- the relation with an index of this column
abbrev pub indexed_by : Measure → Column → Option ℕ → Relation → Relation
indexed_by gap column given relation = at_place (column_named relation.schema column.column) (kind_named relation column.column) where
  at_place : Option ℕ → Option Kind → Relation
  at_place (Some at) (Some kind) = with_index gap at (threshold_of kind given) relation
  at_place _ _ = relation

-- the relation with an R-tree of this column
abbrev pub treed_by : Column → Relation → Relation
treed_by column relation = at_place (column_named relation.schema column.column) where
  at_place : Option ℕ → Relation
  at_place (Some at) = with_rectangles at relation
  at_place None = relation

-- the relation with rows more, in order, and the first refusal of one of them
abbrev pub entered : Setting → List (List Value) → Relation → Option Refusal × Relation
entered setting [] relation = (None, relation)
entered setting (row ∷ rows) relation =
    let grown = with_row setting.gap row relation in
    or_refused (first_refusal (check_length row ∷ check_ids setting.limits relation ∷ check_listings setting.limits grown ∷ []))
    (entered setting rows grown) where
      or_refused : Option Refusal → Option Refusal × Relation → Option Refusal × Relation
      or_refused (Some refusal) goes_on = (Some refusal, relation)
      or_refused None goes_on = goes_on

-- the bytes of the file, which must be there
abbrev pub in_file : Setting → List ℕ → (List ℕ → Option Refusal) → Option Refusal
in_file setting file check = of_bytes (setting.files file) where
  of_bytes : Option (List ℕ) → Option Refusal
  of_bytes None = Some why.File
  of_bytes (Some bytes) = check bytes

-- the rows of the file for a relation, where all its records are rows
abbrev pub file_rows : Setting → List ℕ → Bool → Relation → List (List Value)
file_rows setting file header relation = of_bytes (setting.files file) where
  of_records : FileRows → List (List Value)
  of_records (AreRows rows) = rows
  of_records (HasBad row column) = []

  of_bytes : Option (List ℕ) → List (List Value)
  of_bytes None = []
  of_bytes (Some bytes) = of_records (setting.rows_of bytes relation.schema header)

-- every record of the file is a row of the relation
abbrev pub check_records : Setting → List ℕ → Bool → Relation → Option Refusal
check_records setting file header relation = in_file setting file (λ bytes. of_records (setting.rows_of bytes relation.schema header)) where
  of_records : FileRows → Option Refusal
  of_records (AreRows rows) = None
  of_records (HasBad row column) = Some (why.BadRecord row column)

-- the checks of a load before its file is chosen
abbrev pub check_load : State → List ℕ → Option Refusal
check_load state name = check_relation state.database name

-- the plan has no more operators than a plan may have
abbrev pub check_depth : Plan → Option Refusal
check_depth p = refused_where (nat_lt most_operators (depth p)) why.PlanTooDeep

-- the checks of a statement before any page is touched
abbrev pub early : Setting → State → Statement → Option Refusal
early setting state (Create name columns) =
    first_refusal (refused_where (is_there (relation_named state.database name) || has_twice (map (λ column. column.0) columns)) why.NameTaken
    ∷ refused_where (nat_le most_relations (length state.database)) why.TooManyRelations ∷ [])
early setting state (Insert name row) =
    first_refusal (in_relation state.database name (λ relation. refused_where (not (is_row_of relation.schema row)) why.WrongKind)
    ∷ check_length row ∷ in_relation state.database name (check_ids setting.limits) ∷ [])
early setting state (Delete name id) = check_relation state.database name
early setting state (Load name file header) =
    first_refusal (check_load state name ∷ in_file setting file (λ bytes. refused_where (nat_lt longest_file (length bytes)) why.FileTooLong)
    ∷ in_relation state.database name (check_records setting file header) ∷ [])
early setting state (IndexOn column threshold) =
    first_refusal (in_column state.database column (λ relation kind. refused_where (is_there threshold && not (is_spatial kind)) why.WrongKind)
    ∷ in_column state.database column (λ relation kind. refused_where (is_indexed relation column.column) why.IndexThere) ∷ [])
early setting state (Rtree column) =
    in_column state.database column (λ relation kind. first_refusal (refused_where (not (is_spatial kind)) why.WrongKind
    ∷ refused_where (has_rectangles relation column.column) why.IndexThere ∷ []))
early setting state (OpenCursor name p) =
    first_refusal (refused_where (is_there (cursor_named state name)) why.CursorNameTaken ∷ check_operators state.database p
    ∷ refused_where (nat_le most_cursors (length state.cursors)) why.TooManyCursors ∷ check_depth p ∷ [])
early setting state (Next name count) = check_cursor state name
early setting state (CloseCursor name) = check_cursor state name
early setting state (Show count p) = first_refusal (check_operators state.database p ∷ check_depth p ∷ [])
early setting state (Stats name) = check_cursor state name
early setting state (Far count column goal) = check_column state.database column is_spatial
early setting state (Blocks column) =
    in_column state.database column (λ relation kind. first_refusal (refused_where (not (is_spatial kind)) why.WrongKind
    ∷ refused_where (not (is_indexed relation column.column)) why.NoIndex ∷ []))

-- the checks that come with the change
abbrev pub late : Setting → State → Statement → Option Refusal
late setting state (Insert name row) =
    in_relation state.database name (λ relation. check_listings setting.limits (with_row setting.gap row relation))
late setting state (Delete name id) =
    in_relation state.database name (λ relation. refused_where (not (is_there (row_at relation id))) why.NoSuchId)
late setting state (Load name file header) =
    in_relation state.database name (λ relation. (entered setting (file_rows setting file header relation) relation).0)
late setting state (IndexOn column threshold) =
    in_relation state.database column.relation (λ relation. check_listings setting.limits (indexed_by setting.gap column threshold relation))
late setting state _ = None
