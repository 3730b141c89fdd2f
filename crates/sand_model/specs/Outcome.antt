-- What a statement does: it is refused by the first check that fails, or by the outside in its place, or carried out.
use Rattle.std.specs.Prelude.{◌≡◌, ◌⊎◌, ℕ, zero, suc, ◌<◌, Bool, true, false, cond, not, List, [], ◌∷◌, ◌++◌, length, map, filter, Option, Some, None, ⊤}
use Rattle.sand_base.specs.declared.refusal.Refusal.{Refusal}
use Rattle.sand_base.specs.declared.refusal.Refusal.TheVariants as why
use Rattle.sand_base.specs.declared.point.Point.{Point}
use Rattle.statements.specs.declared.column.Column.{Column}
use Rattle.sand_model.specs.Answer.{single_row}
use Rattle.sand_model.specs.Measure.{Measure}
use Rattle.sand_model.specs.Operators.{PlanRow}
use Rattle.sand_model.specs.Sources.{column_shapes, far_rows}
use Rattle.sand_model.specs.Checks.{first_refusal}
use Rattle.sand_model.specs.Cursor.{State, Cursor, OutputLine, Accepted, Id, Loaded, Row, End, Stats as StatsOf, LeafOf, Refused, new_cursor, Steps}
use Rattle.sand_model.specs.Database.{Database, Relation, Index, Quadtree, relation_named, same_name, changed_at, with_relation, new_relation, with_row, without_row, column_named, index_at}
use Rattle.statements.specs.Statement.{Statement, Create, Insert, Delete, Load, Index as IndexOn, Rtree, OpenCursor, Next, CloseCursor, Show, Stats, Far, Blocks}
use Rattle.sand_model.specs.StatementChecks.{Setting, early, late, check_load, cursor_named, entered, file_rows, indexed_by, treed_by}
use Rattle.sand_model.specs.Tree.{root_block, leaves}

-- by how much the counts of faults of the disk and of the shelf rise
pub record Rises : Type 0 where
  pub disk : ℕ
  pub shelf : ℕ

-- the statement may touch pages
abbrev pub uses_pages : Statement → Bool
uses_pages (OpenCursor name p) = false
uses_pages (CloseCursor name) = false
uses_pages (Stats name) = false
uses_pages _ = true

-- the file of a load is reached: no check before it fails
abbrev pub ReachesFile : State → Statement → Type 0
ReachesFile state (Load name file header) = check_load state name ≡ None
ReachesFile state _ = ⊥

-- the pages of a statement are reached: no check before them fails
abbrev pub ReachesPages : Setting → State → Statement → Type 0
ReachesPages setting state statement = (uses_pages statement ≡ true) × (early setting state statement ≡ None)

-- The outside may refuse: memory at any point; the disk where its count rose; a page that differs from what was written, only over a disk that doesn't tell; the shelf where its count rose.
abbrev pub IsLicensed : Setting → Rises → State → Statement → Refusal → Type 0
IsLicensed setting rises state statement why.Memory = ⊤
IsLicensed setting rises state statement why.Device = ReachesPages setting state statement × (0 < rises.disk)
IsLicensed setting rises state statement (why.Damaged page kept read) =
    ReachesPages setting state statement × (setting.tells ≡ false) × ¬ (kept ≡ read)
IsLicensed setting rises state statement why.File = ReachesFile state statement × (0 < rises.shelf)
IsLicensed setting rises state statement _ = ⊥

-- a check refuses; the shelf doesn't have the file only where it counted a fault
abbrev pub IsRefusalCaused : Rises → Refusal → Type 0
IsRefusalCaused rises why.File = 0 < rises.shelf
IsRefusalCaused rises _ = ⊤

-- one line says why, and the state is as it was
abbrev pub IsRefusedBy : Refusal → State → List OutputLine → State → Type 0
IsRefusedBy refusal old lines new = (lines ≡ Refused refusal ∷ []) × (new ≡ old)

-- one line is printed, and this is the database afterwards
abbrev pub Changes : OutputLine → Database → State → List OutputLine → State → Type 0
Changes line database old lines new = (lines ≡ line ∷ []) × (new ≡ record old { database = database })

-- one line is printed, and these are the open cursors afterwards
abbrev pub LeavesCursors : OutputLine → List Cursor → State → List OutputLine → State → Type 0
LeavesCursors line cursors old lines new = (lines ≡ line ∷ []) × (new ≡ record old { cursors = cursors })

-- of the relation of this name, which is there
abbrev pub OfRelation : State → List ℕ → (Relation → Type 0) → Type 0
OfRelation state name P = (relation : Relation) × (relation_named state.database name ≡ Some relation) × P relation

-- of the open cursor of this name, which is there
abbrev pub OfCursor : State → List ℕ → (Cursor → Type 0) → Type 0
OfCursor state name P = (cursor : Cursor) × (cursor_named state name ≡ Some cursor) × P cursor

-- the cursors with the one of this name replaced
abbrev pub replaced : List ℕ → Cursor → List Cursor → List Cursor
replaced name new cursors = map (λ cursor. cond (same_name cursor.name name) new cursor) cursors

-- the cursors without the one of this name
abbrev pub closed : List ℕ → List Cursor → List Cursor
closed name cursors = filter (λ cursor. not (same_name cursor.name name)) cursors

-- the leaves of a column's quadtree
abbrev pub leaf_lines : Relation → List ℕ → List OutputLine
leaf_lines relation column = at_place (column_named relation.schema column) where
  of_index : Option Index → List OutputLine
  of_index (Some (Quadtree threshold tree)) = map (λ leaf. LeafOf leaf.0 leaf.1) (leaves root_block tree)
  of_index _ = []

  at_place : Option ℕ → List OutputLine
  at_place None = []
  at_place (Some at) = of_index (index_at relation at)

-- all these lines are printed, or the first of them and then a refusal that `may` allows
abbrev pub PrintsFirst : (Refusal → Type 0) → List OutputLine → List OutputLine → Type 0
PrintsFirst may all lines =
    (lines ≡ all) ⊎ ((printed rest : List OutputLine) × (refusal : Refusal) × may refusal × (all ≡ printed ++ rest) × (lines ≡ printed ++ Refused refusal ∷ []))

-- the lines of the first rows of a list, and `end` where it has fewer
abbrev pub first_lines : ℕ → List PlanRow → List OutputLine
first_lines zero rows = []
first_lines (suc count) [] = End ∷ []
first_lines (suc count) (row ∷ rows) = Row row ∷ first_lines count rows

-- the lines of the first rows of a column farthest from a point
abbrev pub far_lines : Measure → Database → ℕ → Column → Point → List OutputLine
far_lines gap database count column goal = first_lines count (map single_row (far_rows gap goal (column_shapes database column)))

-- what a statement does that no check refuses
abbrev pub IsCarriedOut : Setting → Rises → State → Statement → List OutputLine → State → Type 0
IsCarriedOut setting rises old (Create name columns) lines new =
    Changes Accepted (with_relation (new_relation name columns) old.database) old lines new
IsCarriedOut setting rises old (Insert name row) lines new =
    OfRelation old name (λ relation. Changes (Id relation.next) (changed_at name (with_row setting.gap row) old.database) old lines new)
IsCarriedOut setting rises old (Delete name id) lines new =
    Changes Accepted (changed_at name (without_row id) old.database) old lines new
IsCarriedOut setting rises old (Load name file header) lines new =
    OfRelation old name (λ relation. let rows = file_rows setting file header relation in
    Changes (Loaded (length rows)) (changed_at name (λ r. (entered setting rows r).1) old.database) old lines new)
IsCarriedOut setting rises old (IndexOn column threshold) lines new =
    Changes Accepted (changed_at column.relation (indexed_by setting.gap column threshold) old.database) old lines new
IsCarriedOut setting rises old (Rtree column) lines new =
    Changes Accepted (changed_at column.relation (treed_by column) old.database) old lines new
IsCarriedOut setting rises old (OpenCursor name p) lines new =
    LeavesCursors Accepted (old.cursors ++ new_cursor name p old.database ∷ []) old lines new
IsCarriedOut setting rises old (Next name count) lines new =
    OfCursor old name (λ cursor. (after : Cursor) × Steps setting.gap (IsLicensed setting rises old (Next name count)) count cursor lines after
    × (new ≡ record old { cursors = replaced name after old.cursors }))
IsCarriedOut setting rises old (CloseCursor name) lines new = LeavesCursors Accepted (closed name old.cursors) old lines new
IsCarriedOut setting rises old (Show count p) lines new =
    (after : Cursor) × Steps setting.gap (IsLicensed setting rises old (Show count p)) count (new_cursor [] p old.database) lines after × (new ≡ old)
IsCarriedOut setting rises old (Stats name) lines new =
    OfCursor old name (λ cursor. LeavesCursors (StatsOf cursor.counts cursor.given) old.cursors old lines new)
IsCarriedOut setting rises old (Far count column goal) lines new =
    PrintsFirst (IsLicensed setting rises old (Far count column goal)) (far_lines setting.gap old.database count column goal) lines × (new ≡ old)
IsCarriedOut setting rises old (Blocks column) lines new =
    OfRelation old column.relation (λ relation. PrintsFirst (IsLicensed setting rises old (Blocks column)) (leaf_lines relation column.column) lines × (new ≡ old))

-- the outcome of a statement: its checks in order, the first that fails refuses
abbrev pub Outcome : Setting → Rises → State → Statement → List OutputLine → State → Type 0
Outcome setting rises old statement lines new =
    ((refusal : Refusal) × IsLicensed setting rises old statement refusal × IsRefusedBy refusal old lines new)
    ⊎ by_checks (first_refusal (early setting old statement ∷ late setting old statement ∷ [])) where
      by_checks : Option Refusal → Type 0
      by_checks (Some refusal) = IsRefusalCaused rises refusal × IsRefusedBy refusal old lines new
      by_checks None = IsCarriedOut setting rises old statement lines new
