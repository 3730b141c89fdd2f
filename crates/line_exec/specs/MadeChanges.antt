-- Which changes a line makes, by what it says and by what it printed: its statement's own one where that was accepted, and else none.
use Rattle.std.specs.Prelude.{◌≡◌, ℕ, false, List, [], ◌∷◌, Some}
use Rattle.std.specs.List.{list_any}
use Rattle.journal_replay.specs.EncodedRows.{AreEncodingsOf}
use Rattle.open_cursors.specs.Carried.{ChangesRelations}
use Rattle.sand_base.specs.declared.value.Value.{Value}
use Rattle.sand_journal.specs.ChangeBody.{ChangeValue, Line, Rows}
use Rattle.sand_model.specs.Cursor.{OutputLine}
use Rattle.sand_model.specs.Database.{Database, Relation, relation_named}
use Rattle.sand_model.specs.OutputText.{is_refused}
use Rattle.sand_model.specs.ScriptLine.{ScriptLine, Says}
use Rattle.statements.specs.Statement.{Statement, Create, Insert, Delete, Load, Index, Rtree}

-- The change adds these rows to a relation of the database, each as it is encoded by the relation's schema.
pub record AddsRows (d : Database) (name : List ℕ) (rows : List (List Value)) (change : ChangeValue) : Type 0 where
  pub relation : Relation
  pub named : relation_named d name ≡ Some relation
  pub encodings : List (List ℕ)
  pub encoded : AreEncodingsOf relation.schema rows encodings
  pub is : change ≡ Rows name encodings

-- The change is the statement's own: a create, delete, index or rtree itself, the row of an insert, or rows for the relation of a load.
abbrev pub IsChangeBy : Database → Statement → ChangeValue → Type 0
IsChangeBy d (Create relation columns) change = change ≡ Line (Create relation columns)
IsChangeBy d (Insert relation values) change = AddsRows d relation (values ∷ []) change
IsChangeBy d (Delete relation id) change = change ≡ Line (Delete relation id)
IsChangeBy d (Load relation file header) change = (rows : List (List Value)) × AddsRows d relation rows change
IsChangeBy d (Index column threshold) change = change ≡ Line (Index column threshold)
IsChangeBy d (Rtree column) change = change ≡ Line (Rtree column)
IsChangeBy d _ change = ⊥

-- the statement changes relations, and none of the lines that it printed is a refusal
abbrev pub IsAccepted : Statement → List OutputLine → Type 0
IsAccepted statement printed = ChangesRelations statement × (list_any is_refused printed ≡ false)

-- the changes of a statement that printed these lines: its own one where it was accepted, and else none
abbrev pub AreChangesBy : Database → Statement → List OutputLine → List ChangeValue → Type 0
AreChangesBy d statement printed [] = IsAccepted statement printed → ⊥
AreChangesBy d statement printed (change ∷ []) = IsAccepted statement printed × IsChangeBy d statement change
AreChangesBy d statement printed _ = ⊥

-- the changes of a line that printed these: those of its statement, and none where it says no statement
abbrev pub AreChangesOf : Database → ScriptLine → List OutputLine → List ChangeValue → Type 0
AreChangesOf d (Says statement) printed changes = AreChangesBy d statement printed changes
AreChangesOf d _ printed changes = changes ≡ []
