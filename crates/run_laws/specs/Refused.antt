-- What a refused line leaves.
use Rattle.std.specs.Prelude.{◌≡◌, ◌⊎◌, ℕ, Bool, true, false, List, Some, None}
use Rattle.std.specs.List.{list_any}
use Rattle.sand_base.specs.declared.refusal.Refusal.TheVariants as why
use Rattle.sand_model.specs.Cursor.{State, Cursor, OutputLine}
use Rattle.sand_model.specs.Database.{same_name}
use Rattle.sand_model.specs.Measure.{Measure}
use Rattle.sand_model.specs.Outcome.{Rises, IsRefusedBy}
use Rattle.sand_model.specs.OutputText.{is_refused}
use Rattle.sand_model.specs.Run.{LineOutcome}
use Rattle.sand_model.specs.ScriptLine.{ScriptLine, Says}
use Rattle.statements.specs.Statement.{Next}
use Rattle.sand_model.specs.StatementChecks.{Setting, cursor_named}
use Rattle.run_laws.specs.Following.{rows_among, HasGiven}

-- a line that prints a refusal leaves every relation as it was
abbrev pub RefusedLinesChangeNoRelation : Type 0
RefusedLinesChangeNoRelation =
    (setting : Setting) (rises : Rises) (old new : State) (line : ScriptLine) (lines : List OutputLine)
    → LineOutcome setting rises old line lines new ⊎ IsRefusedBy why.Memory old lines new
    → list_any is_refused lines ≡ true → new.database ≡ old.database

-- the line is a `next`
abbrev pub is_next : ScriptLine → Bool
is_next (Says (Next name count)) = true
is_next line = false

-- a line that prints a refusal, and isn't a `next`, leaves the relations and the cursors as they were
abbrev pub RefusedLinesChangeNothing : Type 0
RefusedLinesChangeNothing =
    (setting : Setting) (rises : Rises) (old new : State) (line : ScriptLine) (lines : List OutputLine)
    → LineOutcome setting rises old line lines new ⊎ IsRefusedBy why.Memory old lines new
    → list_any is_refused lines ≡ true → is_next line ≡ false → new ≡ old

-- The cursor of this name has given just the rows among these lines, and cursors of other names are as they were; where none of this name is open, all is.
pub record MovesByItsRows (gap : Measure) (name : List ℕ) (lines : List OutputLine) (old new : State) : Type 0 where
  pub own : (cursor : Cursor) → cursor_named old name ≡ Some cursor → HasGiven gap name cursor (rows_among lines) false new
  pub others : (other : List ℕ) → same_name name other ≡ false → cursor_named new other ≡ cursor_named old other
  pub none : cursor_named old name ≡ None → new ≡ old

-- a `next` that prints a refusal moves its own cursor alone, by just the rows that it printed before
abbrev pub RefusedNextsMoveByTheirRows : Type 0
RefusedNextsMoveByTheirRows =
    (setting : Setting) (rises : Rises) (old new : State) (name : List ℕ) (count : ℕ) (lines : List OutputLine)
    → LineOutcome setting rises old (Says (Next name count)) lines new ⊎ IsRefusedBy why.Memory old lines new
    → list_any is_refused lines ≡ true → MovesByItsRows setting.gap name lines old new
