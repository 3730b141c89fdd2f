-- What a line does beside open cursors, from one moment to another, and which changes are its own.
use Rattle.std.specs.Prelude.{ℕ, ◌+◌, Bool, List, Option, Some, None, Result}
use Rattle.line_meaning.specs.Carrying.{CarriesLine}
use Rattle.line_meaning.specs.Spoken.{IsLine}
use Rattle.open_cursors.specs.Carried.{GaveAtMost}
use Rattle.open_cursors.specs.OpenCursors.{HaveOwnNames}
use Rattle.sand_base.specs.declared.source.Failed.{Failed}
use Rattle.sand_journal.specs.ChangeBody.{ChangeValue}
use Rattle.sand_model.specs.Cursor.{Cursor, OutputLine}
use Rattle.sand_model.specs.ScriptLine.{ScriptLine}
use Rattle.statement_exec.specs.Moment.{Moment}
use Rattle.statement_exec.specs.Printing.{WritesOf}
use Rattle.line_exec.specs.KeptChanges.{LeadTo}
use Rattle.line_exec.specs.MadeChanges.{AreChangesOf}

-- the most rows that a line asks for
abbrev pub most_rows : ℕ
most_rows = 4294967295

-- A line led from one moment to another and printed these lines, and these are its changes, whatever it says. They lead from the one moment
-- to the other.
pub record MakesChanges (line : Option (List ℕ)) (old new : Moment) (printed : List OutputLine) (changes : List ChangeValue) : Type 0 where
  pub carries : CarriesLine line old new printed
  pub own : (said : ScriptLine) → IsLine line said → AreChangesOf old.state.database said printed changes
  pub lead : LeadTo changes old new.state

-- a line was carried out, and where its changes are named they are its own
abbrev pub CarriesKept : Option (List ℕ) → Option (List ChangeValue) → Moment → Moment → List OutputLine → Type 0
CarriesKept line None old new printed = CarriesLine line old new printed
CarriesKept line (Some changes) old new printed = MakesChanges line old new printed changes

-- A line was carried out so beside these cursors of the model, and its lines of output were written. The cursors behind it have names of their own, they stand, and none gave many rows more.
pub record LineCarried (Carries : Moment → Moment → List OutputLine → Type 0) (old new : List Cursor → Moment) (cs : List Cursor) (before now : List ℕ → Type 0) (result : Result Bool Failed)
    (At : List Cursor → Type 0) : Type 0 where
  pub after : List Cursor
  pub own : HaveOwnNames after
  pub at : At after
  pub given : (bound : ℕ) → GaveAtMost bound cs → GaveAtMost (bound + most_rows) after
  pub writes : WritesOf (Carries (old cs) (new after)) before now result
