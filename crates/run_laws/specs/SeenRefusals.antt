-- The refused lines of a run, seen in its text.
use Rattle.std.specs.Prelude.{◌≡◌, ℕ, ◌==◌, Bool, List, codes}
use Rattle.std.specs.List.{count_by, starts_with}
use Rattle.sand_model.specs.Cursor.{OutputLine}
use Rattle.sand_model.specs.OutputText.{IsText, is_refused}
use Rattle.sand_model.specs.ScriptLine.{ScriptLine}
use Rattle.script_lines.specs.Lines.{ended_lines}
use Rattle.line_meaning.specs.Said.{AreAnswered}
use Rattle.statement_exec.specs.Moment.{Moment}

-- the line begins with the word of a refusal
abbrev pub says_refused : List ℕ → Bool
says_refused line = starts_with ◌==◌ line (codes "refused")

-- whatever a script says, and over any disk: as many lines of the text that it prints begin with `refused` as were refused
abbrev pub RefusedLinesAreSeen : Type 0
RefusedLinesAreSeen =
    (script : List ScriptLine) (old new : Moment) (printed : List OutputLine) → AreAnswered script old new printed
    → (text : List ℕ) → IsText printed text → count_by says_refused (ended_lines text) ≡ count_by is_refused printed
