-- Where a run over a shelf, or a part of it, is a run of the model, so that all laws of runs hold of it.
use Rattle.std.specs.Prelude.{◌≡◌, false, List, ◌++◌, Option, Some}
use Rattle.std.specs.List.{list_any}
use Rattle.sand_base.specs.Shelf.{Files}
use Rattle.sand_model.specs.Cursor.{State, OutputLine}
use Rattle.sand_model.specs.Outcome.{Rises}
use Rattle.sand_model.specs.Run.{FitIn, Run}
use Rattle.sand_model.specs.ScriptLine.{ScriptLine}
use Rattle.sand_model.specs.StatementChecks.{Setting}
use Rattle.line_meaning.specs.ShelfRun.{ShelfRun, is_load}

-- where the shelf tells its files, and the setting has them
abbrev pub ToldShelvesGiveRuns : Type 0
ToldShelvesGiveRuns =
    (files : Files) (setting : Setting) (old new : State) (script : List ScriptLine) (rises : Rises) (printed : List OutputLine)
    → setting.files ≡ files → ShelfRun (Some files) setting old script rises printed new → Run setting old script rises printed new

-- where no line of the script loads a file, whatever the shelf tells and whatever files the setting has
abbrev pub ScriptsWithoutLoadsGiveRuns : Type 0
ScriptsWithoutLoadsGiveRuns =
    (files : Option Files) (setting : Setting) (old new : State) (script : List ScriptLine) (rises : Rises) (printed : List OutputLine)
    → list_any is_load script ≡ false → ShelfRun files setting old script rises printed new → Run setting old script rises printed new

-- lines and those behind them were carried out one after the other, with rises of at most these, and printed these lines
pub record RunsInTwo (files : Option Files) (setting : Setting) (old : State) (before behind : List ScriptLine) (rises : Rises) (printed : List OutputLine) (new : State) : Type 0 where
  pub own : Rises
  pub others : Rises
  pub fit : FitIn own others rises
  pub first : List OutputLine
  pub more : List OutputLine
  pub printed_is : printed ≡ first ++ more
  pub mid : State
  pub runs : ShelfRun files setting old before own first mid
  pub goes : ShelfRun files setting mid behind others more new

-- so the lines before the first load of a script are a run of the model, and so are those behind its last
abbrev pub ShelfRunsSplit : Type 0
ShelfRunsSplit =
    (files : Option Files) (setting : Setting) (old new : State) (before behind : List ScriptLine) (rises : Rises) (printed : List OutputLine)
    → ShelfRun files setting old (before ++ behind) rises printed new → RunsInTwo files setting old before behind rises printed new
