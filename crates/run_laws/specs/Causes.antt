-- The causes of the refusals that a run prints: those that come from outside are counted there.
use Rattle.std.specs.Prelude.{◌≡◌, ◌≤◌, Bool, true, false, List}
use Rattle.std.specs.List.{list_any}
use Rattle.sand_base.specs.declared.refusal.Refusal.TheVariants as why
use Rattle.sand_model.specs.Cursor.{State, OutputLine, Refused}
use Rattle.sand_model.specs.Outcome.{Rises}
use Rattle.sand_model.specs.Run.{Run}
use Rattle.sand_model.specs.ScriptLine.{ScriptLine}
use Rattle.sand_model.specs.StatementChecks.{Setting}
use Rattle.statement_exec.specs.Causes.{device_lines, file_lines}

-- the line says that a page differs from the one that was written
abbrev pub is_of_damage : OutputLine → Bool
is_of_damage (Refused (why.Damaged page kept read)) = true
is_of_damage _ = false

-- No more lines say that the disk failed than its count of faults rose, and so of the files; and where the disk tells its pages, no line says that one was damaged.
pub record HaveCauses (tells : Bool) (rises : Rises) (lines : List OutputLine) : Type 0 where
  pub device : device_lines lines ≤ rises.disk
  pub file : file_lines lines ≤ rises.shelf
  pub damage : tells ≡ true → list_any is_of_damage lines ≡ false

-- the lines that a run prints have their causes
abbrev pub RefusalsHaveCauses : Type 0
RefusalsHaveCauses =
    (setting : Setting) (old new : State) (script : List ScriptLine) (rises : Rises) (printed : List OutputLine)
    → Run setting old script rises printed new → HaveCauses setting.tells rises printed
