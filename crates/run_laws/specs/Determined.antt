-- What a script prints is determined by its lines, the data files and the limits, where nothing outside fails and memory is there.
use Rattle.std.specs.Prelude.{◌≡◌, Bool, true, false, List}
use Rattle.std.specs.List.{list_any}
use Rattle.sand_base.specs.declared.refusal.Refusal.TheVariants as why
use Rattle.sand_model.specs.Cursor.{State, OutputLine, Refused}
use Rattle.sand_model.specs.Outcome.{Rises}
use Rattle.sand_model.specs.Run.{Run}
use Rattle.sand_model.specs.ScriptLine.{ScriptLine}
use Rattle.sand_model.specs.StatementChecks.{Setting}

-- the line says that memory was refused
abbrev pub is_of_memory : OutputLine → Bool
is_of_memory (Refused why.Memory) = true
is_of_memory _ = false

-- A run that nothing outside disturbed, memory included: no fault was counted, and no line says that memory was refused.
pub record IsCalm (rises : Rises) (printed : List OutputLine) : Type 0 where
  pub disk : rises.disk ≡ 0
  pub shelf : rises.shelf ≡ 0
  pub memory : list_any is_of_memory printed ≡ false

-- where the disk tells its pages, two calm runs of a script from one state print the same and leave the same
abbrev pub CalmRunsAreOne : Type 0
CalmRunsAreOne =
    (setting : Setting) (old one other : State) (script : List ScriptLine) (rises others : Rises) (printed again : List OutputLine)
    → setting.tells ≡ true → Run setting old script rises printed one → Run setting old script others again other
    → IsCalm rises printed → IsCalm others again → (printed ≡ again) × (one ≡ other)
