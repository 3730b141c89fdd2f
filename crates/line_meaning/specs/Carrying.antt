-- Lines that were carried out one after the other, from one moment to another, over any shelf.
use Rattle.std.specs.Prelude.{◌≡◌, ◌⊎◌, ℕ, ◌<◌, ◌≤◌, IsTrue, List, Option}
use Rattle.sand_base.specs.Faults.{last_count}
use Rattle.sand_base.specs.declared.refusal.Refusal.TheVariants as why
use Rattle.plan_iterator.specs.Rows.{plan_measure}
use Rattle.sand_model.specs.Cursor.{OutputLine}
use Rattle.sand_model.specs.Outcome.{IsRefusedBy}
use Rattle.sand_model.specs.Run.{LineOutcome}
use Rattle.sand_model.specs.ScriptLine.{ScriptLine}
use Rattle.sand_model.specs.StatementChecks.{Setting}
use Rattle.statement_exec.specs.Causes.{AreCaused}
use Rattle.statement_exec.specs.Moment.{Moment, rises_between, IsSettingOf}
use Rattle.line_meaning.specs.Said.{IsAnswered, AreAnswered}
use Rattle.line_meaning.specs.ShelfRun.{FindsFiles, ShelfRun}
use Rattle.line_meaning.specs.Spoken.{IsLine, AreLines}

-- What no statement changes: the limits, whether the disk tells, and the files. No count falls that isn't at its end.
pub record FollowsMoment (old new : Moment) : Type 0 where
  pub limits : new.limits ≡ old.limits
  pub told : new.told ≡ old.told
  pub files : new.files ≡ old.files
  pub disk : new.disk < last_count → old.disk ≤ new.disk
  pub shelf : new.shelf < last_count → old.shelf ≤ new.shelf

-- where the disk tells its pages and no count is at its end, in every setting of a moment in which gaps are in lowest terms
abbrev pub InEach : Moment → Moment → (Setting → Type 0) → Type 0
InEach old new P = IsTrue old.told → new.disk < last_count → new.shelf < last_count → (setting : Setting) → setting.gap ≡ plan_measure → IsSettingOf old setting → P setting

-- A line led from one moment to another and gave these lines of output, which have their causes, whatever it says: by what it says over any
-- disk, and as the model has it in the setting that the line finds, or refused as out of memory.
abbrev pub CarriesLine : Option (List ℕ) → Moment → Moment → List OutputLine → Type 0
CarriesLine line old new printed =
    AreCaused old new printed × ((told : ScriptLine) → IsLine line told → IsAnswered told old new printed × InEach old new (λ setting. (own : Setting) × FindsFiles old.files setting told own
    × (LineOutcome own (rises_between old new) old.state told printed new.state ⊎ IsRefusedBy why.Memory old.state printed new.state)))

-- lines led from one moment to another and gave these lines of output, which have their causes, whatever they say: by what each says over any disk, and as a run over the shelf does
abbrev pub CarriesLines : List (List ℕ) → Moment → Moment → List OutputLine → Type 0
CarriesLines lines old new printed =
    AreCaused old new printed × ((script : List ScriptLine) → AreLines lines script
    → AreAnswered script old new printed × InEach old new (λ setting. ShelfRun old.files setting old.state script (rises_between old new) printed new.state))
