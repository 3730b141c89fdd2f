-- How a run of a workload may end, in place of a script, and the whole promise by what the words ask for.
use Rattle.std.specs.Prelude.{◌≡◌, ℕ, ◌<◌, IsTrue, min, Bool, true, false, List, length, Option, Some, None, option_map, codes}
use Rattle.std.specs.List.{count_by}
use Rattle.output_text.specs.Writing.{Writes, WritesPrefix}
use Rattle.work_gen.specs.RefusedLines.{refused_lines}
use Rattle.work_gen.specs.Summary.{summary}
use Rattle.run_words.specs.Asked.{number, option_value}
use Rattle.sand_base.specs.Faults.{last_count}
use Rattle.sand_base.specs.declared.limits.Limits.{Limits}
use Rattle.sand_model.specs.Cursor.{State}
use Rattle.sand_model.specs.OutputText.{is_refused}
use Rattle.statement_exec.specs.Moment.{Moment}
use Rattle.statement_exec.specs.Printing.{Prints}
use Rattle.work_gen.specs.Workload.{workload}
use Rattle.work_gen.specs.EmptyFiles.{empty_files}
use Rattle.session.specs.Outside.{SinkView, Outside}
use Rattle.session.specs.Ends.{RunsOver, Ends, first_moment, last_moment}
use Rattle.session.specs.declared.status.Status.{Status}
use Rattle.session.specs.declared.status.Status.TheVariants as status

-- These four lines tell of a run over the lines of the workload from one moment to another; the mark says whether a line was refused. Over any disk they tell how many lines were refused.
pub record IsSummary (n : ℕ) (some_refused : Bool) (first last : Moment) (told : List ℕ) : Type 0 where
  pub text : List ℕ
  pub printed : Prints (RunsOver first last (workload n)) some_refused text
  pub told_of : told ≡ summary (length (workload n)) (refused_lines text) text
  pub counted : refused_lines text ≡ min (count_by is_refused printed.lines) last_count

-- What a run of a workload leaves of the sink, by its status: with `Done` and `SomeRefused` the summary was written, and with
-- `WriteFault` a prefix of it.
abbrev pub SumsUp : ℕ → Status → Moment → Moment → SinkView → SinkView → Type 0
SumsUp n status.Done first last before now = Writes (IsSummary n false first last) before.took now.took
SumsUp n status.SomeRefused first last before now = Writes (IsSummary n true first last) before.took now.took
SumsUp n status.WriteFault first last before now = (some_refused : Bool) × WritesPrefix (IsSummary n some_refused first last) before.took now.took
SumsUp n _ first last before now = ⊥

-- the same, but that each data file is empty: a workload loads none
abbrev pub over_empty_files : Outside → Outside
over_empty_files at = record at { shelf = record { files = Some empty_files; faults = 0 } }

-- the whole promise of a run of the workload of n, which neither reads the script nor opens a file of the shelf
abbrev pub EndsWorkload : ℕ → Status → Limits → Outside → Outside → Type 0
EndsWorkload n status.Usage limits old new = Ends status.Usage limits old new
EndsWorkload n status.NoMemory limits old new = Ends status.NoMemory limits old new
EndsWorkload n status.DiskNotStarted limits old new = Ends status.DiskNotStarted limits old new
EndsWorkload n ended limits old new =
    (new.source ≡ old.source) × (new.shelf ≡ old.shelf)
    × (last : State) × SumsUp n ended (first_moment limits (over_empty_files old) (over_empty_files new))
    (last_moment limits (over_empty_files old) (over_empty_files new) last) old.sink new.sink

-- the workload that the words ask for in place of the script
abbrev pub workload_of : List (List ℕ) → Option ℕ
workload_of words = option_map number (option_value (codes "workload") words)

-- the whole promise, by whether a workload is asked for
abbrev pub EndsAsked : Option ℕ → Status → Limits → Outside → Outside → Type 0
EndsAsked None = Ends
EndsAsked (Some n) = EndsWorkload n
