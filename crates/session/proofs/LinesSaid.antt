-- Each line of a script says something, so that lines which were carried out are a run over what they say.
use Rattle.std.proofs.Common.{ℕ, List, Option}
use Rattle.run_laws.proofs.ScriptReadings.{script_told}
use Rattle.sand_journal.specs.ChangeBody.{ChangeValue}
use Rattle.sand_model.specs.Cursor.{OutputLine}
use Rattle.line_meaning.specs.Carrying.{CarriesLines}
use Rattle.statement_exec.specs.Moment.{Moment}
use Rattle.session.specs.Ends.{RunsOver}
use Rattle.session.specs.KeptLines.{RunsKept}
use Rattle.session.specs.RunStates.{CarriesAll}

runs_over : (first last : Moment) (lines : List (List ℕ)) (printed : List OutputLine) → CarriesLines lines first last printed → RunsOver first last lines printed
runs_over first last lines printed carries =
    let said = script_told lines in
    let carried = carries.1 said.0 said.1 in (
      said.0,
      said.1,
      carries.0,
      carried.0,
      carried.1,
    )

-- and so are those whose changes are named
pub runs_kept : (kept : Option (List ChangeValue)) (first last : Moment) (lines : List (List ℕ)) (printed : List OutputLine) → CarriesAll kept first last lines printed → RunsKept kept first last lines printed
runs_kept kept first last lines printed carries = (runs_over first last lines printed carries.0, carries.1)
