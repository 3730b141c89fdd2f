-- What a statement does beside open cursors is what its line does.
use Rattle.std.proofs.Common.{ℕ, List, Some, sym, subst, inl}
use Rattle.sand_model.specs.Cursor.{OutputLine}
use Rattle.sand_model.specs.Run.{LineOutcome}
use Rattle.sand_model.specs.ScriptLine.{ScriptLine}
use Rattle.line_meaning.proofs.LineCalls.{finds_own, said_decided}
use Rattle.line_meaning.specs.Carrying.{CarriesLine}
use Rattle.line_meaning.specs.Reading.{Says}
use Rattle.statements.specs.Statement.{statement_value}
use Rattle.statements.specs.declared.statement.Statement.{Statement}
use Rattle.statement_exec.specs.Moment.{Moment, rises_between}
use Rattle.open_cursors.specs.Outcomes.{PerformsLowest}

pub said_beside : (line : List ℕ) (statement : Statement) (old new : Moment) (lines : List OutputLine) → Says line (Some statement) → PerformsLowest (statement_value statement) old new lines
    → CarriesLine (Some line) old new lines
said_beside line statement old new lines says h = (
  h.0.0,
  λ told is. (
    said_decided line statement told old new lines says is h.0.1,
    λ t disk shelf setting gap s. (
      setting,
      finds_own old.files setting told s.files,
      inl (subst (λ (x : ScriptLine). LineOutcome setting (rises_between old new) old.state x lines new.state) (sym (says.1 told is)) (h.1 t disk shelf setting gap s)),
    ),
  ),
)
