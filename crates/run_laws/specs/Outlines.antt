-- What the checks read that come before any page is touched.
use Rattle.std.specs.Prelude.{◌≡◌}
use Rattle.sand_model.specs.Cursor.{State}
use Rattle.statements.specs.Statement.{Statement}
use Rattle.sand_model.specs.StatementChecks.{Setting, early}
use Rattle.statement_exec.specs.Outline.{outline_of, bare}

-- they give the same in a state as in the bare state of its outline
abbrev pub EarlyChecksReadTheOutline : Type 0
EarlyChecksReadTheOutline = (setting : Setting) (state : State) (statement : Statement) → early setting (bare (outline_of state)) statement ≡ early setting state statement
