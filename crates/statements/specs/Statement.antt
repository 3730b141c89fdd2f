-- Statements with their plans as trees: what contracts see of a statement.
use Rattle.std.specs.Prelude.{ℕ, Bool, List, Option}
use Rattle.sand_base.specs.declared.kind.Kind.{Kind}
use Rattle.sand_base.specs.declared.point.Point.{Point}
use Rattle.sand_base.specs.declared.value.Value.{Value}
use Rattle.statements.specs.declared.column.Column.{Column}
use Rattle.statements.specs.declared.statement.Statement as declared
use Rattle.statements.specs.declared.statement.Statement.TheVariants as statement
use Rattle.statements.specs.Plan.{Plan, plan_value}

-- a statement; relations, cursors and files by their names
pub data Statement : Type 0 where
  Create : List ℕ → List (List ℕ × Kind) → Statement
  Insert : List ℕ → List Value → Statement
  Delete : List ℕ → ℕ → Statement
  Load : List ℕ → List ℕ → Bool → Statement
  Index : Column → Option ℕ → Statement
  Rtree : Column → Statement
  OpenCursor : List ℕ → Plan → Statement
  Next : List ℕ → ℕ → Statement
  CloseCursor : List ℕ → Statement
  Show : ℕ → Plan → Statement
  Stats : List ℕ → Statement
  Far : ℕ → Column → Point → Statement
  Blocks : Column → Statement

-- a statement with the tree of its plan
abbrev pub statement_value : declared.Statement → Statement
statement_value (statement.Create relation columns) = Create relation columns
statement_value (statement.Insert relation values) = Insert relation values
statement_value (statement.Delete relation id) = Delete relation id
statement_value (statement.Load relation file header) = Load relation file header
statement_value (statement.Index column threshold) = Index column threshold
statement_value (statement.Rtree column) = Rtree column
statement_value (statement.OpenCursor cursor plan) = OpenCursor cursor (plan_value plan)
statement_value (statement.Next cursor count) = Next cursor count
statement_value (statement.CloseCursor cursor) = CloseCursor cursor
statement_value (statement.Show count plan) = Show count (plan_value plan)
statement_value (statement.Stats cursor) = Stats cursor
statement_value (statement.Far count column goal) = Far count column goal
statement_value (statement.Blocks column) = Blocks column
