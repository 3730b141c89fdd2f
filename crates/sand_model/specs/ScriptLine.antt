-- What a line of a script says.
use Rattle.std.specs.Prelude.{ℕ}
use Rattle.statements.specs.Statement.{Statement}

-- a line: one that is passed over, one that is too long, one with a bad token at a column, one with a number out of range, or a statement
pub data ScriptLine : Type 0 where
  Blank : ScriptLine
  TooLong : ScriptLine
  BadToken : ℕ → ScriptLine
  OutOfRange : ScriptLine
  Says : Statement → ScriptLine
