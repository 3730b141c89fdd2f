-- What a line of a script says.
use Rattle.std.specs.Prelude.{◌≡◌, ◌⊎◌, ℕ, Bool, true, false, ◌==◌, List, [], ◌∷◌, cond, Option, Some, None, Result, Ok, Err, ⊤}
use Rattle.statements.specs.declared.statement.Statement as declared
use Rattle.script_text.specs.declared.parse.LineFault.{LineFault}
use Rattle.script_text.specs.declared.parse.LineFault.TheVariants.{Memory, Syntax, Range}
use Rattle.script_text.specs.Grammar.{IsOf, IsFirstBad, room_at}
use Rattle.script_text.specs.InRange.{IsInRange}
use Rattle.script_text.specs.Lexical.{Placed, IsCut, IsLexed, IsFault, IsColumn, is_blank}
use Rattle.script_text.specs.Lexing.{fault_room}
use Rattle.script_text.specs.Rules.{statement_form}
use Rattle.statements.specs.Statement.{Statement, statement_value}

-- a line of spaces and tabs alone, or one whose first other byte is `#`
abbrev pub is_passed_over : List ℕ → Bool
is_passed_over [] = true
is_passed_over (b ∷ bytes) = cond (is_blank b) (is_passed_over bytes) (b == 35)

-- the line's tokens write the statement, and all is in range
pub record IsReadAs (line : List ℕ) (statement : Statement) : Type 0 where
  pub tokens : List Placed
  pub lexed : IsLexed line tokens
  pub written : IsOf statement_form statement true tokens
  pub in_range : IsInRange statement

-- From the left, the first byte at which no token stands begins the rest, and the fault is at the column: that byte, or
-- the first one of a text that is not closed at which no character of a text stands, or one past the line.
pub record HasBadByte (line : List ℕ) (column : ℕ) : Type 0 where
  pub tokens : List Placed
  pub rest : List ℕ
  pub cut : IsCut line tokens rest
  pub fault : IsFault rest
  pub place : IsColumn line (fault_room rest) column

-- the line is lexed, and its first bad token is at the column, which is one past the line where the tokens end too early
pub record HasBadToken (line : List ℕ) (column : ℕ) : Type 0 where
  pub tokens : List Placed
  pub lexed : IsLexed line tokens
  pub bad : List Placed
  pub first : IsFirstBad statement_form tokens bad
  pub place : IsColumn line (room_at bad) column

-- the line is a line of the grammar, and something in it is out of range; the statement then tells nothing
pub record IsOutOfRange (line : List ℕ) : Type 0 where
  pub tokens : List Placed
  pub lexed : IsLexed line tokens
  pub statement : Statement
  pub out : IsOf statement_form statement false tokens

-- What reading a line may answer: nothing for a line that is passed over, the statement that it writes, the column of
-- its first bad byte or else of its first bad token, that something is out of its range, and no memory for each.
abbrev pub Reads : List ℕ → Result (Option Statement) LineFault → Type 0
Reads line (Ok None) = is_passed_over line ≡ true
Reads line (Ok (Some statement)) = IsReadAs line statement
Reads line (Err (Syntax column)) = (is_passed_over line ≡ false) × (HasBadByte line column ⊎ HasBadToken line column)
Reads line (Err Range) = IsOutOfRange line
Reads line (Err Memory) = ⊤

-- an answer with the tree of its statement
abbrev pub answer_value : Result (Option declared.Statement) LineFault → Result (Option Statement) LineFault
answer_value (Ok None) = Ok None
answer_value (Ok (Some statement)) = Ok (Some (statement_value statement))
answer_value (Err fault) = Err fault
