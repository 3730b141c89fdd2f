-- What reading one line says of it.
use Rattle.std.specs.Prelude.{◌≡◌, ◌⊎◌, ℕ, List, Option, Some, None}
use Rattle.sand_base.specs.declared.refusal.Refusal.{Refusal}
use Rattle.sand_base.specs.declared.refusal.Refusal.TheVariants as why
use Rattle.sand_model.specs.ScriptLine as script_line
use Rattle.sand_model.specs.ScriptLine.{ScriptLine, Blank, BadToken, OutOfRange}
use Rattle.script_text.specs.InRange.{IsInRange}
use Rattle.statements.specs.Statement.{statement_value}
use Rattle.statements.specs.declared.statement.Statement.{Statement}
use Rattle.line_meaning.specs.Spoken.{IsLine}

-- the line says this statement, which is in range, or it is passed over
abbrev pub Says : List ℕ → Option Statement → Type 0
Says line None = (told : ScriptLine) → IsLine (Some line) told → told ≡ Blank
Says line (Some statement) = IsInRange (statement_value statement) × ((told : ScriptLine) → IsLine (Some line) told → told ≡ script_line.Says (statement_value statement))

-- a line is refused so by what it says: a bad token, or something out of range
abbrev pub IsRefusedSo : ScriptLine → Refusal → Type 0
IsRefusedSo (BadToken column) refusal = refusal ≡ why.Syntax column
IsRefusedSo OutOfRange refusal = refusal ≡ why.Range
IsRefusedSo _ refusal = ⊥

-- the line is refused by what it says, or memory was
abbrev pub RefusesLine : List ℕ → Refusal → Type 0
RefusesLine line refusal = (refusal ≡ why.Memory) ⊎ ((told : ScriptLine) → IsLine (Some line) told → IsRefusedSo told refusal)
