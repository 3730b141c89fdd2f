-- What the lines of a script say.
use Rattle.std.specs.Prelude.{◌≡◌, ⊤, ℕ, List, [], ◌∷◌, Option, Some, None, Result, Ok, Err}
use Rattle.statements.specs.Statement.{Statement}
use Rattle.sand_model.specs.ScriptLine.{ScriptLine, Blank, TooLong, BadToken, OutOfRange, Says}
use Rattle.script_lines.specs.Lines.{chopped, clipped}
use Rattle.script_text.specs.Line.{Reads}
use Rattle.script_text.specs.declared.parse.LineFault.{LineFault}
use Rattle.script_text.specs.declared.parse.LineFault.TheVariants as fault

-- a line is told by what reading it answers; want of memory tells nothing
abbrev pub Tells : Result (Option Statement) LineFault → ScriptLine → Type 0
Tells (Ok None) told = told ≡ Blank
Tells (Ok (Some statement)) told = told ≡ Says statement
Tells (Err (fault.Syntax column)) told = told ≡ BadToken column
Tells (Err fault.Range) told = told ≡ OutOfRange
Tells (Err fault.Memory) told = ⊥

-- what a line says: one that is too long nothing, and any other what it is read as, without a carriage return at its end
abbrev pub IsLine : Option (List ℕ) → ScriptLine → Type 0
IsLine None told = told ≡ TooLong
IsLine (Some line) told = (answer : Result (Option Statement) LineFault) × Reads (chopped line) answer × Tells answer told

-- what the lines of a script say, one after the other
abbrev pub AreLines : List (List ℕ) → List ScriptLine → Type 0
AreLines [] [] = ⊤
AreLines [] (told ∷ script) = ⊥
AreLines (line ∷ lines) [] = ⊥
AreLines (line ∷ lines) (told ∷ script) = IsLine (clipped line) told × AreLines lines script
