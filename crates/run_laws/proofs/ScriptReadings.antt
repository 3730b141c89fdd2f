-- The lines of every script say something: each is too long, or has a reading.
use Rattle.std.proofs.Common.{◌≢◌, ℕ, List, [], ◌∷◌, Option, Some, None, Result, Ok, Err, refl}
use Rattle.run_laws.proofs.Readings.{reading_of}
use Rattle.sand_model.specs.ScriptLine.{ScriptLine, Blank, TooLong, BadToken, OutOfRange, Says}
use Rattle.script_lines.specs.Lines.{chopped, clipped}
use Rattle.line_meaning.specs.Spoken.{Tells, IsLine, AreLines}
use Rattle.statements.specs.Statement.{Statement}
use Rattle.script_text.specs.declared.parse.LineFault.{LineFault}
use Rattle.script_text.specs.declared.parse.LineFault.TheVariants.{Memory, Syntax, Range}

-- every answer but want of memory tells what the line says
told_by : (answer : Result (Option Statement) LineFault) → answer ≢ Err Memory → (told : ScriptLine) × Tells answer told
told_by (Ok None) some = (Blank, refl)
told_by (Ok (Some statement)) some = (Says statement, refl)
told_by (Err (Syntax column)) some = (BadToken column, refl)
told_by (Err Range) some = (OutOfRange, refl)
told_by (Err Memory) some = absurd (some refl)

-- a line says something, or it is too long
line_told : (line : Option (List ℕ)) → (told : ScriptLine) × IsLine line told
line_told None = (TooLong, refl)
line_told (Some line) =
    let read = reading_of (chopped line) in
    let told = told_by read.0 read.1 in
    (told.0, (read.0, read.2, told.1))

-- each line of a script
pub script_told : (lines : List (List ℕ)) → (script : List ScriptLine) × AreLines lines script
script_told [] = ([], tt)
script_told (line ∷ lines) =
    let told = line_told (clipped line) in
    let rest = script_told lines in
    (told.0 ∷ rest.0, (told.1, rest.1))
