-- Each line says one thing.
use Rattle.std.proofs.Common.{◌≡◌, ◌≢◌, ℕ, List, Option, Some, None, refl, sym, ap, subst, inr, true≢false, Bool, true, false}
use Rattle.std.specs.Prelude.{Result, Ok, Err}
use Rattle.sand_model.specs.ScriptLine.{ScriptLine}
use Rattle.script_lines.specs.Lines.{chopped}
use Rattle.script_text.specs.Line.{Reads, answer_value}
use Rattle.statements.specs.Statement.{statement_value, Statement}
use Rattle.statements.specs.declared.statement.Statement as declared
use Rattle.sand_base.specs.declared.refusal.Refusal.TheVariants as why
use Rattle.script_text.specs.declared.parse.LineFault.{LineFault}
use Rattle.script_text.specs.declared.parse.LineFault.TheVariants as fault
use Rattle.line_meaning.specs.Reading.{Says, RefusesLine, IsRefusedSo}
use Rattle.line_meaning.specs.Spoken.{Tells, IsLine}

abbrev Answer : Type 0
Answer = Result (Option Statement) LineFault

abbrev is_memory : Answer → Bool
is_memory (Err fault.Memory) = true
is_memory _ = false

-- an answer that tells something is none of memory
no_memory : (answer : Answer) (told : ScriptLine) → Tells answer told → answer ≢ Err fault.Memory
no_memory (Ok None) told h e = true≢false (sym (ap is_memory e))
no_memory (Ok (Some s)) told h e = true≢false (sym (ap is_memory e))
no_memory (Err (fault.Syntax column)) told h e = true≢false (sym (ap is_memory e))
no_memory (Err fault.Range) told h e = true≢false (sym (ap is_memory e))
no_memory (Err fault.Memory) told h e = h

-- each line has one reading, but for want of memory
abbrev pub OneReading : Type 0
OneReading = (line : List ℕ) (a b : Answer) → Reads line a → Reads line b → a ≢ Err fault.Memory → b ≢ Err fault.Memory → a ≡ b

-- what a line says is told by any reading of it
told_by : OneReading → (line : List ℕ) (answer : Answer) (told : ScriptLine) → Reads (chopped line) answer → answer ≢ Err fault.Memory → IsLine (Some line) told → Tells answer told
told_by one line answer told read some (other, same, tells) =
    let is : other ≡ answer = one (chopped line) other answer same read (no_memory other told tells) some in
    subst (λ (a : Answer). Tells a told) is tells

-- the statement of a line, or that it is passed over
pub says : OneReading → (line : List ℕ) (statement : Option declared.Statement) → Reads (chopped line) (answer_value (Ok statement)) → Says line statement
says one line None read = λ told is. told_by one line (Ok None) told read (λ e. true≢false (sym (ap is_memory e))) is
says one line (Some statement) read =
    (read.in_range, λ told is. told_by one line (Ok (Some (statement_value statement))) told read (λ e. true≢false (sym (ap is_memory e))) is)

pub bad_token : OneReading → (line : List ℕ) (column : ℕ) → Reads (chopped line) (Err (fault.Syntax column)) → RefusesLine line (why.Syntax column)
bad_token one line column read =
    inr (λ told is. subst (λ (t : ScriptLine). IsRefusedSo t (why.Syntax column)) (sym (told_by one line (Err (fault.Syntax column)) told read (λ e. true≢false (sym (ap is_memory e))) is)) refl)

pub out_of_range : OneReading → (line : List ℕ) → Reads (chopped line) (Err fault.Range) → RefusesLine line why.Range
out_of_range one line read =
    inr (λ told is. subst (λ (t : ScriptLine). IsRefusedSo t why.Range) (sym (told_by one line (Err fault.Range) told read (λ e. true≢false (sym (ap is_memory e))) is)) refl)
