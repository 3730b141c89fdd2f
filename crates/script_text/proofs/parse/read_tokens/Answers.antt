use Rattle.std.proofs.Common.{◌≡◌, Bool, true, false, Some, sym}
use Rattle.std.specs.Prelude.{ok_or}
use Rattle.std.specs.Bool.{then_some}
use Rattle.script_text.specs.declared.parse.LineFault.TheVariants.{Range}
use Rattle.script_text.specs.Line.{Reads, answer_value}
use Rattle.statements.specs.Statement.{statement_value}
use Rattle.script_text.proofs.LineLemmas.{fault-at, is-read, is-out, stuck-within, bad-token}
use Rattle.script_text.proofs.parse.read_tokens.Goals as goal

-- the reader is stuck within the line
pub syntax_at-requires-clause-within : goal.syntax_at-requires-clause-within
syntax_at-requires-clause-within c =
    rw c.room.ensures
    (stuck-within c.args.line.now c.over-cursor.result c.over-cursor.ensures c.requires.lexed c.whole_statement.new.self.left (rw c.in-Err-Here.field-0-is at c.in-Err-Here.ensures))

-- the reader is stuck at the first bad token
pub returns-in-Err-Here : goal.returns-in-Err-Here
returns-in-Err-Here c =
    fault-at c.args.line.now c.room.result c.syntax_at.result c.syntax_at.ensures c.requires.counts
    (bad-token c.args.line.now c.over-cursor.result c.over-cursor.ensures c.requires.lexed c.whole_statement.new.self.left c.room.result
    (rw c.in-Err-Here.field-0-is at c.in-Err-Here.ensures) c.room.ensures)

-- the line is read as the statement where all was in range, and else a number is out of its range
pub returns : goal.returns
returns c =
    let judged : (b : Bool) → c.whole_statement.new.self.in_range ≡ b → Reads c.args.line.now (answer_value (ok_or (then_some b (Some c.in-Ok.statement)) Range)) = elim [
      | true ↦ λ e. is-read c.args.line.now c.over-cursor.result c.over-cursor.ensures c.requires.lexed (statement_value c.in-Ok.statement) c.whole_statement.new.self c.in-Ok.ensures e
      | false ↦ λ e. is-out c.args.line.now c.over-cursor.result c.over-cursor.ensures c.requires.lexed (statement_value c.in-Ok.statement) c.whole_statement.new.self c.in-Ok.ensures e
    ] in
    rw c.ok_or.ensures.value (rw c.then_some.ensures (judged c.is_in_range-is_in_range.result (sym c.is_in_range-is_in_range.ensures)))
