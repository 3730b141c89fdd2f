-- the line has one reading
use Rattle.std.proofs.Common.{ℕ, List, subst}
use Rattle.std.specs.Prelude.{Err}
use Rattle.script_lines.specs.Lines.{chopped}
use Rattle.script_text.specs.Line.{Reads}
use Rattle.script_text.specs.declared.parse.LineFault.{LineFault}
use Rattle.line_meaning.proofs.OneMeaning.{says, bad_token, out_of_range}
use Rattle.line_meaning.proofs.reading.read_line.Goals as goal

pub returns-in-Ok-clause-says : goal.returns-in-Ok-clause-says
returns-in-Ok-clause-says c = says c.a_line_has_one_reading.ensures c.args.line.now c.in-Ok.statement (rw c.without_return.ensures.value at c.in-Ok.ensures)

pub returns-in-Err-Syntax-clause-refuses : goal.returns-in-Err-Syntax-clause-refuses
returns-in-Err-Syntax-clause-refuses c =
    bad_token c.a_line_has_one_reading.ensures c.args.line.now c.in-Err-Syntax.column
    (subst (λ (f : LineFault). Reads (chopped c.args.line.now) (Err f)) c.in-Err-Syntax.field-0-is
    (subst (λ (l : List ℕ). Reads l (Err c.in-Err-Syntax.field-0)) c.without_return.ensures.value c.in-Err-Syntax.ensures))

pub returns-in-Err-Range-clause-refuses : goal.returns-in-Err-Range-clause-refuses
returns-in-Err-Range-clause-refuses c =
    out_of_range c.a_line_has_one_reading.ensures c.args.line.now
    (subst (λ (f : LineFault). Reads (chopped c.args.line.now) (Err f)) c.in-Err-Range.field-0-is
    (subst (λ (l : List ℕ). Reads l (Err c.in-Err-Range.field-0)) c.without_return.ensures.value c.in-Err-Range.ensures))
