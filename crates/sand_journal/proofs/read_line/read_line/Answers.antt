use Rattle.std.proofs.Common.{Option, Ok, sym, subst, ◌∙◌, arith}
use Rattle.statements.specs.declared.statement.Statement.{Statement}
use Rattle.script_text.specs.Line.{Reads, answer_value}
use Rattle.sand_journal.proofs.Lines.{long_none, blank_none, fault_none, line_answer}
use Rattle.sand_journal.proofs.read_line.read_line.Goals as goal

-- no printed form is longer than a line
pub returns-then-text-gt-LONGEST_LINE : goal.returns-then-text-gt-LONGEST_LINE
returns-then-text-gt-LONGEST_LINE c = long_none c.args.text.now (omega (arith, c.if-text-gt-LONGEST_LINE.true))

-- the statement is the change where it is kept and printed so
pub returns-in-Ok-Some : goal.returns-in-Ok-Some
returns-in-Ok-Some c =
    line_answer c.printed_statements_are_read_back.ensures.only c.args.text.now c.in-Ok-Some.statement
    (subst (λ (f : Option Statement). Reads c.args.text.now (answer_value (Ok f))) c.in-Ok-Some.field-0-is c.in-Ok-Some.ensures)
    c.is_line-is_line.result c.is_line-is_line.ensures c.only_if.result c.only_if.ensures

-- a line that is passed over is no statement's printed form, nor is one at fault
pub returns-in-Ok-None : goal.returns-in-Ok-None
returns-in-Ok-None c =
    blank_none c.printed_statements_are_read_back.ensures.only c.args.text.now
    (subst (λ (f : Option Statement). Reads c.args.text.now (answer_value (Ok f))) c.in-Ok-None.field-0-is c.in-Ok-None.ensures)

pub returns-in-Err-Syntax : goal.returns-in-Err-Syntax
returns-in-Err-Syntax c = fault_none c.printed_statements_are_read_back.ensures.only c.args.text.now c.in-Err-Syntax.field-0
    (λ h. let wrong = sym c.in-Err-Syntax.field-0-is ∙ h in cc wrong) c.in-Err-Syntax.ensures

pub returns-in-Err-Range : goal.returns-in-Err-Range
returns-in-Err-Range c = fault_none c.printed_statements_are_read_back.ensures.only c.args.text.now c.in-Err-Range.field-0
    (λ h. let wrong = sym c.in-Err-Range.field-0-is ∙ h in cc wrong) c.in-Err-Range.ensures
