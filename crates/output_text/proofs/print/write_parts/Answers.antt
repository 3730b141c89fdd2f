-- the line broke off, or was cut as it was written
use Rattle.output_text.proofs.Forming.{on_err}
use Rattle.output_text.proofs.Lines.{line-cut, line-prefix, line-written}
use Rattle.output_text.specs.Line.{line_of}
use Rattle.output_text.proofs.print.write_parts.Goals as goal

pub returns-in_err-put_line-clause-prefix : goal.returns-in_err-put_line-clause-prefix
returns-in_err-put_line-clause-prefix g c =
    on_err c.from_residual.result (line-prefix (line_of c.args.line.now) _ _ _ c.new-pending.ensures c.in_err-put_line.ensures.prefix)

pub returns-in_err-end-clause-prefix : goal.returns-in_err-end-clause-prefix
returns-in_err-end-clause-prefix g c =
    on_err c.from_residual-in_err-end.result
    (line-cut (line_of c.args.line.now) _ _ _ _ _ c.new-pending.ensures c.in_ok-put_line.ensures.formed c.in_err-end.ensures.prefix)

pub returns-clause-written : goal.returns-clause-written
returns-clause-written g c =
    line-written (line_of c.args.line.now) _ _ _ _ _ c.new-pending.ensures c.in_ok-put_line.ensures.formed c.in_ok-end.ensures.written
