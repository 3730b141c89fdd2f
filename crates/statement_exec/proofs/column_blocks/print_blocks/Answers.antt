-- the lines, and the line of a refusal behind them
use Rattle.statements.specs.Statement.{Blocks}
use Rattle.output_text.specs.Writing.{Writes}
use Rattle.sand_model.specs.OutputText.{IsText}
use Rattle.statement_exec.specs.Ending.{ReadsStatement, refused_line}
use Rattle.statement_exec.proofs.Endings.{line_cause}
use Rattle.statement_exec.proofs.Written.{ending_written}
use Rattle.sand_base.specs.declared.source.Failed.{Failed}
use Rattle.statement_exec.proofs.column_blocks.print_blocks.Goals as goal

pub returns-in-Ok-clause-written : goal.returns-in-Ok-clause-written
returns-in-Ok-clause-written g c =
    ending_written (ReadsStatement (Blocks (record { relation = c.args.relation.now; column = c.args.column.now })) c.args.catalog.now c.args.desk.now.pool c.print_column.new.desk.pool)
    (g.K.Sink.took c.args.out.now) (g.K.Sink.took c.print_column.new.out) (g.K.Sink.took c.end_with.new.out) c.in-Ok.end c.in-Ok.ensures.written
    c.end_with.result c.end_with.ensures.written c.end_with.ensures.prefix

pub returns-in-Ok-clause-cause : goal.returns-in-Ok-clause-cause
returns-in-Ok-clause-cause g c =
    line_cause Failed (Writes (IsText (refused_line c.in-Ok.end)) (g.K.Sink.took c.print_column.new.out) (g.K.Sink.took c.end_with.new.out))
    c.args.desk.now.pool c.print_column.new.desk.pool c.in-Ok.end c.end_with.result
    c.in-Ok.ensures.cause c.end_with.ensures.written
