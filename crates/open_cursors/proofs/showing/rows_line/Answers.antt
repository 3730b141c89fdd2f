-- rows up to a refusal and its line, or up to where the sink failed
use Rattle.best_first.specs.Visits.{told_pages}
use Rattle.plan_iterator.specs.Standing.{IsAt}
use Rattle.plan_iterator.specs.Rows.{counts_of}
use Rattle.sand_base.specs.declared.refusal.Refusal.TheVariants as why
use Rattle.sand_base.specs.declared.source.Failed.{Failed}
use Rattle.output_text.specs.Writing.{Writes}
use Rattle.sand_model.specs.OutputText.{IsText}
use Rattle.statement_exec.specs.Ending.{refused_line}
use Rattle.statement_exec.proofs.Endings.{line_cause}
use Rattle.open_cursors.proofs.MoreSteps.{stays_refused}
use Rattle.open_cursors.proofs.NewRows.{told_rows, told_rows_broken}
use Rattle.open_cursors.proofs.Written.{rows_written, rows_broken}
use Rattle.open_cursors.proofs.showing.rows_line.Goals as goal

pub returns-in-Ok-clause-written : goal.returns-in-Ok-clause-written
returns-in-Ok-clause-written g c =
    told_rows (told_pages c.args.desk.now) (λ pages m. IsAt g.S.RowSource.At g.T.RowStage.Stands g.T.RowStage.closed (λ s. counts_of (g.S.RowSource.seen s)) c.args.cursor.now pages m)
    (λ pages m. IsAt g.S.RowSource.At g.T.RowStage.Stands g.T.RowStage.closed (λ s. counts_of (g.S.RowSource.seen s)) c.print_steps.new.cursor pages m) c.args.count
    c.args.desk.now.pool c.print_steps.new.desk.pool (g.K.Sink.took c.args.out.now) (g.K.Sink.took c.print_steps.new.out) (g.K.Sink.took c.end_with.new.out)
    c.in-Ok.end c.in-Ok.ensures.cause c.end_with.result c.end_with.ensures.written c.end_with.ensures.prefix c.in-Ok.ensures.steps

pub returns-in-Ok-clause-cause : goal.returns-in-Ok-clause-cause
returns-in-Ok-clause-cause g c =
    line_cause Failed (Writes (IsText (refused_line c.in-Ok.end)) (g.K.Sink.took c.print_steps.new.out) (g.K.Sink.took c.end_with.new.out))
    c.args.desk.now.pool c.print_steps.new.desk.pool c.in-Ok.end c.end_with.result
    c.in-Ok.ensures.cause c.end_with.ensures.written

pub returns-in-Err-clause-written : goal.returns-in-Err-clause-written
returns-in-Err-clause-written g c =
    told_rows_broken (told_pages c.args.desk.now) (λ pages m. IsAt g.S.RowSource.At g.T.RowStage.Stands g.T.RowStage.closed (λ s. counts_of (g.S.RowSource.seen s)) c.args.cursor.now pages m)
    (λ pages m. IsAt g.S.RowSource.At g.T.RowStage.Stands g.T.RowStage.closed (λ s. counts_of (g.S.RowSource.seen s)) c.print_steps.new.cursor pages m) c.args.count
    c.args.desk.now.pool c.print_steps.new.desk.pool (g.K.Sink.took c.args.out.now) (g.K.Sink.took c.print_steps.new.out)
    c.in-Err.field-0 (λ pages m at. stays_refused g.S.RowSource.At g.T.RowStage.Stands g.T.RowStage.closed (λ s. counts_of (g.S.RowSource.seen s)) c.print_steps.new.cursor pages m at why.Memory)
    c.in-Err.ensures.steps

pub returns-in-Ok-clause-plain : goal.returns-in-Ok-clause-plain
returns-in-Ok-clause-plain g c =
    rows_written c.args.count c.args.desk.now.pool c.print_steps.new.desk.pool c.print_steps.ensures.read.told (g.K.Sink.took c.args.out.now)
    (g.K.Sink.took c.print_steps.new.out) (g.K.Sink.took c.end_with.new.out)
    c.in-Ok.end c.in-Ok.ensures.cause c.in-Ok.ensures.pages c.in-Ok.ensures.rows
    c.end_with.result c.end_with.ensures.written c.end_with.ensures.prefix

pub returns-in-Err-clause-plain : goal.returns-in-Err-clause-plain
returns-in-Err-clause-plain g c =
    rows_broken c.args.count c.args.desk.now.pool c.print_steps.new.desk.pool c.print_steps.ensures.read.told (g.K.Sink.took c.args.out.now)
    (g.K.Sink.took c.print_steps.new.out) c.in-Err.field-0 c.in-Err.ensures.rows
