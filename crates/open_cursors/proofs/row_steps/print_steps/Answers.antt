-- rows up to their end, to a fault of a page, or to one of the sink
use Rattle.std.proofs.Common.{Ok, Err}
use Rattle.best_first.specs.Visits.{told_pages}
use Rattle.plan_iterator.specs.Standing.{IsAt}
use Rattle.plan_iterator.specs.Rows.{counts_of}
use Rattle.plan_iterator.specs.Paying.{prices}
use Rattle.page_pool.specs.declared.fault.PageFault.TheVariants.{Memory}
use Rattle.statement_exec.proofs.PageCauses.{caused_by_pages}
use Rattle.open_cursors.proofs.CausedSteps.{page_no_file}
use Rattle.open_cursors.proofs.RowsWritten.{rows_ended, rows_refused, rows_failed}
use Rattle.open_cursors.proofs.StepCalls.{of_pages, told_end, told_fault, told_broken, told_stands}
use Rattle.open_cursors.proofs.row_steps.print_steps.Goals as goal

pub returns-in-Ok-Rows-clause-steps : goal.returns-in-Ok-Rows-clause-steps
returns-in-Ok-Rows-clause-steps g c =
    told_end (told_pages c.args.desk.now) (λ pages m. IsAt g.S.RowSource.At g.T.RowStage.Stands g.T.RowStage.closed (λ s. counts_of (g.S.RowSource.seen s)) c.args.cursor.now pages m)
    (λ pages m. IsAt g.S.RowSource.At g.T.RowStage.Stands g.T.RowStage.closed
    (λ s. counts_of (g.S.RowSource.seen s)) c.print_rows.new.cursor pages m) c.args.count c.args.desk.now c.print_rows.new.desk (g.K.Sink.took c.args.out.now) (g.K.Sink.took c.print_rows.new.out)
    c.in-Ok-Rows.field-0 c.in-Ok-Rows.field-0-0 c.in-Ok-Rows.field-0-1 c.in-Ok-Rows.field-0-is
    (told_stands g.S.RowSource.At g.T.RowStage.Stands g.T.RowStage.closed (prices g.S.RowSource.heights g.S.RowSource.step_price g.S.RowSource.owed g.T.RowStage.price g.T.RowStage.owed)
    (λ s. counts_of (g.S.RowSource.seen s)) (told_pages c.args.desk.now) c.args.cursor.now c.print_rows.new.cursor c.args.count c.args.desk.now c.print_rows.new.desk
    (g.K.Sink.took c.args.out.now) (g.K.Sink.took c.print_rows.new.out) (Ok c.in-Ok-Rows.field-0) c.in-Ok-Rows.ensures.step)

pub returns-in-Ok-Refused-clause-steps : goal.returns-in-Ok-Refused-clause-steps
returns-in-Ok-Refused-clause-steps g c =
    rw c.refusal_of.ensures (told_fault (told_pages c.args.desk.now)
    (λ pages m. IsAt g.S.RowSource.At g.T.RowStage.Stands g.T.RowStage.closed (λ s. counts_of (g.S.RowSource.seen s)) c.args.cursor.now pages m)
    (λ pages m. IsAt g.S.RowSource.At g.T.RowStage.Stands g.T.RowStage.closed
    (λ s. counts_of (g.S.RowSource.seen s)) c.print_rows.new.cursor pages m) c.args.count c.args.desk.now c.print_rows.new.desk (g.K.Sink.took c.args.out.now) (g.K.Sink.took c.print_rows.new.out)
    c.in-Ok-Refused.field-0 c.in-Ok-Refused.field-0-0 c.in-Ok-Refused.fault c.in-Ok-Refused.field-0-is
    (told_stands g.S.RowSource.At g.T.RowStage.Stands g.T.RowStage.closed (prices g.S.RowSource.heights g.S.RowSource.step_price g.S.RowSource.owed g.T.RowStage.price g.T.RowStage.owed)
    (λ s. counts_of (g.S.RowSource.seen s)) (told_pages c.args.desk.now) c.args.cursor.now c.print_rows.new.cursor c.args.count c.args.desk.now c.print_rows.new.desk
    (g.K.Sink.took c.args.out.now) (g.K.Sink.took c.print_rows.new.out) (Ok c.in-Ok-Refused.field-0) c.in-Ok-Refused.ensures.step))

pub returns-in-Err-clause-steps : goal.returns-in-Err-clause-steps
returns-in-Err-clause-steps g c =
    told_broken (told_pages c.args.desk.now) (λ pages m. IsAt g.S.RowSource.At g.T.RowStage.Stands g.T.RowStage.closed (λ s. counts_of (g.S.RowSource.seen s)) c.args.cursor.now pages m)
    (λ pages m. IsAt g.S.RowSource.At g.T.RowStage.Stands g.T.RowStage.closed
    (λ s. counts_of (g.S.RowSource.seen s)) c.print_rows.new.cursor pages m) c.args.count c.args.desk.now c.print_rows.new.desk (g.K.Sink.took c.args.out.now) (g.K.Sink.took c.print_rows.new.out)
    c.in-Err.field-0
    (told_stands g.S.RowSource.At g.T.RowStage.Stands g.T.RowStage.closed (prices g.S.RowSource.heights g.S.RowSource.step_price g.S.RowSource.owed g.T.RowStage.price g.T.RowStage.owed)
    (λ s. counts_of (g.S.RowSource.seen s)) (told_pages c.args.desk.now) c.args.cursor.now c.print_rows.new.cursor c.args.count c.args.desk.now c.print_rows.new.desk
    (g.K.Sink.took c.args.out.now) (g.K.Sink.took c.print_rows.new.out) (Err c.in-Err.field-0) c.in-Err.ensures.step)

pub returns-in-Ok-Refused-clause-no_file : goal.returns-in-Ok-Refused-clause-no_file
returns-in-Ok-Refused-clause-no_file g c = rw c.refusal_of.ensures (page_no_file c.in-Ok-Refused.fault)

pub returns-in-Ok-Refused-clause-pages : goal.returns-in-Ok-Refused-clause-pages
returns-in-Ok-Refused-clause-pages g c = rw c.refusal_of.ensures (of_pages c.in-Ok-Refused.fault)

-- over any disk
pub returns-in-Ok-Rows-clause-rows : goal.returns-in-Ok-Rows-clause-rows
returns-in-Ok-Rows-clause-rows g c =
    rows_ended c.args.count c.in-Ok-Rows.field-0-0 (g.K.Sink.took c.args.out.now)
    (g.K.Sink.took c.print_rows.new.out) c.in-Ok-Rows.field-0-1 c.in-Ok-Rows.field-0 c.in-Ok-Rows.field-0-is c.in-Ok-Rows.ensures.lines

pub returns-in-Ok-Refused-clause-rows : goal.returns-in-Ok-Refused-clause-rows
returns-in-Ok-Refused-clause-rows g c =
    rw c.refusal_of.ensures (rows_refused c.args.count c.in-Ok-Refused.field-0-0 (g.K.Sink.took c.args.out.now)
    (g.K.Sink.took c.print_rows.new.out) c.in-Ok-Refused.fault c.in-Ok-Refused.field-0 c.in-Ok-Refused.field-0-is c.in-Ok-Refused.ensures.lines)

pub returns-in-Err-clause-rows : goal.returns-in-Err-clause-rows
returns-in-Err-clause-rows g c = rows_failed c.args.count (g.K.Sink.took c.args.out.now) (g.K.Sink.took c.print_rows.new.out) c.in-Err.field-0 c.in-Err.ensures.lines

-- why the pages refused, if they did
pub returns-in-Ok-Refused-clause-cause : goal.returns-in-Ok-Refused-clause-cause
returns-in-Ok-Refused-clause-cause g c =
    rw c.refusal_of.ensures (caused_by_pages c.args.desk.now.pool c.print_rows.new.desk.pool c.in-Ok-Refused.fault (rw c.in-Ok-Refused.field-0-is at c.in-Ok-Refused.ensures.refused))

pub returns-in-Err-clause-cause : goal.returns-in-Err-clause-cause
returns-in-Err-clause-cause g c = (Memory, c.in-Err.ensures.refused.counted)
