-- Each step prints one line more, or ends the call.
use Rattle.std.proofs.Common.{Ok, Err, refl, ap, ◌∙◌, subst, arith}
use Rattle.sand_base.specs.Faults.{HasCause}
use Rattle.page_pool.specs.Causes.{HasPageCause}
use Rattle.best_first.specs.Visits.{told_pages}
use Rattle.best_first.proofs.Passing.{read_itself, read_both, told_read}
use Rattle.plan_iterator.specs.Rows.{counts_of}
use Rattle.plan_iterator.specs.Paying.{prices}
use Rattle.row_output.specs.Stepping.{CountsStep, printed_refusal}
use Rattle.row_output.specs.declared.next.Next.TheVariants as next
use Rattle.row_output.proofs.CountedLines.{step_counted, none_so_far, all_so_far, step_is, row_so_far, end_so_far, refused_so_far, failed_so_far}
use Rattle.row_output.proofs.Told.{told_none, told_stands, told_more, told_end, told_refused, told_failed, told_all}
use Rattle.row_output.proofs.rows.print_rows.Goals as goal

pub rows-init : goal.rows-init
rows-init g c = record {
  few = omega arith;
  count = refl;
  read = read_itself c.args.desk.now.pool;
  failures = refl;
  sink = refl;
  number = refl;
  plain = none_so_far (g.K.Sink.took c.args.out.now);
  so_far = told_none g.S.RowSource.At g.T.RowStage.Stands g.T.RowStage.closed
      (prices g.S.RowSource.heights g.S.RowSource.step_price g.S.RowSource.owed g.T.RowStage.price g.T.RowStage.owed) (λ s. counts_of (g.S.RowSource.seen s))
      (told_pages c.args.desk.now) c.args.cursor.now c.args.desk.now (g.K.Sink.took c.args.out.now);
}

pub print_next-requires : goal.print_next-requires
print_next-requires g c = record {
  stands =
      told_stands g.S.RowSource.At g.T.RowStage.Stands g.T.RowStage.closed
      (prices g.S.RowSource.heights g.S.RowSource.step_price g.S.RowSource.owed g.T.RowStage.price g.T.RowStage.owed) (λ s. counts_of (g.S.RowSource.seen s))
      (told_pages c.args.desk.now) (told_pages c.rows.desk) c.args.cursor.now
      c.rows.cursor c.rows.rows c.args.desk.now c.rows.desk
      (g.K.Sink.took c.args.out.now) (g.K.Sink.took c.rows.out) (told_read c.args.desk.now c.rows.desk c.rows.invariant.read) c.requires.stands c.rows.invariant.so_far;
}

pub returns-clause-step : goal.returns-clause-step
returns-clause-step g c =
    let few = c.rows.invariant.few in
    let most = c.rows-test.false in
    told_all g.S.RowSource.At g.T.RowStage.Stands g.T.RowStage.closed (prices g.S.RowSource.heights g.S.RowSource.step_price g.S.RowSource.owed g.T.RowStage.price g.T.RowStage.owed)
    (λ s. counts_of (g.S.RowSource.seen s)) (told_pages c.args.desk.now) c.args.cursor.now
    c.rows.cursor c.rows.rows c.args.count c.args.desk.now c.rows.desk
    (g.K.Sink.took c.args.out.now) (g.K.Sink.took c.rows.out) (omega (arith, few, most)) c.rows.invariant.so_far

pub rows-preserved : goal.rows-preserved
rows-preserved g c =
    let is = c.in-Ok-Row.is ∙ ap Ok c.in-Ok-Row.field-0-is in
    let less = c.rows-test.true in
    record {
      few = omega (arith, less);
      count = refl;
      read = read_both c.args.desk.now.pool c.rows.desk.pool c.print_next.new.desk.pool c.rows.invariant.read c.print_next.ensures.read;
      failures =
          (subst (λ r. HasPageCause c.rows.desk.pool c.print_next.new.desk.pool (printed_refusal r)) is c.print_next.ensures.refused).counted ∙ c.rows.invariant.failures;
      sink =
          (subst (λ r. HasCause (g.K.Sink.faults c.rows.out) (g.K.Sink.faults c.print_next.new.out) r) is c.print_next.ensures.cause).done ∙ c.rows.invariant.sink;
      number = step_counted c.args.cursor.now.given c.rows.cursor.given c.print_next.new.cursor.given c.rows.rows c.rows.invariant.number
          (subst (λ r. CountsStep c.rows.cursor.given c.print_next.new.cursor.given r) is c.print_next.ensures.number);
      plain = row_so_far c.rows.rows (g.K.Sink.took c.args.out.now) (g.K.Sink.took c.rows.out) (g.K.Sink.took c.print_next.new.out) c.rows.invariant.plain
          (step_is c.rows.rows (g.K.Sink.took c.args.out.now) (g.K.Sink.took c.rows.out) (g.K.Sink.took c.print_next.new.out) c.rows.invariant.plain c.print_next.result
          (Ok next.Row) is c.print_next.ensures.line);
      so_far =
          told_more g.S.RowSource.At g.T.RowStage.Stands g.T.RowStage.closed
          (prices g.S.RowSource.heights g.S.RowSource.step_price g.S.RowSource.owed g.T.RowStage.price g.T.RowStage.owed) (λ s. counts_of (g.S.RowSource.seen s))
          (told_pages c.args.desk.now) (told_pages c.rows.desk) c.args.cursor.now
          c.rows.cursor
          c.print_next.new.cursor c.rows.rows c.args.desk.now c.rows.desk
          c.print_next.new.desk (g.K.Sink.took c.args.out.now) (g.K.Sink.took c.rows.out) (g.K.Sink.took c.print_next.new.out) c.print_next.result
          (told_read c.args.desk.now c.rows.desk c.rows.invariant.read) c.rows.invariant.so_far c.print_next.ensures.step is;
    }

pub returns-in-Ok-End-clause-step : goal.returns-in-Ok-End-clause-step
returns-in-Ok-End-clause-step g c =
    told_end g.S.RowSource.At g.T.RowStage.Stands g.T.RowStage.closed (prices g.S.RowSource.heights g.S.RowSource.step_price g.S.RowSource.owed g.T.RowStage.price g.T.RowStage.owed)
    (λ s. counts_of (g.S.RowSource.seen s)) (told_pages c.args.desk.now) (told_pages c.rows.desk) c.args.cursor.now
    c.rows.cursor
    c.print_next.new.cursor c.rows.rows c.args.desk.now c.rows.desk
    c.print_next.new.desk (g.K.Sink.took c.args.out.now) (g.K.Sink.took c.rows.out) (g.K.Sink.took c.print_next.new.out) c.print_next.result
    (told_read c.args.desk.now c.rows.desk c.rows.invariant.read) c.rows.invariant.so_far c.print_next.ensures.step c.args.count c.rows-test.true
    (c.in-Ok-End.is ∙ ap Ok c.in-Ok-End.field-0-is)

pub returns-in-Ok-Refused-clause-step : goal.returns-in-Ok-Refused-clause-step
returns-in-Ok-Refused-clause-step g c =
    told_refused g.S.RowSource.At g.T.RowStage.Stands g.T.RowStage.closed (prices g.S.RowSource.heights g.S.RowSource.step_price g.S.RowSource.owed g.T.RowStage.price g.T.RowStage.owed)
    (λ s. counts_of (g.S.RowSource.seen s)) (told_pages c.args.desk.now) (told_pages c.rows.desk) c.args.cursor.now
    c.rows.cursor
    c.print_next.new.cursor c.rows.rows c.args.desk.now c.rows.desk
    c.print_next.new.desk (g.K.Sink.took c.args.out.now) (g.K.Sink.took c.rows.out) (g.K.Sink.took c.print_next.new.out) c.print_next.result
    (told_read c.args.desk.now c.rows.desk c.rows.invariant.read) c.rows.invariant.so_far c.print_next.ensures.step c.args.count c.in-Ok-Refused.fault c.rows-test.true
    (c.in-Ok-Refused.is ∙ ap Ok c.in-Ok-Refused.field-0-is)

pub returns-in-Err-clause-step : goal.returns-in-Err-clause-step
returns-in-Err-clause-step g c =
    told_failed g.S.RowSource.At g.T.RowStage.Stands g.T.RowStage.closed (prices g.S.RowSource.heights g.S.RowSource.step_price g.S.RowSource.owed g.T.RowStage.price g.T.RowStage.owed)
    (λ s. counts_of (g.S.RowSource.seen s)) (told_pages c.args.desk.now) (told_pages c.rows.desk) c.args.cursor.now
    c.rows.cursor
    c.print_next.new.cursor c.rows.rows c.args.desk.now c.rows.desk
    c.print_next.new.desk (g.K.Sink.took c.args.out.now) (g.K.Sink.took c.rows.out) (g.K.Sink.took c.print_next.new.out) c.print_next.result
    (told_read c.args.desk.now c.rows.desk c.rows.invariant.read) c.rows.invariant.so_far c.print_next.ensures.step c.args.count c.in-Err.failed c.rows-test.true
    c.in-Err.is

pub returns-clause-lines : goal.returns-clause-lines
returns-clause-lines g c =
    let few = c.rows.invariant.few in
    let most = c.rows-test.false in
    all_so_far c.rows.rows c.args.count (g.K.Sink.took c.args.out.now) (g.K.Sink.took c.rows.out) (omega (arith, few, most)) c.rows.invariant.plain

pub returns-in-Ok-End-clause-lines : goal.returns-in-Ok-End-clause-lines
returns-in-Ok-End-clause-lines g c =
    end_so_far c.rows.rows (g.K.Sink.took c.args.out.now) (g.K.Sink.took c.rows.out) (g.K.Sink.took c.print_next.new.out) c.rows.invariant.plain c.args.count c.rows-test.true
    (step_is c.rows.rows (g.K.Sink.took c.args.out.now) (g.K.Sink.took c.rows.out) (g.K.Sink.took c.print_next.new.out) c.rows.invariant.plain c.print_next.result (Ok next.End)
    (c.in-Ok-End.is ∙ ap Ok c.in-Ok-End.field-0-is) c.print_next.ensures.line)

pub returns-in-Ok-Refused-clause-lines : goal.returns-in-Ok-Refused-clause-lines
returns-in-Ok-Refused-clause-lines g c =
    refused_so_far c.rows.rows (g.K.Sink.took c.args.out.now) (g.K.Sink.took c.rows.out) (g.K.Sink.took c.print_next.new.out) c.rows.invariant.plain c.args.count c.in-Ok-Refused.fault c.rows-test.true
    (step_is c.rows.rows (g.K.Sink.took c.args.out.now) (g.K.Sink.took c.rows.out) (g.K.Sink.took c.print_next.new.out) c.rows.invariant.plain c.print_next.result
    (Ok (next.Refused c.in-Ok-Refused.fault))
    (c.in-Ok-Refused.is ∙ ap Ok c.in-Ok-Refused.field-0-is) c.print_next.ensures.line)

pub returns-in-Err-clause-lines : goal.returns-in-Err-clause-lines
returns-in-Err-clause-lines g c =
    failed_so_far c.rows.rows (g.K.Sink.took c.args.out.now) (g.K.Sink.took c.rows.out) (g.K.Sink.took c.print_next.new.out) c.rows.invariant.plain c.args.count c.in-Err.failed c.rows-test.true
    (step_is c.rows.rows (g.K.Sink.took c.args.out.now) (g.K.Sink.took c.rows.out) (g.K.Sink.took c.print_next.new.out) c.rows.invariant.plain c.print_next.result
    (Err c.in-Err.failed) c.in-Err.is c.print_next.ensures.line)

-- the number of the cursor's rows
pub returns-clause-number : goal.returns-clause-number
returns-clause-number g c = c.rows.invariant.number

pub returns-in-Ok-End-clause-number : goal.returns-in-Ok-End-clause-number
returns-in-Ok-End-clause-number g c =
    subst (λ r. CountsStep c.rows.cursor.given c.print_next.new.cursor.given r) (c.in-Ok-End.is ∙ ap Ok c.in-Ok-End.field-0-is) c.print_next.ensures.number ∙ c.rows.invariant.number

pub returns-in-Ok-Refused-clause-number : goal.returns-in-Ok-Refused-clause-number
returns-in-Ok-Refused-clause-number g c =
    subst (λ r. CountsStep c.rows.cursor.given c.print_next.new.cursor.given r) (c.in-Ok-Refused.is ∙ ap Ok c.in-Ok-Refused.field-0-is) c.print_next.ensures.number ∙ c.rows.invariant.number
