-- The step that was made, and the line that was written.
use Rattle.std.proofs.Common.{◌≡◌, Some, None, Ok, Err, refl, ap, subst, ◌∙◌}
use Rattle.best_first.specs.Visits.{told_pages}
use Rattle.plan_iterator.specs.Rows.{counts_of}
use Rattle.plan_iterator.specs.CursorStep.{number_after}
use Rattle.plan_iterator.specs.Paying.{prices}
use Rattle.row_output.specs.declared.next.Next.TheVariants.{Row, End, Refused}
use Rattle.row_output.proofs.Stepped.{prints_told, row_broken, end_broken, counts_broken}
use Rattle.row_output.proofs.next.print_next.Goals as goal

pub returns-in_ok-print_row-in-Ok-Some-clause-step : goal.returns-in_ok-print_row-in-Ok-Some-clause-step
returns-in_ok-print_row-in-Ok-Some-clause-step g c =
    prints_told g.S.RowSource.At g.T.RowStage.Stands g.T.RowStage.closed (prices g.S.RowSource.heights g.S.RowSource.step_price g.S.RowSource.owed g.T.RowStage.price g.T.RowStage.owed)
    (λ s. counts_of (g.S.RowSource.seen s)) (told_pages c.args.desk.now) c.args.cursor.now c.next.new.self
    c.args.desk.now c.next.new.desk c.next.result (Ok (Some c.in-Ok-Some.row)) (Ok Row) (g.K.Sink.took c.args.out.now) (g.K.Sink.took c.print_row.new.out)
    (c.in-Ok-Some.is ∙ ap Ok c.in-Ok-Some.field-0-is) c.in_ok-print_row-in-Ok-Some.ensures.written c.next.ensures.step

pub returns-in-Err-clause-step : goal.returns-in-Err-clause-step
returns-in-Err-clause-step g c =
    prints_told g.S.RowSource.At g.T.RowStage.Stands g.T.RowStage.closed (prices g.S.RowSource.heights g.S.RowSource.step_price g.S.RowSource.owed g.T.RowStage.price g.T.RowStage.owed)
    (λ s. counts_of (g.S.RowSource.seen s)) (told_pages c.args.desk.now) c.args.cursor.now c.next.new.self
    c.args.desk.now c.next.new.desk c.next.result (Err c.in-Err.fault) (Ok (Refused c.in-Err.fault)) (g.K.Sink.took c.args.out.now) (g.K.Sink.took c.args.out.now)
    c.in-Err.is (refl, λ bytes taken. taken) c.next.ensures.step

pub returns-in_err-print_row-in-Ok-Some-clause-step : goal.returns-in_err-print_row-in-Ok-Some-clause-step
returns-in_err-print_row-in-Ok-Some-clause-step g c =
    prints_told g.S.RowSource.At g.T.RowStage.Stands g.T.RowStage.closed (prices g.S.RowSource.heights g.S.RowSource.step_price g.S.RowSource.owed g.T.RowStage.price g.T.RowStage.owed)
    (λ s. counts_of (g.S.RowSource.seen s)) (told_pages c.args.desk.now) c.args.cursor.now c.next.new.self
    c.args.desk.now c.next.new.desk c.next.result (Ok (Some c.in-Ok-Some.row)) c.from_residual.result (g.K.Sink.took c.args.out.now) (g.K.Sink.took c.print_row.new.out)
    (c.in-Ok-Some.is ∙ ap Ok c.in-Ok-Some.field-0-is)
    (row_broken c.in-Ok-Some.row c.from_residual.result (g.K.Sink.took c.args.out.now) (g.K.Sink.took c.print_row.new.out) c.from_residual.ensures.0 c.in_err-print_row-in-Ok-Some.ensures.prefix)
    c.next.ensures.step

pub returns-in_ok-write_line-in-Ok-None-clause-step : goal.returns-in_ok-write_line-in-Ok-None-clause-step
returns-in_ok-write_line-in-Ok-None-clause-step g c =
    prints_told g.S.RowSource.At g.T.RowStage.Stands g.T.RowStage.closed (prices g.S.RowSource.heights g.S.RowSource.step_price g.S.RowSource.owed g.T.RowStage.price g.T.RowStage.owed)
    (λ s. counts_of (g.S.RowSource.seen s)) (told_pages c.args.desk.now) c.args.cursor.now c.next.new.self
    c.args.desk.now c.next.new.desk c.next.result (Ok None) (Ok End) (g.K.Sink.took c.args.out.now) (g.K.Sink.took c.write_line.new.out)
    (c.in-Ok-None.is ∙ ap Ok c.in-Ok-None.field-0-is) c.in_ok-write_line-in-Ok-None.ensures.written c.next.ensures.step

pub returns-in_err-write_line-in-Ok-None-clause-step : goal.returns-in_err-write_line-in-Ok-None-clause-step
returns-in_err-write_line-in-Ok-None-clause-step g c =
    prints_told g.S.RowSource.At g.T.RowStage.Stands g.T.RowStage.closed (prices g.S.RowSource.heights g.S.RowSource.step_price g.S.RowSource.owed g.T.RowStage.price g.T.RowStage.owed)
    (λ s. counts_of (g.S.RowSource.seen s)) (told_pages c.args.desk.now) c.args.cursor.now c.next.new.self
    c.args.desk.now c.next.new.desk c.next.result (Ok None) c.from_residual-in_err-write_line-in-Ok-None.result (g.K.Sink.took c.args.out.now) (g.K.Sink.took c.write_line.new.out)
    (c.in-Ok-None.is ∙ ap Ok c.in-Ok-None.field-0-is)
    (end_broken c.from_residual-in_err-write_line-in-Ok-None.result (g.K.Sink.took c.args.out.now) (g.K.Sink.took c.write_line.new.out) c.from_residual-in_err-write_line-in-Ok-None.ensures.0
    c.in_err-write_line-in-Ok-None.ensures.prefix)
    c.next.ensures.step

pub returns-in_ok-print_row-in-Ok-Some-clause-line : goal.returns-in_ok-print_row-in-Ok-Some-clause-line
returns-in_ok-print_row-in-Ok-Some-clause-line g c = (Ok (Some c.in-Ok-Some.row), c.in_ok-print_row-in-Ok-Some.ensures.written)

pub returns-in_ok-write_line-in-Ok-None-clause-line : goal.returns-in_ok-write_line-in-Ok-None-clause-line
returns-in_ok-write_line-in-Ok-None-clause-line g c = (Ok None, c.in_ok-write_line-in-Ok-None.ensures.written)

pub returns-in-Err-clause-line : goal.returns-in-Err-clause-line
returns-in-Err-clause-line g c = (Err c.in-Err.fault, (refl, λ bytes taken. taken))

pub returns-in_err-print_row-in-Ok-Some-clause-line : goal.returns-in_err-print_row-in-Ok-Some-clause-line
returns-in_err-print_row-in-Ok-Some-clause-line g c = (
  Ok (Some c.in-Ok-Some.row),
  row_broken c.in-Ok-Some.row c.from_residual.result (g.K.Sink.took c.args.out.now) (g.K.Sink.took c.print_row.new.out) c.from_residual.ensures.0 c.in_err-print_row-in-Ok-Some.ensures.prefix,
)

pub returns-in_err-write_line-in-Ok-None-clause-line : goal.returns-in_err-write_line-in-Ok-None-clause-line
returns-in_err-write_line-in-Ok-None-clause-line g c = (
  Ok None,
  end_broken c.from_residual-in_err-write_line-in-Ok-None.result (g.K.Sink.took c.args.out.now) (g.K.Sink.took c.write_line.new.out) c.from_residual-in_err-write_line-in-Ok-None.ensures.0
      c.in_err-write_line-in-Ok-None.ensures.prefix,
)

-- the number of the cursor's rows

pub returns-in_ok-print_row-in-Ok-Some-clause-number : goal.returns-in_ok-print_row-in-Ok-Some-clause-number
returns-in_ok-print_row-in-Ok-Some-clause-number g c =
    subst (λ r. c.next.new.self.given ≡ number_after c.args.cursor.now.given r) (c.in-Ok-Some.is ∙ ap Ok c.in-Ok-Some.field-0-is) c.next.ensures.number

pub returns-in_ok-write_line-in-Ok-None-clause-number : goal.returns-in_ok-write_line-in-Ok-None-clause-number
returns-in_ok-write_line-in-Ok-None-clause-number g c =
    subst (λ r. c.next.new.self.given ≡ number_after c.args.cursor.now.given r) (c.in-Ok-None.is ∙ ap Ok c.in-Ok-None.field-0-is) c.next.ensures.number

pub returns-in-Err-clause-number : goal.returns-in-Err-clause-number
returns-in-Err-clause-number g c = subst (λ r. c.next.new.self.given ≡ number_after c.args.cursor.now.given r) c.in-Err.is c.next.ensures.number

pub returns-in_err-print_row-in-Ok-Some-clause-number : goal.returns-in_err-print_row-in-Ok-Some-clause-number
returns-in_err-print_row-in-Ok-Some-clause-number g c = counts_broken c.args.cursor.now.given c.next.new.self.given c.from_residual.result c.from_residual.ensures.0

pub returns-in_err-write_line-in-Ok-None-clause-number : goal.returns-in_err-write_line-in-Ok-None-clause-number
returns-in_err-write_line-in-Ok-None-clause-number g c =
    counts_broken c.args.cursor.now.given c.next.new.self.given c.from_residual-in_err-write_line-in-Ok-None.result c.from_residual-in_err-write_line-in-Ok-None.ensures.0
