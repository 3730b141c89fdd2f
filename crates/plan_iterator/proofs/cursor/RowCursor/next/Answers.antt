-- The call of the operator is one step of the cursor of the model, and a row raises the number of rows.
use Rattle.std.proofs.Common.{Some, None, Ok, Err, refl, ap, ◌∙◌}
use Rattle.best_first.specs.Visits.{told_pages}
use Rattle.plan_iterator.specs.Rows.{counts_of}
use Rattle.plan_iterator.specs.Paying.{prices}
use Rattle.plan_iterator.proofs.Counting.{told_cursor}
use Rattle.plan_iterator.proofs.cursor.RowCursor.next.Goals as goal

pub returns-in-Ok-Some-clause-step : goal.returns-in-Ok-Some-clause-step
returns-in-Ok-Some-clause-step g c =
    told_cursor g.S.RowSource.At g.T.RowStage.Stands g.T.RowStage.closed (prices g.S.RowSource.heights g.S.RowSource.step_price g.S.RowSource.owed g.T.RowStage.price g.T.RowStage.owed)
    (λ s. counts_of (g.S.RowSource.seen s)) (told_pages c.args.desk.now)
    c.args.self.now (record { operator = c.advance.new.operator; given = c.saturating_add-self.result }) c.args.desk.now c.advance.new.desk c.advance.result (Ok (Some c.in-Ok-Some.row))
    (c.in-Ok-Some.is ∙ ap Ok c.in-Ok-Some.field-0-is) c.saturating_add-self.ensures c.advance.ensures.step

pub returns-in-Ok-None-clause-step : goal.returns-in-Ok-None-clause-step
returns-in-Ok-None-clause-step g c =
    told_cursor g.S.RowSource.At g.T.RowStage.Stands g.T.RowStage.closed (prices g.S.RowSource.heights g.S.RowSource.step_price g.S.RowSource.owed g.T.RowStage.price g.T.RowStage.owed)
    (λ s. counts_of (g.S.RowSource.seen s)) (told_pages c.args.desk.now)
    c.args.self.now (record { operator = c.advance.new.operator; given = c.args.self.now.given }) c.args.desk.now c.advance.new.desk c.advance.result (Ok None)
    (c.in-Ok-None.is ∙ ap Ok c.in-Ok-None.field-0-is) refl c.advance.ensures.step

pub returns-in-Err-clause-step : goal.returns-in-Err-clause-step
returns-in-Err-clause-step g c =
    told_cursor g.S.RowSource.At g.T.RowStage.Stands g.T.RowStage.closed (prices g.S.RowSource.heights g.S.RowSource.step_price g.S.RowSource.owed g.T.RowStage.price g.T.RowStage.owed)
    (λ s. counts_of (g.S.RowSource.seen s)) (told_pages c.args.desk.now)
    c.args.self.now (record { operator = c.advance.new.operator; given = c.args.self.now.given }) c.args.desk.now c.advance.new.desk c.advance.result (Err c.in-Err.fault)
    c.in-Err.is refl c.advance.ensures.step

-- over any disk
pub returns-in-Ok-Some-clause-number : goal.returns-in-Ok-Some-clause-number
returns-in-Ok-Some-clause-number g c = c.saturating_add-self.ensures
