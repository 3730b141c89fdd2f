-- A step of a source, or of an operator over another.
use Rattle.std.proofs.Common.{Ok, IfSome, ap, sym, subst, ◌∙◌}
use Rattle.best_first.specs.Visits.{told_pages}
use Rattle.plan_iterator.specs.Rows.{counts_of}
use Rattle.plan_iterator.specs.Paying.{prices, GoesPaid}
use Rattle.plan_iterator.specs.declared.operator.Operator.TheViews as operator
use Rattle.plan_iterator.specs.declared.step.Step.TheVariants.{Row, End}
use Rattle.plan_iterator.proofs.Sourcing.{as_step}
use Rattle.plan_iterator.proofs.Told.{source_told}
use Rattle.plan_iterator.proofs.operator.Operator.step.Goals as goal

pub returns-in-Ok-Some-clause-step : goal.returns-in-Ok-Some-clause-step
returns-in-Ok-Some-clause-step g c =
    source_told g.S.RowSource.At g.T.RowStage.Stands g.T.RowStage.closed (prices g.S.RowSource.heights g.S.RowSource.step_price g.S.RowSource.owed g.T.RowStage.price g.T.RowStage.owed)
    (λ s. counts_of (g.S.RowSource.seen s)) (told_pages c.args.desk.now) c.args.desk.now c.next.new.desk
    c.args.self.now c.in-Source.source c.next.new.self c.next.result (Ok (Row c.in-Ok-Some.row)) c.in-Source.is
    (ap as_step (c.in-Ok-Some.is ∙ ap Ok c.in-Ok-Some.field-0-is)) c.next.ensures.heights c.next.ensures.step_price c.next.ensures.step c.next.ensures.costs

pub returns-in-Ok-None-clause-step : goal.returns-in-Ok-None-clause-step
returns-in-Ok-None-clause-step g c =
    source_told g.S.RowSource.At g.T.RowStage.Stands g.T.RowStage.closed (prices g.S.RowSource.heights g.S.RowSource.step_price g.S.RowSource.owed g.T.RowStage.price g.T.RowStage.owed)
    (λ s. counts_of (g.S.RowSource.seen s)) (told_pages c.args.desk.now) c.args.desk.now c.next.new.desk
    c.args.self.now c.in-Source.source c.next.new.self c.next.result (Ok End) c.in-Source.is
    (ap as_step (c.in-Ok-None.is ∙ ap Ok c.in-Ok-None.field-0-is)) c.next.ensures.heights c.next.ensures.step_price c.next.ensures.step c.next.ensures.costs

pub returns-in-Over-clause-step : goal.returns-in-Over-clause-step
returns-in-Over-clause-step g c =
    subst (λ o. IfSome (told_pages c.args.desk.now)
    (GoesPaid g.S.RowSource.At g.T.RowStage.Stands g.T.RowStage.closed (prices g.S.RowSource.heights g.S.RowSource.step_price g.S.RowSource.owed g.T.RowStage.price g.T.RowStage.owed)
    (λ s. counts_of (g.S.RowSource.seen s)) o (operator.Over c.step.new.self) c.args.desk.now c.step.new.desk c.step.result))
    (sym c.in-Over.is) c.step.ensures.step
