-- A step keeps what each operator took and gave, and pays for what it asks and handles.
use Rattle.std.proofs.Common.{Ok, Err, IfSome, refl, ap, sym, subst, ◌∙◌, ◌<◌, ◌≤◌}
use Rattle.best_first.specs.Visits.{told_pages}
use Rattle.plan_iterator.specs.Rows.{counts_of}
use Rattle.plan_iterator.specs.SourceSteps.{FallsAtRow}
use Rattle.plan_iterator.specs.Following.{steps_of}
use Rattle.plan_iterator.specs.Paying.{prices, GoesPaid}
use Rattle.plan_iterator.specs.Steps.{Lowers}
use Rattle.plan_iterator.specs.declared.operator.Operator.{Source}
use Rattle.plan_iterator.specs.declared.operator.Operator.TheViews as operator
use Rattle.plan_iterator.specs.declared.step.Step.TheVariants.{Row, Pass, End}
use Rattle.plan_iterator.proofs.Payments.{pointer_of}
use Rattle.plan_iterator.proofs.Sourcing.{as_step}
use Rattle.plan_iterator.proofs.Told.{is_open, source_told, works_told, takes_told, same_told, waits_told, finishes_told}
use Rattle.plan_iterator.proofs.operator.Over.+step.Goals as goal

pub returns-then-is_busy-clause-falls : goal.returns-then-is_busy-clause-falls
returns-then-is_busy-clause-falls g t c = c.work.ensures.falls _

pub returns-then-is_busy-clause-step : goal.returns-then-is_busy-clause-step
returns-then-is_busy-clause-step g t c =
    works_told g.S.RowSource.At g.T.RowStage.Stands g.T.RowStage.closed (prices g.S.RowSource.heights g.S.RowSource.step_price g.S.RowSource.owed g.T.RowStage.price g.T.RowStage.owed)
    (λ s. counts_of (g.S.RowSource.seen s))
    (told_pages c.args.desk.now) c.args.desk.now c.work.new.desk g.met.T.RowStage.front g.met.T.RowStage.late c.work.result c.args.self.now.stage c.work.new.self
    (pointer_of c.args.self.now.below) (pointer_of c.args.self.now.below)
    c.args.self.now.below.value c.work.ensures.closed c.work.ensures.price c.work.ensures.log c.work.ensures.up c.work.ensures.step c.work.ensures.costs

pub returns-in-Ok-Some-clause-falls : goal.returns-in-Ok-Some-clause-falls
returns-in-Ok-Some-clause-falls g t c =
    c.take_row.ensures.falls (g.S.RowSource.steps c.next.new.self) (steps_of g.S.RowSource.steps g.T.RowStage.steps c.args.self.now.below.value)
    (subst (λ o. g.S.RowSource.steps c.next.new.self < steps_of g.S.RowSource.steps g.T.RowStage.steps o) (sym c.in-Source.is ∙ c.deref_mut.ensures.value)
    (subst (λ r. FallsAtRow (g.S.RowSource.steps c.in-Source.source) (g.S.RowSource.steps c.next.new.self) r) (c.in-Ok-Some.is ∙ ap Ok c.in-Ok-Some.field-0-is) c.next.ensures.falls))

pub returns-in-Ok-Some-clause-step : goal.returns-in-Ok-Some-clause-step
returns-in-Ok-Some-clause-step g t c =
    takes_told g.S.RowSource.At g.T.RowStage.Stands g.T.RowStage.closed (prices g.S.RowSource.heights g.S.RowSource.step_price g.S.RowSource.owed g.T.RowStage.price g.T.RowStage.owed)
    (λ s. counts_of (g.S.RowSource.seen s)) (told_pages c.args.desk.now) c.args.desk.now c.next.new.desk (Ok (Row c.in-Ok-Some.row)) c.args.self.now.stage
    (pointer_of c.args.self.now.below) (pointer_of c.args.self.now.below)
    c.args.self.now.below.value (Source c.next.new.self)
    (is_open g.T.RowStage.closed g.T.RowStage.waits g.met.T.RowStage.closed_waits c.args.self.now.stage (sym c.is_busy.ensures.busy ∙ c.if-is_busy.false))
    (c.is_busy.ensures.dry c.if-is_busy.false)
    (source_told g.S.RowSource.At g.T.RowStage.Stands g.T.RowStage.closed (prices g.S.RowSource.heights g.S.RowSource.step_price g.S.RowSource.owed g.T.RowStage.price g.T.RowStage.owed)
    (λ s. counts_of (g.S.RowSource.seen s)) (told_pages c.args.desk.now) c.args.desk.now c.next.new.desk
    c.args.self.now.below.value c.in-Source.source c.next.new.self c.next.result (Ok (Row c.in-Ok-Some.row)) (sym c.deref_mut.ensures.value ∙ c.in-Source.is)
    (ap as_step (c.in-Ok-Some.is ∙ ap Ok c.in-Ok-Some.field-0-is)) c.next.ensures.heights c.next.ensures.step_price c.next.ensures.step c.next.ensures.costs)
    g.met.T.RowStage.front g.met.T.RowStage.late c.take_row.new.desk c.take_row.result c.in-Ok-Some.row c.take_row.new.stage refl c.take_row.ensures.closed c.take_row.ensures.price c.take_row.ensures.log c.take_row.ensures.up
    (told_pages c.next.new.desk) (same_told c.args.desk.now c.next.new.desk c.next.ensures.read) c.take_row.ensures.step c.take_row.ensures.costs

pub returns-in-Ok-None-clause-falls : goal.returns-in-Ok-None-clause-falls
returns-in-Ok-None-clause-falls g t c =
    c.finish.ensures.falls (g.S.RowSource.steps c.next.new.self) (steps_of g.S.RowSource.steps g.T.RowStage.steps c.args.self.now.below.value)
    (subst (λ o. g.S.RowSource.steps c.next.new.self ≤ steps_of g.S.RowSource.steps g.T.RowStage.steps o) (sym c.in-Source.is ∙ c.deref_mut.ensures.value)
    (subst (λ r. FallsAtRow (g.S.RowSource.steps c.in-Source.source) (g.S.RowSource.steps c.next.new.self) r) (c.in-Ok-None.is ∙ ap Ok c.in-Ok-None.field-0-is) c.next.ensures.falls))

pub returns-in-Ok-None-clause-step : goal.returns-in-Ok-None-clause-step
returns-in-Ok-None-clause-step g t c =
    finishes_told g.S.RowSource.At g.T.RowStage.Stands g.T.RowStage.closed
    (prices g.S.RowSource.heights g.S.RowSource.step_price g.S.RowSource.owed g.T.RowStage.price g.T.RowStage.owed) (λ s. counts_of (g.S.RowSource.seen s))
    (told_pages c.args.desk.now) c.args.desk.now c.next.new.desk (Ok End) c.args.self.now.stage (pointer_of c.args.self.now.below) (pointer_of c.args.self.now.below)
    c.args.self.now.below.value (Source c.next.new.self)
    (is_open g.T.RowStage.closed g.T.RowStage.waits g.met.T.RowStage.closed_waits c.args.self.now.stage (sym c.is_busy.ensures.busy ∙ c.if-is_busy.false))
    (c.is_busy.ensures.dry c.if-is_busy.false)
    (source_told g.S.RowSource.At g.T.RowStage.Stands g.T.RowStage.closed (prices g.S.RowSource.heights g.S.RowSource.step_price g.S.RowSource.owed g.T.RowStage.price g.T.RowStage.owed)
    (λ s. counts_of (g.S.RowSource.seen s)) (told_pages c.args.desk.now) c.args.desk.now c.next.new.desk
    c.args.self.now.below.value c.in-Source.source c.next.new.self c.next.result (Ok End) (sym c.deref_mut.ensures.value ∙ c.in-Source.is)
    (ap as_step (c.in-Ok-None.is ∙ ap Ok c.in-Ok-None.field-0-is)) c.next.ensures.heights c.next.ensures.step_price c.next.ensures.step c.next.ensures.costs)
    c.finish.result c.finish.new.self refl c.finish.ensures.price c.finish.ensures.owes c.finish.ensures.shuts c.finish.ensures.stands

pub returns-in-Err-clause-step : goal.returns-in-Err-clause-step
returns-in-Err-clause-step g t c =
    waits_told g.S.RowSource.At g.T.RowStage.Stands g.T.RowStage.closed (prices g.S.RowSource.heights g.S.RowSource.step_price g.S.RowSource.owed g.T.RowStage.price g.T.RowStage.owed)
    (λ s. counts_of (g.S.RowSource.seen s)) (told_pages c.args.desk.now) c.args.desk.now c.next.new.desk (Err c.in-Err.fault) c.args.self.now.stage
    (pointer_of c.args.self.now.below) (pointer_of c.args.self.now.below)
    c.args.self.now.below.value (Source c.next.new.self)
    (is_open g.T.RowStage.closed g.T.RowStage.waits g.met.T.RowStage.closed_waits c.args.self.now.stage (sym c.is_busy.ensures.busy ∙ c.if-is_busy.false))
    (c.is_busy.ensures.dry c.if-is_busy.false)
    (source_told g.S.RowSource.At g.T.RowStage.Stands g.T.RowStage.closed (prices g.S.RowSource.heights g.S.RowSource.step_price g.S.RowSource.owed g.T.RowStage.price g.T.RowStage.owed)
    (λ s. counts_of (g.S.RowSource.seen s)) (told_pages c.args.desk.now) c.args.desk.now c.next.new.desk
    c.args.self.now.below.value c.in-Source.source c.next.new.self c.next.result (Err c.in-Err.fault) (sym c.deref_mut.ensures.value ∙ c.in-Source.is)
    (ap as_step c.in-Err.is) c.next.ensures.heights c.next.ensures.step_price c.next.ensures.step c.next.ensures.costs)
    (Err c.in-Err.fault) refl tt

pub returns-in-Ok-Row-clause-falls : goal.returns-in-Ok-Row-clause-falls
returns-in-Ok-Row-clause-falls g t c =
    c.take_row-in-Ok-Row.ensures.falls (steps_of g.S.RowSource.steps g.T.RowStage.steps (operator.Over c.step.new.self)) (steps_of g.S.RowSource.steps g.T.RowStage.steps c.args.self.now.below.value)
    (subst (λ o. steps_of g.S.RowSource.steps g.T.RowStage.steps (operator.Over c.step.new.self) < steps_of g.S.RowSource.steps g.T.RowStage.steps o) (sym c.in-Over.is ∙ c.deref_mut.ensures.value)
    (subst (λ r. Lowers (steps_of g.S.RowSource.steps g.T.RowStage.steps (operator.Over c.in-Over.over)) (steps_of g.S.RowSource.steps g.T.RowStage.steps (operator.Over c.step.new.self)) r)
    (c.in-Ok-Row.is ∙ ap Ok c.in-Ok-Row.field-0-is) c.step.ensures.falls))

pub returns-in-Ok-Row-clause-step : goal.returns-in-Ok-Row-clause-step
returns-in-Ok-Row-clause-step g t c =
    takes_told g.S.RowSource.At g.T.RowStage.Stands g.T.RowStage.closed (prices g.S.RowSource.heights g.S.RowSource.step_price g.S.RowSource.owed g.T.RowStage.price g.T.RowStage.owed)
    (λ s. counts_of (g.S.RowSource.seen s)) (told_pages c.args.desk.now) c.args.desk.now c.step.new.desk c.step.result c.args.self.now.stage
    (pointer_of c.args.self.now.below) (pointer_of c.args.self.now.below)
    c.args.self.now.below.value (operator.Over c.step.new.self)
    (is_open g.T.RowStage.closed g.T.RowStage.waits g.met.T.RowStage.closed_waits c.args.self.now.stage (sym c.is_busy.ensures.busy ∙ c.if-is_busy.false))
    (c.is_busy.ensures.dry c.if-is_busy.false)
    (subst (λ o. IfSome (told_pages c.args.desk.now)
    (GoesPaid g.S.RowSource.At g.T.RowStage.Stands g.T.RowStage.closed (prices g.S.RowSource.heights g.S.RowSource.step_price g.S.RowSource.owed g.T.RowStage.price g.T.RowStage.owed)
    (λ s. counts_of (g.S.RowSource.seen s)) o (operator.Over c.step.new.self) c.args.desk.now c.step.new.desk c.step.result))
    (sym c.in-Over.is ∙ c.deref_mut.ensures.value) c.step.ensures.step)
    g.met.T.RowStage.front g.met.T.RowStage.late c.take_row-in-Ok-Row.new.desk c.take_row-in-Ok-Row.result c.in-Ok-Row.row c.take_row-in-Ok-Row.new.stage
    (c.in-Ok-Row.is ∙ ap Ok c.in-Ok-Row.field-0-is) c.take_row-in-Ok-Row.ensures.closed c.take_row-in-Ok-Row.ensures.price c.take_row-in-Ok-Row.ensures.log c.take_row-in-Ok-Row.ensures.up
    (told_pages c.step.new.desk) (same_told c.args.desk.now c.step.new.desk c.step.ensures.read) c.take_row-in-Ok-Row.ensures.step c.take_row-in-Ok-Row.ensures.costs

pub returns-in-Ok-Pass-clause-step : goal.returns-in-Ok-Pass-clause-step
returns-in-Ok-Pass-clause-step g t c =
    waits_told g.S.RowSource.At g.T.RowStage.Stands g.T.RowStage.closed (prices g.S.RowSource.heights g.S.RowSource.step_price g.S.RowSource.owed g.T.RowStage.price g.T.RowStage.owed)
    (λ s. counts_of (g.S.RowSource.seen s)) (told_pages c.args.desk.now) c.args.desk.now c.step.new.desk c.step.result c.args.self.now.stage
    (pointer_of c.args.self.now.below) (pointer_of c.args.self.now.below)
    c.args.self.now.below.value (operator.Over c.step.new.self)
    (is_open g.T.RowStage.closed g.T.RowStage.waits g.met.T.RowStage.closed_waits c.args.self.now.stage (sym c.is_busy.ensures.busy ∙ c.if-is_busy.false))
    (c.is_busy.ensures.dry c.if-is_busy.false)
    (subst (λ o. IfSome (told_pages c.args.desk.now)
    (GoesPaid g.S.RowSource.At g.T.RowStage.Stands g.T.RowStage.closed (prices g.S.RowSource.heights g.S.RowSource.step_price g.S.RowSource.owed g.T.RowStage.price g.T.RowStage.owed)
    (λ s. counts_of (g.S.RowSource.seen s)) o (operator.Over c.step.new.self) c.args.desk.now c.step.new.desk c.step.result))
    (sym c.in-Over.is ∙ c.deref_mut.ensures.value) c.step.ensures.step)
    (Ok Pass) (c.in-Ok-Pass.is ∙ ap Ok c.in-Ok-Pass.field-0-is) tt

pub returns-in-Ok-End-clause-falls : goal.returns-in-Ok-End-clause-falls
returns-in-Ok-End-clause-falls g t c =
    c.finish-in-Ok-End.ensures.falls (steps_of g.S.RowSource.steps g.T.RowStage.steps (operator.Over c.step.new.self)) (steps_of g.S.RowSource.steps g.T.RowStage.steps c.args.self.now.below.value)
    (subst (λ o. steps_of g.S.RowSource.steps g.T.RowStage.steps (operator.Over c.step.new.self) ≤ steps_of g.S.RowSource.steps g.T.RowStage.steps o) (sym c.in-Over.is ∙ c.deref_mut.ensures.value)
    (subst (λ r. Lowers (steps_of g.S.RowSource.steps g.T.RowStage.steps (operator.Over c.in-Over.over)) (steps_of g.S.RowSource.steps g.T.RowStage.steps (operator.Over c.step.new.self)) r)
    (c.in-Ok-End.is ∙ ap Ok c.in-Ok-End.field-0-is) c.step.ensures.falls))

pub returns-in-Ok-End-clause-step : goal.returns-in-Ok-End-clause-step
returns-in-Ok-End-clause-step g t c =
    finishes_told g.S.RowSource.At g.T.RowStage.Stands g.T.RowStage.closed
    (prices g.S.RowSource.heights g.S.RowSource.step_price g.S.RowSource.owed g.T.RowStage.price g.T.RowStage.owed) (λ s. counts_of (g.S.RowSource.seen s))
    (told_pages c.args.desk.now) c.args.desk.now c.step.new.desk c.step.result c.args.self.now.stage (pointer_of c.args.self.now.below) (pointer_of c.args.self.now.below)
    c.args.self.now.below.value (operator.Over c.step.new.self)
    (is_open g.T.RowStage.closed g.T.RowStage.waits g.met.T.RowStage.closed_waits c.args.self.now.stage (sym c.is_busy.ensures.busy ∙ c.if-is_busy.false))
    (c.is_busy.ensures.dry c.if-is_busy.false)
    (subst (λ o. IfSome (told_pages c.args.desk.now)
    (GoesPaid g.S.RowSource.At g.T.RowStage.Stands g.T.RowStage.closed (prices g.S.RowSource.heights g.S.RowSource.step_price g.S.RowSource.owed g.T.RowStage.price g.T.RowStage.owed)
    (λ s. counts_of (g.S.RowSource.seen s)) o (operator.Over c.step.new.self) c.args.desk.now c.step.new.desk c.step.result))
    (sym c.in-Over.is ∙ c.deref_mut.ensures.value) c.step.ensures.step)
    c.finish-in-Ok-End.result c.finish-in-Ok-End.new.self
    (c.in-Ok-End.is ∙ ap Ok c.in-Ok-End.field-0-is) c.finish-in-Ok-End.ensures.price c.finish-in-Ok-End.ensures.owes c.finish-in-Ok-End.ensures.shuts c.finish-in-Ok-End.ensures.stands

pub returns-in-Err-step-clause-step : goal.returns-in-Err-step-clause-step
returns-in-Err-step-clause-step g t c =
    waits_told g.S.RowSource.At g.T.RowStage.Stands g.T.RowStage.closed (prices g.S.RowSource.heights g.S.RowSource.step_price g.S.RowSource.owed g.T.RowStage.price g.T.RowStage.owed)
    (λ s. counts_of (g.S.RowSource.seen s)) (told_pages c.args.desk.now) c.args.desk.now c.step.new.desk c.step.result c.args.self.now.stage
    (pointer_of c.args.self.now.below) (pointer_of c.args.self.now.below)
    c.args.self.now.below.value (operator.Over c.step.new.self)
    (is_open g.T.RowStage.closed g.T.RowStage.waits g.met.T.RowStage.closed_waits c.args.self.now.stage (sym c.is_busy.ensures.busy ∙ c.if-is_busy.false))
    (c.is_busy.ensures.dry c.if-is_busy.false)
    (subst (λ o. IfSome (told_pages c.args.desk.now)
    (GoesPaid g.S.RowSource.At g.T.RowStage.Stands g.T.RowStage.closed (prices g.S.RowSource.heights g.S.RowSource.step_price g.S.RowSource.owed g.T.RowStage.price g.T.RowStage.owed)
    (λ s. counts_of (g.S.RowSource.seen s)) o (operator.Over c.step.new.self) c.args.desk.now c.step.new.desk c.step.result))
    (sym c.in-Over.is ∙ c.deref_mut.ensures.value) c.step.ensures.step)
    (Err c.in-Err-step.fault) c.in-Err-step.is tt
