-- Steps that give no row, and the one that ends the call, make one step of the cursor of the model.
use Rattle.std.proofs.Common.{◌<◌, Ok, refl, ap, ◌∙◌, subst, arith}
use Rattle.best_first.specs.Visits.{told_pages}
use Rattle.best_first.proofs.Passing.{read_itself, read_both, told_read}
use Rattle.plan_iterator.specs.Rows.{counts_of}
use Rattle.plan_iterator.specs.Following.{steps_of}
use Rattle.plan_iterator.specs.Paying.{prices}
use Rattle.plan_iterator.specs.Steps.{Lowers}
use Rattle.plan_iterator.proofs.ToldCalls.{told_first, told_stands, told_more, told_row, told_end, told_refusal}
use Rattle.plan_iterator.proofs.advance.advance.Goals as goal

pub steps-init : goal.steps-init
steps-init g c = record {
  read = read_itself c.args.desk.now.pool;
  failures = refl;
  falls = omega arith;
  passed =
      told_first g.S.RowSource.At g.T.RowStage.Stands g.T.RowStage.closed (prices g.S.RowSource.heights g.S.RowSource.step_price g.S.RowSource.owed g.T.RowStage.price g.T.RowStage.owed)
      (λ s. counts_of (g.S.RowSource.seen s)) (told_pages c.args.desk.now) c.args.operator.now c.args.desk.now;
}

pub step-requires : goal.step-requires
step-requires g c = record {
  stands =
      told_stands g.S.RowSource.At g.T.RowStage.Stands g.T.RowStage.closed
      (prices g.S.RowSource.heights g.S.RowSource.step_price g.S.RowSource.owed g.T.RowStage.price g.T.RowStage.owed) (λ s. counts_of (g.S.RowSource.seen s))
      (told_pages c.args.desk.now) (told_pages c.steps.desk)
      c.args.operator.now c.steps.operator c.args.desk.now c.steps.desk (told_read c.args.desk.now c.steps.desk c.steps.invariant.read) c.requires.stands c.steps.invariant.passed;
}

pub steps-preserved : goal.steps-preserved
steps-preserved g c =
    let steps = steps_of g.S.RowSource.steps g.T.RowStage.steps in
    let is = c.in-Ok-Pass.is ∙ ap Ok c.in-Ok-Pass.field-0-is in
    let before = c.steps.invariant.falls in
    let less : steps c.step.new.self < steps c.steps.operator = subst (λ r. Lowers (steps c.steps.operator) (steps c.step.new.self) r) is c.step.ensures.falls in
    record {
      read = read_both c.args.desk.now.pool c.steps.desk.pool c.step.new.desk.pool c.steps.invariant.read c.step.ensures.read;
      failures = c.in-Ok-Pass.ensures.cause.counted ∙ c.steps.invariant.failures;
      falls = omega (arith, less, before);
      passed =
          told_more g.S.RowSource.At g.T.RowStage.Stands g.T.RowStage.closed
          (prices g.S.RowSource.heights g.S.RowSource.step_price g.S.RowSource.owed g.T.RowStage.price g.T.RowStage.owed) (λ s. counts_of (g.S.RowSource.seen s))
          (told_pages c.args.desk.now) (told_pages c.steps.desk)
          c.args.operator.now c.steps.operator c.step.new.self c.args.desk.now c.steps.desk c.step.new.desk c.step.result (told_read c.args.desk.now c.steps.desk c.steps.invariant.read)
          c.steps.invariant.passed c.step.ensures.step is;
    }

pub returns-in-Ok-Row-clause-step : goal.returns-in-Ok-Row-clause-step
returns-in-Ok-Row-clause-step g c =
    told_row g.S.RowSource.At g.T.RowStage.Stands g.T.RowStage.closed (prices g.S.RowSource.heights g.S.RowSource.step_price g.S.RowSource.owed g.T.RowStage.price g.T.RowStage.owed)
    (λ s. counts_of (g.S.RowSource.seen s)) (told_pages c.args.desk.now) (told_pages c.steps.desk)
    c.args.operator.now c.steps.operator c.step.new.self c.args.desk.now c.steps.desk c.step.new.desk c.step.result (told_read c.args.desk.now c.steps.desk c.steps.invariant.read)
    c.steps.invariant.passed c.step.ensures.step g.met.T.RowStage.front g.met.T.RowStage.late c.in-Ok-Row.row (c.in-Ok-Row.is ∙ ap Ok c.in-Ok-Row.field-0-is)

pub returns-in-Ok-End-clause-step : goal.returns-in-Ok-End-clause-step
returns-in-Ok-End-clause-step g c =
    told_end g.S.RowSource.At g.T.RowStage.Stands g.T.RowStage.closed (prices g.S.RowSource.heights g.S.RowSource.step_price g.S.RowSource.owed g.T.RowStage.price g.T.RowStage.owed)
    (λ s. counts_of (g.S.RowSource.seen s)) (told_pages c.args.desk.now) (told_pages c.steps.desk)
    c.args.operator.now c.steps.operator c.step.new.self c.args.desk.now c.steps.desk c.step.new.desk c.step.result (told_read c.args.desk.now c.steps.desk c.steps.invariant.read)
    c.steps.invariant.passed c.step.ensures.step g.met.T.RowStage.front g.met.T.RowStage.late (c.in-Ok-End.is ∙ ap Ok c.in-Ok-End.field-0-is)

pub returns-in-Err-clause-step : goal.returns-in-Err-clause-step
returns-in-Err-clause-step g c =
    told_refusal g.S.RowSource.At g.T.RowStage.Stands g.T.RowStage.closed (prices g.S.RowSource.heights g.S.RowSource.step_price g.S.RowSource.owed g.T.RowStage.price g.T.RowStage.owed)
    (λ s. counts_of (g.S.RowSource.seen s)) (told_pages c.args.desk.now) (told_pages c.steps.desk)
    c.args.operator.now c.steps.operator c.step.new.self c.args.desk.now c.steps.desk c.step.new.desk c.step.result (told_read c.args.desk.now c.steps.desk c.steps.invariant.read)
    c.steps.invariant.passed c.step.ensures.step g.met.T.RowStage.front g.met.T.RowStage.late c.in-Err.fault c.in-Err.is
