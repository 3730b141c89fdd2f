use Rattle.std.proofs.Common.{◌≡◌, IfSome, ◌≤◌}
use Rattle.page_pool.specs.Causes.{failures_of}
use Rattle.page_pool.specs.Reads.{IsRead}
use Rattle.best_first.specs.Visits.{told_pages}
use Rattle.plan_iterator.specs.Rows.{counts_of}
use Rattle.plan_iterator.specs.Following.{steps_of}
use Rattle.plan_iterator.specs.Paying.{prices}
use Rattle.plan_iterator.proofs.ToldCalls.{PassedFrom}
use Rattle.plan_iterator.proofs.advance.advance.Given as goal

-- the steps so far gave no row, and what they visited lies within the reach of the whole step
abbrev pub invariant-steps : goal.invariant-steps
invariant-steps g l = record {
  read : IsRead l.fn.desk.pool l.desk.pool;
  failures : failures_of l.desk.pool ≡ failures_of l.fn.desk.pool;
  falls : steps_of g.S.RowSource.steps g.T.RowStage.steps l.operator ≤ steps_of g.S.RowSource.steps g.T.RowStage.steps l.fn.operator;
  passed : IfSome (told_pages l.fn.desk) (PassedFrom g.S.RowSource.At g.T.RowStage.Stands g.T.RowStage.closed
      (prices g.S.RowSource.heights g.S.RowSource.step_price g.S.RowSource.owed g.T.RowStage.price g.T.RowStage.owed)
      (λ s. counts_of (g.S.RowSource.seen s)) l.fn.operator l.operator l.fn.desk l.desk);
}

abbrev pub decreases-steps : goal.decreases-steps
decreases-steps g l = steps_of g.S.RowSource.steps g.T.RowStage.steps l.operator
