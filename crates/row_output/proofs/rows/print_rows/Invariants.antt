use Rattle.std.proofs.Common.{◌-◌, ◌≡◌, IfSome, ◌≤◌}
use Rattle.page_pool.specs.Causes.{failures_of}
use Rattle.page_pool.specs.Reads.{IsRead}
use Rattle.best_first.specs.Visits.{told_pages}
use Rattle.plan_iterator.specs.Rows.{counts_of}
use Rattle.plan_iterator.specs.Paying.{prices}
use Rattle.row_output.specs.Printing.{number_behind}
use Rattle.row_output.proofs.CountedLines.{RowsSoFar}
use Rattle.row_output.proofs.Told.{SoFarPaid}
use Rattle.row_output.proofs.rows.print_rows.Given as goal

-- so many rows were printed, and neither the disk nor the sink failed
abbrev pub invariant-rows : goal.invariant-rows
invariant-rows g l = record {
  few : l.rows ≤ l.count;
  count : l.count ≡ l.fn.count;
  read : IsRead l.fn.desk.pool l.desk.pool;
  failures : failures_of l.desk.pool ≡ failures_of l.fn.desk.pool;
  sink : g.K.Sink.faults l.out ≡ g.K.Sink.faults l.fn.out;
  number : l.cursor.given ≡ number_behind l.fn.cursor.given l.rows;
  plain : RowsSoFar l.rows (g.K.Sink.took l.fn.out) (g.K.Sink.took l.out);
  so_far : IfSome (told_pages l.fn.desk) (SoFarPaid g.S.RowSource.At g.T.RowStage.Stands g.T.RowStage.closed
      (prices g.S.RowSource.heights g.S.RowSource.step_price g.S.RowSource.owed g.T.RowStage.price g.T.RowStage.owed)
      (λ s. counts_of (g.S.RowSource.seen s)) l.fn.cursor l.cursor l.rows l.fn.desk l.desk (g.K.Sink.took l.fn.out) (g.K.Sink.took l.out));
}

abbrev pub decreases-rows : goal.decreases-rows
decreases-rows g l = l.count - l.rows
