use Rattle.std.proofs.Common.{◌-◌, ◌≡◌, ◌≤◌, IfSome}
use Rattle.page_pool.specs.Causes.{failures_of}
use Rattle.page_pool.specs.Reads.{IsRead}
use Rattle.best_first.specs.Visits.{told_pages}
use Rattle.far_cursor.specs.FarCursor.{FarStands}
use Rattle.plan_sources.specs.Rankings.{by_code}
use Rattle.open_cursors.proofs.FarthestSteps.{SoFar}
use Rattle.open_cursors.proofs.farthest.print_far.Given as goal

-- so many rows were printed, and neither the disk nor the sink failed
abbrev pub invariant-rows : goal.invariant-rows
invariant-rows g l = record {
  few : l.rows ≤ l.count;
  count : l.count ≡ l.fn.count;
  read : IsRead l.fn.desk.pool l.desk.pool;
  failures : failures_of l.desk.pool ≡ failures_of l.fn.desk.pool;
  sink : g.K.Sink.faults l.out ≡ g.K.Sink.faults l.fn.out;
  hierarchy : l.far.search.hierarchy ≡ l.fn.far.search.hierarchy;
  stands : IfSome (told_pages l.desk) (FarStands by_code l.far.search.hierarchy l.far.search.frontier.queue.items l.far.search.frontier.last);
  so_far : SoFar l.fn.desk.pool.disk.told l.fn.desk.pool.pages l.fn.far.search.hierarchy l.fn.count l.rows l.far.search.frontier.last (g.K.Sink.took l.fn.out) (g.K.Sink.took l.out);
}

abbrev pub decreases-rows : goal.decreases-rows
decreases-rows g l = l.count - l.rows
