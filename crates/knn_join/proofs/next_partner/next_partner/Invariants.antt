use Rattle.std.proofs.Common.{◌≡◌, ◌≤◌, IfSome}
use Rattle.page_pool.specs.Causes.{failures_of}
use Rattle.page_pool.specs.Reads.{IsRead}
use Rattle.best_first.specs.Visits.{told_pages, state}
use Rattle.best_first.specs.Steps.{steps}
use Rattle.knn_join.proofs.Turns.{Passes}
use Rattle.knn_join.proofs.next_partner.next_partner.Given as goal

-- the rows so far were passed over: pages were only read, no fault was counted, the counts are as they were, and the number of steps did not rise
abbrev pub invariant-rows : goal.invariant-rows
invariant-rows g l = record {
  hierarchy : l.engine.hierarchy ≡ l.fn.engine.hierarchy;
  read : IsRead l.fn.desk.pool l.desk.pool;
  failures : failures_of l.desk.pool ≡ failures_of l.fn.desk.pool;
  partners : l.partners ≡ l.fn.partners;
  falls : steps (g.H.Hierarchy.weight l.fn.engine.hierarchy) (g.Q.Queue.held l.engine.frontier.queue) ≤ steps (g.H.Hierarchy.weight l.fn.engine.hierarchy) (g.Q.Queue.held l.fn.engine.frontier.queue);
  passes : IfSome (told_pages l.fn.desk) (λ p. Passes g.H.Node.Ord.cmp (g.H.Hierarchy.meaning l.fn.engine.hierarchy p) (g.H.Hierarchy.note l.fn.engine.hierarchy) l.fn.partners
      (state (g.Q.Queue.held l.fn.engine.frontier.queue) l.fn.engine.frontier.last l.fn.engine.frontier.counts l.fn.desk)
      (state (g.Q.Queue.held l.engine.frontier.queue) l.engine.frontier.last l.engine.frontier.counts l.desk));
}

-- each row lowers the number of steps
abbrev pub decreases-rows : goal.decreases-rows
decreases-rows g l = steps (g.H.Hierarchy.weight l.engine.hierarchy) (g.Q.Queue.held l.engine.frontier.queue)
