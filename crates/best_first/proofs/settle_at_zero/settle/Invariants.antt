use Rattle.std.proofs.Common.{◌≡◌, ◌≤◌, IfSome}
use Rattle.page_pool.specs.Causes.{failures_of}
use Rattle.page_pool.specs.Reads.{IsRead}
use Rattle.best_first.specs.Visits.{told_pages, state, Goes}
use Rattle.best_first.specs.Steps.{steps}
use Rattle.best_first.specs.ZeroItems.{items_of, AreRows}
use Rattle.best_first.specs.WithinZero.{StandsWithin}
use Rattle.best_first.proofs.settle_at_zero.settle.Given as goal

-- the search stands, the next expansion may be given what is left, more was taken since the beginning, and nothing changed where rows alone were queued then
abbrev pub invariant-steps : goal.invariant-steps
invariant-steps g l = record {
  read : IsRead l.fn.desk.pool l.desk.pool;
  failures : failures_of l.desk.pool ≡ failures_of l.fn.desk.pool;
  last : l.frontier.last ≡ l.fn.frontier.last;
  falls : steps (g.H.Hierarchy.weight l.hierarchy) (items_of l.frontier.queue) ≤ steps (g.H.Hierarchy.weight l.hierarchy) (items_of l.fn.frontier.queue);
  stands : IfSome (told_pages l.desk) (λ p. StandsWithin g.H.Node.Ord.cmp (g.H.Hierarchy.meaning l.hierarchy p) (items_of l.frontier.queue) l.frontier.last);
  near : IfSome (told_pages l.desk) (λ p. g.H.Hierarchy.IsNear l.hierarchy p l.near);
  moves : IfSome (told_pages l.fn.desk) (λ p. Goes g.H.Node.Ord.cmp (g.H.Hierarchy.meaning l.hierarchy p) (g.H.Hierarchy.note l.hierarchy)
      (state (items_of l.fn.frontier.queue) l.fn.frontier.last l.fn.frontier.counts l.fn.desk) (state (items_of l.frontier.queue) l.frontier.last l.frontier.counts l.desk));
  still : AreRows l.fn.frontier.queue → (l.desk ≡ l.fn.desk) × (l.frontier.queue ≡ l.fn.frontier.queue);
}

abbrev pub decreases-steps : goal.decreases-steps
decreases-steps g l = steps (g.H.Hierarchy.weight l.hierarchy) (items_of l.frontier.queue)
