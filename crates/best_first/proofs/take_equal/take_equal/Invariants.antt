use Rattle.std.proofs.Common.{◌≤◌, length}
use Rattle.best_first.specs.Inside.{TakesSome}
use Rattle.best_first.proofs.take_equal.take_equal.Given as goal

-- some of what is one with the front is gone, and a place is reserved
abbrev pub invariant-equal : goal.invariant-equal
invariant-equal g l = record { taken : TakesSome g.T.Ord.cmp l.fn.front (g.Q.Queue.held l.fn.queue) (g.Q.Queue.held l.queue); spare : 1 ≤ g.Q.Queue.spare l.queue }

abbrev pub decreases-equal : goal.decreases-equal
decreases-equal g l = length (g.Q.Queue.held l.queue)
