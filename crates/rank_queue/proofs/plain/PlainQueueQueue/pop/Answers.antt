use Rattle.std.proofs.Common.{ap, arith}
use Rattle.std.proofs.lemmas.List.Sorted.{IsPermutation-to_front}
use Rattle.rank_queue.proofs.KeepsFalling.{last_least, without_last}
use Rattle.rank_queue.proofs.plain.PlainQueueQueue.pop.Goals as goal

-- the last item is gone, and its place is reserved
pub invariant_of-self-2 : goal.invariant_of-self-2
invariant_of-self-2 g c = (
  without_last g.met.T.Ord.total _ _ (rw c.in_ok-item.ensures.items at c.self.invariant.0),
  omega (arith, c.in_ok-item.ensures.len, c.in_ok-item.ensures.capacity),
)

pub returns-clause-items : goal.returns-clause-items
returns-clause-items g c = rw (← ap (λ q. q.items) c.self.view_is, c.in_ok-item.ensures.items) (IsPermutation-to_front _ _)

-- the list falls, so its last item is the least
pub returns-clause-least : goal.returns-clause-least
returns-clause-least g c = last_least g.met.T.Ord.total _ _ (rw c.in_ok-item.ensures.items at c.self.invariant.0)
