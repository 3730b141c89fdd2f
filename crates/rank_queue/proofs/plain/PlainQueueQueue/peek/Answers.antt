use Rattle.std.proofs.Common.{ap}
use Rattle.rank_queue.proofs.KeepsFalling.{end_shown}
use Rattle.rank_queue.proofs.plain.PlainQueueQueue.peek.Goals as goal

-- the list falls, so its last item is the first of the queue
pub returns : goal.returns
returns g c = end_shown g.met.T.Ord.total _ _ _ (rw c.deref.ensures.value at c.last.ensures.item.3) (ap (λ q. q.items) c.self.view_is) c.self.invariant.0
