use Rattle.std.proofs.Common.{ap, arith}
use Rattle.std.proofs.lemmas.List.Sorted.{IsPermutation-insert}
use Rattle.rank_queue.proofs.KeepsFalling.{placed_at}
use Rattle.rank_queue.proofs.plain.PlainQueueQueue.push.Goals as goal

-- the item stands behind those that come after it, and takes a reserved place
pub invariant_of-self : goal.invariant_of-self
invariant_of-self g c = rw c.in-Ok.ensures.items (
  placed_at g.met.T.Ord.total _ _ _ (rw c.deref.ensures.value at c.count_after-place.ensures) c.self.invariant.0,
  omega (arith, c.in-Ok.ensures.len, c.in-Ok.ensures.capacity),
)

pub returns-clause-items : goal.returns-clause-items
returns-clause-items g c = rw (c.in-Ok.ensures.items, ← ap (λ q. q.items) c.self.view_is) (IsPermutation-insert _ _ _)
