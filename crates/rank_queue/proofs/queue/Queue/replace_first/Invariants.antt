use Rattle.std.proofs.Common.{◌≡◌, ◌+◌, ◌∷◌, ◌++◌, length, IsPermutation}
use Rattle.rank_queue.specs.Least.{IsFirst}
use Rattle.rank_queue.proofs.queue.Queue.replace_first.Given as goal

-- each item is queued, in the list or the one that was taken, and places for those of the list are reserved
abbrev pub invariant-items : goal.invariant-items
invariant-items g l = record {
  first : IsFirst g.T.Ord.cmp l.first (g.Self.Queue.held l.fn.self);
  kept : IsPermutation (l.fn.items.items ++ g.Self.Queue.held l.fn.self) (l.first ∷ (l.items.items ++ g.Self.Queue.held l.self));
  room : g.Self.Queue.spare l.self + length l.fn.items.items ≡ (g.Self.Queue.spare l.fn.self + 1) + length l.items.items;
}

abbrev pub decreases-items : goal.decreases-items
decreases-items g l = length l.items.items
