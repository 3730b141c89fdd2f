use Rattle.std.proofs.Common.{◌≡◌, ◌-◌, ◌≤◌}
use Rattle.pair_heap.proofs.heap.PairHeap.reserve.Given as goal

-- the items stay, and no slot is lost
abbrev pub invariant-loop-self : goal.invariant-loop-self
invariant-loop-self g l = record {
  items : l.self.items ≡ l.fn.self.items;
  kept : l.fn.self.spare ≤ l.self.spare;
}

abbrev pub decreases-loop-self : goal.decreases-loop-self
decreases-loop-self g l = l.count - l.self.spare
