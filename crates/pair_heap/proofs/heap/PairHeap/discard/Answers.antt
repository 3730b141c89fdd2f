use Rattle.pair_heap.proofs.heap.PairHeap.discard.Goals as goal

-- each slot holds a node or is spare
pub release_slabs-requires : goal.release_slabs-requires
release_slabs-requires g c = rw c.as_trees.ensures c.self.invariant.slots
