use Rattle.std.proofs.lemmas.List.Sorted.{IsPermutation-sym, IsPermutation-trans}
use Rattle.pair_heap.proofs.heap.PairHeap.drop.Goals as goal

-- all slots are spare
pub release_slabs-requires : goal.release_slabs-requires
release_slabs-requires g c = rw c.end.ensures (IsPermutation-trans _ _ _ (IsPermutation-sym _ _ (rw c.as_trees.ensures at c.release.ensures)) c.self.invariant.slots)
