use Rattle.std.proofs.Common.{◌++◌, IsPermutation}
use Rattle.pair_heap.specs.Chain.{items, chain_places}
use Rattle.pair_heap.specs.Heap.{IsHeap}
use Rattle.pair_heap.proofs.Measures.{siblings}
use Rattle.pair_heap.proofs.meld.pair_up.Given as goal

-- the trees that are left and the pairs hold the items and the slots of all trees
abbrev pub invariant-pairs : goal.invariant-pairs
invariant-pairs g l = record {
  rest : IsHeap g.T.Ord.cmp l.rest.chain;
  pairs : IsHeap g.T.Ord.cmp l.pairs.chain;
  kept : IsPermutation (items l.fn.trees.chain) (items l.rest.chain ++ items l.pairs.chain);
  slots : IsPermutation (chain_places l.fn.trees.chain) (chain_places l.rest.chain ++ chain_places l.pairs.chain);
}

abbrev pub decreases-pairs : goal.decreases-pairs
decreases-pairs g l = siblings l.rest.chain
