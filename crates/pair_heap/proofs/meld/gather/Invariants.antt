use Rattle.std.proofs.Common.{◌++◌, IsPermutation}
use Rattle.pair_heap.specs.Chain.{items, chain_places}
use Rattle.pair_heap.specs.Heap.{IsHeap}
use Rattle.pair_heap.specs.Tree.{IsHeapTree, heap_items, tree_places}
use Rattle.pair_heap.proofs.Measures.{siblings}
use Rattle.pair_heap.proofs.meld.gather.Given as goal

-- the tree in hand and the trees that are left hold the items and the slots of all trees
abbrev pub invariant-trees : goal.invariant-trees
invariant-trees g l = record {
  all : IsHeapTree g.T.Ord.cmp l.all;
  rest : IsHeap g.T.Ord.cmp l.rest.chain;
  kept : IsPermutation (heap_items l.fn.first ++ items l.fn.trees.chain) (heap_items l.all ++ items l.rest.chain);
  slots : IsPermutation (tree_places l.fn.first ++ chain_places l.fn.trees.chain) (tree_places l.all ++ chain_places l.rest.chain);
}

abbrev pub decreases-trees : goal.decreases-trees
decreases-trees g l = siblings l.rest.chain
