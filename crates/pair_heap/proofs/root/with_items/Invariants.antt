use Rattle.std.proofs.Common.{◌≡◌, ◌+◌, ◌++◌, length, IsPermutation}
use Rattle.pair_heap.specs.Chain.{items, chain_places}
use Rattle.pair_heap.specs.Heap.{IsHeap}
use Rattle.pair_heap.proofs.root.with_items.Given as goal

-- each added item is in the list or in a tree of the chain, and there is a spare slot for each of the list
abbrev pub invariant-items : goal.invariant-items
invariant-items g l = record {
  heap : IsHeap g.T.Ord.cmp l.all.chain;
  kept : IsPermutation (l.fn.added.items ++ items l.fn.trees.chain) (l.added.items ++ items l.all.chain);
  slots : IsPermutation (chain_places l.fn.trees.chain ++ l.fn.spares.places) (chain_places l.all.chain ++ l.spares.places);
  room : length l.spares.places + length l.fn.added.items ≡ length l.fn.spares.places + length l.added.items;
}

abbrev pub decreases-items : goal.decreases-items
decreases-items g l = length l.added.items
