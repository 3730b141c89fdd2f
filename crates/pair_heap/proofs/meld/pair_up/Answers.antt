use Rattle.pair_heap.specs.Chain.{items, chain_places}
use Rattle.pair_heap.specs.Tree.{heap_items, tree_places}
use Rattle.pair_heap.proofs.MeldsKeepItems.{paired}
use Rattle.pair_heap.proofs.meld.pair_up.Goals as goal

-- the first two trees become one, which goes before the pairs
pub pairs-preserved : goal.pairs-preserved
pairs-preserved g c = record {
  rest = (rw c.in-Some-first.ensures at (rw c.in-Some.ensures at c.pairs.invariant.rest).2).2;
  pairs = rw c.before-pairs.ensures (c.meld.ensures.tree.least, c.meld.ensures.tree.heap, c.pairs.invariant.pairs);
  kept = rw c.before-pairs.ensures (paired (items c.args.trees.chain) (heap_items c.in-Some.one) (heap_items c.in-Some-first.other) (items c.in-Some-first.others.chain)
      (items c.pairs.pairs.chain) (heap_items c.meld.result)
      (rw (c.in-Some.ensures, c.in-Some-first.ensures) at c.pairs.invariant.kept) c.meld.ensures.items);
  slots = rw c.before-pairs.ensures (paired (chain_places c.args.trees.chain) (tree_places c.in-Some.one) (tree_places c.in-Some-first.other)
      (chain_places c.in-Some-first.others.chain) (chain_places c.pairs.pairs.chain) (tree_places c.meld.result)
      (rw (c.in-Some.ensures, c.in-Some-first.ensures) at c.pairs.invariant.slots) c.meld.ensures.slots);
}
