use Rattle.std.proofs.Common.{◌++◌}
use Rattle.pair_heap.specs.Chain.{items, chain_places}
use Rattle.pair_heap.specs.Tree.{heap_items, tree_places}
use Rattle.pair_heap.proofs.MeldsKeepItems.{gathered}
use Rattle.pair_heap.proofs.meld.gather.Goals as goal

-- the next tree goes into the one in hand
pub trees-preserved : goal.trees-preserved
trees-preserved g c = record {
  all = c.meld-all.ensures.tree;
  rest = (rw c.in-Some.ensures at c.trees.invariant.rest).2;
  kept = gathered (heap_items c.args.first ++ items c.args.trees.chain) (heap_items c.trees.all) (heap_items c.in-Some.next) (items c.in-Some.others.chain) (heap_items c.meld-all.result)
      (rw c.in-Some.ensures at c.trees.invariant.kept) c.meld-all.ensures.items;
  slots = gathered (tree_places c.args.first ++ chain_places c.args.trees.chain) (tree_places c.trees.all) (tree_places c.in-Some.next)
      (chain_places c.in-Some.others.chain) (tree_places c.meld-all.result)
      (rw c.in-Some.ensures at c.trees.invariant.slots) c.meld-all.ensures.slots;
}
