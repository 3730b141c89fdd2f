use Rattle.std.proofs.lemmas.List.Sorted.{IsPermutation-trans}
use Rattle.pair_heap.proofs.MeldsKeepItems.{nothing_held}
use Rattle.pair_heap.proofs.meld.join.Goals as goal

-- no pair is left only of no tree
pub returns-in_default-clause-tree : goal.returns-in_default-clause-tree
returns-in_default-clause-tree g c = nothing_held c.args.trees.chain (rw c.in_default.ensures at c.pair_up.ensures.items)

pub returns-in_default-clause-items : goal.returns-in_default-clause-items
returns-in_default-clause-items g c = nothing_held c.args.trees.chain (rw c.in_default.ensures at c.pair_up.ensures.items)

pub returns-in_default-clause-slots : goal.returns-in_default-clause-slots
returns-in_default-clause-slots g c = nothing_held c.args.trees.chain (rw c.in_default.ensures at c.pair_up.ensures.items)

pub returns-clause-items : goal.returns-clause-items
returns-clause-items g c = IsPermutation-trans _ _ _ (rw c.in-Some.ensures at c.pair_up.ensures.items) c.gather.ensures.items

pub returns-clause-slots : goal.returns-clause-slots
returns-clause-slots g c = IsPermutation-trans _ _ _ (rw c.in-Some.ensures at c.pair_up.ensures.slots) c.gather.ensures.slots
