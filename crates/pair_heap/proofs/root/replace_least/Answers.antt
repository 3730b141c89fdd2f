use Rattle.pair_heap.specs.Chain.{items, chain_places}
use Rattle.pair_heap.specs.Tree.{root_items, root_places}
use Rattle.pair_heap.proofs.MeldsKeepItems.{exchanged}
use Rattle.pair_heap.proofs.RootTaken.{joined_items, joined_places}
use Rattle.pair_heap.proofs.SlotsStay.{slots_exchanged}
use Rattle.pair_heap.proofs.root.replace_least.Goals as goal

-- the root's item is gone, and the added ones are among those that were below it
pub returns-clause-items : goal.returns-clause-items
returns-clause-items g c = rw (← c.in-Some.ensures.value, c.replace-2.ensures.after, c.take-item.ensures.item)
    (exchanged c.in-Some.tree.item c.args.added.now.items (items c.in-Some.tree.kids) (items c.with_items.result.chain) (root_items c.join.result)
    (rw c.take-item.ensures.kids at c.with_items.ensures.items) (joined_items c.with_items.result.chain c.join.result c.join.ensures.items))

-- its slot was spare before the added items took theirs
pub returns-clause-slots : goal.returns-clause-slots
returns-clause-slots g c = rw (← c.in-Some.ensures.value, c.replace-2.ensures.after)
    (slots_exchanged c.in-Some.tree.ptr (chain_places c.in-Some.tree.kids) c.args.spares.now.places (chain_places c.with_items.result.chain) c.with_items.new.spares.places (root_places c.join.result)
    (rw (c.take-item.ensures.kids, c.put_spare.ensures, c.take-item.ensures.place) at c.with_items.ensures.slots) (joined_places c.with_items.result.chain c.join.result c.join.ensures.slots))
