use Rattle.pair_heap.proofs.RootTaken.{taken_items, taken_places, taken_least}
use Rattle.pair_heap.proofs.root.take_least.Goals as goal

pub returns-clause-items : goal.returns-clause-items
returns-clause-items g c = rw (← c.in-Some.ensures.value, c.replace-2.ensures.after, c.take-item.ensures.item)
    (taken_items c.in-Some.tree c.join.result (rw c.take-item.ensures.kids at c.join.ensures.items))

pub returns-clause-slots : goal.returns-clause-slots
returns-clause-slots g c = rw (← c.in-Some.ensures.value, c.replace-2.ensures.after, c.take-item.ensures.place)
    (taken_places c.in-Some.tree c.join.result (rw c.take-item.ensures.kids at c.join.ensures.slots))

-- the tree was in order
pub returns-clause-least : goal.returns-clause-least
returns-clause-least g c = rw (c.replace-2.ensures.after, c.take-item.ensures.item)
    (taken_least g.T.Ord.cmp c.in-Some.tree c.join.result (rw (← c.in-Some.ensures.value) at c.requires) (rw c.take-item.ensures.kids at c.join.ensures.items))
