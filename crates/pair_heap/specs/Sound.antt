-- What holds of a pairing heap's fields.
use Rattle.std.specs.Prelude.{◌≡◌, ◌+◌, ◌<◌, ◌^◌, ◌++◌, length, IsPermutation}
use Rattle.std.specs.declared.cmp.Ordering.{Ordering}
use Rattle.pair_heap.specs.declared.heap.PairHeap.TheInside.{Inside}
use Rattle.pair_heap.specs.Slab.{all_slots}
use Rattle.pair_heap.specs.Tree.{root_items, root_places, IsRoot}

-- The only tree is in order, the two numbers count the items and the spare slots, no count of nodes overflows, and each slot of a slab holds a node or is spare.
pub record IsSoundHeap {X : Type 0} (cmp : X → X → Ordering) (heap : Inside X) : Type 0 where
  pub root : IsRoot cmp heap.root
  pub spares : length heap.spares.places ≡ heap.spare
  pub count : heap.len ≡ length (root_items heap.root)
  pub fits : heap.len + heap.spare < 2 ^ 64
  pub slots : IsPermutation (root_places heap.root ++ heap.spares.places) (all_slots heap.slabs.slots)
