use Rattle.std.proofs.Common.{arith}
use Rattle.std.proofs.lemmas.List.Sorted.{length_permutation}
use Rattle.pair_heap.specs.Slab.{all_slots}
use Rattle.pair_heap.specs.Tree.{root_places}
use Rattle.pair_heap.proofs.SlotsStay.{slot_emptied}
use Rattle.pair_heap.proofs.heap.PairHeap.pop.Goals as goal

-- the root held an item
pub overflow_sub-self : goal.overflow_sub-self
overflow_sub-self g c = let long = length_permutation _ _ c.in-Some.ensures.items in omega (arith, c.self.invariant.count)

-- the slot held an item, so it was counted
pub overflow_add-self : goal.overflow_add-self
overflow_add-self g c = let long = length_permutation _ _ c.in-Some.ensures.items in omega (arith, c.self.invariant.count, c.self.invariant.fits)

-- one item fewer, one spare slot more
pub invariant_of-self-2 : goal.invariant_of-self-2
invariant_of-self-2 g c =
    let long = length_permutation _ _ c.in-Some.ensures.items in
    record {
      root = c.take_least.ensures.root;
      spares = rw c.put_spare.ensures (omega (arith, c.self.invariant.spares));
      slots = rw c.put_spare.ensures (slot_emptied c.in-Some.slot.ptr (root_places c.self.inside.root) c.self.inside.spares.places (all_slots c.self.inside.slabs.slots)
          (root_places c.take_least.new.root)
          c.self.invariant.slots c.in-Some.ensures.slots);
      count = omega (arith, c.self.invariant.count);
      fits = omega (arith, c.self.invariant.count, c.self.invariant.fits);
    }
