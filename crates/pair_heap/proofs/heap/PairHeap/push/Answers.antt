use Rattle.std.proofs.Common.{ap, arith}
use Rattle.std.proofs.lemmas.List.Sorted.{length_permutation}
use Rattle.pair_heap.specs.Tree.{root_items, root_places}
use Rattle.pair_heap.specs.Slab.{all_slots}
use Rattle.pair_heap.proofs.SlotsStay.{slot_filled}
use Rattle.pair_heap.proofs.MeldsKeepItems.{pushed}
use Rattle.pair_heap.proofs.heap.PairHeap.push.Goals as goal

-- one spare slot fewer, one item more
pub invariant_of-self : goal.invariant_of-self
invariant_of-self g c =
    let long = length_permutation _ _ (pushed c.args.item (root_items c.self.inside.root) (root_items c.meld_in.new.root)
    (rw (c.new.ensures.item, c.new.ensures.kids, c.end.ensures) at c.meld_in.ensures.items)) in
    record {
      root = c.meld_in.ensures.root;
      spares = omega (arith, rw c.in-Some.ensures at c.self.invariant.spares);
      slots = slot_filled c.in-Some.slot.ptr (root_places c.self.inside.root) c.take_spare.new.spares.places (all_slots c.self.inside.slabs.slots) (root_places c.meld_in.new.root)
          (rw c.in-Some.ensures at c.self.invariant.slots) (rw (c.new.ensures.place, c.new.ensures.kids, c.end.ensures) at c.meld_in.ensures.slots);
      count = omega (arith, c.self.invariant.count);
      fits = omega (arith, c.self.invariant.fits, rw c.in-Some.ensures at c.self.invariant.spares);
    }

pub returns-clause-items : goal.returns-clause-items
returns-clause-items g c = rw (← ap (λ q. q.items) c.self.view_is)
    (pushed c.args.item (root_items c.self.inside.root) (root_items c.meld_in.new.root) (rw (c.new.ensures.item, c.new.ensures.kids, c.end.ensures) at c.meld_in.ensures.items))
