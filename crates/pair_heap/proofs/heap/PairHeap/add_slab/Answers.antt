use Rattle.std.proofs.Common.{◌++◌, length-append, arith}
use Rattle.std.proofs.lemmas.List.Sorted.{length_permutation}
use Rattle.pair_heap.specs.Slab.{all_slots}
use Rattle.pair_heap.specs.Tree.{root_places}
use Rattle.pair_heap.proofs.SlotsStay.{slab_added}
use Rattle.pair_heap.proofs.heap.PairHeap.add_slab.Goals as goal

-- so many more spare slots, which are the new slab's
pub invariant_of-self : goal.invariant_of-self
invariant_of-self g c =
    let long = length_permutation (c.put_slab-fresh.result.places ++ c.self.inside.spares.places) c.put_fresh.new.spares.places c.put_fresh.ensures in
    let both = length-append c.put_slab-fresh.result.places c.self.inside.spares.places in
    record {
      root = c.self.invariant.root;
      spares = omega (arith, c.self.invariant.spares, c.put_slab-fresh.ensures.count);
      count = c.self.invariant.count;
      fits = omega (arith, c.self.invariant.fits, c.if-self-lt-SLAB_NODES.false);
      slots = rw c.put_slab-fresh.ensures.slots
          (slab_added (root_places c.self.inside.root) c.self.inside.spares.places (all_slots c.self.inside.slabs.slots) c.put_slab-fresh.result.places c.put_fresh.new.spares.places
          c.self.invariant.slots c.put_fresh.ensures);
    }
