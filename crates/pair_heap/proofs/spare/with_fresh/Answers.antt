use Rattle.std.proofs.Common.{◌++◌, arith}
use Rattle.pair_heap.proofs.SlotsStay.{handed_on}
use Rattle.pair_heap.proofs.spare.with_fresh.Goals as goal

-- the first slot of those to come is put on the chain
pub slots-preserved : goal.slots-preserved
slots-preserved g c = record {
  count = omega (arith, rw c.first-slot.ensures at c.slots.invariant.count);
  kept = rw c.put-all.ensures (handed_on c.first-slot.result.0.ptr (c.args.fresh.places ++ c.args.spares.places) c.first-slot.result.1.places c.slots.all.places
      (rw c.first-slot.ensures at c.slots.invariant.kept));
}
