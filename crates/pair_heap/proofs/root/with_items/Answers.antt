use Rattle.std.proofs.Common.{◌++◌, arith}
use Rattle.std.proofs.lemmas.List.Elements.{All-nil}
use Rattle.pair_heap.specs.Chain.{items, chain_places}
use Rattle.pair_heap.proofs.SlotsStay.{slot_taken}
use Rattle.pair_heap.proofs.MeldsKeepItems.{handed_over}
use Rattle.pair_heap.proofs.root.with_items.Goals as goal

-- the last item of the list is a tree before the others, in the first spare slot
pub items-preserved : goal.items-preserved
items-preserved g c = record {
  heap = rw (c.before-all.ensures, c.new.ensures.kids, c.end.ensures) (All-nil _, tt, c.items.invariant.heap);
  kept = rw (c.before-all.ensures, c.new.ensures.item, c.new.ensures.kids, c.end.ensures)
      (handed_over c.in-Some.item (c.args.added.now.items ++ items c.args.trees.chain) c.pop.new.self.items (items c.items.all.chain)
      (rw c.in-Some.ensures.items at c.items.invariant.kept));
  slots = rw (c.before-all.ensures, c.new.ensures.place, c.new.ensures.kids, c.end.ensures)
      (slot_taken c.in-Some-take_spare.slot.ptr (chain_places c.args.trees.chain ++ c.args.spares.now.places) (chain_places c.items.all.chain) c.take_spare.new.spares.places
      (rw c.in-Some-take_spare.ensures at c.items.invariant.slots));
  room = omega (arith, c.in-Some.ensures.len, rw c.in-Some-take_spare.ensures at c.items.invariant.room);
}
