use Rattle.std.proofs.Common.{◌++◌, sym, ◌∙◌}
use Rattle.pair_heap.specs.Chain.{chain_places}
use Rattle.pair_heap.proofs.SlotsStay.{handed_on, child_raised}
use Rattle.pair_heap.proofs.release.release.Goals as goal

-- the parent's slot is spare
pub nodes-preserved-in-None-first-2 : goal.nodes-preserved-in-None-first-2
nodes-preserved-in-None-first-2 g c = rw (c.put-all.ensures, c.take-item.ensures.place)
    (handed_on c.in-Some.tree.ptr (chain_places c.args.trees.chain ++ c.args.spares.places) (chain_places c.in-Some.beside.chain) c.nodes.all.places
    (rw (c.in-Some.ensures, sym c.take-item.ensures.kids ∙ c.in-None.ensures) at c.nodes.invariant))

-- the first child moves up beside its parent
pub nodes-preserved : goal.nodes-preserved
nodes-preserved g c = rw (c.before-rest.ensures, c.before-in-Some-first.ensures, c.new.ensures.place, c.new.ensures.kids, c.take-item.ensures.place)
    (child_raised c.in-Some.tree.ptr c.in-Some-first.child.ptr (chain_places c.args.trees.chain ++ c.args.spares.places)
    (chain_places c.in-Some-first.child.kids) (chain_places c.in-Some-first.others.chain) (chain_places c.in-Some.beside.chain) c.nodes.all.places
    (rw (c.in-Some.ensures, sym c.take-item.ensures.kids ∙ c.in-Some-first.ensures) at c.nodes.invariant))
