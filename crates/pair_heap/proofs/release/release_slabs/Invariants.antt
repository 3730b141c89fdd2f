use Rattle.pair_heap.proofs.release.release_slabs.Given as goal

abbrev pub decreases-blocks-2 : goal.decreases-blocks-2
decreases-blocks-2 g l = l.rest.count
