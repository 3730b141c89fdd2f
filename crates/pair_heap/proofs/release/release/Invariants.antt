use Rattle.std.proofs.Common.{◌++◌, IsPermutation}
use Rattle.pair_heap.specs.Chain.{chain_places}
use Rattle.pair_heap.proofs.Measures.{weight}
use Rattle.pair_heap.proofs.release.release.Given as goal

-- each slot holds a node or is spare
abbrev pub invariant-nodes : goal.invariant-nodes
invariant-nodes g l = IsPermutation (chain_places l.fn.trees.chain ++ l.fn.spares.places) (chain_places l.rest.chain ++ l.all.places)

abbrev pub decreases-nodes : goal.decreases-nodes
decreases-nodes g l = weight l.rest.chain
