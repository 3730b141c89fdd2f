-- The two vertices are the ends of the term of the list of edges.
use Rattle.std.proofs.Common.{refl, arith}
use Rattle.ring_geom.proofs.edges.edge.Goals as goal
use Rattle.ring_geom.proofs.EdgeLemmas.{first_edge, later_edge}

-- before the first vertex stands the last
pub returns-then-i-eq0-clause-at : goal.returns-then-i-eq0-clause-at
returns-then-i-eq0-clause-at c =
    first_edge c.args.corners.now _ _ (record { x = 0; y = 0 }) c.args.i _ (omega arith) (omega arith) refl refl

-- before each other the one with the number before
pub returns-else-i-eq0-clause-at : goal.returns-else-i-eq0-clause-at
returns-else-i-eq0-clause-at c =
    later_edge c.args.corners.now _ _ (record { x = 0; y = 0 }) c.args.i (omega arith) c.requires.there refl refl
