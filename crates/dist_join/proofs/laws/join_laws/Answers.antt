-- The law is a lemma.
use Rattle.dist_join.proofs.CountedPairs.{nothing_counted}
use Rattle.dist_join.proofs.laws.join_laws.Goals as goal

pub returns : goal.returns
returns c = nothing_counted
