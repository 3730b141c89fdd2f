-- a look-up leaves the tree as it is
use Rattle.benches.proofs.Kept.{kept}
use Rattle.benches.proofs.twins.call.Goals as goal

pub returns-clause-tree : goal.returns-clause-tree
returns-clause-tree c = λ told. kept c.args.pool.now c.get.new.pages c.args.tree.now c.in_ok-found.ensures.looks.read c.requires.tree told
