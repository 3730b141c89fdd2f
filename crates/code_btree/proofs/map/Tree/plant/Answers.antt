-- one empty leaf
use Rattle.code_btree.specs.Tree.{pages_in}
use Rattle.code_btree.proofs.Roots.{planted}
use Rattle.code_btree.proofs.map.Tree.plant.Goals as goal

pub returns-clause-value : goal.returns-clause-value
returns-clause-value g c = λ told. planted (pages_in c.args.pool.now) (pages_in c.gain.new.pool) c.in_ok-root.root c.empty_leaf.result c.in_ok-root.ensures.value c.empty_leaf.ensures
