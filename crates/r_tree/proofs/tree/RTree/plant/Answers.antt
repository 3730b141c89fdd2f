-- a leaf of no entries is an empty tree
use Rattle.std.proofs.Common.{[], refl, arith}
use Rattle.code_btree.specs.Tree.{pages_in}
use Rattle.r_tree.proofs.Roots.{planted}
use Rattle.r_tree.proofs.Wholes.{plants_of}
use Rattle.r_tree.proofs.tree.RTree.plant.Goals as goal

pub returns-clause-value : goal.returns-clause-value
returns-clause-value g c = λ told. plants_of (pages_in c.args.pool.now) (pages_in c.gain_node.new.pool) _ c.args.number [] (omega arith) refl
    (planted (pages_in c.args.pool.now) (pages_in c.gain_node.new.pool) c.in_ok-root.root c.in_ok-root.ensures.value)
