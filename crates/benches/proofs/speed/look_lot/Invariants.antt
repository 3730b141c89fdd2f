-- the tree is one
use Rattle.page_pool.specs.Pool.{IsTold}
use Rattle.code_btree.specs.Tree.{IsTree, pages_in}
use Rattle.benches.proofs.speed.look_lot.Given as goal

abbrev pub invariant-keys : goal.invariant-keys
invariant-keys l = IsTold l.pool → IsTree (pages_in l.pool) l.tree
