-- the tree is one
use Rattle.page_pool.specs.Pool.{IsTold}
use Rattle.code_btree.specs.Tree.{IsTree, pages_in}
use Rattle.benches.proofs.speed.looked_up.Given as goal

abbrev pub invariant-rounds : goal.invariant-rounds
invariant-rounds l = IsTold l.pool → IsTree (pages_in l.pool) l.tree
