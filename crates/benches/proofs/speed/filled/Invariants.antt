-- no command is open, and the tree is one
use Rattle.page_pool.specs.Pool.{IsClosed, IsTold}
use Rattle.code_btree.specs.Tree.{IsTree, pages_in}
use Rattle.benches.proofs.speed.filled.Given as goal

abbrev pub invariant-commands : goal.invariant-commands
invariant-commands l = record { closed : IsClosed l.pool; tree : IsTold l.pool → IsTree (pages_in l.pool) l.tree }
