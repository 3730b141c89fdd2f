-- the command is open, and the tree is one
use Rattle.page_pool.specs.Pool.{IsOpen, IsTold}
use Rattle.code_btree.specs.Tree.{IsTree, pages_in}
use Rattle.benches.proofs.twins.emptied.Given as goal

abbrev pub invariant-puts : goal.invariant-puts
invariant-puts l = record { opened : IsOpen l.pool; tree : IsTold l.pool → IsTree (pages_in l.pool) l.tree }

abbrev pub invariant-takes : goal.invariant-takes
invariant-takes l = record { opened : IsOpen l.pool; tree : IsTold l.pool → IsTree (pages_in l.pool) l.tree }
