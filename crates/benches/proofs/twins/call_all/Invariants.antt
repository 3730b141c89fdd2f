-- the command is open, and the tree is one
use Rattle.page_pool.specs.Pool.{IsOpen, IsTold}
use Rattle.code_btree.specs.Tree.{IsTree, pages_in}
use Rattle.benches.proofs.twins.call_all.Given as goal

abbrev pub invariant-calls : goal.invariant-calls
invariant-calls l = record { opened : IsOpen l.pool; tree : IsTold l.pool → IsTree (pages_in l.pool) l.tree }
