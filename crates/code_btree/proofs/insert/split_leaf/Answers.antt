-- the right half is gained, and the left half leads to it
use Rattle.code_btree.specs.Tree.{pages_in}
use Rattle.code_btree.proofs.Leaves.{leaf_split_done}
use Rattle.code_btree.proofs.insert.split_leaf.Goals as goal

pub returns-clause-value : goal.returns-clause-value
returns-clause-value g c = λ l. leaf_split_done (pages_in c.args.pool.now) (pages_in c.gain.new.pool)
    (pages_in c.write.new.pool) c.args.n c.in_ok-r.r _ _ c.cut_leaf-right.new.page c.cut_leaf-right.result c.set_next.new.page _ l
    c.in_ok-r.ensures.value c.in_ok-write.ensures.value c.set_next.ensures.value c.cut_leaf-right.ensures.right c.cut_leaf-right.ensures.next c.cut_leaf-right.ensures.halves c.entry_key_at.ensures
