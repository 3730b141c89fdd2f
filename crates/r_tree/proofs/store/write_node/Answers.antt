-- the page has the bytes of the node
use Rattle.code_btree.specs.Tree.{pages_in}
use Rattle.r_tree.proofs.Writes.{node_wrote}
use Rattle.r_tree.proofs.store.write_node.Goals as goal

pub returns-clause-value : goal.returns-clause-value
returns-clause-value g c = node_wrote (pages_in c.args.pool.now) (pages_in c.write.new.pool) c.args.n c.node_page.result c.args.inner c.args.entries.now c.node_page.ensures c.in_ok-write.ensures.value
