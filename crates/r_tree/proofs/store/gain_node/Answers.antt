-- the new page has the bytes of the node
use Rattle.code_btree.specs.Tree.{pages_in}
use Rattle.r_tree.proofs.Writes.{node_gained}
use Rattle.r_tree.proofs.store.gain_node.Goals as goal

pub returns-clause-value : goal.returns-clause-value
returns-clause-value g c = node_gained (pages_in c.args.pool.now) (pages_in c.gain.new.pool) c.in_ok-n.n c.node_page.result c.args.inner c.args.entries.now c.node_page.ensures c.in_ok-n.ensures.value
