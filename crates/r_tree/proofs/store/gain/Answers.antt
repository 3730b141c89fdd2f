-- a new page, written
use Rattle.code_btree.proofs.Stores.{gained}
use Rattle.r_tree.proofs.store.gain.Goals as goal

pub returns-clause-value : goal.returns-clause-value
returns-clause-value g c = gained c.args.pool.now c.allocate.new.self c.write.new.pool c.in_ok-n.n c.args.page.now c.in_ok-n.ensures.allocated c.in_ok-write.ensures.value
