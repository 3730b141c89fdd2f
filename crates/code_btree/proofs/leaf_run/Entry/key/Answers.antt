-- the key is the first half of the entry's bytes
use Rattle.code_btree.specs.Node.{entry_of}
use Rattle.code_btree.proofs.leaf_run.Entry.key.Goals as goal

pub returns : goal.returns
unfolding entry_of
returns c = c.number_at.ensures
