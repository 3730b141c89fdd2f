-- only the link changes
use Rattle.std.proofs.Common.{arith}
use Rattle.code_btree.proofs.Edits.{leaf_linked, leaf_is}
use Rattle.code_btree.proofs.leaf.set_next.Goals as goal

pub returns-clause-value : goal.returns-clause-value
returns-clause-value c = leaf_linked c.args.page.now c.put_word.new.page c.args.count c.args.next c.put_word.ensures (omega arith) (omega arith) c.requires

pub returns-clause-is : goal.returns-clause-is
returns-clause-is c = leaf_is c.put_word.new.page _ _ _
    (leaf_linked c.args.page.now c.put_word.new.page c.args.count c.args.next c.put_word.ensures (omega arith) (omega arith) c.requires) c.requires.counted c.requires.fits
