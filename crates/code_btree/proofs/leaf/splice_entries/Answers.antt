-- the splice and the count make the leaf
use Rattle.std.proofs.Common.{arith}
use Rattle.code_btree.proofs.Edits.{leaf_edit, leaf_edit_is}
use Rattle.code_btree.proofs.leaf.splice_entries.Goals as goal

pub returns-clause-value : goal.returns-clause-value
returns-clause-value c = leaf_edit c.args.page.now c.args.bytes.now c.splice.new.page c.put_half.new.page c.args.count c.args.from c.args.to c.splice.ensures c.put_half.ensures
    (omega arith) c.requires.leaf c.requires.order c.requires.behind c.requires.whole c.requires.room

pub returns-clause-is : goal.returns-clause-is
returns-clause-is c = leaf_edit_is c.args.page.now c.args.bytes.now c.put_half.new.page c.args.count c.args.from c.args.to c.requires.leaf c.requires.order c.requires.behind c.requires.room
    (leaf_edit c.args.page.now c.args.bytes.now c.splice.new.page c.put_half.new.page c.args.count c.args.from c.args.to c.splice.ensures c.put_half.ensures
    (omega arith) c.requires.leaf c.requires.order c.requires.behind c.requires.whole c.requires.room)
