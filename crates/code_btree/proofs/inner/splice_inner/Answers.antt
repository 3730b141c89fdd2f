-- two splices and the count make the page
use Rattle.std.proofs.Common.{arith}
use Rattle.code_btree.proofs.Edits.{inner_edit, inner_edit_is}
use Rattle.code_btree.proofs.inner.splice_inner.Goals as goal

pub returns-clause-value : goal.returns-clause-value
returns-clause-value c = inner_edit c.args.page.now c.args.keys.now c.args.children.now c.splice.new.page c.splice-2.new.page c.put_half.new.page c.args.count c.args.from c.args.to c.args.first c.args.last c.splice.ensures c.splice-2.ensures c.put_half.ensures (omega arith) c.requires.inner c.requires.order c.requires.behind c.requires.first_order c.requires.last_behind c.requires.whole c.requires.children_whole c.requires.room c.requires.one_more

pub returns-clause-is : goal.returns-clause-is
returns-clause-is c = inner_edit_is c.args.page.now c.args.keys.now c.args.children.now c.put_half.new.page c.args.count c.args.from c.args.to c.args.first c.args.last c.requires.inner c.requires.order c.requires.behind c.requires.first_order c.requires.last_behind c.requires.room c.requires.one_more
    (inner_edit c.args.page.now c.args.keys.now c.args.children.now c.splice.new.page c.splice-2.new.page c.put_half.new.page c.args.count c.args.from c.args.to c.args.first c.args.last c.splice.ensures c.splice-2.ensures c.put_half.ensures (omega arith) c.requires.inner c.requires.order c.requires.behind c.requires.first_order c.requires.last_behind c.requires.whole c.requires.children_whole c.requires.room c.requires.one_more)
