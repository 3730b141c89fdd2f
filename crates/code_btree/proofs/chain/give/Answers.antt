-- the entry at the place, and the place behind it or the next leaf
use Rattle.std.proofs.Common.{arith}
use Rattle.code_btree.proofs.Chains.{gives_inside, gives_last}
use Rattle.code_btree.proofs.chain.give.Goals as goal

pub returns-then-at-count-2 : goal.returns-then-at-count-2
returns-then-at-count-2 c = λ is. gives_inside c.args.page.now c.args.n c.args.count c.args.at c.entry_key_at.result c.entry_value_at.result is
    (omega arith) c.entry_key_at.ensures c.entry_value_at.ensures

pub returns : goal.returns
returns c = λ is. gives_last c.args.page.now c.args.n c.next_at-next.result c.args.count c.args.at c.entry_key_at.result c.entry_value_at.result is
    (c.next_at-next.ensures is.is_leaf) c.if-at-count.false c.if-at-count-2.false c.entry_key_at.ensures c.entry_value_at.ensures
