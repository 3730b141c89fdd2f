-- a page with no key has one child
use Rattle.code_btree.specs.Tree.{pages_in}
use Rattle.code_btree.proofs.Falls.{falls_lone}
use Rattle.code_btree.proofs.remove.fallen.Goals as goal

pub returns-clause-value : goal.returns-clause-value
returns-clause-value g c = λ told. falls_lone (pages_in c.args.pool.now) c.args.height c.args.root c.in-Some.count c.child_at.result c.args.short c.read.new.into
    (c.in_ok-read.ensures.value told) c.in-Some.ensures c.if-count-gt0.false c.if-height-lt2.false c.child_at.ensures
