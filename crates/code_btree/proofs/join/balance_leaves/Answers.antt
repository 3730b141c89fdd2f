-- the two are one page, or one entry was moved
use Rattle.std.proofs.Common.{◌∙◌}
use Rattle.code_btree.specs.Tree.{pages_in}
use Rattle.code_btree.proofs.Stores.{same_store}
use Rattle.code_btree.proofs.Evens.{leaves_evened, leaves_joined}
use Rattle.code_btree.proofs.join.balance_leaves.Goals as goal

pub returns-then-count-more-le127-clause-value : goal.returns-then-count-more-le127-clause-value
returns-then-count-more-le127-clause-value g c = λ told nb.
    let e = same_store c.read.new.pool c.args.pool.now c.read.ensures.same in
    leaves_joined (pages_in c.args.pool.now) (pages_in c.read.new.pool) (pages_in c.read-2.new.pool) (pages_in c.write.new.pool)
    (pages_in c.release.new.pool) c.args.a c.args.b c.in-Some.count c.in-Some-leaf_count.more c.read.new.into c.read-2.new.into c.join_leaves.new.page
    e (same_store c.read-2.new.pool c.read.new.pool c.read-2.ensures.same ∙ e) (c.in_ok-read.ensures.value told)
    (c.in_ok-read-2.ensures.value (c.read.ensures.within.told
    ∙ told)) c.in-Some.ensures c.in-Some-leaf_count.ensures c.if-count-more-le127.true c.join_leaves.ensures c.in_ok-write.ensures.value c.in_ok-release.ensures.value nb

pub returns-clause-value : goal.returns-clause-value
returns-clause-value g c = λ told nb.
    let e = same_store c.read.new.pool c.args.pool.now c.read.ensures.same in
    leaves_evened (pages_in c.args.pool.now) (pages_in c.read.new.pool) (pages_in c.read-2.new.pool) (pages_in c.write-2.new.pool)
    (pages_in c.write-3.new.pool) c.args.a c.args.b c.in-Some.count c.in-Some-leaf_count.more c.entry_key_at.result c.read.new.into c.read-2.new.into c.even_leaves.new.page c.even_leaves.new.right
    e (same_store c.read-2.new.pool c.read.new.pool c.read-2.ensures.same ∙ e) (c.in_ok-read.ensures.value told)
    (c.in_ok-read-2.ensures.value (c.read.ensures.within.told
    ∙ told)) c.in-Some.ensures c.in-Some-leaf_count.ensures c.even_leaves.ensures.halves c.even_leaves.ensures.leaf c.even_leaves.ensures.right_leaf c.in_ok-write-2.ensures.value c.in_ok-write-3.ensures.value c.entry_key_at.ensures nb
