-- the two are one page, or one child was moved
use Rattle.std.proofs.Common.{◌∙◌}
use Rattle.code_btree.specs.Tree.{pages_in}
use Rattle.code_btree.proofs.Stores.{same_store}
use Rattle.code_btree.proofs.Evens.{inners_evened, inners_joined}
use Rattle.code_btree.proofs.join.balance_inners.Goals as goal

pub returns-then-count-more-le168-clause-value : goal.returns-then-count-more-le168-clause-value
returns-then-count-more-le168-clause-value g c = λ told h ek nb.
    let e = same_store c.read.new.pool c.args.pool.now c.read.ensures.same in
    inners_joined (pages_in c.args.pool.now) (pages_in c.read.new.pool) (pages_in c.read-2.new.pool) (pages_in c.write.new.pool)
    (pages_in c.release.new.pool) h c.args.a c.args.b c.in-Some.count c.in-Some-inner_count.more c.args.key c.read.new.into c.read-2.new.into c.join_inners.new.page
    e (same_store c.read-2.new.pool c.read.new.pool c.read-2.ensures.same ∙ e) (c.in_ok-read.ensures.value told)
    (c.in_ok-read-2.ensures.value (c.read.ensures.within.told
    ∙ told)) c.in-Some.ensures c.in-Some-inner_count.ensures c.if-count-more-le168.true c.join_inners.ensures c.in_ok-write.ensures.value c.in_ok-release.ensures.value ek nb

pub returns-clause-value : goal.returns-clause-value
returns-clause-value g c = λ told h ek nb.
    let e = same_store c.read.new.pool c.args.pool.now c.read.ensures.same in
    inners_evened (pages_in c.args.pool.now) (pages_in c.read.new.pool) (pages_in c.read-2.new.pool) (pages_in c.write-2.new.pool)
    (pages_in c.write-3.new.pool) h c.args.a c.args.b c.in-Some.count c.in-Some-inner_count.more c.args.key c.even_inners-up.result c.read.new.into c.read-2.new.into c.even_inners-up.new.page c.even_inners-up.new.right
    e (same_store c.read-2.new.pool c.read.new.pool c.read-2.ensures.same ∙ e) (c.in_ok-read.ensures.value told)
    (c.in_ok-read-2.ensures.value (c.read.ensures.within.told
    ∙ told)) c.in-Some.ensures c.in-Some-inner_count.ensures c.even_inners-up.ensures.halves c.even_inners-up.ensures.inner c.even_inners-up.ensures.right_inner c.in_ok-write-2.ensures.value c.in_ok-write-3.ensures.value ek nb
