-- the neighbours became one
use Rattle.std.proofs.Common.{◌≡◌, ◌-◌, ◌∙◌}
use Rattle.code_btree.specs.Tree.{Store, pages_in}
use Rattle.code_btree.proofs.Stores.{same_store}
use Rattle.code_btree.proofs.Packs.{packed}
use Rattle.code_btree.proofs.insert.pack.Goals as goal

pub returns-clause-value : goal.returns-clause-value
returns-clause-value g c = λ told.
    let m : Store = pages_in c.args.pool.now in
    let seen : pages_in c.fit_in_one.new.pool ≡ m = same_store c.fit_in_one.new.pool c.read.new.pool c.fit_in_one.ensures.same ∙ same_store c.read.new.pool c.args.pool.now c.read.ensures.same in
    packed (pages_in c.fit_in_one.new.pool) m (pages_in c.mend.new.pool) 0 c.args.n (c.args.at - 1) c.in-Some.count _ c.read.new.into seen
    (c.in_ok-read.ensures.value told) (c.requires.tree told) c.in-Some.ensures
    (c.in_ok-mend.ensures.value (c.fit_in_one.ensures.within.told ∙ (c.read.ensures.within.told ∙ told)))
