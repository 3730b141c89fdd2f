-- the key isn't there, or its entry is taken
use Rattle.std.proofs.Common.{◌≡◌, ◌+◌, ◌-◌, ◌/◌, ℕ, subst, arith}
use Rattle.code_btree.specs.Node.{IsLeafOf}
use Rattle.code_btree.specs.Tree.{pages_in}
use Rattle.code_btree.proofs.Stores.{same_store}
use Rattle.code_btree.proofs.Removes.{leaf_lacks, leaf_taken}
use Rattle.code_btree.proofs.remove.remove_leaf.Goals as goal

pub returns-in_default-value_found-clause-value : goal.returns-in_default-value_found-clause-value
returns-in_default-value_found-clause-value g c =
    λ told. leaf_lacks (pages_in c.read.new.pool) (pages_in c.args.pool.now) c.args.n c.args.key c.in-Some.count c.rank-at.result c.read.new.into c.is_short-short.result
    (same_store c.read.new.pool c.args.pool.now c.read.ensures.same) (c.in_ok-read.ensures.value told)
    (c.requires.tree told) c.in-Some.ensures c.rank-at.ensures.bound c.rank-at.ensures.before c.rank-at.ensures.behind c.in_default-value_found.ensures c.is_short-short.ensures

pub returns-clause-value : goal.returns-clause-value
returns-clause-value g c = λ told.
    let P : ℕ → Type 0 = λ x. IsLeafOf c.splice_entries.new.page x in
    let e : c.rank-at.result + (0 / 32 + (c.in-Some.count - (c.rank-at.result + 1))) ≡ c.in-Some.count - 1 = omega (arith, c.in-Some-value_found.ensures.0) in
    leaf_taken (pages_in c.read.new.pool) (pages_in c.args.pool.now)
    (pages_in c.write.new.pool) c.args.n c.args.key c.in-Some.count c.rank-at.result c.in-Some-value_found.was c.read.new.into c.splice_entries.new.page c.first_left-least.result c.is_short-short-2.result
    (same_store c.read.new.pool c.args.pool.now c.read.ensures.same) (c.in_ok-read.ensures.value told)
    (c.requires.tree told) c.in-Some.ensures c.rank-at.ensures.bound c.rank-at.ensures.before c.in-Some-value_found.ensures c.splice_entries.ensures.value
    (subst P e c.splice_entries.ensures.is) c.in_ok-write.ensures.value
    c.first_left-least.ensures.first c.first_left-least.ensures.behind c.is_short-short-2.ensures
