-- the neighbours are one page, or there is another key between them
use Rattle.std.proofs.Common.{◌≡◌, ◌-◌, ℕ, refl, subst}
use Rattle.std.specs.Prelude.{Option, None, Some}
use Rattle.code_btree.specs.Tree.{Store, pages_in, least}
use Rattle.code_btree.specs.Removals.{Neighbours, Balances}
use Rattle.code_btree.proofs.Removes.{mend_done}
use Rattle.code_btree.proofs.remove.mend.Goals as goal

none_some : (k : ℕ) → None ≡ Some k → ⊥
none_some k e = cc

some_none : (k : ℕ) → Some k ≡ None → ⊥
some_none k e = cc

pub returns-in_default-clause-value : goal.returns-in_default-clause-value
returns-in_default-clause-value g c = λ told.
    let m : Store = pages_in c.args.pool.now in
    let mid : Store = pages_in c.balance.new.pool in
    let B : Option ℕ → Type 0 = λ x. c.key_at.result ≡ least m c.args.level c.child_at-right.result → Neighbours m c.args.level c.child_at-left.result c.child_at-right.result
    → Balances m mid c.args.level c.child_at-left.result c.child_at-right.result x in
    mend_done m mid (pages_in c.write.new.pool) c.args.level c.args.n c.args.j c.args.count
    (c.args.count - 1) c.child_at-left.result c.child_at-right.result c.key_at.result c.args.page.now c.splice_inner.new.page None c.requires.inner c.if-j-count.false c.child_at-left.ensures c.child_at-right.ensures c.key_at.ensures
    (subst B c.in_default.is (c.in_ok-up.ensures.value told)) c.splice_inner.ensures.value c.in_ok-write.ensures.value (λ _. refl) (λ k e. absurd (none_some k e))

pub returns-clause-value : goal.returns-clause-value
returns-clause-value g c = λ told.
    let m : Store = pages_in c.args.pool.now in
    let mid : Store = pages_in c.balance.new.pool in
    let B : Option ℕ → Type 0 = λ x. c.key_at.result ≡ least m c.args.level c.child_at-right.result → Neighbours m c.args.level c.child_at-left.result c.child_at-right.result
    → Balances m mid c.args.level c.child_at-left.result c.child_at-right.result x in
    mend_done m mid (pages_in c.write-2.new.pool) c.args.level c.args.n c.args.j c.args.count c.args.count c.child_at-left.result c.child_at-right.result c.key_at.result c.args.page.now c.set_key.new.page (Some c.in-Some.up) c.requires.inner c.if-j-count.false c.child_at-left.ensures c.child_at-right.ensures c.key_at.ensures
    (subst B c.in-Some.is (c.in_ok-up.ensures.value told)) c.set_key.ensures.value c.in_ok-write-2.ensures.value (λ e. absurd (some_none c.in-Some.up e)) (λ k e. refl)
