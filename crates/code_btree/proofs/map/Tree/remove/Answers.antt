-- the root stays, or its only child is the new root
use Rattle.std.proofs.Common.{◌∙◌, ℕ, subst}
use Rattle.std.specs.Prelude.{Option}
use Rattle.code_btree.specs.Tree.{Store, pages_in}
use Rattle.code_btree.specs.Removals.{FallsTo}
use Rattle.code_btree.proofs.Stores.{same_store}
use Rattle.code_btree.proofs.Falls.{remove_stays, remove_falls}
use Rattle.code_btree.proofs.map.Tree.remove.Goals as goal

pub returns-in_default-2-clause-value : goal.returns-in_default-2-clause-value
returns-in_default-2-clause-value g c = λ told.
    let w : Store = pages_in c.remove_under.new.pool in
    let F : Option ℕ → Type 0 = λ x. FallsTo w c.args.self.now.height c.args.self.now.root c.in_ok-gone.gone.short x in
    remove_stays (pages_in c.args.pool.now) w (pages_in c.fallen.new.pool) c.args.self.now c.args.key c.in-Some.entries c.in_ok-gone.gone
    (same_store c.fallen.new.pool c.remove_under.new.pool c.fallen.ensures.same) (c.requires.tree told) (c.in_ok-gone.ensures.value told) c.in-Some.ensures
    (subst F c.in_default-2.is (c.in_ok-child.ensures.value (c.in_ok-gone.ensures.within.told ∙ told)))

pub returns-clause-value : goal.returns-clause-value
returns-clause-value g c = λ told.
    let w : Store = pages_in c.remove_under.new.pool in
    let F : Option ℕ → Type 0 = λ x. FallsTo w c.args.self.now.height c.args.self.now.root c.in_ok-gone.gone.short x in
    remove_falls (pages_in c.args.pool.now) w (pages_in c.fallen.new.pool)
    (pages_in c.release.new.pool) c.args.self.now c.args.key c.in-Some.entries c.in-Some-2.child c.in_ok-gone.gone
    (same_store c.fallen.new.pool c.remove_under.new.pool c.fallen.ensures.same) (c.requires.tree told) (c.in_ok-gone.ensures.value told) c.in-Some.ensures
    (subst F c.in-Some-2.is (c.in_ok-child.ensures.value (c.in_ok-gone.ensures.within.told ∙ told))) c.in_ok-release.ensures.value
