-- the member is there, so it is found; the root stays, or gives way to its child
use Rattle.std.proofs.Common.{◌≡◌, ◌-◌, ◌≤◌, ◌∷◌, [], ℕ, suc, refl, sym, ◌∙◌, subst, arith}
use Rattle.std.specs.Prelude.{Option}
use Rattle.code_btree.specs.Tree.{Store, pages_in}
use Rattle.code_btree.specs.Steps.{Freed}
use Rattle.code_btree.proofs.Stores.{same_store}
use Rattle.r_tree.specs.declared.remove.Shrunk.{Shrunk}
use Rattle.r_tree.specs.Entry.{Member}
use Rattle.r_tree.specs.Tree.{IsRootAt, tree_members, members_under, pages_under}
use Rattle.r_tree.specs.Steps.{TakesUnder, RemovesUnder}
use Rattle.r_tree.proofs.Roots.{Rooted, removed_stays, removed_falls}
use Rattle.r_tree.proofs.Wholes.{removes_of, listed_not_lacking}
use Rattle.r_tree.proofs.tree.RTree.remove.Goals as goal

pub returns-in_default-clause-value : goal.returns-in_default-clause-value
returns-in_default-clause-value g c = λ told.
    let m : Store = pages_in c.args.pool.now in
    let t = c.args.self.now in
    let T : Option Shrunk → Type 0 = λ x. TakesUnder m (pages_in c.remove_under.new.pool) (t.height - 1) t.root (c.args.id, c.args.rough) x in
    absurd (listed_not_lacking m (t.height - 1) t.root c.args.id c.args.rough (tree_members m t) (c.requires.listed told) (subst T c.in_default.is (c.in_ok-shrunk.ensures.value told)))

pub returns-then-not-falls-clause-value : goal.returns-then-not-falls-clause-value
returns-then-not-falls-clause-value g c = λ told.
    let m : Store = pages_in c.args.pool.now in
    let w : Store = pages_in c.remove_under.new.pool in
    let t = c.args.self.now in
    let i : Member = (c.args.id, c.args.rough) in
    let T : Option Shrunk → Type 0 = λ x. TakesUnder m w (t.height - 1) t.root i x in
    removes_of m w t _ c.args.id c.args.rough (c.requires.tree told) (c.requires.tree told).tall refl
    (removed_stays m w (t.height - 1) t.root t.bound i c.in-Some.shrunk (c.requires.tree told).at (c.falls.ensures.low c.if-not-falls.true) (subst T c.in-Some.is (c.in_ok-shrunk.ensures.value told)))

pub returns-clause-value : goal.returns-clause-value
returns-clause-value g c = λ told.
    let m : Store = pages_in c.args.pool.now in
    let u : Store = pages_in c.remove_under.new.pool in
    let v : Store = pages_in c.lone_child.new.pool in
    let w : Store = pages_in c.release.new.pool in
    let t = c.args.self.now in
    let h : ℕ = t.height - 1 - 1 in
    let i : Member = (c.args.id, c.args.rough) in
    let T : Option Shrunk → Type 0 = λ x. TakesUnder m u (t.height - 1) t.root i x in
    let high : 2 ≤ t.height = c.falls.ensures.high c.if-not-falls.false in
    let level : t.height - 1 ≡ suc h = omega (arith, high) in
    let same : v ≡ u = same_store c.lone_child.new.pool c.remove_under.new.pool c.lone_child.ensures.same in
    let is = c.requires.tree told in
    let I : ℕ → Type 0 = λ x. IsRootAt m x t.root t.bound in
    let U : ℕ → Type 0 = λ x. RemovesUnder m u x t.root i c.in-Some.shrunk in
    let F : Store → Type 0 = λ x. Freed x w t.root in
    let R : ℕ → Type 0 = λ x. Rooted m w h c.in_ok-child.child c.in-Some.shrunk.bound (pages_under m x t.root) (members_under m x t.root) (i ∷ []) [] in
    removes_of m w t _ c.args.id c.args.rough is (omega (arith, high)) refl
    (subst R (sym level) (removed_falls m u w h t.root c.in_ok-child.child t.bound i c.in-Some.shrunk (subst I level is.at) (subst U level (subst T c.in-Some.is (c.in_ok-shrunk.ensures.value told)))
    (c.in_ok-child.ensures.value (c.in_ok-shrunk.ensures.within.told ∙ told)) (subst F same c.in_ok-release.ensures.value)))
