-- the child has the key's pair, where there is one
use Rattle.std.proofs.Common.{◌≡◌, ◌-◌, ℕ, suc, sym, ◌∙◌, ap, subst, arith}
use Rattle.std.proofs.lemmas.Result.{IfOk-weaker}
use Rattle.std.specs.Prelude.{Option}
use Rattle.page_pool.specs.Pool.{IsTold}
use Rattle.code_btree.specs.Items.{floor_item}
use Rattle.code_btree.specs.Tree.{Store, items, pages_in}
use Rattle.code_btree.specs.Steps.{Subtree, LeadsTo}
use Rattle.code_btree.proofs.Stores.{same_store}
use Rattle.code_btree.proofs.Floors.{floor_led, floor_in}
use Rattle.code_btree.proofs.look.+floor_under.Goals as goal

pub floor_under-requires : goal.floor_under-requires
floor_under-requires g t c κs within = (omega arith, (within, (λ told. tree (sym c.in_ok-child.ensures.looks.read.told ∙ told))))
  where
    tree : IsTold (g.P.Pages.shown c.args.pages.now) → Subtree (pages_in (g.P.Pages.shown c.child_for.new.pages)) (c.args.level - 1) c.in-Some.child
    tree told =
        let m : Store = pages_in (g.P.Pages.shown c.args.pages.now) in
        let l : c.args.level ≡ suc (c.args.level - 1) = omega arith in
        let S : ℕ → Type 0 = λ x. Subtree m x c.args.n in
        let C : Option ℕ → Type 0 = λ x. LeadsTo m c.args.n c.args.key x in
        let M : Store → Type 0 = λ x. Subtree x (c.args.level - 1) c.in-Some.child in
        let d = floor_led m (c.args.level - 1) c.args.n c.args.key c.in-Some.child (subst S l (c.requires told)) (subst C c.in-Some.is (c.in_ok-child.ensures.value told)) in
        subst M (sym (same_store (g.P.Pages.shown c.child_for.new.pages) (g.P.Pages.shown c.args.pages.now) c.in_ok-child.ensures.looks.read.pages)) d.child

pub returns-then-level-eq0-clause-value : goal.returns-then-level-eq0-clause-value
returns-then-level-eq0-clause-value g t c =
    let m : Store = pages_in (g.P.Pages.shown c.args.pages.now) in
    let S : ℕ → Type 0 = λ x. Subtree m x c.args.n in
    IfOk-weaker c.floor_in_leaf.result _ _
    (λ found leaf told. floor_in m c.args.n c.args.key found (subst S c.if-level-eq0.true (c.requires told)) (leaf told)
    ∙ ap (λ (x : ℕ). floor_item c.args.key (items m x c.args.n)) (sym c.if-level-eq0.true))
    c.floor_in_leaf.ensures.value

pub returns-clause-value : goal.returns-clause-value
returns-clause-value g t c =
    let m : Store = pages_in (g.P.Pages.shown c.args.pages.now) in
    let l : c.args.level ≡ suc (c.args.level - 1) = omega arith in
    let S : ℕ → Type 0 = λ x. Subtree m x c.args.n in
    let C : Option ℕ → Type 0 = λ x. LeadsTo m c.args.n c.args.key x in
    let e = same_store (g.P.Pages.shown c.child_for.new.pages) (g.P.Pages.shown c.args.pages.now) c.in_ok-child.ensures.looks.read.pages in
    IfOk-weaker c.floor_under.result _ _
    (λ found under told.
    let d = floor_led m (c.args.level - 1) c.args.n c.args.key c.in-Some.child (subst S l (c.requires told)) (subst C c.in-Some.is (c.in_ok-child.ensures.value told)) in
    under (c.in_ok-child.ensures.looks.read.told ∙ told)
    ∙ (ap (λ (x : Store). floor_item c.args.key (items x (c.args.level - 1) c.in-Some.child)) e
    ∙ (sym d.same ∙ ap (λ (x : ℕ). floor_item c.args.key (items m x c.args.n)) (sym l))))
    c.floor_under.ensures.value
