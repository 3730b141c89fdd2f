-- each level leads to the child that has the key's pair, where there is one
use Rattle.std.proofs.Common.{◌≡◌, ◌-◌, ◌+◌, ℕ, suc, sym, ◌∙◌, ap, subst, arith, Ok, None, Some}
use Rattle.page_pool.specs.Pool.{PoolState, IsTold}
use Rattle.code_btree.specs.Items.{find_item}
use Rattle.code_btree.specs.Tree.{Store, items, pages_in}
use Rattle.code_btree.specs.Steps.{Subtree, LeadsTo}
use Rattle.code_btree.proofs.Stores.{same_store}
use Rattle.code_btree.proofs.Gets.{peeked}
use Rattle.code_btree.proofs.Betweens.{peeks_on, peeks_more}
use Rattle.code_btree.proofs.Finds.{led, led_none, Led}
use Rattle.code_btree.proofs.look.find_under.Goals as goal

pub returns-in_default-clause-value : goal.returns-in_default-clause-value
returns-in_default-clause-value g c = λ told.
    let inv = c.levels.invariant in
    let a : PoolState = g.P.Pages.shown c.args.pages.now in
    let b : PoolState = g.P.Pages.shown c.levels.pages in
    let l : c.levels.left ≡ suc (c.levels.left - 1) = omega (arith, c.levels-test.true) in
    let S : ℕ → Type 0 = λ x. Subtree (pages_in a) x c.levels.place in
    let W : Store → Type 0 = λ x. LeadsTo x c.levels.place c.args.key None in
    let leads : LeadsTo (pages_in b) c.levels.place c.args.key None =
    record { page = c.in_ok-page.page.now; read = c.in_ok-page.ensures.value.told (inv.peeks.read.told ∙ told); step = c.in_default.ensures } in
    absurd (led_none (pages_in a) (c.levels.left - 1) c.levels.place c.args.key (subst S l (inv.tree told)) (subst W (same_store b a inv.peeks.read.pages) leads))

pub levels-preserved : goal.levels-preserved
levels-preserved g c =
    let inv = c.levels.invariant in
    let a : PoolState = g.P.Pages.shown c.args.pages.now in
    let b : PoolState = g.P.Pages.shown c.levels.pages in
    let d : PoolState = g.P.Pages.shown c.live_page.follows.lender-at-none in
    let child : ℕ = c.child_at-place.result in
    let l : c.levels.left ≡ suc (c.levels.left - 1) = omega (arith, c.levels-test.true) in
    let S : ℕ → Type 0 = λ x. Subtree (pages_in a) x c.levels.place in
    let W : Store → Type 0 = λ x. LeadsTo x c.levels.place c.args.key (Some child) in
    let leads : IsTold b → LeadsTo (pages_in b) c.levels.place c.args.key (Some child) = λ told. record {
      page = c.in_ok-page.page.now;
      read = c.in_ok-page.ensures.value.told told;
      step = record {
        count = c.in-Some.count;
        at = c.place_of-at.result;
        is = c.in-Some.ensures;
        place = c.place_of-at.ensures.bound;
        before = c.place_of-at.ensures.before;
        behind = c.place_of-at.ensures.behind;
        child_is = c.child_at-place.ensures;
      };
    } in
    let down : IsTold a → Led (pages_in a) (c.levels.left - 1) c.levels.place c.args.key child = λ told.
    led (pages_in a) (c.levels.left - 1) c.levels.place c.args.key child (subst S l (inv.tree told)) (subst W (same_store b a inv.peeks.read.pages) (leads (inv.peeks.read.told ∙ told))) in
    record {
      bound = omega (arith, inv.bound);
      peeks = peeks_more a d ((c.args.level - c.levels.left) + 1) (c.args.level - (c.levels.left - 1)) (Ok tt) (omega (arith, inv.bound, c.levels-test.true))
          (peeks_on a b d (c.args.level - c.levels.left) 1 tt (Ok tt) inv.peeks (peeked b d c.levels.place c.in_ok-page.page tt c.live_page.result c.in_ok-page.was c.live_page.follows.holds-at-none));
      tree = λ told. (down told).child;
      same = λ told. sym (down told).same ∙ (ap (λ (x : ℕ). find_item c.args.key (items (pages_in a) x c.levels.place)) (sym l) ∙ inv.same told);
    }
