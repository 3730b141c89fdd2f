-- each level leads to the child that has the leaf of the key
use Rattle.std.proofs.Common.{◌≡◌, ◌-◌, ◌+◌, ℕ, suc, ◌∙◌, subst, arith, Ok, None}
use Rattle.page_pool.specs.Pool.{PoolState, IsTold}
use Rattle.code_btree.specs.declared.near.Near.{Near}
use Rattle.code_btree.specs.Tree.{Store, pages_in}
use Rattle.code_btree.specs.Steps.{Subtree, LeadsTo}
use Rattle.code_btree.proofs.Stores.{same_store}
use Rattle.code_btree.proofs.Gets.{peeked}
use Rattle.code_btree.proofs.Betweens.{peeks_on, peeks_more}
use Rattle.code_btree.proofs.Finds.{led_none}
use Rattle.code_btree.proofs.Nears.{LeadsNear, near_led, near_found}
use Rattle.code_btree.proofs.near.leaf_near.Goals as goal

pub returns-in_default-clause-value : goal.returns-in_default-clause-value
returns-in_default-clause-value g c = λ told.
    let inv = c.levels.invariant in
    let a : PoolState = g.P.Pages.shown c.args.pages.now in
    let b : PoolState = g.P.Pages.shown c.levels.pages in
    let l : c.levels.left ≡ suc (c.levels.left - 1) = omega (arith, c.levels-test.true) in
    let S : ℕ → Type 0 = λ x. Subtree (pages_in a) x c.levels.near.page in
    let W : Store → Type 0 = λ x. LeadsTo x c.levels.near.page c.args.key None in
    let leads : LeadsTo (pages_in b) c.levels.near.page c.args.key None =
    record { page = c.in_ok-page.page.now; read = c.in_ok-page.ensures.value.told (inv.peeks.read.told ∙ told); step = c.in_default.ensures } in
    absurd (led_none (pages_in a) (c.levels.left - 1) c.levels.near.page c.args.key (subst S l (inv.led told).child) (subst W (same_store b a inv.peeks.read.pages) leads))

pub levels-preserved : goal.levels-preserved
levels-preserved g c =
    let inv = c.levels.invariant in
    let a : PoolState = g.P.Pages.shown c.args.pages.now in
    let b : PoolState = g.P.Pages.shown c.levels.pages in
    let d : PoolState = g.P.Pages.shown c.live_page.follows.lender-at-none in
    let next : Near = c.under-near.result in
    let within = c.under-near.ensures in
    let W : Store → Type 0 = λ x. LeadsNear x c.levels.near.page c.args.key next in
    let leads : IsTold b → LeadsNear (pages_in b) c.levels.near.page c.args.key next = λ told. record {
      page = c.in_ok-page.page.now;
      read = c.in_ok-page.ensures.value.told told;
      step = record {
        count = c.in-Some.count;
        at = c.place_of-at.result;
        is = c.in-Some.ensures;
        place = c.place_of-at.ensures.bound;
        before = c.place_of-at.ensures.before;
        behind = c.place_of-at.ensures.behind;
        child_is = within.page ∙ c.child_at.ensures;
      };
      low = λ i. omega (arith, c.low_at.ensures i, within.part_low);
      high = λ i. omega (arith, c.high_at.ensures i, within.part_high);
    } in
    record {
      bound = omega (arith, inv.bound);
      peeks = peeks_more a d ((c.args.level - c.levels.left) + 1) (c.args.level - (c.levels.left - 1)) (Ok tt) (omega (arith, inv.bound, c.levels-test.true))
          (peeks_on a b d (c.args.level - c.levels.left) 1 tt (Ok tt) inv.peeks
          (peeked b d c.levels.near.page c.in_ok-page.page tt c.live_page.result c.in_ok-page.was c.live_page.follows.holds-at-none));
      led = λ told. near_led (pages_in a) c.args.level c.args.n c.args.key c.levels.left (c.levels.left - 1) c.levels.near next (omega (arith, c.levels-test.true))
          (inv.led told) (subst W (same_store b a inv.peeks.read.pages) (leads (inv.peeks.read.told ∙ told))) within.low within.high;
    }

pub returns-clause-value : goal.returns-clause-value
returns-clause-value g c = λ told. near_found (pages_in (g.P.Pages.shown c.args.pages.now)) c.args.level c.args.n c.args.key c.levels.left c.levels.near
    (omega (arith, c.levels-test.false)) (c.levels.invariant.led told)
