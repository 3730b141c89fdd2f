-- what was given is the first of the pairs left, and keys rise
use Rattle.std.proofs.Common.{◌∙◌, refl, sym, true≢false}
use Rattle.code_btree.specs.Tree.{Store, pages_in}
use Rattle.code_btree.proofs.Chains.{stepping}
use Rattle.code_btree.proofs.steps.step.Goals as goal

pub returns-then-not-may_come-clause-value : goal.returns-then-not-may_come-clause-value
returns-then-not-may_come-clause-value g c = λ told.
    let m : Store = pages_in (g.P.Pages.shown c.args.pages.now) in
    let s = stepping m c.args.spot c.in_ok-given.given c.in-Some.pair (c.requires told) c.in-Some.is (c.in_ok-given.ensures.value told) in
    absurd (true≢false (sym (c.may_come.ensures.may.1 s.least) ∙ c.if-not-may_come.true))

pub returns-clause-value : goal.returns-clause-value
returns-clause-value g c = record {
  told = λ told.
      let m : Store = pages_in (g.P.Pages.shown c.args.pages.now) in
      let s = stepping m c.args.spot c.in_ok-given.given c.in-Some.pair (c.requires told) c.in-Some.is (c.in_ok-given.ensures.value told) in
      (s.first, s.stands);
  least = c.may_come.ensures.may.0 c.if-not-may_come.false;
  small = c.may_come.ensures.small;
  tree = refl;
  begun = refl;
  from = refl;
}
