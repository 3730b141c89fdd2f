-- a run that was begun stands at the place of its next pair
use Rattle.code_btree.specs.Tree.{Store, pages_in}
use Rattle.code_btree.specs.Run.{pairs_to_come}
use Rattle.code_btree.proofs.Chains.{given_on}
use Rattle.code_btree.proofs.steps.given_at.Goals as goal

pub returns-then-spot-clause-value : goal.returns-then-spot-clause-value
returns-then-spot-clause-value g c = λ told.
    let m : Store = pages_in (g.P.Pages.shown c.args.pages.now) in
    let s = c.requires told in
    given_on m c.args.spot.tree (pairs_to_come m c.args.spot) c.args.spot.leaf c.args.spot.place c.in_ok-given.given s.tree (s.place c.if-spot.true) c.in_ok-given.ensures.none
    (λ l. c.in_ok-given.ensures.value l told)
