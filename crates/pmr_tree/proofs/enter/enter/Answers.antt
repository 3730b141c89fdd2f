-- The mark gives way to the first id; another id comes beside those that are there.
use Rattle.std.proofs.Common.{◌≡◌, ◌<◌, length, arith}
use Rattle.pmr_tree.proofs.Refusals.{passed_on}
use Rattle.pmr_tree.proofs.Entries.{key_passes}
use Rattle.pmr_tree.proofs.LeafSteps.{first_entered, next_entered}
use Rattle.pmr_tree.proofs.enter.enter.Goals as goal

-- accepted calls lead on to the refused one, and its refusal is passed on
pub returns-in_err-take-clause-leads : goal.returns-in_err-take-clause-leads
returns-in_err-take-clause-leads g c =
    passed_on _ _ (g.S.Ground.Leads c.args.ground.now c.args.pages.now c.take.new.self c.take.new.pages) c.from_residual.ensures c.in_err-take.ensures.leads

pub returns-in_err-put-clause-leads : goal.returns-in_err-put-clause-leads
returns-in_err-put-clause-leads g c =
    passed_on _ _ (g.S.Ground.Leads c.args.ground.now c.args.pages.now c.put.new.self c.put.new.pages) c.from_residual-in_err-put.ensures
    (g.met.S.Ground.onward _ _ _ _ _ _ _ c.in_ok-take.ensures.leads c.in_err-put.ensures.leads)

pub returns-then-list-eq0-clause-leads : goal.returns-then-list-eq0-clause-leads
returns-then-list-eq0-clause-leads g c = g.met.S.Ground.onward _ _ _ _ _ _ _ c.in_ok-take.ensures.leads c.in_ok-put.ensures.leads

pub returns-then-list-eq0-clause-keys : goal.returns-then-list-eq0-clause-keys
returns-then-list-eq0-clause-keys g c = λ k.
    let none : length c.args.list.now ≡ 0 = omega arith in
    let later = g.met.S.Ground.known _ _ _ _ c.in_ok-take.ensures.leads k in
    first_entered c.args.block _ c.args.list.now c.args.newcomer.id c.key_of-key.result c.key_of.result _ _ (c.requires.stands k) (c.requires.leaf k) c.requires.id none
    c.key_of-key.ensures.value c.key_of.ensures.value (c.in_ok-take.ensures.keys k) (c.in_ok-put.ensures.keys later)

pub returns-then-list-eq0-clause-values : goal.returns-then-list-eq0-clause-values
returns-then-list-eq0-clause-values g c = λ k test v w.
    c.in_ok-put.ensures.values (g.met.S.Ground.known _ _ _ _ c.in_ok-take.ensures.leads k) test
    (key_passes test c.args.block c.args.newcomer.id _ c.key_of-key.result c.requires.id.small c.key_of-key.ensures.value v)
    (c.in_ok-take.ensures.values k test w)

pub returns-clause-keys : goal.returns-clause-keys
returns-clause-keys g c = λ k.
    let some : 0 < length c.args.list.now = omega arith in
    next_entered c.args.block _ c.args.list.now c.args.newcomer.id c.key_of-key.result _ (c.requires.stands k) (c.requires.leaf k) c.requires.id some
    c.key_of-key.ensures.value (c.in_ok-put-2.ensures.keys k)

pub returns-clause-values : goal.returns-clause-values
returns-clause-values g c = λ k test v w.
    c.in_ok-put-2.ensures.values k test
    (key_passes test c.args.block c.args.newcomer.id _ c.key_of-key.result c.requires.id.small c.key_of-key.ensures.value v) w
