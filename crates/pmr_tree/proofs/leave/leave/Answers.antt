-- The only id gives way to a mark; of several, the others stay.
use Rattle.pmr_tree.proofs.Refusals.{passed_on}
use Rattle.pmr_tree.proofs.Entries.{mark_passes}
use Rattle.pmr_tree.proofs.LeaveSteps.{last_left, others_left, only_one, not_one, not_this}
use Rattle.pmr_tree.proofs.leave.leave.Goals as goal

-- accepted calls lead on to the refused one, and its refusal is passed on
pub returns-in_err-take-clause-leads : goal.returns-in_err-take-clause-leads
returns-in_err-take-clause-leads g c =
    passed_on _ _ (g.S.Ground.Leads c.args.ground.now c.args.pages.now c.take.new.self c.take.new.pages) c.from_residual.ensures c.in_err-take.ensures.leads

pub returns-in_err-put-clause-leads : goal.returns-in_err-put-clause-leads
returns-in_err-put-clause-leads g c =
    passed_on _ _ (g.S.Ground.Leads c.args.ground.now c.args.pages.now c.put.new.self c.put.new.pages) c.from_residual-in_err-put.ensures
    (g.met.S.Ground.onward _ _ _ _ _ _ _ c.in_ok-take.ensures.leads c.in_err-put.ensures.leads)

pub returns-clause-leads : goal.returns-clause-leads
returns-clause-leads g c = g.met.S.Ground.onward _ _ _ _ _ _ _ c.in_ok-take.ensures.leads c.in_ok-put.ensures.leads

pub returns-then-list-ne1-clause-keys : goal.returns-then-list-ne1-clause-keys
returns-then-list-ne1-clause-keys g c = λ k.
    others_left c.args.block _ c.args.list.now c.args.id _ _ (c.requires.stands k) (c.requires.leaf k) c.requires.id
    (not_one c.args.list.now c.args.id c.if-list-ne1.true) c.key_of.ensures.value (c.in_ok-take.ensures.keys k)

pub returns-then-list-id-clause-keys : goal.returns-then-list-id-clause-keys
returns-then-list-id-clause-keys g c = λ k.
    others_left c.args.block _ c.args.list.now c.args.id _ _ (c.requires.stands k) (c.requires.leaf k) c.requires.id
    (not_this c.args.list.now c.args.id _ c.if-list-ne1.false c.if-list-id.true) c.key_of.ensures.value (c.in_ok-take.ensures.keys k)

pub returns-clause-keys : goal.returns-clause-keys
returns-clause-keys g c = λ k.
    let later = g.met.S.Ground.known _ _ _ _ c.in_ok-take.ensures.leads k in
    last_left c.args.block _ c.args.list.now c.args.id _ _ _ _ (c.requires.stands k) (c.requires.leaf k)
    (only_one c.args.list.now c.args.id _ c.if-list-ne1.false c.if-list-id.false) c.key_of.ensures.value c.key_of-2.ensures.value (c.in_ok-take.ensures.keys k) (c.in_ok-put.ensures.keys later)

pub returns-clause-values : goal.returns-clause-values
returns-clause-values g c = λ k test w.
    c.in_ok-put.ensures.values (g.met.S.Ground.known _ _ _ _ c.in_ok-take.ensures.leads k) test (mark_passes test c.args.block 0 c.key_of-2.result c.key_of-2.ensures.value)
    (c.in_ok-take.ensures.values k test w)
