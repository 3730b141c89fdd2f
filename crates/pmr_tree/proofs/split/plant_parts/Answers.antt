-- Each child gets its part, one after another.
use Rattle.std.proofs.Common.{sym, subst}
use Rattle.pmr_tree.specs.Leaves.{ListPasses}
use Rattle.pmr_tree.proofs.Refusals.{passed_on}
use Rattle.pmr_tree.proofs.GrowSteps.{first_block, second_block, third_block, fourth_block}
use Rattle.pmr_tree.proofs.SplitSteps.{four_planted}
use Rattle.pmr_tree.proofs.split.plant_parts.Goals as goal

pub plant-requires-clause-block : goal.plant-requires-clause-block
plant-requires-clause-block g c = (first_block c.args.block _ _ c.children.ensures.value c.requires.block c.requires.above_points).0

pub plant-requires-2-clause-block : goal.plant-requires-2-clause-block
plant-requires-2-clause-block g c = (second_block c.args.block _ _ c.children.ensures.value c.requires.block c.requires.above_points).0

pub plant-requires-3-clause-block : goal.plant-requires-3-clause-block
plant-requires-3-clause-block g c = (third_block c.args.block _ _ c.children.ensures.value c.requires.block c.requires.above_points).0

pub plant-requires-4-clause-block : goal.plant-requires-4-clause-block
plant-requires-4-clause-block g c = (fourth_block c.args.block _ _ c.children.ensures.value c.requires.block c.requires.above_points).0

-- accepted calls leave the pages ready for the next one
pub plant-requires-2-clause-ready : goal.plant-requires-2-clause-ready
plant-requires-2-clause-ready g c =
    let l1 = c.in_ok-plant.ensures.leads in
    g.met.S.Ground.ready _ _ _ _ l1 c.requires.ready

pub plant-requires-3-clause-ready : goal.plant-requires-3-clause-ready
plant-requires-3-clause-ready g c =
    let l1 = c.in_ok-plant.ensures.leads in
    let l2 = g.met.S.Ground.onward _ _ _ _ _ _ _ l1 c.in_ok-plant-2.ensures.leads in
    g.met.S.Ground.ready _ _ _ _ l2 c.requires.ready

pub plant-requires-4-clause-ready : goal.plant-requires-4-clause-ready
plant-requires-4-clause-ready g c =
    let l1 = c.in_ok-plant.ensures.leads in
    let l2 = g.met.S.Ground.onward _ _ _ _ _ _ _ l1 c.in_ok-plant-2.ensures.leads in
    let l3 = g.met.S.Ground.onward _ _ _ _ _ _ _ l2 c.in_ok-plant-3.ensures.leads in
    g.met.S.Ground.ready _ _ _ _ l3 c.requires.ready

-- accepted calls lead on to the refused one, and its refusal is passed on
pub returns-in_err-plant-clause-leads : goal.returns-in_err-plant-clause-leads
returns-in_err-plant-clause-leads g c =
    passed_on _ _ (g.S.Ground.Leads c.args.ground.now c.args.pages.now c.plant.new.ground c.plant.new.pages) c.from_residual.ensures c.in_err-plant.ensures.leads

pub returns-in_err-plant-2-clause-leads : goal.returns-in_err-plant-2-clause-leads
returns-in_err-plant-2-clause-leads g c =
    let l1 = c.in_ok-plant.ensures.leads in
    passed_on _ _ (g.S.Ground.Leads c.args.ground.now c.args.pages.now c.plant-2.new.ground c.plant-2.new.pages) c.from_residual-in_err-plant-2.ensures
    (g.met.S.Ground.onward _ _ _ _ _ _ _ l1 c.in_err-plant-2.ensures.leads)

pub returns-in_err-plant-3-clause-leads : goal.returns-in_err-plant-3-clause-leads
returns-in_err-plant-3-clause-leads g c =
    let l1 = c.in_ok-plant.ensures.leads in
    let l2 = g.met.S.Ground.onward _ _ _ _ _ _ _ l1 c.in_ok-plant-2.ensures.leads in
    passed_on _ _ (g.S.Ground.Leads c.args.ground.now c.args.pages.now c.plant-3.new.ground c.plant-3.new.pages) c.from_residual-in_err-plant-3.ensures
    (g.met.S.Ground.onward _ _ _ _ _ _ _ l2 c.in_err-plant-3.ensures.leads)

pub returns-in_err-plant-4-clause-leads : goal.returns-in_err-plant-4-clause-leads
returns-in_err-plant-4-clause-leads g c =
    let l1 = c.in_ok-plant.ensures.leads in
    let l2 = g.met.S.Ground.onward _ _ _ _ _ _ _ l1 c.in_ok-plant-2.ensures.leads in
    let l3 = g.met.S.Ground.onward _ _ _ _ _ _ _ l2 c.in_ok-plant-3.ensures.leads in
    passed_on _ _ (g.S.Ground.Leads c.args.ground.now c.args.pages.now c.plant-4.new.ground c.plant-4.new.pages) c.from_residual-in_err-plant-4.ensures
    (g.met.S.Ground.onward _ _ _ _ _ _ _ l3 c.in_err-plant-4.ensures.leads)

pub returns-clause-leads : goal.returns-clause-leads
returns-clause-leads g c =
    let l1 = c.in_ok-plant.ensures.leads in
    let l2 = g.met.S.Ground.onward _ _ _ _ _ _ _ l1 c.in_ok-plant-2.ensures.leads in
    let l3 = g.met.S.Ground.onward _ _ _ _ _ _ _ l2 c.in_ok-plant-3.ensures.leads in
    g.met.S.Ground.onward _ _ _ _ _ _ _ l3 c.in_ok-plant-4.ensures.leads

pub returns-clause-keys : goal.returns-clause-keys
returns-clause-keys g c = λ k.
    let l1 = c.in_ok-plant.ensures.leads in
    let l2 = g.met.S.Ground.onward _ _ _ _ _ _ _ l1 c.in_ok-plant-2.ensures.leads in
    let l3 = g.met.S.Ground.onward _ _ _ _ _ _ _ l2 c.in_ok-plant-3.ensures.leads in
    four_planted c.args.block _ _ _ _ _ _ _ _ _ c.args.parts.now _ _ _ _ _ c.children.ensures.value
    c.deref.ensures.value c.deref-2.ensures.value c.deref-3.ensures.value c.deref-4.ensures.value
    (c.in_ok-plant.ensures.keys k)
    (c.in_ok-plant-2.ensures.keys (g.met.S.Ground.known _ _ _ _ l1 k))
    (c.in_ok-plant-3.ensures.keys (g.met.S.Ground.known _ _ _ _ l2 k))
    (c.in_ok-plant-4.ensures.keys (g.met.S.Ground.known _ _ _ _ l3 k))

pub returns-clause-values : goal.returns-clause-values
returns-clause-values g c = λ k test pass w.
    let l1 = c.in_ok-plant.ensures.leads in
    let l2 = g.met.S.Ground.onward _ _ _ _ _ _ _ l1 c.in_ok-plant-2.ensures.leads in
    let l3 = g.met.S.Ground.onward _ _ _ _ _ _ _ l2 c.in_ok-plant-3.ensures.leads in
    c.in_ok-plant-4.ensures.values (g.met.S.Ground.known _ _ _ _ l3 k) test (subst (ListPasses test) (sym c.deref-4.ensures.value) pass.fourth)
    (c.in_ok-plant-3.ensures.values (g.met.S.Ground.known _ _ _ _ l2 k) test (subst (ListPasses test) (sym c.deref-3.ensures.value) pass.third)
    (c.in_ok-plant-2.ensures.values (g.met.S.Ground.known _ _ _ _ l1 k) test (subst (ListPasses test) (sym c.deref-2.ensures.value) pass.second)
    (c.in_ok-plant.ensures.values k test (subst (ListPasses test) (sym c.deref.ensures.value) pass.first) w)))
