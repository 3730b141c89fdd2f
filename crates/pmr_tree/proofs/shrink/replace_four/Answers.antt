-- Four leaves are cleared, one after another, and one is planted.
use Rattle.z_code.specs.declared.block.Block.{Block}
use Rattle.pmr_tree.specs.Leaves.{firsts, ids_of}
use Rattle.pmr_tree.proofs.Refusals.{passed_on}
use Rattle.pmr_tree.proofs.GrowSteps.{first_block, second_block, third_block, fourth_block}
use Rattle.pmr_tree.proofs.MergeSteps.{take_four, cleared}
use Rattle.pmr_tree.proofs.shrink.replace_four.Goals as goal

pub clear-requires-clause-block : goal.clear-requires-clause-block
clear-requires-clause-block g c = (first_block c.args.block _ _ c.children.ensures.value c.requires.block c.requires.above_points).0

pub clear-requires-2-clause-block : goal.clear-requires-2-clause-block
clear-requires-2-clause-block g c = (second_block c.args.block _ _ c.children.ensures.value c.requires.block c.requires.above_points).0

-- accepted calls leave the pages ready for the next one
pub clear-requires-2-clause-ready : goal.clear-requires-2-clause-ready
clear-requires-2-clause-ready g c =
    let l1 = c.in_ok-clear.ensures.leads in
    g.met.S.Ground.ready _ _ _ _ l1 c.requires.ready

pub clear-requires-3-clause-block : goal.clear-requires-3-clause-block
clear-requires-3-clause-block g c = (third_block c.args.block _ _ c.children.ensures.value c.requires.block c.requires.above_points).0

pub clear-requires-3-clause-ready : goal.clear-requires-3-clause-ready
clear-requires-3-clause-ready g c =
    let l1 = c.in_ok-clear.ensures.leads in
    let l2 = g.met.S.Ground.onward _ _ _ _ _ _ _ l1 c.in_ok-clear-2.ensures.leads in
    g.met.S.Ground.ready _ _ _ _ l2 c.requires.ready

pub clear-requires-4-clause-block : goal.clear-requires-4-clause-block
clear-requires-4-clause-block g c = (fourth_block c.args.block _ _ c.children.ensures.value c.requires.block c.requires.above_points).0

pub clear-requires-4-clause-ready : goal.clear-requires-4-clause-ready
clear-requires-4-clause-ready g c =
    let l1 = c.in_ok-clear.ensures.leads in
    let l2 = g.met.S.Ground.onward _ _ _ _ _ _ _ l1 c.in_ok-clear-2.ensures.leads in
    let l3 = g.met.S.Ground.onward _ _ _ _ _ _ _ l2 c.in_ok-clear-3.ensures.leads in
    g.met.S.Ground.ready _ _ _ _ l3 c.requires.ready

pub plant-requires-clause-ready : goal.plant-requires-clause-ready
plant-requires-clause-ready g c =
    let l1 = c.in_ok-clear.ensures.leads in
    let l2 = g.met.S.Ground.onward _ _ _ _ _ _ _ l1 c.in_ok-clear-2.ensures.leads in
    let l3 = g.met.S.Ground.onward _ _ _ _ _ _ _ l2 c.in_ok-clear-3.ensures.leads in
    let l4 = g.met.S.Ground.onward _ _ _ _ _ _ _ l3 c.in_ok-clear-4.ensures.leads in
    g.met.S.Ground.ready _ _ _ _ l4 c.requires.ready

-- accepted calls lead on to the refused one, and its refusal is passed on
pub returns-in_err-clear-clause-leads : goal.returns-in_err-clear-clause-leads
returns-in_err-clear-clause-leads g c =
    passed_on _ _ (g.S.Ground.Leads c.args.ground.now c.args.pages.now c.clear.new.ground c.clear.new.pages) c.from_residual.ensures c.in_err-clear.ensures.leads

pub returns-in_err-clear-2-clause-leads : goal.returns-in_err-clear-2-clause-leads
returns-in_err-clear-2-clause-leads g c =
    let l1 = c.in_ok-clear.ensures.leads in
    passed_on _ _ (g.S.Ground.Leads c.args.ground.now c.args.pages.now c.clear-2.new.ground c.clear-2.new.pages) c.from_residual-in_err-clear-2.ensures
    (g.met.S.Ground.onward _ _ _ _ _ _ _ l1 c.in_err-clear-2.ensures.leads)

pub returns-in_err-clear-3-clause-leads : goal.returns-in_err-clear-3-clause-leads
returns-in_err-clear-3-clause-leads g c =
    let l1 = c.in_ok-clear.ensures.leads in
    let l2 = g.met.S.Ground.onward _ _ _ _ _ _ _ l1 c.in_ok-clear-2.ensures.leads in
    passed_on _ _ (g.S.Ground.Leads c.args.ground.now c.args.pages.now c.clear-3.new.ground c.clear-3.new.pages) c.from_residual-in_err-clear-3.ensures
    (g.met.S.Ground.onward _ _ _ _ _ _ _ l2 c.in_err-clear-3.ensures.leads)

pub returns-in_err-clear-4-clause-leads : goal.returns-in_err-clear-4-clause-leads
returns-in_err-clear-4-clause-leads g c =
    let l1 = c.in_ok-clear.ensures.leads in
    let l2 = g.met.S.Ground.onward _ _ _ _ _ _ _ l1 c.in_ok-clear-2.ensures.leads in
    let l3 = g.met.S.Ground.onward _ _ _ _ _ _ _ l2 c.in_ok-clear-3.ensures.leads in
    passed_on _ _ (g.S.Ground.Leads c.args.ground.now c.args.pages.now c.clear-4.new.ground c.clear-4.new.pages) c.from_residual-in_err-clear-4.ensures
    (g.met.S.Ground.onward _ _ _ _ _ _ _ l3 c.in_err-clear-4.ensures.leads)

pub returns-in_err-plant-clause-leads : goal.returns-in_err-plant-clause-leads
returns-in_err-plant-clause-leads g c =
    let l1 = c.in_ok-clear.ensures.leads in
    let l2 = g.met.S.Ground.onward _ _ _ _ _ _ _ l1 c.in_ok-clear-2.ensures.leads in
    let l3 = g.met.S.Ground.onward _ _ _ _ _ _ _ l2 c.in_ok-clear-3.ensures.leads in
    let l4 = g.met.S.Ground.onward _ _ _ _ _ _ _ l3 c.in_ok-clear-4.ensures.leads in
    passed_on _ _ (g.S.Ground.Leads c.args.ground.now c.args.pages.now c.plant.new.ground c.plant.new.pages) c.from_residual-in_err-plant.ensures
    (g.met.S.Ground.onward _ _ _ _ _ _ _ l4 c.in_err-plant.ensures.leads)

pub returns-clause-keys : goal.returns-clause-keys
returns-clause-keys g c = λ k.
    let l1 = c.in_ok-clear.ensures.leads in
    let l2 = g.met.S.Ground.onward _ _ _ _ _ _ _ l1 c.in_ok-clear-2.ensures.leads in
    let l3 = g.met.S.Ground.onward _ _ _ _ _ _ _ l2 c.in_ok-clear-3.ensures.leads in
    let l4 = g.met.S.Ground.onward _ _ _ _ _ _ _ l3 c.in_ok-clear-4.ensures.leads in
    let d : Block = record { z = 0; level = 0 } in
    take_four c.args.block c.children.result d d d d d
    (firsts (g.S.Ground.pairs c.args.ground.now c.args.pages.now)) (firsts (g.S.Ground.pairs c.clear.new.ground c.clear.new.pages)) (firsts (g.S.Ground.pairs c.clear-2.new.ground c.clear-2.new.pages))
    (firsts (g.S.Ground.pairs c.clear-3.new.ground c.clear-3.new.pages)) (firsts (g.S.Ground.pairs c.clear-4.new.ground c.clear-4.new.pages))
    (firsts (g.S.Ground.pairs c.plant.new.ground c.plant.new.pages))
    (ids_of c.args.parts.now.first.items) (ids_of c.args.parts.now.second.items) (ids_of c.args.parts.now.third.items) (ids_of c.args.parts.now.fourth.items)
    (ids_of c.args.all.now) c.children.ensures.value
    (cleared _ _ _ _ _ c.deref.ensures.value (c.in_ok-clear.ensures.keys k))
    (cleared _ _ _ _ _ c.deref-2.ensures.value (c.in_ok-clear-2.ensures.keys (g.met.S.Ground.known _ _ _ _ l1 k)))
    (cleared _ _ _ _ _ c.deref-3.ensures.value (c.in_ok-clear-3.ensures.keys (g.met.S.Ground.known _ _ _ _ l2 k)))
    (cleared _ _ _ _ _ c.deref-4.ensures.value (c.in_ok-clear-4.ensures.keys (g.met.S.Ground.known _ _ _ _ l3 k)))
    (c.in_ok-plant.ensures.keys (g.met.S.Ground.known _ _ _ _ l4 k))

pub returns-clause-values : goal.returns-clause-values
returns-clause-values g c = λ k test all w.
    let l1 = c.in_ok-clear.ensures.leads in
    let l2 = g.met.S.Ground.onward _ _ _ _ _ _ _ l1 c.in_ok-clear-2.ensures.leads in
    let l3 = g.met.S.Ground.onward _ _ _ _ _ _ _ l2 c.in_ok-clear-3.ensures.leads in
    let l4 = g.met.S.Ground.onward _ _ _ _ _ _ _ l3 c.in_ok-clear-4.ensures.leads in
    c.in_ok-plant.ensures.values (g.met.S.Ground.known _ _ _ _ l4 k) test all
    (c.in_ok-clear-4.ensures.values (g.met.S.Ground.known _ _ _ _ l3 k) test
    (c.in_ok-clear-3.ensures.values (g.met.S.Ground.known _ _ _ _ l2 k) test
    (c.in_ok-clear-2.ensures.values (g.met.S.Ground.known _ _ _ _ l1 k) test
    (c.in_ok-clear.ensures.values k test w))))

pub returns-clause-leads : goal.returns-clause-leads
returns-clause-leads g c =
    let l1 = c.in_ok-clear.ensures.leads in
    let l2 = g.met.S.Ground.onward _ _ _ _ _ _ _ l1 c.in_ok-clear-2.ensures.leads in
    let l3 = g.met.S.Ground.onward _ _ _ _ _ _ _ l2 c.in_ok-clear-3.ensures.leads in
    let l4 = g.met.S.Ground.onward _ _ _ _ _ _ _ l3 c.in_ok-clear-4.ensures.leads in
    g.met.S.Ground.onward _ _ _ _ _ _ _ l4 c.in_ok-plant.ensures.leads
