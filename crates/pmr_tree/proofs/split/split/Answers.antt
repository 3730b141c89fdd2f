-- The ids are parted, the leaf is cleared, and the parts are planted; no step changes the shapes.
use Rattle.std.proofs.Common.{ap, sym, subst}
use Rattle.pmr_tree.specs.Leaves.{firsts, Passes}
use Rattle.pmr_tree.proofs.Refusals.{passed_on}
use Rattle.pmr_tree.proofs.SplitSteps.{split_steps}
use Rattle.pmr_tree.proofs.split.split.Goals as goal

-- accepted calls lead on to the refused one, and its refusal is passed on
pub returns-in_err-parts-clause-leads : goal.returns-in_err-parts-clause-leads
returns-in_err-parts-clause-leads g c =
    passed_on _ _ (g.S.Ground.Leads c.args.ground.now c.args.pages.now c.args.ground.now c.parts_of.new.pages) c.from_residual.ensures c.in_err-parts.ensures.leads

-- accepted calls leave the pages ready for the next one
pub clear-requires-clause-ready : goal.clear-requires-clause-ready
clear-requires-clause-ready g c = g.met.S.Ground.ready _ _ _ _ c.in_ok-parts.ensures.leads c.requires.ready

pub returns-in_err-clear-clause-leads : goal.returns-in_err-clear-clause-leads
returns-in_err-clear-clause-leads g c =
    passed_on _ _ (g.S.Ground.Leads c.args.ground.now c.args.pages.now c.clear.new.ground c.clear.new.pages) c.from_residual-in_err-clear.ensures
    (g.met.S.Ground.onward _ _ _ _ _ _ _ c.in_ok-parts.ensures.leads c.in_err-clear.ensures.leads)

pub plant_parts-requires-clause-ready : goal.plant_parts-requires-clause-ready
plant_parts-requires-clause-ready g c =
    let l1 = g.met.S.Ground.onward _ _ _ _ _ _ _ c.in_ok-parts.ensures.leads c.in_ok-clear.ensures.leads in
    g.met.S.Ground.ready _ _ _ _ l1 c.requires.ready

pub returns-in_err-plant_parts-clause-leads : goal.returns-in_err-plant_parts-clause-leads
returns-in_err-plant_parts-clause-leads g c =
    let l1 = g.met.S.Ground.onward _ _ _ _ _ _ _ c.in_ok-parts.ensures.leads c.in_ok-clear.ensures.leads in
    passed_on _ _ (g.S.Ground.Leads c.args.ground.now c.args.pages.now c.plant_parts.new.ground c.plant_parts.new.pages) c.from_residual-in_err-plant_parts.ensures
    (g.met.S.Ground.onward _ _ _ _ _ _ _ l1 c.in_err-plant_parts.ensures.leads)

pub returns-clause-leads : goal.returns-clause-leads
returns-clause-leads g c =
    let l1 = g.met.S.Ground.onward _ _ _ _ _ _ _ c.in_ok-parts.ensures.leads c.in_ok-clear.ensures.leads in
    g.met.S.Ground.onward _ _ _ _ _ _ _ l1 c.in_ok-plant_parts.ensures.leads

pub returns-clause-keys : goal.returns-clause-keys
returns-clause-keys g c = λ k m has tells all.
    let l0 = c.in_ok-parts.ensures.leads in
    let l1 = g.met.S.Ground.onward _ _ _ _ _ _ _ l0 c.in_ok-clear.ensures.leads in
    split_steps c.args.block m c.args.list.now c.args.all.now c.in_ok-parts.parts _ _ _ _
    (c.requires.stands k) (c.requires.leaf k) c.requires.all c.requires.above_points (c.in_ok-parts.ensures.found k m has tells all)
    (ap firsts (c.in_ok-parts.ensures.same k))
    (c.in_ok-clear.ensures.keys (g.met.S.Ground.known _ _ _ _ l0 k))
    (c.in_ok-plant_parts.ensures.keys (g.met.S.Ground.known _ _ _ _ l1 k))

pub returns-clause-values : goal.returns-clause-values
returns-clause-values g c = λ k test a w.
    let l0 = c.in_ok-parts.ensures.leads in
    let l1 = g.met.S.Ground.onward _ _ _ _ _ _ _ l0 c.in_ok-clear.ensures.leads in
    c.in_ok-plant_parts.ensures.values (g.met.S.Ground.known _ _ _ _ l1 k) test (c.in_ok-parts.ensures.values test a)
    (c.in_ok-clear.ensures.values (g.met.S.Ground.known _ _ _ _ l0 k) test (subst (Passes test) (sym (c.in_ok-parts.ensures.same k)) w))
