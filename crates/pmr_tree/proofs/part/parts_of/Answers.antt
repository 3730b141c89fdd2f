-- One id more is looked at, and the rest of the list is left.
use Rattle.std.proofs.Common.{◌≡◌, ◌<◌, ◌∙◌, true, length, arith}
use Rattle.pmr_tree.specs.declared.fault.PmrFault.TheVariants.{Memory}
use Rattle.pmr_tree.proofs.Refusals.{passed_on, passed_as}
use Rattle.pmr_tree.proofs.Entries.{each_at}
use Rattle.pmr_tree.proofs.PartSteps.{parts_step, parts_pass}
use Rattle.pmr_tree.proofs.part.parts_of.Goals as goal

pub loop-kept-preserved : goal.loop-kept-preserved
loop-kept-preserved g c =
    let here = c.loop-kept.invariant in
    let lt : c.loop-kept.kept-index < length c.args.list.now = omega arith in record {
      leads = g.met.S.Ground.onward _ _ _ _ _ _ _ here.leads c.in_ok-met.ensures.leads;
      found = λ k m has tells all. parts_step m c.args.block c.args.list.now c.loop-kept.kept-index _ lt _ _ _
          (c.in_ok-met.ensures.value (g.met.S.Ground.known _ _ _ _ here.leads k) m has (g.met.S.Ground.steady _ _ _ _ here.leads c.requires.ready k m has tells)
          (each_at (λ x. has x.id ≡ true) c.args.list.now c.loop-kept.kept-index _ lt all))
          (here.found k m has tells all) c.in_ok-push_parts.ensures.found;
      values = λ test a. parts_pass test _ _ _ _ (each_at (λ x. test x.id x.value ≡ true) c.args.list.now c.loop-kept.kept-index _ lt a) (here.values test a) c.in_ok-push_parts.ensures.found;
      same = λ k. c.in_ok-met.ensures.same (g.met.S.Ground.known _ _ _ _ here.leads k) ∙ here.same k;
    }

-- accepted calls leave the pages ready for the next one
pub quarters_met-requires-clause-ready : goal.quarters_met-requires-clause-ready
quarters_met-requires-clause-ready g c = g.met.S.Ground.ready _ _ _ _ c.loop-kept.invariant.leads c.requires.ready

-- accepted calls lead on to the refused one, and its refusal is passed on
pub returns-in_err-met-clause-leads : goal.returns-in_err-met-clause-leads
returns-in_err-met-clause-leads g c =
    passed_on _ _ (g.S.Ground.Leads c.args.ground.now c.args.pages.now c.args.ground.now c.quarters_met.new.pages) c.from_residual.ensures
    (g.met.S.Ground.onward _ _ _ _ _ _ _ c.loop-kept.invariant.leads c.in_err-met.ensures.leads)

pub returns-in_err-push_parts-clause-leads : goal.returns-in_err-push_parts-clause-leads
returns-in_err-push_parts-clause-leads g c =
    let l1 = g.met.S.Ground.onward _ _ _ _ _ _ _ c.loop-kept.invariant.leads c.in_ok-met.ensures.leads in
    passed_as _ _ Memory (g.S.Ground.Leads c.args.ground.now c.args.pages.now c.args.ground.now c.quarters_met.new.pages) c.from_residual-in_err-push_parts.ensures c.in_err-push_parts.ensures.memory
    (g.met.S.Ground.onward _ _ _ _ _ _ _ l1 (g.met.S.Ground.spent _ _))
