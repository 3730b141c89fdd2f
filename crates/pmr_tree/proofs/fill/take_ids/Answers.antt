-- One key more is taken, and the rest of the list is left.
use Rattle.std.proofs.Common.{◌<◌, ◌∙◌, length, arith}
use Rattle.pmr_tree.proofs.Refusals.{passed_on}
use Rattle.pmr_tree.proofs.Entries.{take_step}
use Rattle.pmr_tree.proofs.fill.take_ids.Goals as goal

-- accepted calls lead on to the refused one, and its refusal is passed on
pub returns-in_err-take-clause-leads : goal.returns-in_err-take-clause-leads
returns-in_err-take-clause-leads g c =
    passed_on _ _ (g.S.Ground.Leads c.args.ground.now c.args.pages.now c.take.new.self c.take.new.pages) c.from_residual.ensures
    (g.met.S.Ground.onward _ _ _ _ _ _ _ c.loop-kept.invariant.leads c.in_err-take.ensures.leads)

pub loop-kept-preserved : goal.loop-kept-preserved
loop-kept-preserved g c =
    let here = c.loop-kept.invariant in
    let lt : c.loop-kept.kept-index < length c.args.list.now = omega arith in record {
      leads = g.met.S.Ground.onward _ _ _ _ _ _ _ here.leads c.in_ok-take.ensures.leads;
      keys = λ k. take_step c.args.block c.args.list.now c.loop-kept.kept-index _ lt c.key_of.result c.key_of.ensures.value _ _
          (c.in_ok-take.ensures.keys (g.met.S.Ground.known _ _ _ _ here.leads k)) ∙ here.keys k;
      values = λ k test w. c.in_ok-take.ensures.values (g.met.S.Ground.known _ _ _ _ here.leads k) test (here.values k test w);
    }
