-- One key more is put, with the value of its id, and the rest of the list is left.
use Rattle.std.proofs.Common.{◌≡◌, ◌<◌, ◌∙◌, true, length, arith}
use Rattle.pmr_tree.proofs.Refusals.{passed_on}
use Rattle.pmr_tree.proofs.Entries.{put_step, each_at, key_passes}
use Rattle.pmr_tree.proofs.fill.put_ids.Goals as goal

-- accepted calls lead on to the refused one, and its refusal is passed on
pub returns-in_err-put-clause-leads : goal.returns-in_err-put-clause-leads
returns-in_err-put-clause-leads g c =
    passed_on _ _ (g.S.Ground.Leads c.args.ground.now c.args.pages.now c.put.new.self c.put.new.pages) c.from_residual.ensures
    (g.met.S.Ground.onward _ _ _ _ _ _ _ c.loop-kept.invariant.leads c.in_err-put.ensures.leads)

pub loop-kept-preserved : goal.loop-kept-preserved
loop-kept-preserved g c =
    let here = c.loop-kept.invariant in
    let lt : c.loop-kept.kept-index < length c.args.list.now = omega arith in record {
      leads = g.met.S.Ground.onward _ _ _ _ _ _ _ here.leads c.in_ok-put.ensures.leads;
      keys = λ k. put_step c.args.block c.args.list.now c.loop-kept.kept-index _ lt c.key_of.result c.key_of.ensures.value _ _
          (c.in_ok-put.ensures.keys (g.met.S.Ground.known _ _ _ _ here.leads k)) ∙ here.keys k;
      values = λ k test a w. c.in_ok-put.ensures.values (g.met.S.Ground.known _ _ _ _ here.leads k) test
          (key_passes test c.args.block _ _ c.key_of.result (omega arith) c.key_of.ensures.value (each_at (λ x. test x.id x.value ≡ true) c.args.list.now c.loop-kept.kept-index _ lt a))
          (here.values k test a w);
    }
