-- A mark is no entry of an id.
use Rattle.pmr_tree.proofs.Refusals.{passed_on}
use Rattle.pmr_tree.proofs.Entries.{mark_passes}
use Rattle.pmr_tree.proofs.fill.plant.Goals as goal

-- a refusal is passed on
pub returns-in_err-put-clause-leads : goal.returns-in_err-put-clause-leads
returns-in_err-put-clause-leads g c =
    passed_on _ _ (g.S.Ground.Leads c.args.ground.now c.args.pages.now c.put.new.self c.put.new.pages) c.from_residual.ensures c.in_err-put.ensures.leads

pub returns-then-list-eq0-clause-values : goal.returns-then-list-eq0-clause-values
returns-then-list-eq0-clause-values g c = λ k test a w. c.in_ok-put.ensures.values k test (mark_passes test c.args.block 0 c.key_of.result c.key_of.ensures.value) w
