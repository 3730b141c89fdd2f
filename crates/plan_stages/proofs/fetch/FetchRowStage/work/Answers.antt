-- The places stand over the pages that are told.
use Rattle.std.proofs.Common.{List, subst, sym}
use Rattle.plan_stages.specs.Fetches.{SpotsStand}
use Rattle.plan_names.specs.declared.spot.Spot.{Spot}
use Rattle.plan_stages.proofs.Ready.{fetch_ready}
use Rattle.plan_stages.proofs.fetch.FetchRowStage.work.Goals as goal

pub with_values-requires : goal.with_values-requires
with_values-requires g c = record {
  stands = subst (λ (spots : List Spot). SpotsStand c.pages.result.now spots) (sym c.deref.ensures.value)
      (fetch_ready c.args.self.now c.args.desk.now c.requires.stands c.pages.result.now c.pages.ensures.pool);
}
