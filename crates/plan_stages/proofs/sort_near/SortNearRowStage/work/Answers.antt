-- The row is kept with the key that was read.
use Rattle.std.proofs.Common.{sym}
use Rattle.plan_stages.proofs.Gapped.{kept_gap}
use Rattle.plan_stages.proofs.sort_near.SortNearRowStage.work.Goals as goal

pub returns-in-Ok-push-clause-step : goal.returns-in-Ok-push-clause-step
returns-in-Ok-push-clause-step g c =
    kept_gap c.args.self.now c.take.new.self c.push.new.self c.in-Some.row c.in-Ok.key c.as_slice.result.now c.args.desk.now c.pages.result.now
    (sym c.in-Some.ensures.value) c.in-Some.ensures.after c.in-Ok-push.ensures.added c.pages.ensures.pool (sym c.as_slice.ensures) c.in-Ok.ensures.gap
