-- The row is held, and the work after it is that of a stage that holds it.
use Rattle.plan_iterator.proofs.Stepping.{lowers_both}
use Rattle.plan_iterator.proofs.take_row.take_row.Goals as goal

pub returns-then-is_busy-clause-falls : goal.returns-then-is_busy-clause-falls
returns-then-is_busy-clause-falls g c m n less =
    lowers_both (g.T.RowStage.steps c.args.stage.now n) (g.T.RowStage.steps c.hold.new.self m) (g.T.RowStage.steps c.work.new.self m) c.work.result
    (c.hold.ensures.falls m n less) (c.work.ensures.falls m)
