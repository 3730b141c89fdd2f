-- the cursor is behind the others, or they are as they were, and the line of it is written
use Rattle.std.proofs.Common.{refl}
use Rattle.open_cursors.specs.OpenCursors.{AreNamed, StandAll}
use Rattle.statements.specs.Plan.{plan_value}
use Rattle.open_cursors.specs.PlanCursors.{PlanAt}
use Rattle.open_cursors.proofs.Openings.{opened_carried, unopened_carried}
use Rattle.open_cursors.proofs.opening.open_line.Goals as goal

pub returns-in-Ok-clause-carried : goal.returns-in-Ok-clause-carried
returns-in-Ok-clause-carried g c = λ told cs own all.
    opened_carried c.args.store.now.catalog c.args.store.now.pool.pages cs own c.args.store.now.pool refl c.args.name.now (plan_value c.args.plan.now)
    (g.K.Sink.took c.args.out.now) (g.K.Sink.took c.finish.new.out)
    (StandAll PlanAt c.open.new.store.pool.stamps c.open.new.cursors.items) c.finish.result (c.in-Ok.ensures.opens told cs all) c.finish.ensures.written c.finish.ensures.prefix

pub returns-in-Err-clause-carried : goal.returns-in-Err-clause-carried
returns-in-Err-clause-carried g c = λ told cs own all.
    unopened_carried c.args.store.now.catalog c.args.store.now.pool.pages cs own c.args.store.now.pool refl c.args.name.now (plan_value c.args.plan.now)
    (g.K.Sink.took c.args.out.now) (g.K.Sink.took c.finish-in-Err.new.out)
    (StandAll PlanAt c.open.new.store.pool.stamps c.open.new.cursors.items) c.finish-in-Err.result c.in-Err.why (c.in-Err.ensures.opens told cs all)
    c.finish-in-Err.ensures.written c.finish-in-Err.ensures.prefix

-- the same by the names, wherever the cursors stand

pub returns-in-Ok-clause-named : goal.returns-in-Ok-clause-named
returns-in-Ok-clause-named g c = λ cs own all pool.
    opened_carried c.args.store.now.catalog pool.pages cs own pool refl c.args.name.now (plan_value c.args.plan.now) (g.K.Sink.took c.args.out.now) (g.K.Sink.took c.finish.new.out)
    (AreNamed c.open.new.cursors.items) c.finish.result (c.in-Ok.ensures.named pool.pages cs all) c.finish.ensures.written c.finish.ensures.prefix

pub returns-in-Err-clause-named : goal.returns-in-Err-clause-named
returns-in-Err-clause-named g c = λ cs own all pool.
    unopened_carried c.args.store.now.catalog pool.pages cs own pool refl c.args.name.now (plan_value c.args.plan.now) (g.K.Sink.took c.args.out.now) (g.K.Sink.took c.finish-in-Err.new.out)
    (AreNamed c.open.new.cursors.items) c.finish-in-Err.result c.in-Err.why (c.in-Err.ensures.named pool.pages cs all) c.finish-in-Err.ensures.written c.finish-in-Err.ensures.prefix
