-- the cursor of the name is gone, or none has the name
use Rattle.plan_iterator.specs.Standing.{IsAt}
use Rattle.plan_iterator.specs.Rows.{counts_of}
use Rattle.open_cursors.specs.OpenCursors.{AreNamed, AtStamp, StandAll}
use Rattle.open_cursors.proofs.Carrying.{closed_carried, unclosed_carried}
use Rattle.open_cursors.proofs.closing.close_line.Goals as goal

pub returns-in-Ok-clause-carried : goal.returns-in-Ok-clause-carried
returns-in-Ok-clause-carried g c = λ cs own all catalog pool.
    closed_carried catalog cs pool c.args.name.now (g.K.Sink.took c.args.out.now) (g.K.Sink.took c.finish.new.out)
    (StandAll (AtStamp (λ r. IsAt g.S.RowSource.At g.T.RowStage.Stands g.T.RowStage.closed (λ s. counts_of (g.S.RowSource.seen s)) r)) c.close.new.store.pool.stamps c.close.new.cursors.items) own
    (c.in-Ok.ensures.closes cs own all) c.finish.result c.finish.ensures.written c.finish.ensures.prefix

pub returns-in-Err-clause-carried : goal.returns-in-Err-clause-carried
returns-in-Err-clause-carried g c = λ cs own all catalog pool.
    unclosed_carried catalog cs pool c.args.name.now (g.K.Sink.took c.args.out.now) (g.K.Sink.took c.finish-in-Err.new.out)
    (StandAll (AtStamp (λ r. IsAt g.S.RowSource.At g.T.RowStage.Stands g.T.RowStage.closed (λ s. counts_of (g.S.RowSource.seen s)) r)) c.close.new.store.pool.stamps c.close.new.cursors.items) own
    c.in-Err.why (c.in-Err.ensures.closes cs own all) c.finish-in-Err.result c.finish-in-Err.ensures.written c.finish-in-Err.ensures.prefix

-- by the names, wherever the cursors stand
pub returns-in-Ok-clause-named : goal.returns-in-Ok-clause-named
returns-in-Ok-clause-named g c = λ cs own all catalog pool.
    closed_carried catalog cs pool c.args.name.now (g.K.Sink.took c.args.out.now) (g.K.Sink.took c.finish.new.out) (AreNamed c.close.new.cursors.items) own
    (c.in-Ok.ensures.names cs own all) c.finish.result c.finish.ensures.written c.finish.ensures.prefix

pub returns-in-Err-clause-named : goal.returns-in-Err-clause-named
returns-in-Err-clause-named g c = λ cs own all catalog pool.
    unclosed_carried catalog cs pool c.args.name.now (g.K.Sink.took c.args.out.now) (g.K.Sink.took c.finish-in-Err.new.out) (AreNamed c.close.new.cursors.items) own
    c.in-Err.why (c.in-Err.ensures.names cs own all) c.finish-in-Err.result c.finish-in-Err.ensures.written c.finish-in-Err.ensures.prefix
