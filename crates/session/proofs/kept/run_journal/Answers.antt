-- the store was started, or not
use Rattle.std.proofs.Common.{ap, subst}
use Rattle.sand_base.specs.declared.limits.Limits.{Limits}
use Rattle.sand_store.specs.Catalog.{StoreState}
use Rattle.session.specs.KeptRun.{EndsWithTape, HasBadRecord, StartsWith}
use Rattle.session.specs.KeptTape.{KeepsTape, LosesNothing, read_opened}
use Rattle.session.specs.Outside.{outside_of}
use Rattle.session.proofs.KeptEndings.{Kept-counted, Kept-unstarted}
use Rattle.session.proofs.KeptStatuses.{Unstarted}
use Rattle.session.proofs.KeptTapes.{Loses-none}
use Rattle.session.proofs.kept.run_journal.Goals as goal

pub returns-in-Ok-clause-promise : goal.returns-in-Ok-clause-promise
returns-in-Ok-clause-promise g c =
    subst (λ (l : Limits). EndsWithTape g.T.Tape.seen c.run_opened.result.0 l
    (outside_of (g.S.Source.left c.args.script.now) (g.S.Source.faults c.args.script.now) (g.H.Shelf.files c.args.shelf.now) (g.H.Shelf.faults c.args.shelf.now)
    (g.D.Disk.seen c.args.disk) (g.K.Sink.took c.args.out.now) (g.K.Sink.faults c.args.out.now)) (outside_of (g.S.Source.left c.run_opened.new.script)
    (g.S.Source.faults c.run_opened.new.script) (g.H.Shelf.files c.run_opened.new.shelf) (g.H.Shelf.faults c.run_opened.new.shelf)
    (g.D.Disk.seen c.run_opened.result.1) (g.K.Sink.took c.run_opened.new.out) (g.K.Sink.faults c.run_opened.new.out)) c.args.tape c.run_opened.result.2) (ap (λ (s : StoreState).
    s.catalog.limits) c.in-Ok.ensures.begun)
    (Kept-counted c.in-Ok.store.catalog.limits (g.S.Source.left c.args.script.now) (g.S.Source.faults c.args.script.now) (g.H.Shelf.files c.args.shelf.now)
    (g.H.Shelf.faults c.args.shelf.now) (g.D.Disk.seen c.args.disk) c.in-Ok.store.pool.disk (g.K.Sink.took c.args.out.now) (g.K.Sink.faults c.args.out.now)
    (outside_of (g.S.Source.left c.run_opened.new.script) (g.S.Source.faults c.run_opened.new.script) (g.H.Shelf.files c.run_opened.new.shelf)
    (g.H.Shelf.faults c.run_opened.new.shelf) (g.D.Disk.seen c.run_opened.result.1) (g.K.Sink.took c.run_opened.new.out) (g.K.Sink.faults c.run_opened.new.out))
    (StartsWith (g.T.Tape.seen c.args.tape))
    (KeepsTape g.T.Tape.seen c.run_opened.result.0 c.args.tape c.run_opened.result.2)
    (HasBadRecord c.in-Ok.store.catalog.limits (g.D.Disk.seen c.run_opened.result.1).told (g.T.Tape.seen c.args.tape).told
    (read_opened (g.T.Tape.seen c.args.tape).bytes)) (LosesNothing (g.T.Tape.seen c.args.tape) (g.T.Tape.seen c.run_opened.result.2)) c.in-Ok.ensures.counted c.run_opened.result.0 c.run_opened.ensures.promise)

pub returns-in-Err-clause-promise : goal.returns-in-Err-clause-promise
returns-in-Err-clause-promise g c =
    Kept-unstarted c.args.limits (g.S.Source.left c.args.script.now) (g.S.Source.faults c.args.script.now) (g.H.Shelf.files c.args.shelf.now)
    (g.H.Shelf.faults c.args.shelf.now) (g.D.Disk.seen c.args.disk) (g.D.Disk.seen c.in-Err.disk) (g.K.Sink.took c.args.out.now) (g.K.Sink.faults c.args.out.now)
    (StartsWith (g.T.Tape.seen c.args.tape)) _ _ (LosesNothing (g.T.Tape.seen c.args.tape) (g.T.Tape.seen c.args.tape)) (Loses-none (g.T.Tape.seen c.args.tape)) c.in-Err.status c.in-Err.ensures.refused

pub returns-in-Err-clause-cause : goal.returns-in-Err-clause-cause
returns-in-Err-clause-cause g c = (Unstarted c.in-Err.status _ _ (g.S.Source.faults c.args.script.now) (g.K.Sink.faults c.args.out.now) (g.T.Tape.seen c.args.tape).faults c.in-Err.ensures.refused).1

pub returns-in-Err-clause-tape : goal.returns-in-Err-clause-tape
returns-in-Err-clause-tape g c = (Unstarted c.in-Err.status _ _ (g.S.Source.faults c.args.script.now) (g.K.Sink.faults c.args.out.now) (g.T.Tape.seen c.args.tape).faults c.in-Err.ensures.refused).2

pub returns-in-Err-clause-taken : goal.returns-in-Err-clause-taken
returns-in-Err-clause-taken g c = (Unstarted c.in-Err.status _ _ (g.S.Source.faults c.args.script.now) (g.K.Sink.faults c.args.out.now) (g.T.Tape.seen c.args.tape).faults c.in-Err.ensures.refused).0
