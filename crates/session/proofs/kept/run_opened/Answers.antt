-- the journal was opened, or its tape failed before anything was read
use Rattle.std.proofs.Common.{ap, inl, ◌∙◌}
use Rattle.page_pool.specs.Disk.{DiskView}
use Rattle.sand_journal.specs.Journal.{IsOnlyRead}
use Rattle.session.specs.Ends.{tape_after}
use Rattle.session.specs.KeptRun.{HasAll, HasBadRecord, StartsWith}
use Rattle.session.specs.KeptTape.{KeepsBehind, KeepsTape, LosesNothing, read_opened}
use Rattle.session.specs.declared.status.Status.TheVariants as status
use Rattle.session.specs.Outside.{outside_of}
use Rattle.session.proofs.KeptEndings.{Kept-weaker, Unbegun}
use Rattle.session.proofs.KeptTapes.{Bad-opened, Loses-read, Starts-opened}
use Rattle.session.proofs.kept.run_opened.Goals as goal

pub returns-in-Ok-clause-promise : goal.returns-in-Ok-clause-promise
returns-in-Ok-clause-promise g c =
    Kept-weaker c.run_behind.result.0 c.args.store.catalog.limits
    (outside_of (g.S.Source.left c.args.script.now) (g.S.Source.faults c.args.script.now) (g.H.Shelf.files c.args.shelf.now)
    (g.H.Shelf.faults c.args.shelf.now) c.args.store.pool.disk (g.K.Sink.took c.args.out.now) (g.K.Sink.faults c.args.out.now)) (outside_of
    (g.S.Source.left c.run_behind.new.script) (g.S.Source.faults c.run_behind.new.script) (g.H.Shelf.files c.run_behind.new.shelf)
    (g.H.Shelf.faults c.run_behind.new.shelf) (g.D.Disk.seen c.run_behind.result.1) (g.K.Sink.took c.run_behind.new.out) (g.K.Sink.faults c.run_behind.new.out))
    (HasAll (g.T.Tape.seen c.in-Ok.journal.tape).told (g.T.Tape.seen c.in-Ok.journal.tape).bytes) (StartsWith (g.T.Tape.seen c.args.tape))
    (KeepsBehind g.T.Tape.seen c.run_behind.result.0 c.in-Ok.journal.tape c.run_behind.result.2)
    (KeepsTape g.T.Tape.seen c.run_behind.result.0 c.args.tape c.run_behind.result.2)
    (HasBadRecord c.args.store.catalog.limits (g.D.Disk.seen c.run_behind.result.1).told (g.T.Tape.seen c.in-Ok.journal.tape).told (g.T.Tape.seen c.in-Ok.journal.tape).bytes)
    (HasBadRecord c.args.store.catalog.limits (g.D.Disk.seen c.run_behind.result.1).told (g.T.Tape.seen c.args.tape).told (read_opened (g.T.Tape.seen c.args.tape).bytes))
    (IsOnlyRead (g.T.Tape.seen c.in-Ok.journal.tape) (g.T.Tape.seen c.run_behind.result.2)) (LosesNothing (g.T.Tape.seen c.args.tape) (g.T.Tape.seen c.run_behind.result.2))
    (λ changes. Starts-opened (g.T.Tape.seen c.args.tape) (g.T.Tape.seen c.in-Ok.journal.tape) changes c.in-Ok.ensures.opened)
    (λ changes shown untold keeps. record { opened = c.in-Ok.journal.tape; opens = c.in-Ok.ensures.opened; keeps = keeps })
    (Bad-opened c.args.store.catalog.limits (g.D.Disk.seen c.run_behind.result.1).told (g.T.Tape.seen c.args.tape) (g.T.Tape.seen c.in-Ok.journal.tape) c.in-Ok.ensures.opened)
    (Loses-read (g.T.Tape.seen c.args.tape) (g.T.Tape.seen c.in-Ok.journal.tape) (g.T.Tape.seen c.run_behind.result.2) (g.met.T.Tape.reads_an_image c.args.tape) c.in-Ok.ensures.opened)
    c.run_behind.ensures.promise

pub returns-in-Ok-clause-tape : goal.returns-in-Ok-clause-tape
returns-in-Ok-clause-tape g c = c.run_behind.ensures.tape ∙ ap (tape_after c.run_behind.result.0) c.in-Ok.ensures.counted

pub returns-in-Err-clause-promise : goal.returns-in-Err-clause-promise
returns-in-Err-clause-promise g c =
    inl (
      Unbegun c.args.store.catalog.limits (g.S.Source.left c.args.script.now) (g.S.Source.faults c.args.script.now) (g.H.Shelf.files c.args.shelf.now)
          (g.H.Shelf.faults c.args.shelf.now) c.args.store.pool.disk (g.D.Disk.seen c.into_disk.result) (g.K.Sink.took c.args.out.now) (g.K.Sink.faults c.args.out.now)
          (StartsWith (g.T.Tape.seen c.args.tape)) (KeepsTape g.T.Tape.seen status.JournalFault c.args.tape c.in-Err.tape)
          (HasBadRecord c.args.store.catalog.limits (g.D.Disk.seen c.into_disk.result).told (g.T.Tape.seen c.args.tape).told (read_opened (g.T.Tape.seen c.args.tape).bytes))
          (LosesNothing (g.T.Tape.seen c.args.tape) (g.T.Tape.seen c.in-Err.tape)) c.in-Err.ensures.unread
          (ap (λ (d : DiskView). d.faults) c.into_disk.ensures),
      c.in-Err.ensures.unread,
    )
