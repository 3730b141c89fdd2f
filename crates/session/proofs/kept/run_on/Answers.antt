-- the journal of the run is there at its end
use Rattle.std.proofs.Common.{List, [], Option, Some, subst, sym}
use Rattle.sand_journal.specs.ChangeBody.{ChangeValue}
use Rattle.sand_store.specs.Contents.{database}
use Rattle.statement_exec.specs.Moment.{Moment, moment_of, state_with}
use Rattle.session.specs.KeptRun.{EndsKeeping}
use Rattle.session.specs.Outside.{Outside, outside_of}
use Rattle.session.specs.KeptTape.{KeepsShown}
use Rattle.session.proofs.KeptBehind.{Shows-there}
use Rattle.session.proofs.kept.run_on.Goals as goal

pub returns-clause-promise : goal.returns-clause-promise
returns-clause-promise g c =
    let promise = c.run_from-status.ensures.promise in
    let first : Moment = moment_of c.args.store (g.H.Shelf.files c.args.shelf.now) (g.H.Shelf.faults c.args.shelf.now) in
    let old : Outside = outside_of (g.S.Source.left c.args.script.now) (g.S.Source.faults c.args.script.now) (g.H.Shelf.files c.args.shelf.now)
    (g.H.Shelf.faults c.args.shelf.now) c.args.store.pool.disk (g.K.Sink.took c.args.out.now) (g.K.Sink.faults c.args.out.now) in
    let new : Outside = outside_of (g.S.Source.left c.run_from-status.new.script) (g.S.Source.faults c.run_from-status.new.script) (g.H.Shelf.files c.run_from-status.new.shelf)
    (g.H.Shelf.faults c.run_from-status.new.shelf) (g.D.Disk.seen c.run_from-status.result.1) (g.K.Sink.took c.run_from-status.new.out) (g.K.Sink.faults c.run_from-status.new.out) in
    let there = Shows-there g.T.Tape.seen c.args.journal c.run_from-status.new.journal c.unwrap.result c.run_from-status.result.0 first promise.0 promise.1 promise.2 c.unwrap.ensures promise.4 in (
      promise.0,
      there.shown,
      there.few,
      subst (λ (k : Option (List ChangeValue)). EndsKeeping (state_with [] (database c.args.store)) promise.0 k (Some there.few) c.run_from-status.result.0 c.args.store.catalog.limits old new) there.kept_is
          (subst (λ (k : Option (List ChangeValue)). EndsKeeping (state_with [] (database c.args.store)) promise.0 promise.1 k c.run_from-status.result.0 c.args.store.catalog.limits old new) there.untold_is
          promise.3),
      subst (λ tape. KeepsShown g.T.Tape.seen c.args.journal tape c.run_from-status.result.0 first promise.0 there.shown there.few) (sym c.into_tape.ensures) there.shows,
    )
