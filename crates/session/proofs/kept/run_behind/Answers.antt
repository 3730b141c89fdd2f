-- the changes of the journal led the store on, and then the script; or the replay stopped
use Rattle.std.proofs.Common.{ℕ, ◌≤◌, ◌^◌, List, [], Some, refl, sym, ap, subst, ◌∙◌, nat_cmp, arith}
use Rattle.std.specs.FinMap as map
use Rattle.open_cursors.proofs.HeldStamps.{held_settled}
use Rattle.open_cursors.specs.OpenCursors.{AreHeld}
use Rattle.open_cursors.specs.declared.open_cursor.OpenCursor.{OpenCursor}
use Rattle.plan_ops.specs.declared.source.Source.{Source}
use Rattle.plan_ops.specs.declared.stage.Stage.{Stage}
use Rattle.page_pool.specs.Disk.{DiskView}
use Rattle.sand_base.specs.declared.limits.Limits.{Limits}
use Rattle.sand_store.specs.Catalog.{StoreState}
use Rattle.sand_store.specs.Contents.{database}
use Rattle.statement_exec.specs.Moment.{moment_of, state_with}
use Rattle.session.specs.Ends.{tape_after}
use Rattle.session.specs.KeptRun.{EndsKeeping, EndsKept, HasAll, HasBadRecord}
use Rattle.sand_journal.specs.Journal.{IsOnlyRead}
use Rattle.session.specs.KeptTape.{KeepsBehind}
use Rattle.session.specs.Outside.{outside_of}
use Rattle.session.specs.declared.status.Status.{Status}
use Rattle.session.proofs.KeptBehind.{Keeps-behind, World-on}
use Rattle.session.proofs.KeptEndings.{Kept-begun, Kept-stopped}
use Rattle.session.proofs.KeptStatuses.{Stopped, Taken-kept}
use Rattle.session.proofs.KeptTapes.{Bad-stopped, Replayed-all, World-of}
use Rattle.session.proofs.ScriptEndings.{To-counted}
use Rattle.session.proofs.kept.run_behind.Goals as goal

pub run_on-requires-clause-held : goal.run_on-requires-clause-held
run_on-requires-clause-held g c =
    held_settled c.args.store.pool c.replay.new.store.pool c.replay.ensures.carries.stamps c.args.held.now.cursors.items
    (subst (λ (items : List (OpenCursor Source Stage)). AreHeld c.args.store.pool.stamps items) (sym c.requires.none)
    (subst (λ (s : StoreState). AreHeld {S = Source} {T = Stage} s.pool.stamps []) (sym c.requires.empty) (tt, λ stamp none. map.get-empty nat_cmp stamp)))

pub run_on-requires-clause-near : goal.run_on-requires-clause-near
run_on-requires-clause-near g c = c.in-Ok.ensures.near (subst (λ n. n ≤ 2 ^ 62) (sym c.requires.passed.stands.place) (omega arith))

pub returns-in-Ok-clause-promise : goal.returns-in-Ok-clause-promise
returns-in-Ok-clause-promise g c =
    let promise = c.run_on.ensures.promise in
    let near = c.in-Ok.ensures.near (subst (λ n. n ≤ 2 ^ 62) (sym c.requires.passed.stands.place) (omega arith)) in
    let starts = Replayed-all g.T.Tape.seen c.args.journal c.replay.new.journal c.args.store c.replay.new.store c.in-Ok.ensures.replayed c.requires.passed near c.replay.ensures.read in
    let told = c.run_on.ensures.told ∙ c.replay.ensures.carries.told in
    let world = World-of c.args.store c.replay.new.store c.args.store.pool.frames c.in-Ok.ensures.replayed.changes
    (g.D.Disk.seen c.run_on.result.1).told c.requires.empty c.in-Ok.ensures.replayed.led told in
    let ends = To-counted c.args.store.catalog.limits (g.S.Source.left c.args.script.now) (g.S.Source.faults c.args.script.now) (g.H.Shelf.files c.args.shelf.now)
    (g.H.Shelf.faults c.args.shelf.now) c.args.store.pool.disk c.replay.new.store.pool.disk (g.K.Sink.took c.args.out.now) (g.K.Sink.faults c.args.out.now)
    (outside_of (g.S.Source.left c.run_on.new.script) (g.S.Source.faults c.run_on.new.script) (g.H.Shelf.files c.run_on.new.shelf)
    (g.H.Shelf.faults c.run_on.new.shelf) (g.D.Disk.seen c.run_on.result.1) (g.K.Sink.took c.run_on.new.out)
    (g.K.Sink.faults c.run_on.new.out)) (ap (λ (n : ℕ × ℕ). n.0) c.in-Ok.ensures.cause.1) (state_with [] (database c.replay.new.store)) promise.0 (Some promise.1) (Some promise.2) c.run_on.result.0
    (subst (λ (l : Limits). EndsKeeping (state_with [] (database c.replay.new.store)) promise.0 (Some promise.1) (Some promise.2) c.run_on.result.0 l
    (outside_of (g.S.Source.left c.args.script.now) (g.S.Source.faults c.args.script.now) (g.H.Shelf.files c.args.shelf.now)
    (g.H.Shelf.faults c.args.shelf.now) c.replay.new.store.pool.disk (g.K.Sink.took c.args.out.now) (g.K.Sink.faults c.args.out.now)) (outside_of
    (g.S.Source.left c.run_on.new.script) (g.S.Source.faults c.run_on.new.script) (g.H.Shelf.files c.run_on.new.shelf)
    (g.H.Shelf.faults c.run_on.new.shelf) (g.D.Disk.seen c.run_on.result.1) (g.K.Sink.took c.run_on.new.out) (g.K.Sink.faults c.run_on.new.out))) c.replay.ensures.carries.limits promise.3) in
    Kept-begun c.run_on.result.0 c.args.store.catalog.limits
    (outside_of (g.S.Source.left c.args.script.now) (g.S.Source.faults c.args.script.now) (g.H.Shelf.files c.args.shelf.now)
    (g.H.Shelf.faults c.args.shelf.now) c.args.store.pool.disk (g.K.Sink.took c.args.out.now) (g.K.Sink.faults c.args.out.now)) (outside_of
    (g.S.Source.left c.run_on.new.script) (g.S.Source.faults c.run_on.new.script) (g.H.Shelf.files c.run_on.new.shelf)
    (g.H.Shelf.faults c.run_on.new.shelf) (g.D.Disk.seen c.run_on.result.1) (g.K.Sink.took c.run_on.new.out) (g.K.Sink.faults c.run_on.new.out))
    (HasAll (g.T.Tape.seen c.args.journal.tape).told (g.T.Tape.seen c.args.journal.tape).bytes) _ _ _ c.run_on.ensures.begun
    (record {
      changes = c.in-Ok.ensures.replayed.changes;
      starts = starts;
      state = state_with [] (database c.replay.new.store);
      world = world;
      shown = promise.1;
      untold = promise.2;
      last = promise.0;
      ends = ends;
      reached = World-on c.args.store.catalog.limits (g.D.Disk.seen c.run_on.result.1).told c.in-Ok.ensures.replayed.changes promise.1
          (moment_of c.replay.new.store (g.H.Shelf.files c.args.shelf.now) (g.H.Shelf.faults c.args.shelf.now)) promise.0 c.run_on.ensures.told c.replay.ensures.carries.limits world.has promise.4.lead;
      keeps = Keeps-behind g.T.Tape.seen c.args.journal c.replay.new.journal c.run_on.result.2 c.args.store c.replay.new.store c.in-Ok.ensures.replayed c.requires.passed c.replay.ensures.read
          (g.met.T.Tape.now_is_all c.args.journal.tape) c.run_on.result.0
          (moment_of c.replay.new.store (g.H.Shelf.files c.args.shelf.now) (g.H.Shelf.faults c.args.shelf.now)) promise.0 promise.1 promise.2 promise.4;
    })

pub returns-in-Ok-clause-tape : goal.returns-in-Ok-clause-tape
returns-in-Ok-clause-tape g c = c.run_on.ensures.tape ∙ ap (tape_after c.run_on.result.0) c.in-Ok.ensures.cause.0

pub returns-in-Ok-clause-taken : goal.returns-in-Ok-clause-taken
returns-in-Ok-clause-taken g c = Taken-kept c.run_on.result.0 c.run_on.ensures.begun

-- the replay stopped

pub returns-in-Err-clause-promise : goal.returns-in-Err-clause-promise
returns-in-Err-clause-promise g c =
    subst (λ (why : Status). EndsKept why c.args.store.catalog.limits
    (outside_of (g.S.Source.left c.args.script.now) (g.S.Source.faults c.args.script.now) (g.H.Shelf.files c.args.shelf.now)
    (g.H.Shelf.faults c.args.shelf.now) c.args.store.pool.disk (g.K.Sink.took c.args.out.now) (g.K.Sink.faults c.args.out.now)) (outside_of
    (g.S.Source.left c.args.script.now) (g.S.Source.faults c.args.script.now) (g.H.Shelf.files c.args.shelf.now) (g.H.Shelf.faults c.args.shelf.now)
    (g.D.Disk.seen c.into_disk.result) (g.K.Sink.took c.args.out.now) (g.K.Sink.faults c.args.out.now))
    (HasAll (g.T.Tape.seen c.args.journal.tape).told (g.T.Tape.seen c.args.journal.tape).bytes)
    (KeepsBehind g.T.Tape.seen why c.args.journal.tape c.into_tape.result)
    (HasBadRecord c.args.store.catalog.limits (g.D.Disk.seen c.into_disk.result).told (g.T.Tape.seen c.args.journal.tape).told
    (g.T.Tape.seen c.args.journal.tape).bytes) (IsOnlyRead (g.T.Tape.seen c.args.journal.tape) (g.T.Tape.seen c.into_tape.result))) (sym c.status_of_replay.ensures)
    (Kept-stopped c.args.store.catalog.limits (g.S.Source.left c.args.script.now) (g.S.Source.faults c.args.script.now) (g.H.Shelf.files c.args.shelf.now)
    (g.H.Shelf.faults c.args.shelf.now) c.args.store.pool.disk (g.D.Disk.seen c.into_disk.result) (g.K.Sink.took c.args.out.now) (g.K.Sink.faults c.args.out.now)
    (HasAll (g.T.Tape.seen c.args.journal.tape).told (g.T.Tape.seen c.args.journal.tape).bytes) _
    (HasBadRecord c.args.store.catalog.limits (g.D.Disk.seen c.into_disk.result).told (g.T.Tape.seen c.args.journal.tape).told (g.T.Tape.seen c.args.journal.tape).bytes)
    (IsOnlyRead (g.T.Tape.seen c.args.journal.tape) (g.T.Tape.seen c.into_tape.result))
    (subst (λ tape. IsOnlyRead (g.T.Tape.seen c.args.journal.tape) (g.T.Tape.seen tape)) (sym c.into_tape.ensures) c.replay.ensures.read)
    c.in-Err.why (g.T.Tape.seen c.args.journal.tape) (g.T.Tape.seen c.replay.new.journal.tape) c.args.store.pool c.replay.new.store.pool refl c.into_disk.ensures c.in-Err.ensures.cause
    (Bad-stopped g.T.Tape.seen c.args.journal c.replay.new.journal c.args.store c.in-Err.why (g.D.Disk.seen c.into_disk.result).told c.requires.empty
    (sym c.replay.ensures.carries.told ∙ sym (ap (λ (d : DiskView). d.told) c.into_disk.ensures)) c.requires.passed c.replay.ensures.read c.in-Err.ensures.bad))

pub returns-in-Err-clause-cause : goal.returns-in-Err-clause-cause
returns-in-Err-clause-cause g c = (Stopped c.in-Err.why c.status_of_replay.result (g.T.Tape.seen c.args.journal.tape)
    (g.T.Tape.seen c.replay.new.journal.tape) c.args.store.pool c.replay.new.store.pool (g.S.Source.faults c.args.script.now)
    (g.K.Sink.faults c.args.out.now) c.status_of_replay.ensures c.in-Err.ensures.cause).1

pub returns-in-Err-clause-tape : goal.returns-in-Err-clause-tape
returns-in-Err-clause-tape g c = ap (λ t. (g.T.Tape.seen t).faults) c.into_tape.ensures
    ∙ (Stopped c.in-Err.why c.status_of_replay.result (g.T.Tape.seen c.args.journal.tape) (g.T.Tape.seen c.replay.new.journal.tape) c.args.store.pool c.replay.new.store.pool
    (g.S.Source.faults c.args.script.now) (g.K.Sink.faults c.args.out.now) c.status_of_replay.ensures c.in-Err.ensures.cause).2

pub returns-in-Err-clause-taken : goal.returns-in-Err-clause-taken
returns-in-Err-clause-taken g c = (Stopped c.in-Err.why c.status_of_replay.result (g.T.Tape.seen c.args.journal.tape)
    (g.T.Tape.seen c.replay.new.journal.tape) c.args.store.pool c.replay.new.store.pool (g.S.Source.faults c.args.script.now)
    (g.K.Sink.faults c.args.out.now) c.status_of_replay.ensures c.in-Err.ensures.cause).0
