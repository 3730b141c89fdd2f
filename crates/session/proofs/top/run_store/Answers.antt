-- a store of no relations, on which no stamp is held, and no journal
use Rattle.std.proofs.Common.{List, [], sym, subst, nat_cmp}
use Rattle.std.specs.FinMap as map
use Rattle.open_cursors.specs.OpenCursors.{AreHeld}
use Rattle.open_cursors.specs.declared.open_cursor.OpenCursor.{OpenCursor}
use Rattle.plan_ops.specs.declared.source.Source.{Source}
use Rattle.plan_ops.specs.declared.stage.Stage.{Stage}
use Rattle.sand_model.specs.Cursor.{State}
use Rattle.sand_store.specs.Catalog.{StoreState}
use Rattle.sand_store.specs.Contents.{database}
use Rattle.statement_exec.specs.Moment.{state_with}
use Rattle.sand_journal.specs.MemTape.{mem_tape_view}
use Rattle.session.specs.Ends.{EndsFrom}
use Rattle.session.specs.Outside.{outside_of}
use Rattle.session.proofs.Answered.{No-journal}
use Rattle.session.proofs.ScriptEndings.{Empty-store, Ends-empty, Ends-plain}
use Rattle.session.proofs.top.run_store.Goals as goal

pub run_from-requires-clause-held : goal.run_from-requires-clause-held
run_from-requires-clause-held g c =
    subst (λ (items : List (OpenCursor Source Stage)). AreHeld c.args.store.pool.stamps items) (sym c.requires.none)
    (subst (λ (s : StoreState). AreHeld {S = Source} {T = Stage} s.pool.stamps []) (sym c.requires.empty) (tt, λ stamp none. map.get-empty nat_cmp stamp))

pub returns-clause-promise : goal.returns-clause-promise
returns-clause-promise g c =
    Ends-empty c.run_from.result.0 c.args.store.catalog.limits
    (outside_of (g.S.Source.left c.args.script.now) (g.S.Source.faults c.args.script.now) (g.H.Shelf.files c.args.shelf.now)
    (g.H.Shelf.faults c.args.shelf.now) c.args.store.pool.disk (g.K.Sink.took c.args.out.now) (g.K.Sink.faults c.args.out.now))
    (outside_of (g.S.Source.left c.run_from.new.script) (g.S.Source.faults c.run_from.new.script) (g.H.Shelf.files c.run_from.new.shelf)
    (g.H.Shelf.faults c.run_from.new.shelf) (g.D.Disk.seen c.run_from.result.1) (g.K.Sink.took c.run_from.new.out) (g.K.Sink.faults c.run_from.new.out))
    (No-journal mem_tape_view c.run_from.new.journal c.run_from.result.0 c.run_from.ensures.there c.run_from.ensures.tape)
    (subst (λ (start : State). EndsFrom start c.run_from.result.0 c.args.store.catalog.limits
    (outside_of (g.S.Source.left c.args.script.now) (g.S.Source.faults c.args.script.now) (g.H.Shelf.files c.args.shelf.now)
    (g.H.Shelf.faults c.args.shelf.now) c.args.store.pool.disk (g.K.Sink.took c.args.out.now) (g.K.Sink.faults c.args.out.now))
    (outside_of (g.S.Source.left c.run_from.new.script) (g.S.Source.faults c.run_from.new.script) (g.H.Shelf.files c.run_from.new.shelf)
    (g.H.Shelf.faults c.run_from.new.shelf) (g.D.Disk.seen c.run_from.result.1) (g.K.Sink.took c.run_from.new.out) (g.K.Sink.faults c.run_from.new.out)))
    (Empty-store c.args.store c.args.store.catalog.limits c.args.store.pool.frames c.requires.empty) (
      c.run_from.ensures.promise.0,
      Ends-plain (state_with [] (database c.args.store)) c.run_from.ensures.promise.0 c.run_from.ensures.promise.1 c.run_from.ensures.promise.2 c.run_from.result.0 c.args.store.catalog.limits
          (outside_of (g.S.Source.left c.args.script.now) (g.S.Source.faults c.args.script.now) (g.H.Shelf.files c.args.shelf.now)
          (g.H.Shelf.faults c.args.shelf.now) c.args.store.pool.disk (g.K.Sink.took c.args.out.now) (g.K.Sink.faults c.args.out.now))
          (outside_of (g.S.Source.left c.run_from.new.script) (g.S.Source.faults c.run_from.new.script) (g.H.Shelf.files c.run_from.new.shelf)
          (g.H.Shelf.faults c.run_from.new.shelf) (g.D.Disk.seen c.run_from.result.1) (g.K.Sink.took c.run_from.new.out) (g.K.Sink.faults c.run_from.new.out))
          c.run_from.ensures.promise.3,
    ))
