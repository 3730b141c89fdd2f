-- the disk of the store is the one that was started
use Rattle.std.proofs.Common.{ap}
use Rattle.sand_store.specs.Catalog.{StoreState}
use Rattle.session.specs.Outside.{outside_of}
use Rattle.session.proofs.ScriptEndings.{Ends-started, Taken-begun}
use Rattle.session.proofs.top.run_started.Goals as goal

pub returns-in-Ok-clause-promise : goal.returns-in-Ok-clause-promise
returns-in-Ok-clause-promise g c =
    Ends-started c.in-Ok.store.catalog.limits (g.S.Source.left c.args.script.now) (g.S.Source.faults c.args.script.now) (g.H.Shelf.files c.args.shelf.now) (g.H.Shelf.faults c.args.shelf.now)
    (g.D.Disk.seen c.args.disk) c.in-Ok.store.pool.disk (g.K.Sink.took c.args.out.now) (g.K.Sink.faults c.args.out.now)
    (outside_of (g.S.Source.left c.run_store.new.script) (g.S.Source.faults c.run_store.new.script) (g.H.Shelf.files c.run_store.new.shelf)
    (g.H.Shelf.faults c.run_store.new.shelf) (g.D.Disk.seen c.run_store.result.1) (g.K.Sink.took c.run_store.new.out) (g.K.Sink.faults c.run_store.new.out))
    c.in-Ok.ensures.counted c.run_store.result.0 c.args.limits (ap (λ (s : StoreState). s.catalog.limits) c.in-Ok.ensures.begun) c.run_store.ensures.begun c.run_store.ensures.promise

pub returns-in-Ok-clause-taken : goal.returns-in-Ok-clause-taken
returns-in-Ok-clause-taken g c = Taken-begun c.run_store.result.0 _ _ _ c.run_store.ensures.begun c.run_store.ensures.promise
