-- the limits are those of a plain run
use Rattle.std.proofs.Common.{subst}
use Rattle.session.specs.Workload.{EndsAsked, workload_of}
use Rattle.session.specs.Outside.{outside_of}
use Rattle.session.proofs.ScriptEndings.{limits_are}
use Rattle.session.proofs.top.run.Goals as goal

pub returns-clause-promise : goal.returns-clause-promise
returns-clause-promise g c =
    subst (λ limits. EndsAsked (workload_of c.args.words.now) c.run_within.result.0 limits
    (outside_of (g.S.Source.left c.args.script.now) (g.S.Source.faults c.args.script.now) (g.H.Shelf.files c.args.shelf.now) (g.H.Shelf.faults c.args.shelf.now)
    (g.D.Disk.seen c.args.disk) (g.K.Sink.took c.args.out.now) (g.K.Sink.faults c.args.out.now))
    (outside_of (g.S.Source.left c.run_within.new.script) (g.S.Source.faults c.run_within.new.script) (g.H.Shelf.files c.run_within.new.shelf) (g.H.Shelf.faults c.run_within.new.shelf)
    (g.D.Disk.seen c.run_within.result.1) (g.K.Sink.took c.run_within.new.out) (g.K.Sink.faults c.run_within.new.out)))
    (limits_are c.standard.result c.standard.ensures.ids c.standard.ensures.listings) c.run_within.ensures.promise
