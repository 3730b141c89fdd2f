-- what the run of the script left, told by what is outside
use Rattle.std.proofs.Common.{refl}
use Rattle.statement_exec.specs.Moment.{moment_of}
use Rattle.session.specs.Outside.{outside_of}
use Rattle.line_exec.specs.KeptChanges.{no_changes}
use Rattle.session.proofs.Endings.{Begun-script}
use Rattle.session.proofs.LinesCarried.{none_yet}
use Rattle.session.proofs.ScriptEndings.{Ends-script, Told-script}
use Rattle.session.proofs.top.run_from.Goals as goal

pub returns-clause-promise : goal.returns-clause-promise
returns-clause-promise g c = (
  c.carry_script-store.ensures.ends.0,
  c.carry_script-store.ensures.ends.1,
  c.carry_script-store.ensures.ends.2,
  Ends-script c.carry_script-store.result.1 c.args.held.now.lines c.args.store c.carry_script-store.result.0
      (outside_of (g.S.Source.left c.args.script.now) (g.S.Source.faults c.args.script.now) (g.H.Shelf.files c.args.shelf.now)
      (g.H.Shelf.faults c.args.shelf.now) c.args.store.pool.disk (g.K.Sink.took c.args.out.now) (g.K.Sink.faults c.args.out.now))
      (outside_of (g.S.Source.left c.carry_script-store.new.script) (g.S.Source.faults c.carry_script-store.new.script) (g.H.Shelf.files c.carry_script-store.new.shelf)
      (g.H.Shelf.faults c.carry_script-store.new.shelf) (g.D.Disk.seen c.into_disk.result) (g.K.Sink.took c.carry_script-store.new.out) (g.K.Sink.faults c.carry_script-store.new.out))
      c.requires.begun refl c.into_disk.ensures c.carry_script-store.ensures.ends.0 (no_changes c.args.journal.now) c.carry_script-store.ensures.ends.1
      c.carry_script-store.ensures.ends.2 (none_yet c.args.journal.now) c.carry_script-store.ensures.ends.3,
  c.carry_script-store.ensures.ends.4,
)

pub returns-clause-told : goal.returns-clause-told
returns-clause-told g c =
    Told-script c.carry_script-store.result.1 c.args.held.now.lines c.args.store c.carry_script-store.result.0
    (outside_of (g.S.Source.left c.args.script.now) (g.S.Source.faults c.args.script.now) (g.H.Shelf.files c.args.shelf.now)
    (g.H.Shelf.faults c.args.shelf.now) c.args.store.pool.disk (g.K.Sink.took c.args.out.now) (g.K.Sink.faults c.args.out.now))
    (outside_of (g.S.Source.left c.carry_script-store.new.script) (g.S.Source.faults c.carry_script-store.new.script) (g.H.Shelf.files c.carry_script-store.new.shelf)
    (g.H.Shelf.faults c.carry_script-store.new.shelf) (g.D.Disk.seen c.into_disk.result) (g.K.Sink.took c.carry_script-store.new.out) (g.K.Sink.faults c.carry_script-store.new.out))
    c.requires.begun refl c.into_disk.ensures c.carry_script-store.ensures.ends.0 (no_changes c.args.journal.now) c.carry_script-store.ensures.ends.1
    c.carry_script-store.ensures.ends.2 (none_yet c.args.journal.now) c.carry_script-store.ensures.ends.3

pub returns-clause-begun : goal.returns-clause-begun
returns-clause-begun g c =
    Begun-script c.carry_script-store.result.1 c.args.held.now.lines (moment_of c.args.store (g.H.Shelf.files c.args.shelf.now) (g.H.Shelf.faults c.args.shelf.now)) _ _ _ _ _
    (no_changes c.args.journal.now) c.carry_script-store.ensures.ends.1 c.carry_script-store.ensures.ends.2 (none_yet c.args.journal.now)
    c.requires.begun c.carry_script-store.ensures.ends.3
