use Rattle.std.proofs.Common.{false}
use Rattle.script_lines.specs.Reading.{to_come}
use Rattle.line_exec.specs.KeptChanges.{no_changes}
use Rattle.statement_exec.specs.Moment.{moment_of}
use Rattle.session.specs.Ends.{IsStill}
use Rattle.session.specs.OpenRun.{HasKept, KeepsJournal, OpenRun, spot_of}
use Rattle.session.specs.RunStates.{run_state}
use Rattle.session.proofs.script.carry_script.Given as goal

-- the run went on, no stream failed, and a journal keeps on what the lines changed
abbrev pub invariant-lines : goal.invariant-lines
invariant-lines g l =
    (run : OpenRun (run_state l.initial.lines (g.S.Source.left l.initial.script) (moment_of l.fn.store (g.H.Shelf.files l.initial.shelf) (g.H.Shelf.faults l.initial.shelf)) false
    (no_changes l.initial.journal))
    (g.K.Sink.took l.initial.out)
    (spot_of l.lines (g.S.Source.left l.script) l.now (g.H.Shelf.files l.shelf) (g.H.Shelf.faults l.shelf) l.cursors.items l.refused (g.K.Sink.took l.out)))
    × IsStill (g.S.Source.faults l.initial.script) (g.S.Source.faults l.script) (g.K.Sink.faults l.initial.out) (g.K.Sink.faults l.out)
    × KeepsJournal g.T.Tape.seen l.initial.journal l.journal run.count
    × HasKept g.T.Tape.seen l.initial.journal l.journal run.kept (moment_of l.fn.store (g.H.Shelf.files l.initial.shelf) (g.H.Shelf.faults l.initial.shelf))
    (moment_of l.now (g.H.Shelf.files l.shelf) (g.H.Shelf.faults l.shelf))

abbrev pub decreases-lines : goal.decreases-lines
decreases-lines g l = to_come l.lines
