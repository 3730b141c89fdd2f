-- a line that is too long
use Rattle.std.proofs.Common.{ℕ, Bool, List, Option, Result, refl, subst}
use Rattle.sand_base.specs.Faults.{HasCause}
use Rattle.sand_base.specs.declared.source.Failed.{Failed}
use Rattle.line_exec.proofs.Kept.{cause_of_sink, keeps_same, untold_sink}
use Rattle.line_exec.proofs.Led.{unchanged_itself}
use Rattle.line_exec.proofs.LineKept.{keeps_none}
use Rattle.line_exec.specs.Keeping.{sink_result}
use Rattle.line_exec.specs.KeptChanges.{no_changes}
use Rattle.line_exec.specs.LineCarried.{CarriesKept, LineCarried}
use Rattle.open_cursors.specs.OverPages.{StandOver}
use Rattle.session.proofs.LongLines.{long_line, short_line}
use Rattle.statement_exec.specs.Moment.{moment_of, while_open}
use Rattle.session.proofs.script.carry_hand.Goals as goal

pub returns-then-is_long-clause-carried : goal.returns-then-is_long-clause-carried
returns-then-is_long-clause-carried g c = (
  no_changes c.args.journal.now,
  λ cs own counted stand.
      subst (λ (r : Result Bool Failed). LineCarried (CarriesKept c.args.lines.now.line (no_changes c.args.journal.now)) (while_open c.args.store (g.H.Shelf.files c.args.shelf.now) (g.H.Shelf.faults c.args.shelf.now))
      (while_open c.args.store (g.H.Shelf.files c.args.shelf.now) (g.H.Shelf.faults c.args.shelf.now)) cs (g.K.Sink.took c.args.out.now)
      (g.K.Sink.took c.refuse.new.out) r (StandOver c.args.store.pool c.args.cursors.now.items)) c.of_sink.ensures.written
      (long_line c.args.journal.now (while_open c.args.store (g.H.Shelf.files c.args.shelf.now) (g.H.Shelf.faults c.args.shelf.now)) cs
      (StandOver c.args.store.pool c.args.cursors.now.items) own stand (g.K.Sink.took c.args.out.now)
      (g.K.Sink.took c.refuse.new.out) c.args.lines.now.line c.args.is_long c.requires.short c.if-is_long.true c.refuse.result c.refuse.ensures.written c.refuse.ensures.prefix),
  keeps_none g.T.Tape.seen c.args.store c.args.store (g.H.Shelf.files c.args.shelf.now) (g.H.Shelf.faults c.args.shelf.now) (g.met.T.Tape.now_is_all) c.args.journal.now c.of_sink.result
      (unchanged_itself c.args.store),
)

pub returns-then-is_long-clause-keeps : goal.returns-then-is_long-clause-keeps
returns-then-is_long-clause-keeps g c = keeps_same g.T.Tape.seen c.args.journal.now c.of_sink.result

pub returns-then-is_long-clause-untold : goal.returns-then-is_long-clause-untold
returns-then-is_long-clause-untold g c = untold_sink (g.K.Sink.took c.args.out.now) (g.K.Sink.took c.refuse.new.out)
    (moment_of c.args.store (g.H.Shelf.files c.args.shelf.now) (g.H.Shelf.faults c.args.shelf.now))
    (moment_of c.args.store (g.H.Shelf.files c.args.shelf.now) (g.H.Shelf.faults c.args.shelf.now)) c.of_sink.result c.of_sink.ensures.sink

pub returns-then-is_long-clause-cause : goal.returns-then-is_long-clause-cause
returns-then-is_long-clause-cause g c =
    cause_of_sink (g.K.Sink.faults c.args.out.now) (g.K.Sink.faults c.refuse.new.out) _ _ c.of_sink.result c.of_sink.ensures.sink
    (subst (λ (r : Result Bool Failed). HasCause (g.K.Sink.faults c.args.out.now) (g.K.Sink.faults c.refuse.new.out) r) c.of_sink.ensures.written c.refuse.ensures.cause) refl

-- the line in hand is carried out
pub returns-clause-carried : goal.returns-clause-carried
returns-clause-carried g c =
    let all = c.carry_line.ensures.carried in (
      all.0,
      λ cs own counted stand.
          short_line (λ (line : Option (List ℕ)). LineCarried (CarriesKept line all.0) (while_open c.args.store (g.H.Shelf.files c.args.shelf.now) (g.H.Shelf.faults c.args.shelf.now))
          (while_open c.carry_line.result.0 (g.H.Shelf.files c.carry_line.new.shelf) (g.H.Shelf.faults c.carry_line.new.shelf)) cs (g.K.Sink.took c.args.out.now)
          (g.K.Sink.took c.carry_line.new.out) (sink_result c.carry_line.result.1)
          (StandOver c.carry_line.result.0.pool c.carry_line.new.cursors.items)) c.args.lines.now.line c.line.result.now c.args.is_long c.requires.short c.if-is_long.false c.line.ensures.value (all.1 cs own counted stand),
      all.2,
    )
