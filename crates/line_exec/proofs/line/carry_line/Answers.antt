-- what a line says, carried out
use Rattle.std.proofs.Common.{Bool, Some, Result, refl, subst}
use Rattle.sand_base.specs.Faults.{HasCause}
use Rattle.sand_base.specs.declared.source.Failed.{Failed}
use Rattle.open_cursors.specs.OverPages.{StandOver}
use Rattle.line_exec.proofs.Kept.{accepted_unread, cause_of_sink, keeps_same, untold_sink}
use Rattle.line_exec.specs.KeptChanges.{no_changes}
use Rattle.line_exec.specs.LineCarried.{CarriesKept, LineCarried}
use Rattle.line_exec.proofs.LineSteps.{line_of_nothing, line_of_refusal}
use Rattle.statement_exec.specs.Moment.{moment_of, while_open}
use Rattle.line_exec.proofs.Led.{unchanged_itself}
use Rattle.line_exec.proofs.LineKept.{keeps_none}
use Rattle.line_exec.proofs.line.carry_line.Goals as goal

-- what its statement does
pub returns-in-Ok-Some-clause-carried : goal.returns-in-Ok-Some-clause-carried
returns-in-Ok-Some-clause-carried g c =
    let all = c.carry_statement.ensures.carried in (all.0, all.1 c.args.line.now (rw c.in-Ok-Some.field-0-is at c.in-Ok-Some.ensures.says), all.2)

-- nothing is printed, and all is as it was
pub returns-in-Ok-None-clause-carried : goal.returns-in-Ok-None-clause-carried
returns-in-Ok-None-clause-carried g c = (
  no_changes c.args.journal.now,
  λ cs own counted stand.
      line_of_nothing c.args.journal.now (while_open c.args.store (g.H.Shelf.files c.args.shelf.now) (g.H.Shelf.faults c.args.shelf.now)) cs
      (StandOver c.args.store.pool c.args.cursors.now.items) own stand (g.K.Sink.took c.args.out.now)
      c.args.line.now (rw c.in-Ok-None.field-0-is at c.in-Ok-None.ensures.says),
  keeps_none g.T.Tape.seen c.args.store c.args.store (g.H.Shelf.files c.args.shelf.now) (g.H.Shelf.faults c.args.shelf.now) (g.met.T.Tape.now_is_all) c.args.journal.now _
      (unchanged_itself c.args.store),
)

-- the line is refused by what it says, or memory was
pub returns-in-Err-clause-carried : goal.returns-in-Err-clause-carried
returns-in-Err-clause-carried g c = (
  no_changes c.args.journal.now,
  λ cs own counted stand.
      subst (λ (r : Result Bool Failed). LineCarried (CarriesKept (Some c.args.line.now) (no_changes c.args.journal.now)) (while_open c.args.store (g.H.Shelf.files c.args.shelf.now) (g.H.Shelf.faults c.args.shelf.now))
      (while_open c.args.store (g.H.Shelf.files c.args.shelf.now) (g.H.Shelf.faults c.args.shelf.now)) cs (g.K.Sink.took c.args.out.now)
      (g.K.Sink.took c.refuse.new.out) r (StandOver c.args.store.pool c.args.cursors.now.items)) c.of_sink.ensures.written
      (line_of_refusal c.args.journal.now (while_open c.args.store (g.H.Shelf.files c.args.shelf.now) (g.H.Shelf.faults c.args.shelf.now)) cs
      (StandOver c.args.store.pool c.args.cursors.now.items) own stand (g.K.Sink.took c.args.out.now) c.args.line.now
      (g.K.Sink.took c.refuse.new.out) c.in-Err.why c.refuse.result c.in-Err.ensures.refuses c.in-Err.ensures.inside c.refuse.ensures.written c.refuse.ensures.prefix),
  keeps_none g.T.Tape.seen c.args.store c.args.store (g.H.Shelf.files c.args.shelf.now) (g.H.Shelf.faults c.args.shelf.now) (g.met.T.Tape.now_is_all) c.args.journal.now c.of_sink.result
      (unchanged_itself c.args.store),
)

-- the journal is as it was

pub returns-in-Ok-None-clause-keeps : goal.returns-in-Ok-None-clause-keeps
returns-in-Ok-None-clause-keeps g c = keeps_same g.T.Tape.seen c.args.journal.now _

pub returns-in-Err-clause-keeps : goal.returns-in-Err-clause-keeps
returns-in-Err-clause-keeps g c = keeps_same g.T.Tape.seen c.args.journal.now c.of_sink.result

pub returns-in-Err-clause-untold : goal.returns-in-Err-clause-untold
returns-in-Err-clause-untold g c = untold_sink (g.K.Sink.took c.args.out.now) (g.K.Sink.took c.refuse.new.out)
    (moment_of c.args.store (g.H.Shelf.files c.args.shelf.now) (g.H.Shelf.faults c.args.shelf.now))
    (moment_of c.args.store (g.H.Shelf.files c.args.shelf.now) (g.H.Shelf.faults c.args.shelf.now)) c.of_sink.result c.of_sink.ensures.sink

pub returns-in-Err-clause-cause : goal.returns-in-Err-clause-cause
returns-in-Err-clause-cause g c =
    cause_of_sink (g.K.Sink.faults c.args.out.now) (g.K.Sink.faults c.refuse.new.out) _ _ c.of_sink.result c.of_sink.ensures.sink
    (subst (λ (r : Result Bool Failed). HasCause (g.K.Sink.faults c.args.out.now) (g.K.Sink.faults c.refuse.new.out) r) c.of_sink.ensures.written c.refuse.ensures.cause) refl

-- no page was read
pub returns-in-Err-clause-unfailed : goal.returns-in-Err-clause-unfailed
returns-in-Err-clause-unfailed g c = accepted_unread c.args.store.pool c.of_sink.result
