-- the journal took the change, or failed, and then nothing was written
use Rattle.std.proofs.Common.{Bool, Result, Err, subst}
use Rattle.sand_base.specs.Faults.{HasCause}
use Rattle.sand_base.specs.declared.source.Failed.{Failed}
use Rattle.line_exec.proofs.Kept.{cause_of_sink, keeps_behind, none_written}
use Rattle.line_exec.proofs.Appended.{appends_as, unless_any}
use Rattle.line_exec.specs.KeptChanges.{UnlessJournal, bodies_kept}
use Rattle.line_exec.specs.declared.fault.LineFault.TheVariants as fault
use Rattle.line_exec.proofs.keeping.finish_kept.Goals as goal

pub returns-in-Ok-clause-keeps : goal.returns-in-Ok-clause-keeps
returns-in-Ok-clause-keeps g c = keeps_behind g.T.Tape.seen c.args.journal.now c.keep.new.journal c.of_sink.result c.keep.ensures.there c.in-Ok.ensures.takes

pub returns-in-Ok-clause-cause : goal.returns-in-Ok-clause-cause
returns-in-Ok-clause-cause g c =
    cause_of_sink (g.K.Sink.faults c.args.out.now) (g.K.Sink.faults c.finish.new.out) _ _ c.of_sink.result c.of_sink.ensures.sink
    (subst (λ (r : Result Bool Failed). HasCause (g.K.Sink.faults c.args.out.now) (g.K.Sink.faults c.finish.new.out) r) c.of_sink.ensures.written c.finish.ensures.cause) c.in-Ok.ensures.cause.done

pub returns-in-Err-clause-prefix : goal.returns-in-Err-clause-prefix
returns-in-Err-clause-prefix g c = none_written c.args.changed.now.answer (g.K.Sink.took c.args.out.now) c.in-Err.ensures.accepted

-- the record was appended before the line was written, or the journal failed
pub returns-in-Ok-clause-appends : goal.returns-in-Ok-clause-appends
returns-in-Ok-clause-appends g c =
    appends_as g.T.Tape.seen c.args.journal.now c.keep.new.journal (bodies_kept c.args.changed.now.answer c.args.changed.now.kept) _ (UnlessJournal c.of_sink.result)
    (λ P h. unless_any c.of_sink.result P h) c.in-Ok.ensures.appends

pub returns-in-Err-clause-appends : goal.returns-in-Err-clause-appends
returns-in-Err-clause-appends g c =
    appends_as g.T.Tape.seen c.args.journal.now c.keep.new.journal (bodies_kept c.args.changed.now.answer c.args.changed.now.kept) _ (UnlessJournal (Err fault.Journal))
    (λ P h. tt) c.in-Err.ensures.appends
