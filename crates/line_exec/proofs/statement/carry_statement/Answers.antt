-- a change, or a statement that comes back and is read over the store, which is as it was
use Rattle.std.proofs.Common.{Bool, Result, Some, [], refl, sym, subst}
use Rattle.std.specs.Prelude.{is_some}
use Rattle.line_meaning.proofs.Runs.{follows_on}
use Rattle.open_cursors.proofs.HeldStamps.{held_settled}
use Rattle.open_cursors.specs.Carried.{ChangesRelations}
use Rattle.open_cursors.specs.OverPages.{AreStanding, StandOver}
use Rattle.sand_store.specs.Catalog.{StoreState}
use Rattle.sand_base.specs.Faults.{HasCause}
use Rattle.sand_base.specs.declared.source.Failed.{Failed}
use Rattle.script_text.specs.InRange.{IsInRange}
use Rattle.statements.specs.Statement.{Statement, statement_value}
use Rattle.statement_exec.specs.Moment.{moment_of, while_open}
use Rattle.line_exec.proofs.Kept.{accepted_change, accepted_read, cause_of_sink, err_written, keeps_same, ok_written, untold_change, untold_sink}
use Rattle.line_exec.specs.Keeping.{sink_result}
use Rattle.line_exec.specs.KeptChanges.{IsToKeep, no_changes}
use Rattle.line_exec.specs.LineCarried.{CarriesKept, LineCarried}
use Rattle.line_exec.proofs.LineSteps.{line_of_change, line_of_reading}
use Rattle.line_exec.proofs.Moments.{follows_read, same_moment}
use Rattle.line_exec.proofs.Led.{lead_none, unchanged_read}
use Rattle.line_exec.proofs.LineChanges.{carries_made, lead_open, made, none_of_reading}
use Rattle.line_exec.proofs.LineKept.{keeps_change, keeps_none, refused_by}
use Rattle.line_exec.proofs.statement.carry_statement.Goals as goal

-- a change: the open cursors stand where they stood, over the maps that their stamps hold
pub returns-in-Ok-clause-carried : goal.returns-in-Ok-clause-carried
returns-in-Ok-clause-carried g c =
    let keep : IsToKeep (is_some c.args.journal.now) (statement_value c.args.statement) c.in-Ok.made.answer c.in-Ok.made.kept c.args.store c.change.new.store =
    rw c.is_some-keeps.ensures at c.in-Ok.ensures.kept in (
      made c.args.journal.now (statement_value c.args.statement) c.in-Ok.made.answer c.in-Ok.made.kept c.args.store c.change.new.store keep,
      λ line says cs own counted stand.
          line_of_change (made c.args.journal.now (statement_value c.args.statement) c.in-Ok.made.answer c.in-Ok.made.kept c.args.store c.change.new.store keep) line c.args.statement c.args.store c.change.new.store (g.H.Shelf.files c.args.shelf.now) (g.H.Shelf.files c.change.new.shelf)
          (g.H.Shelf.faults c.args.shelf.now) (g.H.Shelf.faults c.change.new.shelf)
          (g.K.Sink.took c.args.out.now) (g.K.Sink.took c.finish_kept.new.out) c.in-Ok.made.answer (sink_result c.finish_kept.result) c.args.cursors.now.items cs says own c.change.ensures.carries stand
          (c.in-Ok.ensures.answers cs) (ok_written _ c.finish_kept.result c.finish_kept.ensures.written) (err_written _ c.finish_kept.result c.finish_kept.ensures.prefix)
          (carries_made c.args.journal.now c.args.statement c.in-Ok.made.answer c.in-Ok.made.kept c.args.store c.change.new.store keep (g.H.Shelf.files c.args.shelf.now)
          (g.H.Shelf.files c.change.new.shelf) (g.H.Shelf.faults c.args.shelf.now) (g.H.Shelf.faults c.change.new.shelf) cs line says),
      keeps_change g.T.Tape.seen c.args.store c.change.new.store (g.H.Shelf.files c.args.shelf.now) (g.H.Shelf.faults c.args.shelf.now) (statement_value c.args.statement)
          c.args.journal.now c.finish_kept.new.journal c.in-Ok.made.answer c.in-Ok.made.kept c.finish_kept.result keep c.finish_kept.ensures.appends
          (refused_by _ c.in-Ok.made.answer c.finish_kept.result c.finish_kept.ensures.written),
    )

pub returns-in-Ok-clause-held : goal.returns-in-Ok-clause-held
returns-in-Ok-clause-held g c = held_settled c.args.store.pool c.change.new.store.pool c.change.ensures.carries.stamps c.args.cursors.now.items c.requires.stands.0

-- any other statement came back, and the store is as it was

pub read_statement-read-requires-clause-in_range : goal.read_statement-read-requires-clause-in_range
read_statement-read-requires-clause-in_range g c = subst (λ (v : Statement). IsInRange v) (sym c.in-Err.ensures.returned.0) c.requires.in_range

pub read_statement-read-requires-clause-reads : goal.read_statement-read-requires-clause-reads
read_statement-read-requires-clause-reads g c = subst (λ (v : Statement). ChangesRelations v → ⊥) (sym c.in-Err.ensures.returned.0) c.in-Err.ensures.returned.1

pub read_statement-read-requires-clause-stands : goal.read_statement-read-requires-clause-stands
read_statement-read-requires-clause-stands g c = subst (λ (s : StoreState). AreStanding s.pool c.args.cursors.now.items) (sym c.in-Err.ensures.unchanged) c.requires.stands

pub returns-in-Err-clause-carried : goal.returns-in-Err-clause-carried
returns-in-Err-clause-carried g c =
    let unchanged = unchanged_read c.args.store c.change.new.store c.read_statement-read.result.0 c.in-Err.ensures.unchanged c.read_statement-read.ensures.catalog c.read_statement-read.ensures.pages in (
      no_changes c.args.journal.now,
      λ line says cs own counted stand.
          subst (λ (r : Result Bool Failed). LineCarried (CarriesKept (Some line) (no_changes c.args.journal.now)) (while_open c.args.store (g.H.Shelf.files c.args.shelf.now) (g.H.Shelf.faults c.args.shelf.now))
          (while_open c.read_statement-read.result.0 (g.H.Shelf.files c.change.new.shelf) (g.H.Shelf.faults c.change.new.shelf)) cs
          (g.K.Sink.took c.args.out.now) (g.K.Sink.took c.read_statement-read.new.out) r (StandOver c.read_statement-read.result.0.pool c.read_statement-read.new.cursors.items)) c.of_sink.ensures.written
          (line_of_reading (no_changes c.args.journal.now) line c.args.statement c.in-Err.other c.change.new.store c.read_statement-read.result.0
          (while_open c.args.store (g.H.Shelf.files c.args.shelf.now) (g.H.Shelf.faults c.args.shelf.now))
          (g.H.Shelf.files c.change.new.shelf) (g.H.Shelf.faults c.change.new.shelf) cs (g.K.Sink.took c.args.out.now) (g.K.Sink.took c.read_statement-read.new.out) c.read_statement-read.result.1
          (StandOver c.read_statement-read.result.0.pool c.read_statement-read.new.cursors.items) says c.in-Err.ensures.returned.0 c.read_statement-read.ensures.catalog
          (same_moment c.args.store c.change.new.store (g.H.Shelf.files c.args.shelf.now) (g.H.Shelf.files c.change.new.shelf) (g.H.Shelf.faults c.args.shelf.now)
          (g.H.Shelf.faults c.change.new.shelf) cs c.in-Err.ensures.unchanged c.change.ensures.files c.in-Err.ensures.shelf)
          (λ cs' printed. none_of_reading c.args.journal.now line c.args.statement (while_open c.args.store (g.H.Shelf.files c.args.shelf.now) (g.H.Shelf.faults c.args.shelf.now) cs)
          (while_open c.read_statement-read.result.0 (g.H.Shelf.files c.change.new.shelf) (g.H.Shelf.faults c.change.new.shelf) cs') printed says c.in-Err.ensures.returned.1
          (lead_open [] c.args.store c.read_statement-read.result.0 (g.H.Shelf.files c.args.shelf.now) (g.H.Shelf.files c.change.new.shelf) (g.H.Shelf.faults c.args.shelf.now)
          (g.H.Shelf.faults c.change.new.shelf) cs cs' (lead_none c.args.store c.read_statement-read.result.0 (g.H.Shelf.files c.args.shelf.now) (g.H.Shelf.faults c.args.shelf.now) unchanged)))
          (c.read_statement-read.ensures.carried cs own counted (subst (λ (s : StoreState). StandOver s.pool c.args.cursors.now.items cs) (sym c.in-Err.ensures.unchanged) stand))),
      keeps_none g.T.Tape.seen c.args.store c.read_statement-read.result.0 (g.H.Shelf.files c.args.shelf.now) (g.H.Shelf.faults c.args.shelf.now)
          (g.met.T.Tape.now_is_all) c.args.journal.now c.of_sink.result unchanged,
    )

-- what is read leaves a moment that follows
pub returns-in-Err-clause-follows : goal.returns-in-Err-clause-follows
returns-in-Err-clause-follows g c =
    follows_on (moment_of c.args.store (g.H.Shelf.files c.args.shelf.now) (g.H.Shelf.faults c.args.shelf.now))
    (moment_of c.change.new.store (g.H.Shelf.files c.change.new.shelf) (g.H.Shelf.faults c.change.new.shelf))
    (moment_of c.read_statement-read.result.0 (g.H.Shelf.files c.change.new.shelf) (g.H.Shelf.faults c.change.new.shelf)) c.change.ensures.follows
    (follows_read c.change.new.store c.read_statement-read.result.0 (g.H.Shelf.files c.change.new.shelf)
    (g.H.Shelf.faults c.change.new.shelf) c.read_statement-read.ensures.catalog c.read_statement-read.ensures.pages)

-- the journal, and why the run ends

pub returns-in-Ok-clause-untold : goal.returns-in-Ok-clause-untold
returns-in-Ok-clause-untold g c =
    untold_change (g.K.Sink.took c.args.out.now) (g.K.Sink.took c.finish_kept.new.out) c.args.store.pool c.change.new.store.pool (g.H.Shelf.faults c.args.shelf.now)
    (g.H.Shelf.faults c.change.new.shelf)
    (moment_of c.args.store (g.H.Shelf.files c.args.shelf.now) (g.H.Shelf.faults c.args.shelf.now))
    (moment_of c.change.new.store (g.H.Shelf.files c.change.new.shelf) (g.H.Shelf.faults c.change.new.shelf))
    c.in-Ok.made.answer c.finish_kept.result c.in-Ok.ensures.counts (λ e. e) (λ e. e) c.finish_kept.ensures.untold

pub returns-in-Err-clause-keeps : goal.returns-in-Err-clause-keeps
returns-in-Err-clause-keeps g c = keeps_same g.T.Tape.seen c.args.journal.now c.of_sink.result

pub returns-in-Err-clause-untold : goal.returns-in-Err-clause-untold
returns-in-Err-clause-untold g c = untold_sink (g.K.Sink.took c.args.out.now) (g.K.Sink.took c.read_statement-read.new.out)
    (moment_of c.args.store (g.H.Shelf.files c.args.shelf.now) (g.H.Shelf.faults c.args.shelf.now))
    (moment_of c.read_statement-read.result.0 (g.H.Shelf.files c.change.new.shelf) (g.H.Shelf.faults c.change.new.shelf)) c.of_sink.result c.of_sink.ensures.sink

pub returns-in-Err-clause-cause : goal.returns-in-Err-clause-cause
returns-in-Err-clause-cause g c =
    cause_of_sink (g.K.Sink.faults c.args.out.now) (g.K.Sink.faults c.read_statement-read.new.out) _ _ c.of_sink.result c.of_sink.ensures.sink
    (subst (λ (r : Result Bool Failed). HasCause (g.K.Sink.faults c.args.out.now) (g.K.Sink.faults c.read_statement-read.new.out) r) c.of_sink.ensures.written c.read_statement-read.ensures.sink) refl

-- an accepted line found no failure

pub returns-in-Ok-clause-unfailed : goal.returns-in-Ok-clause-unfailed
returns-in-Ok-clause-unfailed g c =
    accepted_change _ c.args.store.pool c.change.new.store.pool (g.H.Shelf.faults c.args.shelf.now) (g.H.Shelf.faults c.change.new.shelf) c.in-Ok.made.answer c.finish_kept.result
    c.in-Ok.ensures.counts c.finish_kept.ensures.written

pub returns-in-Err-clause-unfailed : goal.returns-in-Err-clause-unfailed
returns-in-Err-clause-unfailed g c =
    accepted_read c.args.store c.change.new.store c.read_statement-read.result.0 c.read_statement-read.result.1 c.of_sink.result
    c.in-Err.ensures.unchanged c.read_statement-read.ensures.cause c.of_sink.ensures.written
