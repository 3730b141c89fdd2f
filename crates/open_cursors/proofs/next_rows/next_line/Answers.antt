-- rows up to a refusal and its line, or up to where the sink failed
use Rattle.plan_iterator.specs.Standing.{IsAt}
use Rattle.plan_iterator.specs.Rows.{counts_of}
use Rattle.sand_base.specs.declared.refusal.Refusal.TheVariants as why
use Rattle.sand_base.specs.declared.source.Failed.{Failed}
use Rattle.output_text.specs.Writing.{Writes}
use Rattle.sand_model.specs.OutputText.{IsText}
use Rattle.statement_exec.specs.Ending.{refused_line}
use Rattle.statement_exec.proofs.Endings.{line_cause}
use Rattle.open_cursors.proofs.MoreSteps.{stays_refused}
use Rattle.open_cursors.proofs.ToldSteps.{told_carried, told_broken}
use Rattle.open_cursors.proofs.NextByName.{next_by_name, next_broken_by_name}
use Rattle.open_cursors.specs.OpenCursors.{AtStamp}
use Rattle.open_cursors.specs.OverPages.{told_stamps}
use Rattle.open_cursors.proofs.next_rows.next_line.Goals as goal

pub returns-in-Ok-clause-carried : goal.returns-in-Ok-clause-carried
returns-in-Ok-clause-carried g c =
    told_carried (AtStamp (λ r. IsAt g.S.RowSource.At g.T.RowStage.Stands g.T.RowStage.closed (λ s. counts_of (g.S.RowSource.seen s)) r))
    (told_stamps c.args.store.pool) c.args.cursors.now.items c.print_next-store.new.cursors.items
    c.args.store.pool c.print_next-store.result.0.pool c.print_next-store.ensures.read c.args.name.now c.args.count (g.K.Sink.took c.args.out.now)
    (g.K.Sink.took c.print_next-store.new.out) (g.K.Sink.took c.end_with.new.out)
    c.in-Ok.end (rw c.in-Ok.is at c.print_next-store.ensures.cause) c.end_with.result c.end_with.ensures.written c.end_with.ensures.prefix (rw c.in-Ok.is at c.print_next-store.ensures.steps)

pub returns-in-Ok-clause-cause : goal.returns-in-Ok-clause-cause
returns-in-Ok-clause-cause g c =
    line_cause Failed (Writes (IsText (refused_line c.in-Ok.end)) (g.K.Sink.took c.print_next-store.new.out) (g.K.Sink.took c.end_with.new.out))
    c.args.store.pool c.print_next-store.result.0.pool c.in-Ok.end c.end_with.result
    (rw c.in-Ok.is at c.print_next-store.ensures.cause) c.end_with.ensures.written

pub returns-in-Err-clause-carried : goal.returns-in-Err-clause-carried
returns-in-Err-clause-carried g c =
    told_broken (AtStamp (λ r. IsAt g.S.RowSource.At g.T.RowStage.Stands g.T.RowStage.closed (λ s. counts_of (g.S.RowSource.seen s)) r))
    (told_stamps c.args.store.pool) c.args.cursors.now.items c.print_next-store.new.cursors.items
    c.args.store.pool c.print_next-store.result.0.pool c.print_next-store.ensures.read c.args.name.now c.args.count (g.K.Sink.took c.args.out.now) (g.K.Sink.took c.print_next-store.new.out)
    c.in-Err.field-0 (λ r stamps m at. stays_refused g.S.RowSource.At g.T.RowStage.Stands g.T.RowStage.closed (λ s. counts_of (g.S.RowSource.seen s)) r.cursor at.0.pages m at.2 why.Memory)
    (rw c.in-Err.is at c.print_next-store.ensures.steps)

-- by the names, whatever rows were printed
pub returns-in-Ok-clause-named : goal.returns-in-Ok-clause-named
returns-in-Ok-clause-named g c = λ untold cs own all catalog.
    next_by_name catalog cs
    c.args.store.pool c.print_next-store.result.0.pool c.print_next-store.ensures.read c.args.name.now c.args.count untold c.args.cursors.now.items c.print_next-store.new.cursors.items own all
    c.print_next-store.ensures.names (g.K.Sink.took c.args.out.now) (g.K.Sink.took c.print_next-store.new.out) (g.K.Sink.took c.end_with.new.out) c.in-Ok.end
    (rw c.in-Ok.is at c.print_next-store.ensures.cause) (rw c.in-Ok.is at c.print_next-store.ensures.unknown)
    c.print_next-store.ensures.silent (rw c.in-Ok.is at c.print_next-store.ensures.rows) c.end_with.result c.end_with.ensures.written c.end_with.ensures.prefix

pub returns-in-Err-clause-named : goal.returns-in-Err-clause-named
returns-in-Err-clause-named g c = λ untold cs own all catalog.
    next_broken_by_name catalog cs
    c.args.store.pool c.print_next-store.result.0.pool c.print_next-store.ensures.read c.args.name.now c.args.count untold c.args.cursors.now.items c.print_next-store.new.cursors.items own all
    c.print_next-store.ensures.names (g.K.Sink.took c.args.out.now) (g.K.Sink.took c.print_next-store.new.out) c.in-Err.field-0
    (rw c.in-Err.is at c.print_next-store.ensures.unknown) (rw c.in-Err.is at c.print_next-store.ensures.rows)
