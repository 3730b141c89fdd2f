-- the rows of a search, or why there is none
use Rattle.std.proofs.Common.{refl}
use Rattle.sand_base.specs.declared.source.Failed.{Failed}
use Rattle.far_cursor.specs.FarCursor.{FarStands}
use Rattle.plan_sources.specs.Rankings.{by_code}
use Rattle.output_text.specs.Writing.{Writes}
use Rattle.sand_model.specs.OutputText.{IsText}
use Rattle.statement_exec.specs.Ending.{refused_line}
use Rattle.statement_exec.proofs.Endings.{line_cause, pages_unread}
use Rattle.open_cursors.proofs.FarthestOutcomes.{begun_broken, begun_written, not_started}
use Rattle.open_cursors.proofs.Showings.{over_store}
use Rattle.open_cursors.proofs.farthest.far_line.Goals as goal

pub returns-in-Err-clause-written : goal.returns-in-Err-clause-written
returns-in-Err-clause-written g c = λ cs.
    not_started c.args.catalog.now c.args.count c.args.column.now c.args.goal cs c.args.desk.now.pool (g.K.Sink.took c.args.out.now) (g.K.Sink.took c.refuse.new.out)
    c.in-Err.why (record { relation = c.as_str-relation.result.now; column = c.as_str-name.result.now }) (λ i. record { relation = c.as_str-relation.ensures i; column = c.as_str-name.ensures i })
    c.requires.stored.described c.in-Err.ensures.refused c.refuse.result c.refuse.ensures.written c.refuse.ensures.prefix

pub print_far-requires : goal.print_far-requires
print_far-requires g c = record {
  stands = over_store c.args.catalog.now c.args.desk.now (λ pages. FarStands by_code c.in-Ok.far.search.hierarchy c.in-Ok.far.search.frontier.queue.items c.in-Ok.far.search.frontier.last pages)
      c.requires.stored (λ pages stands. (c.in-Ok.ensures.begun pages).stands stands);
  none = (c.in-Ok.ensures.begun c.args.desk.now.pool.pages).none;
}

pub returns-in-Ok-print_far-clause-written : goal.returns-in-Ok-print_far-clause-written
returns-in-Ok-print_far-clause-written g c = λ cs.
    begun_written c.args.catalog.now c.args.count (record { relation = c.as_str-relation.result.now; column = c.as_str-name.result.now }) c.args.column.now
    (λ i. record { relation = c.as_str-relation.ensures i; column = c.as_str-name.ensures i }) c.args.goal cs
    c.args.desk.now.pool c.print_far.new.desk.pool c.print_far.ensures.read c.in-Ok.far.search.hierarchy c.in-Ok.far.search.frontier.queue.items c.in-Ok.far.search.frontier.last
    (c.in-Ok.ensures.begun c.args.desk.now.pool.pages)
    (g.K.Sink.took c.args.out.now) (g.K.Sink.took c.print_far.new.out)
    (g.K.Sink.took c.end_with.new.out) c.in-Ok-print_far.end c.in-Ok-print_far.ensures.pages c.in-Ok-print_far.ensures.cause c.in-Ok-print_far.ensures.written
    c.end_with.result c.end_with.ensures.written c.end_with.ensures.prefix

pub returns-in-Ok-print_far-clause-cause : goal.returns-in-Ok-print_far-clause-cause
returns-in-Ok-print_far-clause-cause g c =
    line_cause Failed (Writes (IsText (refused_line c.in-Ok-print_far.end)) (g.K.Sink.took c.print_far.new.out) (g.K.Sink.took c.end_with.new.out))
    c.args.desk.now.pool c.print_far.new.desk.pool c.in-Ok-print_far.end c.end_with.result
    c.in-Ok-print_far.ensures.cause c.end_with.ensures.written

-- no page was read
pub returns-in-Err-clause-cause : goal.returns-in-Err-clause-cause
returns-in-Err-clause-cause g c = pages_unread c.args.desk.now.pool c.args.desk.now.pool c.refuse.result refl

pub returns-clause-written : goal.returns-clause-written
returns-clause-written g c = λ cs.
    begun_broken c.args.catalog.now c.args.count (record { relation = c.as_str-relation.result.now; column = c.as_str-name.result.now }) c.args.column.now
    (λ i. record { relation = c.as_str-relation.ensures i; column = c.as_str-name.ensures i }) c.args.goal cs
    c.args.desk.now.pool c.print_far.new.desk.pool c.print_far.ensures.read c.in-Ok.far.search.hierarchy c.in-Ok.far.search.frontier.queue.items c.in-Ok.far.search.frontier.last
    (c.in-Ok.ensures.begun c.args.desk.now.pool.pages)
    (g.K.Sink.took c.args.out.now) (g.K.Sink.took c.print_far.new.out) c.in-Err-print_far.ensures.broken
