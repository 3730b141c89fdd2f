-- Each step prints one line more, or ends the call.
use Rattle.std.proofs.Common.{Result, Ok, Err, refl, ap, ◌∙◌, subst, arith}
use Rattle.sand_base.specs.Faults.{HasCause}
use Rattle.sand_base.specs.declared.source.Failed.{Failed}
use Rattle.page_pool.specs.Causes.{HasPageCause}
use Rattle.page_pool.specs.Steps.{HasPageCause-before}
use Rattle.page_pool.specs.declared.fault.PageFault.TheVariants.{Memory}
use Rattle.best_first.specs.Visits.{told_pages}
use Rattle.best_first.proofs.Passing.{read_itself, read_both, told_read}
use Rattle.row_output.specs.Stepping.{printed_refusal}
use Rattle.row_output.specs.declared.next.Next.{Next}
use Rattle.row_output.specs.declared.next.Next.TheVariants.{Row, End, Refused}
use Rattle.statement_exec.proofs.PageCauses.{caused_by_pages}
use Rattle.open_cursors.specs.FarthestLines.{PrintsFarthest}
use Rattle.open_cursors.proofs.FarthestSteps.{all_asked, as_before, at_break, at_end, at_refusal, none_yet, one_row, stands_on}
use Rattle.open_cursors.proofs.StepCalls.{of_pages}
use Rattle.open_cursors.proofs.farthest.print_far.Goals as goal

pub rows-init : goal.rows-init
rows-init g c = record {
  few = omega arith;
  count = refl;
  read = read_itself c.args.desk.now.pool;
  failures = refl;
  sink = refl;
  hierarchy = refl;
  stands = c.requires.stands;
  so_far = none_yet c.args.desk.now.pool.disk.told c.args.desk.now.pool.pages c.args.far.now.search.hierarchy c.args.count c.args.far.now.search.frontier.last
      (g.K.Sink.took c.args.out.now) c.requires.none;
}

pub rows-preserved : goal.rows-preserved
rows-preserved g c =
    let is = c.in-Ok-Row.is ∙ ap Ok c.in-Ok-Row.field-0-is in
    let less = c.rows-test.true in record {
      few = omega (arith, less);
      count = refl;
      read = read_both c.args.desk.now.pool c.rows.desk.pool c.print_farthest.new.desk.pool c.rows.invariant.read c.print_farthest.ensures.read;
      failures = (subst (λ r. HasPageCause c.rows.desk.pool c.print_farthest.new.desk.pool (printed_refusal r)) is c.print_farthest.ensures.refused).counted ∙ c.rows.invariant.failures;
      sink = (subst (λ r. HasCause (g.K.Sink.faults c.rows.out) (g.K.Sink.faults c.print_farthest.new.out) r) is c.print_farthest.ensures.sink).done ∙ c.rows.invariant.sink;
      hierarchy = c.print_farthest.ensures.hierarchy ∙ c.rows.invariant.hierarchy;
      stands = stands_on c.rows.desk c.print_farthest.new.desk c.rows.far.search.hierarchy c.print_farthest.new.far.search.hierarchy c.print_farthest.new.far.search.frontier.queue.items c.print_farthest.new.far.search.frontier.last
          (told_read c.rows.desk c.print_farthest.new.desk c.print_farthest.ensures.read) c.print_farthest.ensures.hierarchy c.print_farthest.ensures.stands;
      so_far = one_row c.args.desk.now.pool.disk.told c.args.desk.now.pool.pages c.args.far.now.search.hierarchy c.args.count c.rows.rows c.rows.far.search.frontier.last c.print_farthest.new.far.search.frontier.last (g.K.Sink.took c.args.out.now) (g.K.Sink.took c.rows.out) (g.K.Sink.took c.print_farthest.new.out) c.rows.invariant.so_far c.rows-test.true
          (as_before c.args.desk.now c.rows.desk c.args.far.now.search.hierarchy c.rows.far.search.hierarchy c.rows.far.search.frontier.last c.print_farthest.new.far.search.frontier.last
          (Ok Row) (g.K.Sink.took c.rows.out) (g.K.Sink.took c.print_farthest.new.out)
          (told_read c.args.desk.now c.rows.desk c.rows.invariant.read) c.rows.invariant.hierarchy
          (subst (λ (r : Result Next Failed). PrintsFarthest
          (told_pages c.rows.desk) c.rows.far.search.hierarchy c.rows.far.search.frontier.last c.print_farthest.new.far.search.frontier.last r
          (g.K.Sink.took c.rows.out) (g.K.Sink.took c.print_farthest.new.out)) is c.print_farthest.ensures.line));
    }

pub returns-clause-written : goal.returns-clause-written
returns-clause-written g c =
    let few = c.rows.invariant.few in
    let most = c.rows-test.false in
    all_asked c.args.desk.now.pool.disk.told c.args.desk.now.pool.pages c.args.far.now.search.hierarchy c.args.count c.rows.rows c.rows.far.search.frontier.last
    (g.K.Sink.took c.args.out.now) (g.K.Sink.took c.rows.out) (omega (arith, few, most)) c.rows.invariant.so_far

pub returns-in-Ok-End-clause-written : goal.returns-in-Ok-End-clause-written
returns-in-Ok-End-clause-written g c =
    at_end c.args.desk.now.pool.disk.told c.args.desk.now.pool.pages c.args.far.now.search.hierarchy c.args.count c.rows.rows c.rows.far.search.frontier.last c.print_farthest.new.far.search.frontier.last (g.K.Sink.took c.args.out.now) (g.K.Sink.took c.rows.out) (g.K.Sink.took c.print_farthest.new.out) c.rows.invariant.so_far c.rows-test.true
    (as_before c.args.desk.now c.rows.desk c.args.far.now.search.hierarchy c.rows.far.search.hierarchy c.rows.far.search.frontier.last c.print_farthest.new.far.search.frontier.last
    (Ok End) (g.K.Sink.took c.rows.out) (g.K.Sink.took c.print_farthest.new.out)
    (told_read c.args.desk.now c.rows.desk c.rows.invariant.read) c.rows.invariant.hierarchy
    (subst (λ (r : Result Next Failed). PrintsFarthest (told_pages c.rows.desk) c.rows.far.search.hierarchy c.rows.far.search.frontier.last c.print_farthest.new.far.search.frontier.last r
    (g.K.Sink.took c.rows.out) (g.K.Sink.took c.print_farthest.new.out)) (c.in-Ok-End.is ∙ ap Ok c.in-Ok-End.field-0-is) c.print_farthest.ensures.line))

pub returns-in-Ok-Refused-clause-written : goal.returns-in-Ok-Refused-clause-written
returns-in-Ok-Refused-clause-written g c =
    at_refusal c.args.desk.now.pool.disk.told c.args.desk.now.pool.pages c.args.far.now.search.hierarchy c.args.count c.rows.rows c.rows.far.search.frontier.last c.print_farthest.new.far.search.frontier.last (g.K.Sink.took c.args.out.now) (g.K.Sink.took c.rows.out) (g.K.Sink.took c.print_farthest.new.out) c.rows.invariant.so_far c.in-Ok-Refused.fault c.refusal_of.result c.rows-test.true
    (as_before c.args.desk.now c.rows.desk c.args.far.now.search.hierarchy c.rows.far.search.hierarchy c.rows.far.search.frontier.last c.print_farthest.new.far.search.frontier.last
    (Ok (Refused c.in-Ok-Refused.fault)) (g.K.Sink.took c.rows.out) (g.K.Sink.took c.print_farthest.new.out)
    (told_read c.args.desk.now c.rows.desk c.rows.invariant.read) c.rows.invariant.hierarchy
    (subst (λ (r : Result Next Failed). PrintsFarthest (told_pages c.rows.desk) c.rows.far.search.hierarchy c.rows.far.search.frontier.last c.print_farthest.new.far.search.frontier.last r
    (g.K.Sink.took c.rows.out) (g.K.Sink.took c.print_farthest.new.out)) (c.in-Ok-Refused.is ∙ ap Ok c.in-Ok-Refused.field-0-is) c.print_farthest.ensures.line))

pub returns-in-Err-clause-broken : goal.returns-in-Err-clause-broken
returns-in-Err-clause-broken g c =
    at_break c.args.desk.now.pool.disk.told c.args.desk.now.pool.pages c.args.far.now.search.hierarchy c.args.count c.rows.rows c.rows.far.search.frontier.last c.print_farthest.new.far.search.frontier.last (g.K.Sink.took c.args.out.now) (g.K.Sink.took c.rows.out) (g.K.Sink.took c.print_farthest.new.out) c.rows.invariant.so_far c.in-Err.failed c.rows-test.true
    (as_before c.args.desk.now c.rows.desk c.args.far.now.search.hierarchy c.rows.far.search.hierarchy c.rows.far.search.frontier.last c.print_farthest.new.far.search.frontier.last
    (Err c.in-Err.failed) (g.K.Sink.took c.rows.out) (g.K.Sink.took c.print_farthest.new.out)
    (told_read c.args.desk.now c.rows.desk c.rows.invariant.read) c.rows.invariant.hierarchy
    (subst (λ (r : Result Next Failed). PrintsFarthest (told_pages c.rows.desk) c.rows.far.search.hierarchy c.rows.far.search.frontier.last c.print_farthest.new.far.search.frontier.last r
    (g.K.Sink.took c.rows.out) (g.K.Sink.took c.print_farthest.new.out)) c.in-Err.is c.print_farthest.ensures.line))

pub returns-in-Ok-Refused-clause-pages : goal.returns-in-Ok-Refused-clause-pages
returns-in-Ok-Refused-clause-pages g c = rw c.refusal_of.ensures (of_pages c.in-Ok-Refused.fault)

-- why the pages refused, if they did
pub returns-in-Ok-Refused-clause-cause : goal.returns-in-Ok-Refused-clause-cause
returns-in-Ok-Refused-clause-cause g c =
    let is = c.in-Ok-Refused.is ∙ ap Ok c.in-Ok-Refused.field-0-is in
    rw c.refusal_of.ensures (caused_by_pages c.args.desk.now.pool c.print_farthest.new.desk.pool c.in-Ok-Refused.fault
    (HasPageCause-before c.args.desk.now.pool c.rows.desk.pool c.print_farthest.new.desk.pool (Err c.in-Ok-Refused.fault) c.rows.invariant.failures
    (subst (λ r. HasPageCause c.rows.desk.pool c.print_farthest.new.desk.pool (printed_refusal r)) is c.print_farthest.ensures.refused)))

pub returns-in-Err-clause-cause : goal.returns-in-Err-clause-cause
returns-in-Err-clause-cause g c = (
  Memory,
  (subst (λ r. HasPageCause c.rows.desk.pool c.print_farthest.new.desk.pool (printed_refusal r)) c.in-Err.is c.print_farthest.ensures.refused).counted ∙ c.rows.invariant.failures,
)
