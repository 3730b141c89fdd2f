-- The step of the search that was made, and the line that was written.
use Rattle.std.proofs.Common.{Some, None, Ok, Err, refl, ap, ◌∙◌}
use Rattle.best_first.specs.Visits.{told_pages}
use Rattle.row_output.specs.declared.next.Next.TheVariants.{Row, End, Refused}
use Rattle.row_output.proofs.Stepped.{row_broken, end_broken}
use Rattle.open_cursors.specs.FarthestLines.{answer_of}
use Rattle.open_cursors.proofs.FarthestSteps.{prints_farthest}
use Rattle.open_cursors.proofs.farthest.print_farthest.Goals as goal

pub returns-in_ok-print_hit-in-Ok-Some-clause-line : goal.returns-in_ok-print_hit-in-Ok-Some-clause-line
returns-in_ok-print_hit-in-Ok-Some-clause-line g c =
    prints_farthest (told_pages c.args.desk.now) c.args.far.now.search.hierarchy c.args.far.now.search.frontier.last c.next.new.self.search.frontier.last c.next.result
    (Ok (Some c.in-Ok-Some.hit)) (Ok Row)
    (g.K.Sink.took c.args.out.now) (g.K.Sink.took c.print_hit.new.out) (c.in-Ok-Some.is ∙ ap Ok c.in-Ok-Some.field-0-is) c.next.ensures.rows c.in_ok-print_hit-in-Ok-Some.ensures.written

pub returns-in_err-print_hit-in-Ok-Some-clause-line : goal.returns-in_err-print_hit-in-Ok-Some-clause-line
returns-in_err-print_hit-in-Ok-Some-clause-line g c =
    prints_farthest (told_pages c.args.desk.now) c.args.far.now.search.hierarchy c.args.far.now.search.frontier.last c.next.new.self.search.frontier.last c.next.result
    (Ok (Some c.in-Ok-Some.hit)) c.from_residual.result
    (g.K.Sink.took c.args.out.now) (g.K.Sink.took c.print_hit.new.out) (c.in-Ok-Some.is ∙ ap Ok c.in-Ok-Some.field-0-is) c.next.ensures.rows
    (row_broken (answer_of c.in-Ok-Some.hit) c.from_residual.result (g.K.Sink.took c.args.out.now)
    (g.K.Sink.took c.print_hit.new.out) c.from_residual.ensures.0 c.in_err-print_hit-in-Ok-Some.ensures.prefix)

pub returns-in_ok-write_line-in-Ok-None-clause-line : goal.returns-in_ok-write_line-in-Ok-None-clause-line
returns-in_ok-write_line-in-Ok-None-clause-line g c =
    prints_farthest (told_pages c.args.desk.now) c.args.far.now.search.hierarchy c.args.far.now.search.frontier.last c.next.new.self.search.frontier.last c.next.result (Ok None) (Ok End)
    (g.K.Sink.took c.args.out.now) (g.K.Sink.took c.write_line.new.out) (c.in-Ok-None.is ∙ ap Ok c.in-Ok-None.field-0-is) c.next.ensures.rows c.in_ok-write_line-in-Ok-None.ensures.written

pub returns-in_err-write_line-in-Ok-None-clause-line : goal.returns-in_err-write_line-in-Ok-None-clause-line
returns-in_err-write_line-in-Ok-None-clause-line g c =
    prints_farthest (told_pages c.args.desk.now) c.args.far.now.search.hierarchy c.args.far.now.search.frontier.last c.next.new.self.search.frontier.last c.next.result
    (Ok None) c.from_residual-in_err-write_line-in-Ok-None.result
    (g.K.Sink.took c.args.out.now) (g.K.Sink.took c.write_line.new.out) (c.in-Ok-None.is ∙ ap Ok c.in-Ok-None.field-0-is) c.next.ensures.rows
    (end_broken c.from_residual-in_err-write_line-in-Ok-None.result (g.K.Sink.took c.args.out.now)
    (g.K.Sink.took c.write_line.new.out) c.from_residual-in_err-write_line-in-Ok-None.ensures.0 c.in_err-write_line-in-Ok-None.ensures.prefix)

pub returns-in-Err-clause-line : goal.returns-in-Err-clause-line
returns-in-Err-clause-line g c =
    prints_farthest (told_pages c.args.desk.now) c.args.far.now.search.hierarchy c.args.far.now.search.frontier.last c.next.new.self.search.frontier.last c.next.result
    (Err c.in-Err.fault) (Ok (Refused c.in-Err.fault))
    (g.K.Sink.took c.args.out.now) (g.K.Sink.took c.args.out.now) c.in-Err.is c.next.ensures.rows (refl, λ bytes taken. taken)
