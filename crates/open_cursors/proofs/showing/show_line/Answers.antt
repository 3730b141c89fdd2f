-- the rows of a new cursor, or why there is none
use Rattle.std.proofs.Common.{[], refl}
use Rattle.statements.specs.Plan.{plan_value}
use Rattle.sand_model.specs.Cursor.{Cursor, new_cursor}
use Rattle.sand_store.specs.Contents.{database_in}
use Rattle.statement_exec.proofs.Endings.{pages_unread}
use Rattle.open_cursors.specs.PlanCursors.{PlanOver}
use Rattle.open_cursors.proofs.Showings.{over_store, show_written, show_not_started}
use Rattle.open_cursors.proofs.showing.show_line.Goals as goal

pub rows_line-shown-requires : goal.rows_line-shown-requires
rows_line-shown-requires g c = record {
  stands = over_store c.args.catalog.now c.args.desk.now (λ pages. (x : Cursor) × PlanOver c.in-Ok.running.cursor pages x) c.requires.stored
      (λ pages stands. (new_cursor [] (plan_value c.args.plan.now) (database_in pages c.args.catalog.now.relations), c.in-Ok.ensures.stands pages stands []));
}

pub returns-in-Ok-clause-written : goal.returns-in-Ok-clause-written
returns-in-Ok-clause-written g c = λ cs.
    show_written c.args.catalog.now c.args.count (plan_value c.args.plan.now) cs c.args.desk.now.pool c.rows_line-shown.new.desk.pool c.rows_line-shown.ensures.read c.in-Ok.ensures.passes
    (λ pages x. PlanOver c.in-Ok.running.cursor pages x) (g.K.Sink.took c.args.out.now) (g.K.Sink.took c.rows_line-shown.new.out) c.rows_line-shown.result c.requires.stored c.in-Ok.ensures.stands
    c.rows_line-shown.ensures.written c.rows_line-shown.ensures.plain

pub returns-in-Err-clause-written : goal.returns-in-Err-clause-written
returns-in-Err-clause-written g c = λ cs.
    show_not_started c.args.catalog.now c.args.count (plan_value c.args.plan.now) cs c.args.desk.now.pool (g.K.Sink.took c.args.out.now) (g.K.Sink.took c.refuse.new.out)
    c.in-Err.why c.in-Err.ensures.refused c.refuse.result c.refuse.ensures.written c.refuse.ensures.prefix

-- no page was read
pub returns-in-Err-clause-cause : goal.returns-in-Err-clause-cause
returns-in-Err-clause-cause g c = pages_unread c.args.desk.now.pool c.args.desk.now.pool c.refuse.result refl
