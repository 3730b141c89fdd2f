-- the leaves up to their end, a fault or a check
use Rattle.statements.specs.declared.column.Column.{Column}
use Rattle.statement_exec.proofs.BlocksCalls.{up_to_end, up_to_fault, up_to_check, broken_off}
use Rattle.statement_exec.proofs.PageCauses.{caused_by_pages}
use Rattle.statement_exec.proofs.column_blocks.print_column.Goals as goal

pub returns-in-Err-clause-written : goal.returns-in-Err-clause-written
returns-in-Err-clause-written g c =
    up_to_check c.args.catalog.now (record { relation = c.args.relation.now; column = c.args.column.now }) c.args.desk.now.pool (g.K.Sink.took c.args.out.now) c.in-Err.why
    (c.in-Err.ensures.none c.args.desk.now.pool.pages) c.in-Err.ensures.check

pub print_leaves-requires : goal.print_leaves-requires
print_leaves-requires g c = record { tree = λ told. (c.in-Ok.ensures.tree c.args.desk.now.pool.pages).stands (c.requires.stands told) }

pub returns-in-Ok-print_leaves-clause-written : goal.returns-in-Ok-print_leaves-clause-written
returns-in-Ok-print_leaves-clause-written g c =
    up_to_end c.args.catalog.now (record { relation = c.args.relation.now; column = c.args.column.now }) c.args.desk.now.pool c.print_leaves.new.desk.pool c.print_leaves.ensures.read
    c.in-Ok.tree (g.K.Sink.took c.args.out.now) (g.K.Sink.took c.print_leaves.new.out) (c.in-Ok.ensures.tree c.args.desk.now.pool.pages) c.in-Ok-print_leaves.ensures.written

pub returns-in-Err-Refused-clause-written : goal.returns-in-Err-Refused-clause-written
returns-in-Err-Refused-clause-written g c =
    let column : Column = record { relation = c.args.relation.now; column = c.args.column.now } in
    rw c.refusal_of.ensures (up_to_fault c.args.catalog.now column c.args.desk.now.pool c.print_leaves.new.desk.pool c.print_leaves.ensures.read
    c.in-Ok.tree (g.K.Sink.took c.args.out.now) (g.K.Sink.took c.print_leaves.new.out) c.in-Err-Refused.why (c.in-Ok.ensures.tree c.args.desk.now.pool.pages)
    (rw c.in-Err-Refused.field-0-is at c.in-Err-Refused.ensures.cause) (rw c.in-Err-Refused.field-0-is at c.in-Err-Refused.ensures.stops))

pub returns-in-Err-Failed-clause-prefix : goal.returns-in-Err-Failed-clause-prefix
returns-in-Err-Failed-clause-prefix g c =
    broken_off c.args.catalog.now (record { relation = c.args.relation.now; column = c.args.column.now }) c.args.desk.now.pool c.print_leaves.new.desk.pool c.print_leaves.ensures.read
    c.in-Ok.tree (g.K.Sink.took c.args.out.now) (g.K.Sink.took c.print_leaves.new.out) (c.in-Ok.ensures.tree c.args.desk.now.pool.pages)
    (rw c.in-Err-Failed.field-0-is at c.in-Err-Failed.ensures.stops)

-- the refusal is that of the fault
pub returns-in-Err-Refused-clause-cause : goal.returns-in-Err-Refused-clause-cause
returns-in-Err-Refused-clause-cause g c =
    rw c.refusal_of.ensures (caused_by_pages c.args.desk.now.pool c.print_leaves.new.desk.pool c.in-Err-Refused.why (rw c.in-Err-Refused.field-0-is at c.in-Err-Refused.ensures.cause))
