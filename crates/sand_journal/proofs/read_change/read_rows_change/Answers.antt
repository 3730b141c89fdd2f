use Rattle.std.proofs.Common.{subst}
use Rattle.sand_journal.specs.RowsBody.{IsRowsBody}
use Rattle.sand_journal.proofs.Answered.{rows_found, rows_none}
use Rattle.sand_journal.proofs.read_change.read_rows_change.Goals as goal

-- the rows are the change
pub returns-in-Some : goal.returns-in-Some
returns-in-Some c = rows_found c.args.bytes.now c.in-Some.relation c.in-Some.rows (subst (IsRowsBody c.args.bytes.now) c.in-Some.is c.in_ok-relation.ensures)

pub returns-in-None : goal.returns-in-None
returns-in-None c = rows_none c.args.bytes.now (subst (IsRowsBody c.args.bytes.now) c.in-None.is c.in_ok-relation.ensures)
