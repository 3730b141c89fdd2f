use Rattle.std.proofs.Common.{subst}
use Rattle.sand_journal.specs.RowsBody.{AreCountedRows}
use Rattle.sand_journal.proofs.RowReads.{body_found, no_rows, no_name}
use Rattle.sand_journal.proofs.read_rows.read_rows.Goals as goal

-- with no name the bytes are no such body's
pub returns-in_default : goal.returns-in_default
returns-in_default c = no_name c.args.bytes.now c.in_default.ensures.none

-- nor with no counted rows behind it
pub returns-in_default-2 : goal.returns-in_default-2
returns-in_default-2 c =
    no_rows c.args.bytes.now c.in-Some.name.now c.in-Some.rest.now c.in-Some.ensures.found.1 (subst (AreCountedRows c.in-Some.rest.now) c.in_default-2.is c.in_ok-rows.ensures)

-- with both they are
pub returns : goal.returns
returns c =
    body_found c.args.bytes.now c.in-Some.name.now c.in-Some.rest.now c.in_ok-relation.relation c.in-Some-2.rows c.new-2.result c.in-Some.ensures.found.0 c.in-Some.ensures.found.1
    (subst (AreCountedRows c.in-Some.rest.now) c.in-Some-2.is c.in_ok-rows.ensures) c.requires c.in_ok-relation.ensures c.new-2.ensures
