use Rattle.sand_journal.proofs.RowReads.{no_count, counted_answer}
use Rattle.sand_journal.proofs.read_rows.read_counted.Goals as goal

-- the rows stand behind their count
pub returns-in-Some : goal.returns-in-Some
returns-in-Some c =
    counted_answer c.args.bytes.now c.in-Some.rest.now c.in-Some.count c.split_rows.result c.in-Some.ensures.found.0 c.in-Some.ensures.found.1 c.split_rows.ensures

pub returns-in-None : goal.returns-in-None
returns-in-None c = no_count c.args.bytes.now c.in-None.ensures.none
