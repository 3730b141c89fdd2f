use Rattle.sand_journal.specs.RowsBody.{bytes_of_each}
use Rattle.journal_replay.proofs.Decoded.{rows_in_range}
use Rattle.journal_replay.proofs.rows.rows_for.Goals as goal

-- rows that have encodings are in range
pub returns-in-Some-2-clause-in_range : goal.returns-in-Some-2-clause-in_range
returns-in-Some-2-clause-in_range c =
    rows_in_range c.schema.result.now c.in-Some-2.rows.items (bytes_of_each c.rows.result.now) (rw c.in-Some-2.is at c.in_ok-rows.ensures)
