-- What the loop over the records keeps.
use Rattle.csv_load.proofs.RecordByRecord.{HasEntered}
use Rattle.csv_load.proofs.rows.rows_of.Given as goal

-- the records so far were entered as rows
abbrev pub invariant-records : goal.invariant-records
invariant-records l = HasEntered l.fn.bytes l.schema l.first l.number l.rows.items l.read-iterator
