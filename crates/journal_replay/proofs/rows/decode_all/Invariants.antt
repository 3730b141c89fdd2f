use Rattle.std.proofs.Common.{take}
use Rattle.sand_journal.specs.RowsBody.{bytes_of_each}
use Rattle.journal_replay.specs.EncodedRows.{AreEncodingsOf}
use Rattle.journal_replay.proofs.rows.decode_all.Given as goal

-- the rows read so far are those of the first encodings
abbrev pub invariant-rows : goal.invariant-rows
invariant-rows l = AreEncodingsOf l.schema l.rows.items (bytes_of_each (take l.bytes-index l.encodings))
