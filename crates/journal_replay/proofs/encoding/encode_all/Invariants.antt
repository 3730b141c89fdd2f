use Rattle.std.proofs.Common.{take}
use Rattle.sand_journal.specs.RowsBody.{bytes_of_each}
use Rattle.journal_replay.specs.KeptBody.{AreShortEncodingsOf}
use Rattle.journal_replay.proofs.encoding.encode_all.Given as goal

-- the first rows are encoded
abbrev pub invariant-rows : goal.invariant-rows
invariant-rows l = AreShortEncodingsOf l.schema (take l.row-index l.rows) (bytes_of_each l.encodings.items)
