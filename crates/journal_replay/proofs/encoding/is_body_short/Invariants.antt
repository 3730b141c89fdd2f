use Rattle.std.proofs.Common.{◌≡◌, ◌+◌, ◌≤◌, length, take}
use Rattle.std.specs.List.{flat_map}
use Rattle.sand_journal.specs.ChangeBody.{framed_row}
use Rattle.sand_journal.specs.RowsBody.{bytes_of_each}
use Rattle.journal_replay.proofs.encoding.is_body_short.Given as goal

-- the size is that of the name, the count and the first rows
abbrev pub invariant-rows : goal.invariant-rows
invariant-rows l = record {
  is : l.size ≡ 6 + length l.relation + length (flat_map framed_row (bytes_of_each (take l.bytes-index l.encodings)));
  few : l.size ≤ 4300000000;
}
