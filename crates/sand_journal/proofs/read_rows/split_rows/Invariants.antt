use Rattle.std.proofs.Common.{◌-◌, ◌≤◌, vec_len}
use Rattle.sand_journal.specs.RowsBody.{row_bytes}
use Rattle.sand_journal.proofs.RowReads.{IsSplit}
use Rattle.sand_journal.proofs.read_rows.split_rows.Given as goal

-- each turn keeps one row more
abbrev pub decreases-rows : goal.decreases-rows
decreases-rows l = l.count - vec_len l.rows

-- the bytes are the rows that are kept, no more than are wanted, and the rest
abbrev pub invariant-rows : goal.invariant-rows
invariant-rows l = record {
  split : IsSplit l.bytes (row_bytes l.rows) l.rest;
  fits : vec_len l.rows ≤ l.count;
}
