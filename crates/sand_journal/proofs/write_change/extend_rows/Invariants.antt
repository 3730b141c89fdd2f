use Rattle.std.proofs.Common.{◌≡◌, ◌++◌, take}
use Rattle.std.specs.List.{flat_map}
use Rattle.sand_journal.specs.ChangeBody.{framed_row}
use Rattle.sand_journal.specs.RowsBody.{bytes_of_each}
use Rattle.sand_journal.proofs.write_change.extend_rows.Given as goal

-- the rows so far are added
abbrev pub invariant-rows : goal.invariant-rows
invariant-rows l = l.body.items ≡ l.initial.body.items ++ flat_map framed_row (bytes_of_each (take l.row-index l.rows))
