use Rattle.std.proofs.Common.{rules, arith}
use Rattle.sand_journal.proofs.Writes.{row_made}
use Rattle.sand_journal.proofs.write_change.extend_row.Goals as goal

-- a row that is short has a length in two bytes
pub overflow_cast-size : goal.overflow_cast-size
overflow_cast-size c = omega (arith, c.requires)

-- its length and it are its frame
pub returns : goal.returns
returns c =
    row_made c.args.body.now.items c.extend_from_slice.new.self.items c.extend_from_slice-2.new.self.items _ c.args.row.now c.in_ok-extend_from_slice-2.ensures.items c.in_ok-extend_from_slice.ensures.items (search rules)
