-- the disk doesn't tell its pages
use Rattle.std.proofs.Common.{◌≡◌, false}
use Rattle.benches.proofs.readers.add_pairs.Given as goal

abbrev pub invariant-rows : goal.invariant-rows
invariant-rows g l = l.desk.pool.disk.told ≡ false
