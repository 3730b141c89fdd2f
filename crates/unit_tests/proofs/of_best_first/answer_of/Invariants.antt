-- the disk doesn't tell its pages
use Rattle.std.proofs.Common.{◌≡◌, false}
use Rattle.unit_tests.proofs.of_best_first.answer_of.Given as goal

abbrev pub invariant-rows : goal.invariant-rows
invariant-rows g l = l.desk.pool.disk.told ≡ false
