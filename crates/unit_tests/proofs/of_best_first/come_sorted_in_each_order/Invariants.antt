-- the disk doesn't tell its pages
use Rattle.std.proofs.Common.{◌≡◌, false}
use Rattle.unit_tests.proofs.of_best_first.come_sorted_in_each_order.Given as goal

abbrev pub invariant-orders : goal.invariant-orders
invariant-orders g l = l.desk.pool.disk.told ≡ false
