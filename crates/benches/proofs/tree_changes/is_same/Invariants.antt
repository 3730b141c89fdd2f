-- reading leaves the command and the map that is shown, and tells nothing
use Rattle.std.proofs.Common.{◌≡◌, false}
use Rattle.benches.proofs.tree_changes.is_same.Given as goal

abbrev pub invariant-leaves : goal.invariant-leaves
invariant-leaves l = record {
  beginning : l.pool.beginning ≡ l.fn.pool.beginning;
  shown : l.pool.live ≡ l.fn.pool.live;
  untold : l.pool.disk.told ≡ false;
}
