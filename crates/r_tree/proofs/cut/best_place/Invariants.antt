-- the best place so far is one where both parts make a node
use Rattle.std.proofs.Common.{◌+◌, ◌≤◌, length}
use Rattle.r_tree.proofs.cut.best_place.Given as goal

abbrev pub invariant-places : goal.invariant-places
invariant-places l = record {
  behind : l.first ≤ l.best;
  before : l.best + l.first ≤ length l.entries;
}
