-- the best place is an entry's, where there is any
use Rattle.std.proofs.Common.{◌<◌, ◌≤◌, length}
use Rattle.r_tree.proofs.nearest.nearest.Given as goal

abbrev pub invariant-entries : goal.invariant-entries
invariant-entries l = 1 ≤ length l.entries → l.best < length l.entries
