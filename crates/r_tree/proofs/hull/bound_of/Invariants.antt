-- the rectangle round the entries so far
use Rattle.std.proofs.Common.{◌≡◌, take}
use Rattle.r_tree.specs.Entry.{bound_of}
use Rattle.r_tree.proofs.hull.bound_of.Given as goal

abbrev pub invariant-entries : goal.invariant-entries
invariant-entries l = l.bound ≡ bound_of (take l.entry-index l.entries)
