-- the tree has the entries before this one
use Rattle.std.proofs.Common.{take}
use Rattle.pmr_build.proofs.Filled.{Filling}
use Rattle.pmr_build.proofs.entries.tree_of_entries.Given as goal

abbrev pub invariant-entries : goal.invariant-entries
invariant-entries g l = Filling l.fn.pool l.pool l.tree (take l.key-index l.entries)
