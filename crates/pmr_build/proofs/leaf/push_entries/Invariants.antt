-- the entries of the members before this one are there
use Rattle.std.proofs.Common.{◌≡◌, ◌++◌, map, take}
use Rattle.pmr_build.specs.Calls.{member_entry}
use Rattle.pmr_build.proofs.leaf.push_entries.Given as goal

abbrev pub invariant-members : goal.invariant-members
invariant-members l = l.entries.items ≡ l.fn.entries.items ++ map (member_entry l.block) (take l.id-index l.list)
