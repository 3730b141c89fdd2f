-- The items of the entries so far.
use Rattle.std.proofs.Common.{◌+◌, ◌≤◌, length, take, flat_map, vec_len, vec_capacity}
use Rattle.best_first.specs.Hierarchy.{FindsAlike}
use Rattle.far_cursor.proofs.FarEntries.{pair_found}
use Rattle.far_cursor.proofs.entries.push_leaf.Given as goal

-- what the entries so far give was added, and there is room for the others
abbrev pub invariant-entries : goal.invariant-entries
invariant-entries l = record {
  added : FindsAlike (flat_map (pair_found l.goal l.leaf) (take l.pair-index l.pairs)) l.fn.found.items l.found.items;
  room : vec_len l.found + length l.pairs ≤ vec_capacity l.found + l.pair-index;
}
