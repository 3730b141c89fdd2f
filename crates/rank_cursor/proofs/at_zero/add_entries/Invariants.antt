-- The entries so far.
use Rattle.std.proofs.Common.{◌-◌, ◌≤◌, take, flat_map, length}
use Rattle.best_first.specs.RowsAtZero.{zero_gap}
use Rattle.best_first.specs.ZeroItems.{OpensNode}
use Rattle.rank_cursor.proofs.LeafEntries.{pair_found}
use Rattle.rank_cursor.proofs.at_zero.add_entries.Given as goal

-- what the entries so far give was added
abbrev pub invariant-entries : goal.invariant-entries
invariant-entries l = record {
  inside : l.at ≤ length l.pairs;
  added : OpensNode l.fn.queue.nodes (flat_map (pair_found l.goal zero_gap) (take l.at l.pairs)) l.fn.queue l.queue;
}

-- the entries that are left
abbrev pub decreases-entries : goal.decreases-entries
decreases-entries l = l.count - l.at
