-- What was found at and behind the place.
use Rattle.std.proofs.Common.{◌≡◌, ◌+◌, ◌≤◌, drop, length, vec_len, vec_capacity}
use Rattle.best_first.specs.ZeroItems.{OpensNode}
use Rattle.best_first.proofs.zero_queue.add_all.Given as goal

-- what was found from there on joined, there is room for the others, and the bits stay
abbrev pub invariant-found : goal.invariant-found
invariant-found g l = record {
  added : OpensNode l.fn.nodes.items (drop l.at l.found) (record { nodes = l.fn.nodes.items; roughs = l.fn.roughs.ids; rows = l.fn.rows.ids; below = l.fn.rows.below })
      (record { nodes = l.nodes.items; roughs = l.roughs.ids; rows = l.rows.ids; below = l.rows.below });
  inside : l.at ≤ length l.found;
  room : vec_len l.nodes + l.at ≤ vec_capacity l.nodes;
  roughs : l.roughs.below ≡ l.fn.roughs.below;
  rows : l.rows.below ≡ l.fn.rows.below;
}

-- proposed from the loop's first test
abbrev pub decreases-found : goal.decreases-found
decreases-found g l = l.at
