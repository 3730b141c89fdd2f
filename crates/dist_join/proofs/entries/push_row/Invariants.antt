-- What the entries so far give.
use Rattle.std.proofs.Common.{◌≡◌, ◌+◌, ◌≤◌, take, flat_map, vec_len, vec_capacity}
use Rattle.best_first.specs.Hierarchy.{FindsAlike}
use Rattle.dist_join.specs.OverPages.{pair_found}
use Rattle.dist_join.proofs.entries.push_row.Given as goal

-- what the entries so far give was added, in the room that was there
abbrev pub invariant-rights : goal.invariant-rights
invariant-rights l = record {
  added : FindsAlike (flat_map (pair_found l.leaf l.left) (take l.right-index l.rights)) l.fn.found.items l.found.items;
  len : vec_len l.found ≤ vec_len l.fn.found + l.right-index;
  capacity : vec_capacity l.found ≡ vec_capacity l.fn.found;
}
