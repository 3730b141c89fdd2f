-- The branches so far.
use Rattle.std.proofs.Common.{◌+◌, ◌≤◌, take, map, length, vec_len, vec_capacity}
use Rattle.best_first.specs.Hierarchy.{FindsAlike}
use Rattle.near_cursor.specs.NearRanking.{branch_found}
use Rattle.near_cursor.proofs.items.push_branches.Given as goal

-- the branches so far were added, and there is room for the others
abbrev pub invariant-branches : goal.invariant-branches
invariant-branches l = record {
  added : FindsAlike (map (branch_found l.goal l.height) (take l.bound-index l.branches)) l.fn.found.items l.found.items;
  room : vec_len l.found + length l.branches ≤ vec_capacity l.found + l.bound-index;
}
