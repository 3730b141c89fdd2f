-- The children so far.
use Rattle.std.proofs.Common.{◌+◌, ◌≤◌, take, map, vec_len, vec_capacity}
use Rattle.best_first.specs.Hierarchy.{FindsAlike}
use Rattle.far_cursor.specs.FarRanking.{far_block}
use Rattle.far_cursor.proofs.entries.push_children.Given as goal

-- the children so far were added, and there is room for the others
abbrev pub invariant-children : goal.invariant-children
invariant-children l = record {
  added : FindsAlike (map (λ q. far_block l.goal q.0) (take l.child-index l.child-items)) l.fn.found.items l.found.items;
  room : vec_len l.found + 4 ≤ vec_capacity l.found + l.child-index;
}
