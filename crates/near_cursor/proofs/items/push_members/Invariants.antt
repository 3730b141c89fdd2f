-- The members so far.
use Rattle.std.proofs.Common.{◌+◌, ◌≤◌, take, map, length, vec_len, vec_capacity}
use Rattle.best_first.specs.Hierarchy.{FindsAlike}
use Rattle.near_cursor.specs.NearRanking.{member_found}
use Rattle.near_cursor.proofs.items.push_members.Given as goal

-- the items of the members so far were added, and there is room for the others
abbrev pub invariant-members : goal.invariant-members
invariant-members l = record {
  added : FindsAlike (map (λ i. member_found l.goal i.0 i.1) (take l.member-index l.members)) l.fn.found.items l.found.items;
  room : vec_len l.found + length l.members ≤ vec_capacity l.found + l.member-index;
}
