-- The block with each of the others so far.
use Rattle.std.proofs.Common.{◌≡◌, ◌+◌, ◌≤◌, take, vec_len, vec_capacity}
use Rattle.best_first.specs.Hierarchy.{FindsAlike}
use Rattle.dist_join.specs.OverPages.{squares_found}
use Rattle.dist_join.proofs.places.push_with.Given as goal

-- the block with each of the others so far was added, in the room that was there
abbrev pub invariant-rights : goal.invariant-rights
invariant-rights l = record {
  added : FindsAlike (squares_found (take l.right-index l.rights) l.left) l.fn.found.items l.found.items;
  len : vec_len l.found ≤ vec_len l.fn.found + l.right-index;
  capacity : vec_capacity l.found ≡ vec_capacity l.fn.found;
}
