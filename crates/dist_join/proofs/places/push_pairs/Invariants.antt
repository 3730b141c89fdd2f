-- The blocks so far with each of the others.
use Rattle.std.proofs.Common.{◌+◌, ◌*◌, ◌≤◌, length, take, flat_map, vec_len, vec_capacity}
use Rattle.best_first.specs.Hierarchy.{FindsAlike}
use Rattle.dist_join.specs.OverPages.{squares_found}
use Rattle.dist_join.proofs.places.push_pairs.Given as goal

-- the blocks so far with each of the others were added, and there is room for the rest
abbrev pub invariant-lefts : goal.invariant-lefts
invariant-lefts l = record {
  added : FindsAlike (flat_map (squares_found l.rights) (take l.left-index l.lefts)) l.fn.found.items l.found.items;
  room : vec_len l.found + length l.lefts * length l.rights ≤ vec_capacity l.found + l.left-index * length l.rights;
}
