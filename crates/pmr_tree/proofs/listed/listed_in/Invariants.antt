-- The ids of the entries so far are listed, and there is room for the rest.
use Rattle.std.proofs.Common.{◌≡◌, ◌+◌, ◌≤◌, length, take, vec_len, vec_capacity}
use Rattle.pmr_tree.specs.Listing.{listed_in}
use Rattle.pmr_tree.proofs.listed.listed_in.Given as goal

abbrev pub invariant-pairs : goal.invariant-pairs
invariant-pairs l = record {
  listed : l.list.items ≡ listed_in (take l.pair-index l.pairs);
  room : vec_len l.list + length l.pairs ≤ vec_capacity l.list + l.pair-index;
}
