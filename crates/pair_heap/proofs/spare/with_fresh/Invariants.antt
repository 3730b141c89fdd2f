use Rattle.std.proofs.Common.{◌≡◌, ◌++◌, length, IsPermutation}
use Rattle.pair_heap.proofs.spare.with_fresh.Given as goal

-- each slot is on the chain or still to come
abbrev pub invariant-slots : goal.invariant-slots
invariant-slots g l = record {
  count : length l.rest.places ≡ l.left;
  kept : IsPermutation (l.fn.fresh.places ++ l.fn.spares.places) (l.rest.places ++ l.all.places);
}

abbrev pub decreases-slots : goal.decreases-slots
decreases-slots g l = l.left
