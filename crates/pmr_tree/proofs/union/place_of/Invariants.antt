use Rattle.std.proofs.Common.{◌≡◌, ◌+◌, ◌-◌, ◌≤◌, length, drop}
use Rattle.pmr_tree.specs.Lists.{place_in}
use Rattle.pmr_tree.specs.Leaves.{ids_of}
use Rattle.pmr_tree.proofs.union.place_of.Given as goal

abbrev pub invariant-ids : goal.invariant-ids
invariant-ids l = record {
  bound : l.at ≤ length l.list;
  place : l.at + place_in l.id (ids_of (drop l.at l.list)) ≡ place_in l.id (ids_of l.list);
}

abbrev pub decreases-ids : goal.decreases-ids
decreases-ids l = length l.list - l.at
