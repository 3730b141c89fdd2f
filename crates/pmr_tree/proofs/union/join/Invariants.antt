use Rattle.std.proofs.Common.{◌≡◌, ℕ, ◌≤◌, Bool, length, drop}
use Rattle.sand_model.specs.Tree.{union}
use Rattle.pmr_tree.specs.Leaves.{ids_of, ListPasses}
use Rattle.pmr_tree.proofs.union.join.Given as goal

abbrev pub invariant-ids : goal.invariant-ids
invariant-ids l = record {
  bound : l.i ≤ length l.more;
  ids : ids_of l.list.items ≡ union (ids_of (drop l.i l.more)) (ids_of l.fn.list.items);
  values : (test : ℕ → ℕ → Bool) → ListPasses test l.more → ListPasses test l.fn.list.items → ListPasses test l.list.items;
}

abbrev pub decreases-ids : goal.decreases-ids
decreases-ids l = l.i
