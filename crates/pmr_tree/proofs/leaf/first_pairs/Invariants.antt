-- What was found and the entries that are left make up the entries of the block.
use Rattle.std.proofs.Common.{◌≡◌, ◌+◌, ◌-◌, ◌≤◌, ◌++◌, length}
use Rattle.std.specs.Prelude.{None}
use Rattle.pmr_tree.specs.Leaves.{own_pairs}
use Rattle.pmr_tree.proofs.Ranges.{in_range}
use Rattle.pmr_tree.proofs.leaf.first_pairs.Given as goal

abbrev pub invariant-entries : goal.invariant-entries
invariant-entries g l = record {
  leads : g.S.Ground.Leads l.ground l.fn.pages l.ground l.pages None;
  same : g.S.Ground.IsKnown l.ground l.fn.pages → g.S.Ground.pairs l.ground l.pages ≡ g.S.Ground.pairs l.ground l.fn.pages;
  few : length l.found.items ≤ l.most + 1;
  found : g.S.Ground.IsKnown l.ground l.fn.pages → own_pairs l.fn.block (g.S.Ground.pairs l.ground l.fn.pages) ≡ l.found.items ++ in_range l.from l.end (g.S.Ground.pairs l.ground l.fn.pages);
}

abbrev pub decreases-entries : goal.decreases-entries
decreases-entries g l = l.most + 1 - length l.found.items
