-- What was found and the pairs of the range that are still to come make up the pairs of the range.
use Rattle.std.proofs.Common.{◌≡◌, ◌-◌, ◌<◌, ◌≤◌, ◌++◌, drop}
use Rattle.code_btree.specs.Node.{node_of, entries_of, entry_key}
use Rattle.code_btree.specs.Items.{items_below}
use Rattle.code_btree.proofs.between.take_page.Given as goal

abbrev pub invariant-entries : goal.invariant-entries
invariant-entries l = record {
  within : l.at ≤ l.count;
  before : l.from < l.at → entry_key l.page (l.at - 1) < l.high;
  taken : l.found.items ++ items_below l.high (drop l.at (entries_of (node_of l.page))) ≡ l.fn.found.items ++ items_below l.high (drop l.from (entries_of (node_of l.page)));
}

abbrev pub decreases-entries : goal.decreases-entries
decreases-entries l = l.count - l.at
