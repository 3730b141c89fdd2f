-- so are the pairs of the tree
use Rattle.code_btree.specs.Tree.{tree_items}
use Rattle.attr_index.proofs.Pairs.{entries_in_order}
use Rattle.attr_index.proofs.laws.entries_are_in_order.Goals as goal

pub returns : goal.returns
returns c = λ m x i. entries_in_order (tree_items m x.tree) i.tree.at.ascending
