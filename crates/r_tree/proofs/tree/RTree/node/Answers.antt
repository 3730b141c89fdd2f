-- the page that was read is the store's
use Rattle.std.proofs.Common.{ℕ, List, sym, ap, subst}
use Rattle.std.specs.Prelude.{Option}
use Rattle.r_tree.specs.Page.{NodeView, rtree_node_in}
use Rattle.r_tree.specs.Nodes.{ShowsNode}
use Rattle.r_tree.proofs.tree.RTree.node.Goals as goal

pub returns-clause-value : goal.returns-clause-value
returns-clause-value g c = λ told.
    let P : NodeView → Type 0 = λ v. ShowsNode v c.in_ok-found.found in
    subst P (sym (ap (λ (o : Option (List ℕ)). rtree_node_in o) (c.in_ok-bytes.ensures.value.told told))) c.in_ok-found.ensures
