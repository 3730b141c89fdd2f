-- the entries that were read are the node's
use Rattle.std.proofs.Common.{◌≡◌, List, true, sym, ◌∙◌, ap}
use Rattle.r_tree.specs.declared.entry.NodeEntry.{NodeEntry}
use Rattle.r_tree.specs.Page.{NodeView, node, rtree_node, page_entries, node_entries}
use Rattle.r_tree.specs.Nodes.{branches_of}
use Rattle.r_tree.proofs.node.inner_node.Goals as goal

pub returns : goal.returns
returns c =
    let e : node_entries (rtree_node c.args.page.now) ≡ page_entries c.args.count c.args.page.now = ap (λ (v : NodeView). node_entries v) c.requires.inner in (
      c.requires.inner ∙ ap (λ (x : List NodeEntry). node true x) (sym e),
      c.new.ensures
          ∙ (c.in_ok-branches.ensures ∙ ap (λ (x : List NodeEntry). branches_of x) (sym e)),
    )
