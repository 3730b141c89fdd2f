-- the entries that were read are the node's
use Rattle.std.proofs.Common.{◌≡◌, List, false, sym, ◌∙◌, ap}
use Rattle.r_tree.specs.declared.entry.NodeEntry.{NodeEntry}
use Rattle.r_tree.specs.Page.{NodeView, node, rtree_node, page_entries, node_entries}
use Rattle.r_tree.specs.Entry.{members_of}
use Rattle.r_tree.proofs.node.leaf_node.Goals as goal

pub returns : goal.returns
returns c =
    let e : node_entries (rtree_node c.args.page.now) ≡ page_entries c.args.count c.args.page.now = ap (λ (v : NodeView). node_entries v) c.requires.leaf in (
      c.requires.leaf ∙ ap (λ (x : List NodeEntry). node false x) (sym e),
      c.new.ensures
          ∙ (c.in_ok-members.ensures ∙ ap (λ (x : List NodeEntry). members_of x) (sym e)),
    )
