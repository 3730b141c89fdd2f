-- The nodes of a tree as a reader is given them.
use Rattle.std.specs.Prelude.{◌≡◌, ℕ, ◌≤◌, true, false, List, map}
use Rattle.sand_base.specs.declared.rect.Rect.{Rect}
use Rattle.code_btree.specs.Tree.{Store, times}
use Rattle.r_tree.specs.declared.entry.NodeEntry.{NodeEntry}
use Rattle.r_tree.specs.declared.node.TreeNode.{TreeNode}
use Rattle.r_tree.specs.declared.node.TreeNode.TheVariants.{Inner, Leaf}
use Rattle.r_tree.specs.declared.tree.RTree.{RTree}
use Rattle.r_tree.specs.Entry.{box_of, members_of}
use Rattle.r_tree.specs.Page.{NodeView, node, node_entries}
use Rattle.r_tree.specs.Tree.{IsRTree, rtree_pages}

-- what the entries of an inner node lead to, each under its rectangle
abbrev pub branches_of : List NodeEntry → List (Rect × ℕ)
branches_of es = map (λ e. (box_of e.rough, e.child)) es

-- a node as it is given: an inner node's branches, a leaf's members
abbrev pub ShowsNode : NodeView → TreeNode → Type 0
ShowsNode v (Inner branches) = (v ≡ node true (node_entries v)) × (branches ≡ branches_of (node_entries v))
ShowsNode v (Leaf members) = (v ≡ node false (node_entries v)) × (members ≡ members_of (node_entries v))

-- the page is a node of the tree
pub record IsTreeNode (m : Store) (t : RTree) (page : ℕ) : Type 0 where
  pub tree : IsRTree m t
  pub own : 1 ≤ times page (rtree_pages m t)
