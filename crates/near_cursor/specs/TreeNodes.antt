-- The nodes of an R-tree as a search names them, each by its page and its height (A. Guttman, 1984).
use Rattle.std.specs.Prelude.{ℕ, zero, suc, ◌-◌, ◌&&◌, Bool, nat_eq, List, [], ◌∷◌, find, cond, Option, is_some}
use Rattle.std.specs.List.{flat_map}
use Rattle.sand_base.specs.declared.rect.Rect.{Rect}
use Rattle.code_btree.specs.Tree.{Store}
use Rattle.r_tree.specs.declared.entry.NodeEntry.{NodeEntry}
use Rattle.r_tree.specs.declared.tree.RTree.{RTree}
use Rattle.r_tree.specs.Entry.{bound_of}
use Rattle.r_tree.specs.Tree.{entries_at}

-- a node's page, and its height, which is 1 for a leaf
abbrev pub PageNode : Type 0
PageNode = ℕ × ℕ

-- the nodes under the entries of a node that stands so many levels above the leaves
abbrev pub nodes_below : Store → ℕ → List NodeEntry → List PageNode
nodes_below m zero es = []
nodes_below m (suc level) es = flat_map (λ e. (e.child, suc level) ∷ nodes_below m level (entries_at m e.child)) es

-- the node in page n, and the nodes under it
abbrev pub nodes_under : Store → ℕ → ℕ → List PageNode
nodes_under m level n = (n, suc level) ∷ nodes_below m level (entries_at m n)

-- the root of a tree
abbrev pub root_node : RTree → PageNode
root_node t = (t.root, t.height)

-- the nodes of a tree
abbrev pub tree_nodes : Store → RTree → List PageNode
tree_nodes m t = nodes_under m (t.height - 1) t.root

-- the two nodes are one
abbrev pub same_node : PageNode → PageNode → Bool
same_node a b = nat_eq a.0 b.0 && nat_eq a.1 b.1

-- the node is one of the tree
abbrev pub is_tree_node : Store → RTree → PageNode → Bool
is_tree_node m t node = is_some (find (same_node node) (tree_nodes m t))

-- the least rectangle round a node's entries, if it has any; that of the root lies in the tree's value
abbrev pub node_bound : Store → RTree → PageNode → Option Rect
node_bound m t node = cond (same_node node (root_node t)) t.bound (bound_of (entries_at m node.0))
