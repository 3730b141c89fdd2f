-- A ranking over an R-tree as a hierarchy: its nodes are those of the tree, under the gaps of their rectangles from a
-- goal. After N. Roussopoulos and others, Nearest neighbor queries (1995), and G. R. Hjaltason and H. Samet (1999).
use Rattle.std.specs.Prelude.{ℕ, zero, suc, ◌-◌, ◌^◌, ◌&&◌, nat_le, Bool, cond, List, [], ◌∷◌, map, Option, None, Some}
use Rattle.exact_frac.specs.declared.frac.Frac.{Frac}
use Rattle.sand_base.specs.declared.TheConstants.{COORDINATE_BITS}
use Rattle.sand_base.specs.declared.goal.Goal.{Goal}
use Rattle.sand_base.specs.declared.goal.Goal.TheVariants as figure
use Rattle.sand_base.specs.declared.rect.Rect.{Rect}
use Rattle.sand_base.specs.declared.rough.Rough.{Rough}
use Rattle.sand_base.specs.declared.rough.Rough.TheVariants as rough
use Rattle.sand_base.specs.declared.shape.Shape.{Shape}
use Rattle.sand_base.specs.declared.shape.Shape.TheVariants as shape
use Rattle.sand_base.specs.declared.visit.Visit.{Visit}
use Rattle.sand_base.specs.declared.visit.Visit.TheVariants as visit
use Rattle.page_pool.specs.Disk.{PageMap}
use Rattle.code_btree.specs.Tree.{Store}
use Rattle.r_tree.specs.declared.entry.NodeEntry.{NodeEntry}
use Rattle.r_tree.specs.declared.node.TreeNode.{TreeNode}
use Rattle.r_tree.specs.declared.node.TreeNode.TheVariants as node
use Rattle.r_tree.specs.declared.tree.RTree.{RTree}
use Rattle.r_tree.specs.Entry.{members_of}
use Rattle.r_tree.specs.Nodes.{branches_of}
use Rattle.r_tree.specs.Tree.{entries_at}
use Rattle.pmr_tree.specs.Quadtree.{store_of}
use Rattle.r_tree.specs.Listing.{ListsRows}
use Rattle.best_first.specs.Hierarchy.{Meaning}
use Rattle.best_first.specs.declared.hit.Hit.{Hit}
use Rattle.best_first.specs.declared.item.Item.{Item}
use Rattle.best_first.specs.declared.item.Item.TheVariants as item
use Rattle.best_first.specs.RowsAtZero.{zero_gap}
use Rattle.rank_cursor.specs.Cursor.{goal_gap}
use Rattle.near_cursor.specs.TreeNodes.{PageNode, nodes_under, root_node, is_tree_node, node_bound}

-- ---- the rows

-- a row with its gap from the goal; a single row has the right id 0
abbrev pub near_row : Goal → ℕ × Shape → Hit
near_row goal row = record { gap = goal_gap goal (figure.Shape row.1); left = row.0; right = 0 }

-- ---- the gap of a node

-- the rectangle lies in the closed square, its low corner at most its high one
abbrev pub is_rect_in_plane : Rect → Bool
is_rect_in_plane r =
    (nat_le r.low.x r.high.x && nat_le r.low.y r.high.y) && (nat_le r.high.x (2 ^ COORDINATE_BITS) && nat_le r.high.y (2 ^ COORDINATE_BITS))

-- The gap of a node's rectangle from the goal. A node of no entries has the gap 0; so has a rectangle outside the closed square, which no rows make.
abbrev pub bound_gap : Goal → Option Rect → Frac
bound_gap goal None = zero_gap
bound_gap goal (Some r) = cond (is_rect_in_plane r) (goal_gap goal (figure.Rect r)) zero_gap

-- ---- what a node finds

-- a member of a leaf: a point or a segment is the row itself, a rectangle stands for a rough object
abbrev pub member_found : Goal → ℕ → Rough → Item PageNode
member_found goal id (rough.Point p) = item.Row (goal_gap goal (figure.Shape (shape.Point p))) id 0
member_found goal id (rough.Segment s) = item.Row (goal_gap goal (figure.Shape (shape.Segment s))) id 0
member_found goal id (rough.Bound r) = item.Rough (goal_gap goal (figure.Rect r)) id 0

-- a branch of an inner node: the child of this height, under the gap of its rectangle
abbrev pub branch_found : Goal → ℕ → Rect × ℕ → Item PageNode
branch_found goal height branch = item.Node (goal_gap goal (figure.Rect branch.0)) (branch.1, height)

-- what the entries of a node give that stands so many levels above the leaves
abbrev pub entries_found : Goal → ℕ → List NodeEntry → List (Item PageNode)
entries_found goal zero es = map (λ i. member_found goal i.0 i.1) (members_of es)
entries_found goal (suc level) es = map (branch_found goal (suc level)) (branches_of es)

-- what a node of this height gives as it is read
abbrev pub node_found : Goal → ℕ → TreeNode → List (Item PageNode)
node_found goal height (node.Leaf members) = map (λ i. member_found goal i.0 i.1) members
node_found goal height (node.Inner branches) = map (branch_found goal (height - 1)) branches

-- ---- the hierarchy

-- what a node finds; a value that is no node of the tree finds nothing
abbrev pub near_finds : Store → RTree → Goal → PageNode → List (Item PageNode)
near_finds m t goal node = cond (is_tree_node m t node) (entries_found goal (node.1 - 1) (entries_at m node.0)) []

-- a node and the nodes under it; a value that is no node of the tree stands alone
abbrev pub near_under : Store → RTree → PageNode → List PageNode
near_under m t node = cond (is_tree_node m t node) (nodes_under m (node.1 - 1) node.0) (node ∷ [])

-- a visit of a node costs one page get, that of a geometry what it costs to fetch it
abbrev pub near_price : ℕ → Item PageNode → ℕ
near_price price (item.Node gap node) = 1
near_price price (item.Rough gap left right) = price
near_price price (item.Row gap left right) = 0

-- The ranking of the rows by the R-tree over pages: it can be read where the tree lists the rows, and the rows can be read.
abbrev pub near_meaning : (PageMap → List (ℕ × Shape)) → (PageMap → Type 0) → ℕ → RTree → Goal → Option ℕ → PageMap → Meaning PageNode
near_meaning rows Stands price t goal ceiling pages = record {
  IsReadable = ListsRows pages t (rows pages) × Stands pages;
  root = root_node t;
  gap = λ node. bound_gap goal (node_bound (store_of pages) t node);
  finds = near_finds (store_of pages) t goal;
  under = near_under (store_of pages) t;
  rows = map (near_row goal) (rows pages);
  ceiling = ceiling;
  price = near_price price;
}

-- the visit of a node of the R-tree of this number, or of a row's geometry
abbrev pub near_visit : ℕ → Item PageNode → Visit
near_visit number (item.Node gap node) = visit.Tree number node.0
near_visit number (item.Rough gap left right) = visit.Geometry left
near_visit number (item.Row gap left right) = visit.Geometry left

-- more than the weights of the children together, of which there are 126 at most
abbrev pub near_weight : PageNode → ℕ
near_weight node = 127 ^ node.1
