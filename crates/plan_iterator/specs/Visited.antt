-- What visits count, and whether a visit of a plan's source lies within a reach: its node's gap does, or the gap of a rough item that a
-- leaf lists. A node of an R-tree has the gap of the rectangle that its page tells.
use Rattle.std.specs.Prelude.{◌≡◌, ℕ, ◌+◌, true, List, [], ◌∷◌, Contains, Option, None, Some}
use Rattle.std.specs.FinMap as fin
use Rattle.exact_frac.specs.declared.frac.Frac.{Frac}
use Rattle.sand_base.specs.declared.goal.Goal.{Goal}
use Rattle.sand_base.specs.declared.goal.Goal.TheVariants as figure
use Rattle.sand_base.specs.declared.rect.Rect.{Rect}
use Rattle.sand_base.specs.declared.shape.Shape.{Shape}
use Rattle.sand_base.specs.declared.visit.Visit.{Visit}
use Rattle.sand_base.specs.declared.visit.Visit.TheVariants as visit
use Rattle.z_code.specs.declared.block.Block.{Block}
use Rattle.page_pool.specs.Disk.{PageMap}
use Rattle.r_tree.specs.Entry.{bound_of}
use Rattle.r_tree.specs.Tree.{entries_at}
use Rattle.sand_model.specs.Database.{Database}
use Rattle.sand_model.specs.Measure.{Measure}
use Rattle.sand_model.specs.Nodes.{LeafItem, PairNode, rank_items, pair_nodes, pair_gap, join_items, square_figure}
use Rattle.statements.specs.Plan as plan
use Rattle.statements.specs.Plan.{Plan}
use Rattle.statements.specs.declared.column.Column.{Column}
use Rattle.sand_model.specs.Reach.{Reach, Counts, no_counts, reaches, quadtree_of, innermost}
use Rattle.sand_model.specs.Roughs.{is_rough, rough_figure}
use Rattle.sand_model.specs.Sources.{column_shapes}
use Rattle.sand_model.specs.Tree.{Tree, places, root_block}

infixl 6 ◌plus◌
-- the sum of two counts, number by number
abbrev pub ◌plus◌ : Counts → Counts → Counts
a plus b = record { blocks = a.blocks + b.blocks; pairs = a.pairs + b.pairs; geometries = a.geometries + b.geometries }

-- the count of one visit: a block, a pair of blocks, or the exact geometry of an object or of a pair of objects; a node of an R-tree counts as none of these
abbrev pub count_of : Visit → Counts
count_of (visit.Block number z level) = record { blocks = 1; pairs = 0; geometries = 0 }
count_of (visit.Pair b c) = record { blocks = 0; pairs = 1; geometries = 0 }
count_of (visit.Geometry id) = record { blocks = 0; pairs = 0; geometries = 1 }
count_of (visit.GeometryPair left right) = record { blocks = 0; pairs = 0; geometries = 1 }
count_of (visit.Tree number page) = no_counts

-- how many visits of each kind a list has
abbrev pub visit_counts : List Visit → Counts
visit_counts [] = no_counts
visit_counts (v ∷ visits) = count_of v plus visit_counts visits

-- a place of the tree stands at the block, and its gap from the goal lies within the reach
pub record IsBlockWithin (gap : Measure) (goal : Goal) (tree : Tree) (to : Reach) (z level : ℕ) : Type 0 where
  pub place : Block × Tree
  pub among : Contains (places root_block tree) place
  pub code : place.0.z ≡ z
  pub size : place.0.level ≡ level
  pub near : reaches to (gap goal (square_figure place.0)) ≡ true

-- some leaf lists the rough object of these ids within the reach
pub record IsRoughWithin (items : List LeafItem) (to : Reach) (left right : ℕ) : Type 0 where
  pub item : LeafItem
  pub among : Contains items item
  pub rough : item.is_rough ≡ true
  pub left_id : item.left ≡ left
  pub right_id : item.right ≡ right
  pub near : reaches to item.gap ≡ true

-- the two trees have this pair of places, and its gap lies within the reach
pub record IsPairWithin (gap : Measure) (nodes : List PairNode) (to : Reach) (left right : ℕ × ℕ) : Type 0 where
  pub node : PairNode
  pub among : Contains nodes node
  pub left_block : (node.left.z ≡ left.0) × (node.left.level ≡ left.1)
  pub right_block : (node.right.z ≡ right.0) × (node.right.level ≡ right.1)
  pub near : reaches to (pair_gap gap node) ≡ true

-- a visit of a ranking
abbrev pub IsRankVisit : Measure → Database → Column → Goal → Reach → Visit → Type 0
IsRankVisit gap d column goal to (visit.Block number z level) = IsBlockWithin gap goal (quadtree_of d column) to z level
IsRankVisit gap d column goal to (visit.Geometry id) =
    IsRoughWithin (rank_items gap goal (column_shapes d column) (quadtree_of d column)) to id 0
IsRankVisit gap d column goal to _ = ⊥

-- the pairs of places of the quadtrees of two columns
abbrev pub nodes_of_columns : Database → Column → Column → List PairNode
nodes_of_columns d left right = pair_nodes root_block (quadtree_of d left) root_block (quadtree_of d right)

-- a visit of a join
abbrev pub IsJoinVisit : Measure → Database → Column → Column → Reach → Visit → Type 0
IsJoinVisit gap d left right to (visit.Pair b c) =
    IsPairWithin gap (nodes_of_columns d left right) to (b.1, b.2) (c.1, c.2)
IsJoinVisit gap d left right to (visit.GeometryPair l r) =
    IsRoughWithin (join_items gap (column_shapes d left) (column_shapes d right) (nodes_of_columns d left right)) to l r
IsJoinVisit gap d left right to _ = ⊥

-- the least rectangle round what a page of an R-tree lists
abbrev pub page_bound : PageMap → ℕ → Option Rect
page_bound pages page = bound_of (entries_at (λ n. fin.get pages n) page)

-- the rectangle lies within the reach where its gap does, and where there is none the gap 0 does
abbrev pub IsBoundWithin : Measure → Goal → Reach → Option Rect → Type 0
IsBoundWithin gap goal to (Some r) = reaches to (gap goal (figure.Rect r)) ≡ true
IsBoundWithin gap goal to None = (least : Frac) → least.num ≡ 0 → reaches to least ≡ true

-- a polygon has this id, and its bounding rectangle lies within the reach
pub record IsPolygonWithin (gap : Measure) (goal : Goal) (rows : List (ℕ × Shape)) (to : Reach) (id : ℕ) : Type 0 where
  pub polygon : Shape
  pub among : Contains rows (id, polygon)
  pub rough : is_rough polygon ≡ true
  pub near : reaches to (gap goal (rough_figure polygon)) ≡ true

-- a visit of a ranking by an R-tree
abbrev pub IsNearVisit : Measure → PageMap → Database → Column → Goal → Reach → Visit → Type 0
IsNearVisit gap pages d column goal to (visit.Tree number page) = IsBoundWithin gap goal to (page_bound pages page)
IsNearVisit gap pages d column goal to (visit.Geometry id) = IsPolygonWithin gap goal (column_shapes d column) to id
IsNearVisit gap pages d column goal to _ = ⊥

-- a visit of a source; a scan and a pick make none
abbrev pub IsSourceVisit : Measure → PageMap → Database → Plan → Reach → Visit → Type 0
IsSourceVisit gap pages d (plan.Rank column goal within) to v = IsRankVisit gap d column (figure.Shape goal) to v
IsSourceVisit gap pages d (plan.Near column goal within) to v = IsNearVisit gap pages d column (figure.Shape goal) to v
IsSourceVisit gap pages d (plan.Window column window) to v = IsRankVisit gap d column (figure.Rect window) to v
IsSourceVisit gap pages d (plan.Join left right within) to v = IsJoinVisit gap d left right to v
IsSourceVisit gap pages d (plan.Semi left right within) to v = IsJoinVisit gap d left right to v
IsSourceVisit gap pages d (plan.Knn k left right within) to v = IsJoinVisit gap d left right to v
IsSourceVisit gap pages d _ to v = ⊥

-- the visit of a plan's source, over these pages, lies within the reach
abbrev pub LiesWithin : Measure → PageMap → Database → Plan → Reach → Visit → Type 0
LiesWithin gap pages d p to v = IsSourceVisit gap pages d (innermost p) to v
