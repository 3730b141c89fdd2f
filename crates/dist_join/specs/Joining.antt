-- A distance join over two quadtrees as a hierarchy: its nodes are pairs of places, one of each tree, under the gaps of
-- their squares. After G. R. Hjaltason and H. Samet, Incremental distance join algorithms for spatial databases (1998).
use Rattle.std.specs.Prelude.{ℕ, cond, List, [], ◌∷◌, ◌++◌, map, filter, filter_map, flat_map, Option, None, Some, All}
use Rattle.exact_frac.specs.declared.frac.Frac.{Frac}
use Rattle.sand_base.specs.Plane.{IsShapeInClosedPlane}
use Rattle.sand_base.specs.declared.goal.Goal.TheVariants as figure
use Rattle.sand_base.specs.declared.shape.Shape.{Shape}
use Rattle.z_code.specs.Block.{children_of}
use Rattle.z_code.specs.declared.block.Block.{Block}
use Rattle.sand_model.specs.Database.{meets_block}
use Rattle.sand_model.specs.Measure.{Measure, IsMeasure}
use Rattle.sand_model.specs.Nodes.{LeafItem, PairNode, pairs_of, pair_nodes, pair_gap, pair_item, is_queued}
use Rattle.sand_model.specs.Price.{pair_price}
use Rattle.sand_model.specs.Tree.{Tree, Leaf, Inner, root_block, Fits, IsShallow}
use Rattle.best_first.specs.Hierarchy.{Meaning}
use Rattle.best_first.specs.declared.hit.Hit.{Hit}
use Rattle.best_first.specs.declared.item.Item.{Item}
use Rattle.best_first.specs.declared.item.Item.TheVariants.{Node, Rough, Row}
use Rattle.rank_cursor.specs.Ranking.{place_at, listed_count, HaveOwnIds}

-- One side of a join: the shapes with the ids of their rows, the quadtree that indexes them, and its height in pages.
pub record Side : Type 0 where
  pub shapes : List (ℕ × Shape)
  pub tree : Tree
  pub height : ℕ

-- A join: what must hold of the pages so that it can be read, how gaps are measured, the ceiling, the two sides, which are one where a
-- relation is joined with itself, and what it costs to fetch the geometries of a pair.
pub record Joining : Type 1 where
  pub IsReadable : Type 0
  pub measure : Measure
  pub ceiling : Option ℕ
  pub left : Side
  pub right : Side
  pub fetch_price : ℕ

-- ---- pairs of places

-- two blocks with the pairs of ids that are listed there
abbrev pub pair_node_at : Block × Block → List (ℕ × ℕ) → PairNode
pair_node_at pair ids = record { left = pair.0; right = pair.1; ids = ids }

-- the blocks of a pair of places
abbrev pub blocks_of : PairNode → Block × Block
blocks_of node = (node.left, node.right)

-- the gap of the squares of two blocks
abbrev pub squares_gap : Joining → Block × Block → Frac
squares_gap j pair = pair_gap j.measure (pair_node_at pair [])

-- two blocks as the frontier holds them
abbrev pub blocks_item : Joining → Block × Block → Item (Block × Block)
blocks_item j pair = Node (squares_gap j pair) pair

-- the pairs of ids that a pair of places lists, none but where both are leaves
abbrev pub ids_of_both : Tree → Tree → List (ℕ × ℕ)
ids_of_both (Leaf lefts) (Leaf rights) = pairs_of lefts rights
ids_of_both (Leaf lefts) (Inner p q r s) = []
ids_of_both (Inner p q r s) (Leaf rights) = []
ids_of_both (Inner p q r s) (Inner t u v w) = []

-- the pairs of blocks into which a pair of places is divided: both sides where both are inner, else the one that is
abbrev pub divided : Block → Tree → Block → Tree → List (Block × Block)
divided b (Leaf lefts) c (Leaf rights) = []
divided b (Leaf lefts) c (Inner p q r s) = map (λ d. (b, d)) (children_of c)
divided b (Inner p q r s) c (Leaf rights) = map (λ d. (d, c)) (children_of b)
divided b (Inner p q r s) c (Inner t u v w) = flat_map (λ d. map (λ e. (d, e)) (children_of c)) (children_of b)

-- ---- what a pair of places finds

-- what a pair of leaves lists, as the frontier holds it
abbrev pub leaf_pair_item : LeafItem → Item (Block × Block)
leaf_pair_item item = cond item.is_rough (Rough item.gap item.left item.right) (Row item.gap item.left item.right)

-- what a pair of leaves shows to a search: its items, but for exact ones that are nearer than the leaves
abbrev pub pairs_shown : Joining → Block × Block → List (ℕ × ℕ) → List LeafItem
pairs_shown j pair ids =
    filter (is_queued (squares_gap j pair)) (filter_map (pair_item j.measure j.left.shapes j.right.shapes (pair_node_at pair ids)) ids)

-- what a pair of places finds: the pairs into which it is divided, or the items of the two leaves
abbrev pub pairs_found_at : Joining → Block × Block → Option Tree → Option Tree → List (Item (Block × Block))
pairs_found_at j pair None place = []
pairs_found_at j pair (Some place) None = []
pairs_found_at j pair (Some place) (Some other) =
    map (blocks_item j) (divided pair.0 place pair.1 other) ++ map leaf_pair_item (pairs_shown j pair (ids_of_both place other))

-- the pairs of blocks at and below a pair of places; two blocks that aren't both places stand alone
abbrev pub pairs_under : Block × Block → Option Tree → Option Tree → List (Block × Block)
pairs_under pair None place = pair ∷ []
pairs_under pair (Some place) None = pair ∷ []
pairs_under pair (Some place) (Some other) = map blocks_of (pair_nodes pair.0 place pair.1 other)

-- what a visit may cost in page gets
abbrev pub pair_visit_price : Joining → Item (Block × Block) → ℕ
pair_visit_price j (Node gap pair) =
    pair_price j.left.height (listed_count (place_at j.left.tree pair.0)) j.right.height (listed_count (place_at j.right.tree pair.1))
pair_visit_price j (Rough gap left right) = j.fetch_price
pair_visit_price j (Row gap left right) = 0

-- ---- the hierarchy

-- two rows with the gap of their shapes
abbrev pub row_of_pair : Joining → ℕ × Shape → ℕ × Shape → Hit
row_of_pair j row other = record {
  gap = j.measure (figure.Shape row.1) (figure.Shape other.1);
  left = row.0;
  right = other.0;
}

-- the hierarchy of a join
abbrev pub join_meaning : Joining → Meaning (Block × Block)
join_meaning j = record {
  IsReadable = j.IsReadable;
  root = (root_block, root_block);
  gap = squares_gap j;
  finds = λ pair. pairs_found_at j pair (place_at j.left.tree pair.0) (place_at j.right.tree pair.1);
  under = λ pair. pairs_under pair (place_at j.left.tree pair.0) (place_at j.right.tree pair.1);
  rows = flat_map (λ row. map (row_of_pair j row) j.right.shapes) j.left.shapes;
  ceiling = j.ceiling;
  price = pair_visit_price j;
}

-- ---- what makes a join sound

-- The shapes lie in the closed square, each row has an id of its own, and the tree fits the rows.
pub record IsSoundSide (gap : Measure) (side : Side) : Type 0 where
  pub plane : All (λ row. IsShapeInClosedPlane row.1) side.shapes
  pub apart : HaveOwnIds side.shapes
  pub fits : Fits (meets_block gap side.shapes) (map (λ row. row.0) side.shapes) root_block side.tree
  pub shallow : IsShallow root_block side.tree

-- It can be read, the measure gives gaps, and both sides are sound.
pub record IsSoundJoin (j : Joining) : Type 0 where
  pub readable : j.IsReadable
  pub measure : IsMeasure j.measure
  pub left : IsSoundSide j.measure j.left
  pub right : IsSoundSide j.measure j.right
