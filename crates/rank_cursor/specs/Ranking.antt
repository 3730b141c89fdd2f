-- A ranking over a quadtree as a hierarchy: its nodes are the places of the tree, under the gaps of their squares from
-- a goal. After G. R. Hjaltason and H. Samet, Distance browsing in spatial databases (1999).
use Rattle.std.specs.Prelude.{◌≢◌, ℕ, ◌&&◌, Bool, cond, nat_eq, List, [], ◌∷◌, length, map, filter, filter_map, find, Option, None, Some, option_map, All, ⊤}
use Rattle.exact_frac.specs.declared.frac.Frac.{Frac}
use Rattle.sand_base.specs.Plane.{IsGoalInClosedPlane, IsShapeInClosedPlane}
use Rattle.sand_base.specs.declared.goal.Goal.{Goal}
use Rattle.sand_base.specs.declared.goal.Goal.TheVariants as figure
use Rattle.sand_base.specs.declared.shape.Shape.{Shape}
use Rattle.z_code.specs.Block.{children_of}
use Rattle.z_code.specs.declared.block.Block.{Block}
use Rattle.sand_model.specs.Database.{meets_block}
use Rattle.sand_model.specs.Measure.{Measure, IsMeasure}
use Rattle.sand_model.specs.Nodes.{LeafItem, single_item, is_queued, square_figure}
use Rattle.sand_model.specs.Price.{block_price}
use Rattle.sand_model.specs.Tree.{Tree, Leaf, Inner, places, root_block, Fits, IsShallow}
use Rattle.best_first.specs.Hierarchy.{Meaning}
use Rattle.best_first.specs.declared.hit.Hit.{Hit}
use Rattle.best_first.specs.declared.item.Item.{Item}
use Rattle.best_first.specs.declared.item.Item.TheVariants.{Node, Rough, Row}

-- A ranking: what must hold of the pages so that it can be read, how gaps are measured and from what goal, the ceiling, the shapes with the
-- ids of their rows, the quadtree that indexes them, its height in pages, and what it costs to fetch a geometry.
pub record Ranking : Type 1 where
  pub IsReadable : Type 0
  pub measure : Measure
  pub goal : Goal
  pub ceiling : Option ℕ
  pub shapes : List (ℕ × Shape)
  pub tree : Tree
  pub height : ℕ
  pub fetch_price : ℕ

-- ---- the tree

-- the two blocks are one
abbrev pub same_block : Block → Block → Bool
same_block b c = nat_eq b.z c.z && nat_eq b.level c.level

-- the place that a tree has at a block
abbrev pub place_at : Tree → Block → Option Tree
place_at tree b = option_map (λ place. place.1) (find (λ place. same_block b place.0) (places root_block tree))

-- the blocks of the places at and below a place; a block that is no place stands alone
abbrev pub blocks_under : Block → Option Tree → List Block
blocks_under b None = b ∷ []
blocks_under b (Some place) = map (λ below. below.0) (places b place)

-- how many ids the leaf at a place lists
abbrev pub listed_count : Option Tree → ℕ
listed_count (Some (Leaf ids)) = length ids
listed_count place = 0

-- ---- what a place finds

-- the gap of a block's square from the goal
abbrev pub block_gap : Ranking → Block → Frac
block_gap r b = r.measure r.goal (square_figure b)

-- a block as the frontier holds it
abbrev pub block_item : Ranking → Block → Item Block
block_item r b = Node (block_gap r b) b

-- what a leaf lists, as the frontier holds it
abbrev pub leaf_item : LeafItem → Item Block
leaf_item item = cond item.is_rough (Rough item.gap item.left item.right) (Row item.gap item.left item.right)

-- what the leaf of a block shows to a search: its items, but for exact ones that are nearer than the leaf
abbrev pub shown : Ranking → Block → List ℕ → List LeafItem
shown r b ids =
    filter (is_queued (block_gap r b)) (filter_map (single_item r.measure r.goal r.shapes b) ids)

-- what a place finds: its four children, or the items of the leaf
abbrev pub found_at : Ranking → Block → Option Tree → List (Item Block)
found_at r b None = []
found_at r b (Some (Leaf ids)) = map leaf_item (shown r b ids)
found_at r b (Some (Inner p q s t)) = map (block_item r) (children_of b)

-- what a visit may cost in page gets
abbrev pub block_visit_price : Ranking → Item Block → ℕ
block_visit_price r (Node gap b) = block_price r.height (listed_count (place_at r.tree b))
block_visit_price r (Rough gap left right) = r.fetch_price
block_visit_price r (Row gap left right) = 0

-- a row with its gap from the goal; a single row has the right id 0
abbrev pub hit_at : Ranking → ℕ × Shape → Hit
hit_at r row = record { gap = r.measure r.goal (figure.Shape row.1); left = row.0; right = 0 }

-- the hierarchy of a ranking
abbrev pub rank_meaning : Ranking → Meaning Block
rank_meaning r = record {
  IsReadable = r.IsReadable;
  root = root_block;
  gap = block_gap r;
  finds = λ b. found_at r b (place_at r.tree b);
  under = λ b. blocks_under b (place_at r.tree b);
  rows = map (hit_at r) r.shapes;
  ceiling = r.ceiling;
  price = block_visit_price r;
}

-- ---- what makes a ranking sound

-- no id stands twice
abbrev pub HaveOwnIds : List (ℕ × Shape) → Type 0
HaveOwnIds [] = ⊤
HaveOwnIds (row ∷ rows) = All (λ other. row.0 ≢ other.0) rows × HaveOwnIds rows

-- It can be read, the measure gives gaps, goal and shapes lie in the closed square, each row has an id of its own, and the tree fits the rows.
pub record IsSound (r : Ranking) : Type 0 where
  pub readable : r.IsReadable
  pub measure : IsMeasure r.measure
  pub goal : IsGoalInClosedPlane r.goal
  pub plane : All (λ row. IsShapeInClosedPlane row.1) r.shapes
  pub apart : HaveOwnIds r.shapes
  pub fits : Fits (meets_block r.measure r.shapes) (map (λ row. row.0) r.shapes) root_block r.tree
  pub shallow : IsShallow root_block r.tree
