-- The ranking that a cursor over a quadtree in pages stands for, what its visits are, and what its code finds at a place.
use Rattle.std.specs.Prelude.{ℕ, ◌-◌, ◌^◌, cond, List, [], ◌∷◌, map, flat_map, Option}
use Rattle.std.specs.Ordering.{is_lt}
use Rattle.exact_frac.specs.Frac.{value_cmp}
use Rattle.exact_frac.specs.declared.frac.Frac.{Frac}
use Rattle.sand_base.specs.declared.TheConstants.{COORDINATE_BITS}
use Rattle.sand_base.specs.declared.goal.Goal.{Goal}
use Rattle.sand_base.specs.declared.goal.Goal.TheVariants as figure
use Rattle.sand_base.specs.declared.rough.Rough.{Rough}
use Rattle.sand_base.specs.declared.rough.Rough.TheVariants as rough
use Rattle.sand_base.specs.declared.shape.Shape.{Shape}
use Rattle.sand_base.specs.declared.shape.Shape.TheVariants as shape
use Rattle.sand_base.specs.declared.visit.Visit.{Visit}
use Rattle.sand_base.specs.declared.visit.Visit.TheVariants as visit
use Rattle.z_code.specs.Block.{children_of}
use Rattle.z_code.specs.declared.block.Block.{Block}
use Rattle.sand_model.specs.Measure.{Measure}
use Rattle.sand_model.specs.Nodes.{greater, square_figure}
use Rattle.ring_geom.proofs.Measured.{measured}
use Rattle.page_pool.specs.Disk.{PageMap}
use Rattle.pmr_tree.specs.Quadtree.{tree_at, FitsRows}
use Rattle.pmr_tree.specs.declared.listed.Node as place
use Rattle.pmr_tree.specs.declared.quadtree.Pmr.{Pmr}
use Rattle.best_first.specs.declared.item.Item.{Item}
use Rattle.best_first.specs.declared.item.Item.TheVariants as item
use Rattle.rank_cursor.specs.Laws.{IsLawful}
use Rattle.rank_cursor.specs.Ranking.{Ranking}

-- a measure; all have gaps of the same values
abbrev pub the_measure : Measure
the_measure = measured.0

-- ---- the ranking

-- A ranking over pages: the quadtree fits the rows, and the rows can be read.
abbrev pub ranking_over : (PageMap → List (ℕ × Shape)) → (PageMap → Type 0) → ℕ → Pmr → Goal → Option ℕ → PageMap → Ranking
ranking_over rows Stands price t goal ceiling pages = record {
  IsReadable = FitsRows pages t (rows pages) × Stands pages;
  measure = the_measure;
  goal = goal;
  ceiling = ceiling;
  shapes = rows pages;
  tree = tree_at pages t;
  height = t.map.height;
  fetch_price = price;
}

-- over pages where the quadtree fits the rows, and the rows can be read, the ranking is lawful
abbrev pub IsLawfulOver : (PageMap → List (ℕ × Shape)) → (PageMap → Type 0) → ℕ → Pmr → Goal → Option ℕ → Type 0
IsLawfulOver rows Stands price t goal ceiling =
    (pages : PageMap) → FitsRows pages t (rows pages) → Stands pages → IsLawful (ranking_over rows Stands price t goal ceiling pages)

-- the visit of a block of the quadtree of this number, or of a row's geometry
abbrev pub visit_of : ℕ → Item Block → Visit
visit_of number (item.Node gap b) = visit.Block number b.z b.level
visit_of number (item.Rough gap left right) = visit.Geometry left
visit_of number (item.Row gap left right) = visit.Geometry left

-- more than the weights of the four children together
abbrev pub block_weight : Block → ℕ
block_weight b = 5 ^ (COORDINATE_BITS - b.level)

-- ---- what the code finds

-- the gap of a figure from the goal
abbrev pub goal_gap : Goal → Goal → Frac
goal_gap goal other = the_measure goal other

-- a block as the frontier holds it
abbrev pub block_found : Goal → Block → Item Block
block_found goal b = item.Node (goal_gap goal (square_figure b)) b

-- an exact item at this gap, unless it is nearer than its leaf
abbrev pub exact_found : Frac → ℕ → Frac → List (Item Block)
exact_found leaf id gap = cond (is_lt (value_cmp gap leaf)) [] (item.Row gap id 0 ∷ [])

-- what an entry of a leaf gives: a rough item at the greater of two gaps, or an exact one
abbrev pub entry_found : Goal → Frac → ℕ → Rough → List (Item Block)
entry_found goal leaf id (rough.Point p) = exact_found leaf id (goal_gap goal (figure.Shape (shape.Point p)))
entry_found goal leaf id (rough.Segment s) = exact_found leaf id (goal_gap goal (figure.Shape (shape.Segment s)))
entry_found goal leaf id (rough.Bound r) = item.Rough (greater (goal_gap goal (figure.Rect r)) leaf) id 0 ∷ []

-- what a place of the quadtree gives
abbrev pub place_found : Goal → Frac → Block → place.Node → List (Item Block)
place_found goal leaf b place.TheVariants.Inner = map (block_found goal) (children_of b)
place_found goal leaf b (place.TheVariants.Leaf list) = flat_map (λ l. entry_found goal leaf l.id l.rough) list
