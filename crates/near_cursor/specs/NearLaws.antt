-- The laws of rankings over R-trees, for whoever searches by them.
use Rattle.std.specs.Prelude.{◌≡◌, ℕ, ◌≤◌, true, Bool, List, [], length, map, Contains, Option, None, Some}
use Rattle.std.specs.Cmp.{IsTotalOrder}
use Rattle.std.specs.declared.cmp.Ordering.{Ordering}
use Rattle.exact_frac.specs.declared.frac.Frac.{Frac}
use Rattle.sand_base.specs.Plane.{IsRectInClosedPlane}
use Rattle.sand_base.specs.declared.goal.Goal.{Goal}
use Rattle.sand_base.specs.declared.goal.Goal.TheVariants as figure
use Rattle.sand_base.specs.declared.rect.Rect.{Rect}
use Rattle.sand_base.specs.declared.shape.Shape.{Shape}
use Rattle.sand_model.specs.Measure.{Measure, IsMeasure}
use Rattle.sand_model.specs.Nodes.{is_rough, rough_figure}
use Rattle.sand_model.specs.Reach.{Reach, Nothing, polygons_within}
use Rattle.sand_model.specs.Sources.{ranked}
use Rattle.page_pool.specs.Disk.{PageMap}
use Rattle.code_btree.specs.Tree.{Store, times}
use Rattle.r_tree.specs.declared.tree.RTree.{RTree}
use Rattle.r_tree.specs.Entry.{bound_of}
use Rattle.r_tree.specs.Tree.{entries_at}
use Rattle.pmr_tree.specs.Quadtree.{store_of}
use Rattle.best_first.specs.Hierarchy.{Meaning, MeetsLaws, IsNode}
use Rattle.best_first.specs.Item.{roughs_of}
use Rattle.best_first.specs.Visits.{Reached}
use Rattle.best_first.specs.declared.item.Item.{Item}
use Rattle.best_first.specs.declared.item.Item.TheVariants as item
use Rattle.best_first.specs.Reach.{IsSameGap}
use Rattle.best_first.specs.RowsAtZero.{zero_gap}
use Rattle.rank_cursor.specs.Answers.{GivesList, IsTestOf}
use Rattle.rank_cursor.specs.Cursor.{goal_gap}
use Rattle.near_cursor.specs.TreeNodes.{PageNode}
use Rattle.r_tree.specs.Listing.{ListsRows}
use Rattle.near_cursor.specs.NearRanking.{near_meaning}

-- A search that has taken just what lies within a reach has fetched as many geometries as polygons have rectangles within it.
abbrev pub CountsPolygons : Meaning PageNode → Measure → Goal → List (ℕ × Shape) → Type 0
CountsPolygons m gap goal rows =
    (cmp : PageNode → PageNode → Ordering) → IsTotalOrder cmp → (to : Reach) (test : Frac → Bool) → IsTestOf to test
    → (done : List (Item PageNode)) → Reached cmp m test done → length (roughs_of done) ≡ length (polygons_within gap goal rows to)

-- each rough object that a node finds is a row's polygon, under the gap of its bounding rectangle
abbrev pub FindsPolygons : Meaning PageNode → Measure → Goal → List (ℕ × Shape) → Type 0
FindsPolygons m gap goal rows =
    (node : PageNode) → IsNode m node → (g : Frac) (left right : ℕ) → Contains (m.finds node) (item.Rough g left right)
    → (polygon : Shape) × Contains rows (left, polygon) × (is_rough polygon ≡ true) × IsSameGap g (gap goal (rough_figure polygon))

-- the gap of a node by the least rectangle round its entries: that of the rectangle, which lies in the closed square, or 0 where there is none
abbrev pub IsBoundGap : Goal → Option Rect → Frac → Type 0
IsBoundGap goal None gap = gap ≡ zero_gap
IsBoundGap goal (Some r) gap = IsRectInClosedPlane r × (gap ≡ goal_gap goal (figure.Rect r))

-- each node of the tree, the root too, has the gap of the rectangle that its page tells
abbrev pub HasBoundGaps : Meaning PageNode → Store → Goal → Type 0
HasBoundGaps m pages goal = (node : PageNode) → IsNode m node → IsBoundGap goal (bound_of (entries_at pages node.0)) (m.gap node)

-- no page is that of two nodes, so that a search which opens each node once reads no page twice
abbrev pub HasPagesOnce : Meaning PageNode → Type 0
HasPagesOnce m = (page : ℕ) → times page (map (λ node. node.0) (m.under m.root)) ≤ 1

-- Over these pages the ranking meets the laws of a hierarchy, of nodes with rectangles and pages of their own. It gives the ranked rows,
-- told by any measure, finds each polygon under the gap of its rectangle and counts the polygons within each reach; none is within the
-- reach nothing.
pub record IsLawfulNear (listed : PageMap → List (ℕ × Shape)) (Stands : PageMap → Type 0) (price : ℕ) (t : RTree) (goal : Goal) (ceiling : Option ℕ) (pages : PageMap) : Type 0 where
  pub hierarchy : MeetsLaws (near_meaning listed Stands price t goal ceiling pages)
  pub bounds : HasBoundGaps (near_meaning listed Stands price t goal ceiling pages) (store_of pages) goal
  pub once : HasPagesOnce (near_meaning listed Stands price t goal ceiling pages)
  pub rows : (gap : Measure) → IsMeasure gap → GivesList (near_meaning listed Stands price t goal ceiling pages) (ranked gap goal ceiling (listed pages))
  pub polygons : (gap : Measure) → IsMeasure gap → FindsPolygons (near_meaning listed Stands price t goal ceiling pages) gap goal (listed pages)
  pub geometries : (gap : Measure) → IsMeasure gap → CountsPolygons (near_meaning listed Stands price t goal ceiling pages) gap goal (listed pages)
  pub nothing : (gap : Measure) → polygons_within gap goal (listed pages) Nothing ≡ []

-- over pages where the R-tree lists the rows, and the rows can be read, the ranking is lawful
abbrev pub IsLawfulNearOver : (PageMap → List (ℕ × Shape)) → (PageMap → Type 0) → ℕ → RTree → Goal → Option ℕ → Type 0
IsLawfulNearOver rows Stands price t goal ceiling =
    (pages : PageMap) → ListsRows pages t (rows pages) → Stands pages → IsLawfulNear rows Stands price t goal ceiling pages
