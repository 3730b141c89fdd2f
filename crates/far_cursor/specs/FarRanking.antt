-- A quadtree searched farthest first, as a hierarchy under keys: that of a place is the key of the greatest distance from
-- its square, which no row in it passes, and that of a row the key of its distance.
use Rattle.sand_model.specs.Sources.{spot_figure}
use Rattle.std.specs.Prelude.{ℕ, cond, List, [], ◌∷◌, map, flat_map, None}
use Rattle.std.specs.Ordering.{is_lt}
use Rattle.exact_frac.specs.Frac.{value_cmp}
use Rattle.exact_frac.specs.declared.frac.Frac.{Frac}
use Rattle.sand_base.specs.declared.goal.Goal.{Goal}
use Rattle.sand_base.specs.declared.goal.Goal.TheVariants as figure
use Rattle.sand_base.specs.declared.point.Point.{Point}
use Rattle.sand_base.specs.declared.rough.Rough.{Rough}
use Rattle.sand_base.specs.declared.rough.Rough.TheVariants as rough
use Rattle.sand_base.specs.declared.shape.Shape.{Shape}
use Rattle.sand_base.specs.declared.shape.Shape.TheVariants as shape
use Rattle.z_code.specs.Block.{children_of}
use Rattle.z_code.specs.declared.block.Block.{Block}
use Rattle.sand_model.specs.Nodes.{greater, square_figure}
use Rattle.page_pool.specs.Disk.{PageMap}
use Rattle.pmr_tree.specs.Quadtree.{tree_at, FitsRows}
use Rattle.pmr_tree.specs.declared.listed.Node as place
use Rattle.pmr_tree.specs.declared.quadtree.Pmr.{Pmr}
use Rattle.best_first.specs.declared.item.Item.{Item}
use Rattle.best_first.specs.declared.item.Item.TheVariants as item
use Rattle.rank_cursor.specs.Cursor.{the_measure}
use Rattle.rank_cursor.specs.Ranking.{Ranking}
use Rattle.far_cursor.specs.Farthest.{key_of_gap, key_of_rect}

-- the key of a figure from a point: of a rectangle by its greatest distance, of a shape by its gap
abbrev pub key_from : Point → Goal → Frac
key_from p (figure.Rect r) = key_of_rect p r
key_from p (figure.Shape s) = key_of_gap (the_measure (spot_figure p) (figure.Shape s))

-- the ranking of rows under keys from a point, by their quadtree in pages
abbrev pub far_ranking : (PageMap → List (ℕ × Shape)) → (PageMap → Type 0) → ℕ → Pmr → Point → PageMap → Ranking
far_ranking rows Stands price t p pages = record {
  IsReadable = FitsRows pages t (rows pages) × Stands pages;
  measure = λ goal other. key_from p other;
  goal = spot_figure p;
  ceiling = None;
  shapes = rows pages;
  tree = tree_at pages t;
  height = t.map.height;
  fetch_price = price;
}

-- ---- what the code finds

-- a block as the frontier holds it, under its key
abbrev pub far_block : Point → Block → Item Block
far_block p b = item.Node (key_from p (square_figure b)) b

-- an exact item under this key, unless it comes before its leaf
abbrev pub far_exact : Frac → ℕ → Frac → List (Item Block)
far_exact leaf id key = cond (is_lt (value_cmp key leaf)) [] (item.Row key id 0 ∷ [])

-- what an entry of a leaf gives: a rough item at the greater of two keys, or an exact one
abbrev pub far_entry : Point → Frac → ℕ → Rough → List (Item Block)
far_entry p leaf id (rough.Point q) = far_exact leaf id (key_from p (figure.Shape (shape.Point q)))
far_entry p leaf id (rough.Segment s) = far_exact leaf id (key_from p (figure.Shape (shape.Segment s)))
far_entry p leaf id (rough.Bound r) = item.Rough (greater (key_from p (figure.Rect r)) leaf) id 0 ∷ []

-- what a place of the quadtree gives
abbrev pub far_place : Point → Frac → Block → place.Node → List (Item Block)
far_place p leaf b place.TheVariants.Inner = map (far_block p) (children_of b)
far_place p leaf b (place.TheVariants.Leaf list) = flat_map (λ l. far_entry p leaf l.id l.rough) list
