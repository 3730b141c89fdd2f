-- The join that two quadtrees in pages stand for, what its visits are, and what its code finds at a pair of places.
use Rattle.std.specs.Prelude.{ℕ, ◌+◌, ◌-◌, ◌^◌, ◌||◌, Bool, true, false, cond, List, [], ◌∷◌, map, flat_map, Option}
use Rattle.std.specs.Ordering.{is_lt}
use Rattle.exact_frac.specs.Frac.{value_cmp}
use Rattle.exact_frac.specs.declared.frac.Frac.{Frac}
use Rattle.sand_base.specs.declared.TheConstants.{COORDINATE_BITS}
use Rattle.sand_base.specs.declared.goal.Goal.{Goal}
use Rattle.sand_base.specs.declared.rect.Rect.{Rect}
use Rattle.sand_base.specs.declared.rough.Rough.{Rough}
use Rattle.sand_base.specs.declared.rough.Rough.TheVariants as rough
use Rattle.sand_base.specs.declared.shape.Shape.{Shape}
use Rattle.sand_base.specs.declared.visit.Visit.{Visit}
use Rattle.sand_base.specs.declared.visit.Visit.TheVariants as visit
use Rattle.z_code.specs.Block.{children_of}
use Rattle.z_code.specs.declared.block.Block.{Block}
use Rattle.sand_model.specs.Nodes.{greater, square_figure}
use Rattle.page_pool.specs.Disk.{PageMap}
use Rattle.pmr_tree.specs.Entries.{figure_of}
use Rattle.pmr_tree.specs.Quadtree.{tree_at, FitsRows}
use Rattle.pmr_tree.specs.declared.listed.Listed.{Listed}
use Rattle.pmr_tree.specs.declared.listed.Node as place
use Rattle.pmr_tree.specs.declared.quadtree.Pmr.{Pmr}
use Rattle.best_first.specs.declared.item.Item.{Item}
use Rattle.best_first.specs.declared.item.Item.TheVariants as item
use Rattle.rank_cursor.specs.Cursor.{the_measure}
use Rattle.dist_join.specs.Joining.{Side, Joining}
use Rattle.dist_join.specs.Laws.{IsLawfulJoin}

-- ---- the join

-- One side of a join over pages: the rows with their shapes, what must hold so that they can be read, the most gets that it takes to read a shape, and the quadtree.
pub record PageSide : Type 1 where
  pub rows : PageMap → List (ℕ × Shape)
  pub Stands : PageMap → Type 0
  pub price : ℕ
  pub pmr : Pmr

-- these rows with this quadtree
abbrev pub paged : (PageMap → List (ℕ × Shape)) → (PageMap → Type 0) → ℕ → Pmr → PageSide
paged rows Stands price pmr = record { rows = rows; Stands = Stands; price = price; pmr = pmr }

-- the side that it stands for over these pages
abbrev pub side_at : PageSide → PageMap → Side
side_at side pages = record { shapes = side.rows pages; tree = tree_at pages side.pmr; height = side.pmr.map.height }

-- over these pages the quadtree fits the rows, and the rows can be read
abbrev pub IsFitted : PageSide → PageMap → Type 0
IsFitted side pages = FitsRows pages side.pmr (side.rows pages) × side.Stands pages

-- A join over pages: both sides are fitted.
abbrev pub joining_over : PageSide → PageSide → Option ℕ → PageMap → Joining
joining_over left right ceiling pages = record {
  IsReadable = IsFitted left pages × IsFitted right pages;
  measure = the_measure;
  ceiling = ceiling;
  left = side_at left pages;
  right = side_at right pages;
  fetch_price = left.price + right.price;
}

-- over pages where both sides are fitted the join is lawful
abbrev pub IsLawfulJoinOver : PageSide → PageSide → Option ℕ → Type 0
IsLawfulJoinOver left right ceiling = (pages : PageMap) → IsFitted left pages → IsFitted right pages → IsLawfulJoin (joining_over left right ceiling pages)

-- the visit of a pair of blocks of the quadtrees of these numbers, or of the geometries of two rows
abbrev pub pair_visit_of : ℕ → ℕ → Item (Block × Block) → Visit
pair_visit_of left right (item.Node gap pair) = visit.Pair (left, pair.0.z, pair.0.level) (right, pair.1.z, pair.1.level)
pair_visit_of left right (item.Rough gap id other) = visit.GeometryPair id other
pair_visit_of left right (item.Row gap id other) = visit.GeometryPair id other

-- more than the weights of the 16 pairs of children together, and than those of four pairs of a child with the other block
abbrev pub pair_weight : Block × Block → ℕ
pair_weight pair = 17 ^ ((COORDINATE_BITS - pair.0.level) + (COORDINATE_BITS - pair.1.level))

-- ---- what the code finds

-- the gap of the squares of two blocks
abbrev pub blocks_gap : Block × Block → Frac
blocks_gap pair = the_measure (square_figure pair.0) (square_figure pair.1)

-- two blocks as the frontier holds them
abbrev pub blocks_found : Block × Block → Item (Block × Block)
blocks_found pair = item.Node (blocks_gap pair) pair

-- an exact item at this gap, unless it is nearer than its leaves
abbrev pub exact_pair_found : Frac → ℕ → ℕ → Frac → List (Item (Block × Block))
exact_pair_found leaf left right gap = cond (is_lt (value_cmp gap leaf)) [] (item.Row gap left right ∷ [])

-- the rough shape is a bounding rectangle
abbrev pub is_bound : Rough → Bool
is_bound (rough.Point p) = false
is_bound (rough.Segment s) = false
is_bound (rough.Bound r) = true

-- what two ids with these rough shapes give: a rough item at the greater of two gaps, where one is a bounding rectangle, or an exact one
abbrev pub by_figures : Frac → ℕ → ℕ → Goal → Goal → Bool → List (Item (Block × Block))
by_figures leaf left right a b is_rough =
    cond is_rough (item.Rough (greater (the_measure a b) leaf) left right ∷ []) (exact_pair_found leaf left right (the_measure a b))

-- what two entries of two leaves give
abbrev pub pair_found : Frac → Listed → Listed → List (Item (Block × Block))
pair_found leaf l r = by_figures leaf l.id r.id (figure_of l.rough) (figure_of r.rough) (is_bound l.rough || is_bound r.rough)

-- what an entry of a leaf gives with those of the other
abbrev pub row_found : Frac → List Listed → Listed → List (Item (Block × Block))
row_found leaf rights l = flat_map (pair_found leaf l) rights

-- the blocks into which a place is divided: its children, or itself where it is a leaf
abbrev pub parts_of : Block → place.Node → List Block
parts_of b place.TheVariants.Inner = children_of b
parts_of b (place.TheVariants.Leaf list) = b ∷ []

-- a block with each of the others
abbrev pub pairs_found : List Block → Block → List (Item (Block × Block))
pairs_found others b = map (λ c. blocks_found (b, c)) others

-- a block with each of the others, all beside their squares
abbrev pub squares_found : List (Block × Rect) → Block × Rect → List (Item (Block × Block))
squares_found others left = map (λ right. blocks_found (left.0, right.0)) others

-- what a pair of places of two quadtrees gives
abbrev pub places_found : Frac → Block × Block → place.Node → place.Node → List (Item (Block × Block))
places_found leaf pair (place.TheVariants.Leaf lefts) (place.TheVariants.Leaf rights) = flat_map (row_found leaf rights) lefts
places_found leaf pair (place.TheVariants.Leaf lefts) place.TheVariants.Inner =
    flat_map (pairs_found (children_of pair.1)) (pair.0 ∷ [])
places_found leaf pair place.TheVariants.Inner other = flat_map (pairs_found (parts_of pair.1 other)) (children_of pair.0)
