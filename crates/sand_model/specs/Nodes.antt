-- The nodes of a search, the blocks of a quadtree or the pairs of blocks of two, and what their leaves list. After
-- G. R. Hjaltason and H. Samet (1998, 1999).
use Rattle.std.specs.Prelude.{ℕ, Bool, cond, not, ◌||◌, List, [], ◌∷◌, ◌++◌, map, filter_map, flat_map, Option, Some, None, option_map}
use Rattle.std.specs.Ordering.{is_lt}
use Rattle.exact_frac.specs.Frac.{value_cmp}
use Rattle.exact_frac.specs.declared.frac.Frac.{Frac}
use Rattle.sand_base.specs.declared.goal.Goal.{Goal}
use Rattle.sand_base.specs.declared.goal.Goal.TheVariants as figure
use Rattle.sand_base.specs.declared.shape.Shape.{Shape}
use Rattle.z_code.specs.Block.{child, square_of}
use Rattle.z_code.specs.declared.block.Block.{Block}
use Rattle.sand_model.specs.Database.{shape_at}
use Rattle.sand_model.specs.Measure.{Measure}
pub use Rattle.sand_model.specs.Roughs.{bound_from, rough_figure, is_rough}
use Rattle.sand_model.specs.Tree.{Tree, Leaf, Inner, places, leaves, root_block}

-- the closed square of a block as a figure
abbrev pub square_figure : Block → Goal
square_figure b = figure.Rect (square_of b)

-- the greater of two fractions
abbrev pub greater : Frac → Frac → Frac
greater f g = cond (is_lt (value_cmp f g)) g f

-- what a leaf lists, or a pair of leaves: an id or a pair of ids (the right id of a single one is 0), whether it is rough, and its gap, for
-- a rough one the greater of its bounding rectangles' and its leaf's
pub record LeafItem : Type 0 where
  pub left : ℕ
  pub right : ℕ
  pub is_rough : Bool
  pub gap : Frac

-- an id of a leaf as an item: rough where it is a polygon, and then at the greater of its rectangle's and the leaf's gap
abbrev pub single_item : Measure → Goal → List (ℕ × Shape) → Block → ℕ → Option LeafItem
single_item gap goal shapes b id = option_map item (shape_at shapes id) where
  item : Shape → LeafItem
  item s = record {
    left = id;
    right = 0;
    is_rough = is_rough s;
    gap =
        cond (is_rough s) (greater (gap goal (rough_figure s)) (gap goal (square_figure b))) (gap goal (figure.Shape s));
  }

-- whether a search queues an item of a leaf: an exact one that is nearer than its leaf was given already
abbrev pub is_queued : Frac → LeafItem → Bool
is_queued leaf item = item.is_rough || not (is_lt (value_cmp item.gap leaf))

-- the items of the leaves of a tree: one for each id of each leaf
abbrev pub rank_items : Measure → Goal → List (ℕ × Shape) → Tree → List LeafItem
rank_items gap goal shapes tree =
    flat_map (λ leaf. filter_map (single_item gap goal shapes leaf.0) leaf.1) (leaves root_block tree)

-- the gaps of the places of a tree from a goal
abbrev pub rank_gaps : Measure → Goal → Tree → List Frac
rank_gaps gap goal tree = map (λ place. gap goal (square_figure place.0)) (places root_block tree)

-- what two places side by side hold: the blocks, and the ids of both where both are leaves
pub record PairNode : Type 0 where
  pub left : Block
  pub right : Block
  pub ids : List (ℕ × ℕ)

-- all pairs of one element of each list
abbrev pub pairs_of : List ℕ → List ℕ → List (ℕ × ℕ)
pairs_of lefts rights = flat_map (λ l. map (λ r. (l, r)) rights) lefts

-- the pairs of a leaf with the places of a tree: only the other side is divided
abbrev pub leaf_pairs : Block → List ℕ → Block → Tree → List PairNode
leaf_pairs b lefts c (Leaf rights) = record { left = b; right = c; ids = pairs_of lefts rights } ∷ []
leaf_pairs b lefts c (Inner p q r s) =
    record { left = b; right = c; ids = [] } ∷ leaf_pairs b lefts (child c 0) p
    ++ (leaf_pairs b lefts (child c 1) q
    ++ (leaf_pairs b lefts (child c 2) r ++ leaf_pairs b lefts (child c 3) s))

-- what there is under each of the four children of a block
abbrev pub under_children : (Block → Tree → List PairNode) → Block → Tree → Tree → Tree → Tree → List PairNode
under_children here c p q r s =
    here (child c 0) p ++ (here (child c 1) q ++ (here (child c 2) r ++ here (child c 3) s))

-- the pairs of places of two trees, from a pair of their blocks on: both sides are divided where both are inner, else the one that is
abbrev pub pair_nodes : Block → Tree → Block → Tree → List PairNode
pair_nodes b (Leaf lefts) c tree = leaf_pairs b lefts c tree
pair_nodes b (Inner p q r s) c (Leaf rights) =
    record { left = b; right = c; ids = [] } ∷ pair_nodes (child b 0) p c (Leaf rights)
    ++ (pair_nodes (child b 1) q c (Leaf rights)
    ++ (pair_nodes (child b 2) r c (Leaf rights) ++ pair_nodes (child b 3) s c (Leaf rights)))
pair_nodes b (Inner p q r s) c (Inner t u v w) =
    record { left = b; right = c; ids = [] } ∷ under_children (pair_nodes (child b 0) p) c t u v w
    ++ (under_children (pair_nodes (child b 1) q) c t u v w
    ++ (under_children (pair_nodes (child b 2) r) c t u v w ++ under_children (pair_nodes (child b 3) s) c t u v w))

-- the gap of the squares of a pair of places
abbrev pub pair_gap : Measure → PairNode → Frac
pair_gap gap node = gap (square_figure node.left) (square_figure node.right)

-- a pair of ids as an item: rough where a polygon is in it, and then at the greater of the gap of the rough shapes and the node's
abbrev pub pair_item : Measure → List (ℕ × Shape) → List (ℕ × Shape) → PairNode → ℕ × ℕ → Option LeafItem
pair_item gap lefts rights node ids = with_left (shape_at lefts ids.0) (shape_at rights ids.1) where
  item : Shape → Shape → LeafItem
  item s t = record {
    left = ids.0;
    right = ids.1;
    is_rough = is_rough s || is_rough t;
    gap =
        cond (is_rough s || is_rough t) (greater (gap (rough_figure s) (rough_figure t)) (pair_gap gap node))
        (gap (figure.Shape s) (figure.Shape t));
  }

  with_left : Option Shape → Option Shape → Option LeafItem
  with_left (Some s) (Some t) = Some (item s t)
  with_left _ _ = None

-- the items of the pairs of leaves of two trees
abbrev pub join_items : Measure → List (ℕ × Shape) → List (ℕ × Shape) → List PairNode → List LeafItem
join_items gap lefts rights nodes =
    flat_map (λ node. filter_map (pair_item gap lefts rights node) node.ids) nodes
