-- The items of two leaves, squares in squares, and a side of a join.
use Rattle.std.proofs.Common.{◌≡◌, ⊎_elim, ℕ, ◌+◌, ◌<◌, ◌≤◌, Bool, true, false, cond, not, ◌||◌, true≢false, List, [], ◌∷◌, ◌++◌, map, filter_map, flat_map}
use Rattle.std.proofs.Common.{Contains, Option, None, Some, refl, sym, ap, ap₂, ◌∙◌, subst, arith, Ordering, Less, Equal, Greater, append-nil}
use Rattle.std.specs.Ordering.{is_lt}
use Rattle.std.proofs.lemmas.Bool.{ltb-true}
use Rattle.std.proofs.lemmas.List.Concat.{flat_map-append}
use Rattle.exact_frac.specs.Frac.{value_cmp}
use Rattle.exact_frac.specs.declared.frac.Frac.{Frac}
use Rattle.sand_base.specs.declared.TheConstants.{COORDINATE_BITS}
use Rattle.sand_base.specs.declared.goal.Goal.TheVariants as figure
use Rattle.sand_base.specs.declared.shape.Shape.{Shape}
use Rattle.z_code.specs.Block.{IsBlock, child, children_of, square_of}
use Rattle.z_code.specs.declared.block.Block.{Block}
use Rattle.z_code.proofs.Children.{child_block}
use Rattle.sand_model.specs.Database.{shape_at, meets_block}
use Rattle.sand_model.specs.Measure.{Measure, meets}
use Rattle.sand_model.specs.Nodes.{LeafItem, pairs_of, pair_item, is_queued, is_rough, greater, rough_figure}
use Rattle.sand_model.specs.Tree.{Tree, Leaf, Inner, places, root_block, IsShallow}
use Rattle.ring_geom.specs.Bounding.{IsPartOf}
use Rattle.ring_geom.proofs.BlockLemmas.{child_part}
use Rattle.best_first.specs.Item.{gap_of, node_if_any, nodes_of}
use Rattle.best_first.specs.Reach.{IsAtMost}
use Rattle.best_first.specs.declared.item.Item.TheVariants.{Rough, Row}
use Rattle.best_first.proofs.Bags.{cons_cases, none, only, in_filter, from_filter, in_flat_map, from_flat_map}
use Rattle.best_first.proofs.Gaps.{equal_at_least, greater_is, less_is, below_at_most, not_below}
use Rattle.rank_cursor.specs.Ranking.{place_at}
use Rattle.rank_cursor.proofs.Elements.{in_map, from_map, map_append, from_filter_map, some_is}
use Rattle.rank_cursor.proofs.Places.{pick, place_below, place_here, place_more, is_place, place_is, leaf_fits}
use Rattle.rank_cursor.proofs.RankedItems.{greater_second, shape_is, is_shape}
use Rattle.dist_join.specs.Joining.{Side, Joining, IsSoundSide, pair_node_at, squares_gap, blocks_item, divided, leaf_pair_item, pairs_shown}
use Rattle.dist_join.specs.Joining.{row_of_pair, join_meaning}

-- ---- gaps in order

not_less : (f g : Frac) → is_lt (value_cmp f g) ≡ false → IsAtMost g f
not_less f g e =
    let go : (a : Ordering) → value_cmp f g ≡ a → is_lt a ≡ false → IsAtMost g f =
    elim [ Less ↦ λ h k. absurd (true≢false k) | Equal ↦ λ h k. equal_at_least f g h | Greater ↦ λ h k. below_at_most g f (greater_is f g h) ] in
    go (value_cmp f g) refl e

-- what is no less is not told to be less
pub at_least_not_less : (f g : Frac) → IsAtMost g f → is_lt (value_cmp f g) ≡ false
at_least_not_less f g h =
    let go : (a : Ordering) → value_cmp f g ≡ a → is_lt a ≡ false = elim [ Less ↦ λ e. absurd (not_below f g (less_is f g e) h) | Equal ↦ λ e. refl | Greater ↦ λ e. refl ] in
    go (value_cmp f g) refl

-- ---- lists

pub flat_twice : {X Y Z : Type 0} (f : Y → List Z) (g : X → List Y) (xs : List X) → flat_map f (flat_map g xs) ≡ flat_map (λ x. flat_map f (g x)) xs
flat_twice f g [] = refl
flat_twice f g (x ∷ xs) = flat_map-append f (g x) (flat_map g xs) ∙ ap (λ l. flat_map f (g x) ++ l) (flat_twice f g xs)

pub four_maps : {X Y : Type 0} (f : X → Y) (xs ys zs ws : List X) → map f (xs ++ (ys ++ (zs ++ ws))) ≡ map f xs ++ (map f ys ++ (map f zs ++ (map f ws ++ [])))
four_maps f xs ys zs ws =
    map_append f xs (ys ++ (zs ++ ws)) ∙ ap (λ l. map f xs ++ l) (map_append f ys (zs ++ ws)
    ∙ ap (λ l. map f ys ++ l) (map_append f zs ws ∙ ap (λ l. map f zs ++ l) (sym (append-nil (map f ws)))))

pub four_same : {X : Type 0} (a b c d w x y z : List X) → a ≡ w → b ≡ x → c ≡ y → d ≡ z → a ++ (b ++ (c ++ (d ++ []))) ≡ w ++ (x ++ (y ++ (z ++ [])))
four_same a b c d w x y z e f g h = ap₂ (λ l m. l ++ m) e (ap₂ (λ l m. l ++ m) f (ap₂ (λ l m. l ++ m) g (ap (λ l. l ++ []) h)))

pub in_pairs : (lefts rights : List ℕ) (l r : ℕ) → Contains lefts l → Contains rights r → Contains (pairs_of lefts rights) (l, r)
in_pairs lefts rights l r h k = in_flat_map (λ (l : ℕ). map (λ (r : ℕ). (l, r)) rights) lefts l (l, r) h (in_map (λ (r : ℕ). (l, r)) rights r k)

-- ---- the items of two leaves

-- a pair of ids in two leaves, with the shapes of their rows
abbrev pub one_item : Joining → Block × Block → ℕ × ℕ → Shape → Shape → LeafItem
one_item j pair ids s t = record {
  left = ids.0;
  right = ids.1;
  is_rough = is_rough s || is_rough t;
  gap =
      cond (is_rough s || is_rough t) (greater (j.measure (rough_figure s) (rough_figure t)) (squares_gap j pair))
      (j.measure (figure.Shape s) (figure.Shape t));
}

-- what two options give together
abbrev pub both_some : {A B C : Type 0} → (A → B → C) → Option A → Option B → Option C
both_some f (Some s) (Some t) = Some (f s t)
both_some f _ _ = None

pub both_is : {A B C : Type 0} (f : A → B → C) (o : Option A) (q : Option B) (y : C) → both_some f o q ≡ Some y
    → (s : A) × (t : B) × (o ≡ Some s) × (q ≡ Some t) × (f s t ≡ y)
both_is {A} {B} {C} f None q y e = absurd (true≢false (ap (λ (o : Option C). elim o as (λ _. Bool) [ None ↦ true | Some z ↦ false ]) e))
both_is {A} {B} {C} f (Some s) None y e = absurd (true≢false (ap (λ (o : Option C). elim o as (λ _. Bool) [ None ↦ true | Some z ↦ false ]) e))
both_is f (Some s) (Some t) y e = (s, t, refl, refl, some_is (f s t) y e)

-- a pair of rows has its item
pub pair_given : (j : Joining) (pair : Block × Block) (ids : List (ℕ × ℕ)) (one : ℕ × ℕ) (s t : Shape) → shape_at j.left.shapes one.0 ≡ Some s
    → shape_at j.right.shapes one.1 ≡ Some t → pair_item j.measure j.left.shapes j.right.shapes (pair_node_at pair ids) one ≡ Some (one_item j pair one s t)
pair_given j pair ids one s t e f = ap₂ (λ o q. both_some (one_item j pair one) o q) e f

-- What two leaves show is the item of a pair of rows that is not nearer than the leaves, or rough.
pub record IsShown (j : Joining) (pair : Block × Block) (ids : List (ℕ × ℕ)) (item : LeafItem) : Type 0 where
  pub one : ℕ × ℕ
  pub shape : Shape
  pub other : Shape
  pub listed : Contains ids one
  pub row : Contains j.left.shapes (one.0, shape)
  pub other_row : Contains j.right.shapes (one.1, other)
  pub is : one_item j pair one shape other ≡ item
  pub queued : is_queued (squares_gap j pair) item ≡ true

pub shown_is : (j : Joining) (pair : Block × Block) (ids : List (ℕ × ℕ)) (item : LeafItem) → Contains (pairs_shown j pair ids) item → IsShown j pair ids item
shown_is j pair ids item h =
    let gives = pair_item j.measure j.left.shapes j.right.shapes (pair_node_at pair ids) in
    let (among, queued) = from_filter (is_queued (squares_gap j pair)) (filter_map gives ids) item h in
    let (one, at, is_given) = from_filter_map gives ids item among in
    let (s, t, found, too, is) = both_is (one_item j pair one) (shape_at j.left.shapes one.0) (shape_at j.right.shapes one.1) item is_given in
    record {
      one = one;
      shape = s;
      other = t;
      listed = at;
      row = shape_is j.left.shapes one.0 s found;
      other_row = shape_is j.right.shapes one.1 t too;
      is = is;
      queued = queued;
    }

pub leaf_item_gap : (item : LeafItem) → gap_of (leaf_pair_item item) ≡ item.gap
leaf_item_gap item =
    let go : (b : Bool) → gap_of {N = Block × Block} (cond b (Rough item.gap item.left item.right) (Row item.gap item.left item.right)) ≡ item.gap = elim [ true ↦ refl | false ↦ refl ] in
    go item.is_rough

leaf_item_node : (item : LeafItem) → node_if_any (leaf_pair_item item) ≡ []
leaf_item_node item =
    let go : (b : Bool) → node_if_any {N = Block × Block} (cond b (Rough item.gap item.left item.right) (Row item.gap item.left item.right)) ≡ [] = elim [ true ↦ refl | false ↦ refl ] in
    go item.is_rough

leaf_nodes : (items : List LeafItem) → nodes_of (map leaf_pair_item items) ≡ []
leaf_nodes [] = refl
leaf_nodes (item ∷ items) = ap₂ (λ (xs : List (Block × Block)) (ys : List (Block × Block)). xs ++ ys) (leaf_item_node item) (leaf_nodes items)

block_nodes : (j : Joining) (pairs : List (Block × Block)) → nodes_of (map (blocks_item j) pairs) ≡ pairs
block_nodes j [] = refl
block_nodes j (pair ∷ pairs) = ap (λ (l : List (Block × Block)). pair ∷ l) (block_nodes j pairs)

-- the nodes that are found are the pairs into which a pair of places is divided
pub found_nodes : (j : Joining) (pairs : List (Block × Block)) (items : List LeafItem) → nodes_of (map (blocks_item j) pairs ++ map leaf_pair_item items) ≡ pairs
found_nodes j pairs items =
    flat_map-append node_if_any (map (blocks_item j) pairs) (map leaf_pair_item items)
    ∙ ap₂ (λ (xs : List (Block × Block)) (ys : List (Block × Block)). xs ++ ys) (block_nodes j pairs) (leaf_nodes items) ∙ append-nil pairs

-- an item that two leaves show is no nearer than they
pub shown_far : (j : Joining) (pair : Block × Block) (ids : List (ℕ × ℕ)) (item : LeafItem) → IsShown j pair ids item → IsAtMost (squares_gap j pair) item.gap
shown_far j pair ids item h =
    subst (λ (x : LeafItem). is_queued (squares_gap j pair) x ≡ true → IsAtMost (squares_gap j pair) x.gap) h.is (far (is_rough h.shape || is_rough h.other)) h.queued
  where
    near : Frac
    near = j.measure (rough_figure h.shape) (rough_figure h.other)

    exact : Frac
    exact = j.measure (figure.Shape h.shape) (figure.Shape h.other)

    far : (k : Bool) → (k || not (is_lt (value_cmp (cond k (greater near (squares_gap j pair)) exact) (squares_gap j pair)))) ≡ true
        → IsAtMost (squares_gap j pair) (cond k (greater near (squares_gap j pair)) exact)
    far true e = greater_second near (squares_gap j pair)
    far false e = not_less exact (squares_gap j pair) (not_true (is_lt (value_cmp exact (squares_gap j pair))) e)
      where
        not_true : (c : Bool) → not c ≡ true → c ≡ false
        not_true true e = absurd (true≢false (sym e))
        not_true false e = refl

-- ---- squares in squares

-- The other block lies in the block.
pub record LiesIn (b other : Block) : Type 0 where
  pub block : IsBlock other
  pub part : IsPartOf (square_of other) (square_of b)

lies_itself : (b : Block) → IsBlock b → LiesIn b b
lies_itself b h = record {
  block = h;
  part = record {
    low = record { left = le_itself _; right = le_more _ _; bottom = le_itself _; top = le_more _ _ };
    high = record { left = le_more _ _; right = le_itself _; bottom = le_more _ _; top = le_itself _ };
  };
}
  where
    le_itself : (n : ℕ) → n ≤ n
    le_itself n = omega arith

    le_more : (n s : ℕ) → n ≤ n + s
    le_more n s = omega arith

lies_child : (b other : Block) → IsBlock b → b.level < COORDINATE_BITS → Contains (children_of b) other → LiesIn b other
lies_child b other h above at =
    ⊎_elim (λ e. subst (LiesIn b) e (one 0 (omega arith)))
    (λ more. ⊎_elim (λ e. subst (LiesIn b) e (one 1 (omega arith)))
    (λ less. ⊎_elim (λ e. subst (LiesIn b) e (one 2 (omega arith))) (λ last. subst (LiesIn b) (only (child b 3) other last) (one 3 (omega arith)))
    (cons_cases (child b 2) (child b 3 ∷ []) other less)) (cons_cases (child b 1) (child b 2 ∷ child b 3 ∷ []) other more))
    (cons_cases (child b 0) (child b 1 ∷ child b 2 ∷ child b 3 ∷ []) other at)
  where
    one : (i : ℕ) → i < 4 → LiesIn b (child b i)
    one i small = record { block = child_block b h above i small; part = child_part b h above i small }

-- the pairs into which a pair of places is divided lie in it
pub divided_lies : (b : Block) (t : Tree) (c : Block) (u : Tree) → IsBlock b → IsShallow b t → IsBlock c → IsShallow c u → (x : Block × Block)
    → Contains (divided b t c u) x → LiesIn b x.0 × LiesIn c x.1
divided_lies b (Leaf lefts) c (Leaf rights) hb sb hc sc x h = absurd (none x h)
divided_lies b (Leaf lefts) c (Inner p q r s) hb sb hc sc x h =
    let (d, among, same) = from_map (λ (d : Block). (b, d)) (children_of c) x h in
    subst (λ (y : Block × Block). LiesIn b y.0 × LiesIn c y.1) same (lies_itself b hb, lies_child c d hc (ltb-true c.level COORDINATE_BITS sc.0) among)
divided_lies b (Inner p q r s) c (Leaf rights) hb sb hc sc x h =
    let (d, among, same) = from_map (λ (d : Block). (d, c)) (children_of b) x h in
    subst (λ (y : Block × Block). LiesIn b y.0 × LiesIn c y.1) same (lies_child b d hb (ltb-true b.level COORDINATE_BITS sb.0) among, lies_itself c hc)
divided_lies b (Inner p q r s) c (Inner t u v w) hb sb hc sc x h =
    let (d, among, more) = from_flat_map (λ (d : Block). map (λ (e : Block). (d, e)) (children_of c)) (children_of b) x h in
    let (e, under, same) = from_map (λ (e : Block). (d, e)) (children_of c) x more in
    subst (λ (y : Block × Block). LiesIn b y.0 × LiesIn c y.1) same
    (lies_child b d hb (ltb-true b.level COORDINATE_BITS sb.0) among, lies_child c e hc (ltb-true c.level COORDINATE_BITS sc.0) under)

-- ---- a side

-- a child of an inner place is a place
pub child_place : (gap : Measure) (side : Side) → IsSoundSide gap side → (b : Block) (p q s t : Tree) → place_at side.tree b ≡ Some (Inner p q s t)
    → (i : ℕ) → i < 4 → place_at side.tree (child b i) ≡ Some (pick p q s t i)
child_place gap side sound b p q s t e i small =
    is_place side.tree sound.shallow (child b i) (pick p q s t i)
    (place_more root_block side.tree b (Inner p q s t) (child b i, pick p q s t i) (place_is side.tree b (Inner p q s t) e)
    (place_below b p q s t (child b i, pick p q s t i) i small (place_here (child b i) (pick p q s t i))))

-- a leaf whose square a shape meets lists its row
pub listed_there : (gap : Measure) (side : Side) → IsSoundSide gap side → (c : Block) (ids : List ℕ) → Contains (places root_block side.tree) (c, Leaf ids)
    → (id : ℕ) (s : Shape) → Contains side.shapes (id, s) → meets gap s (square_of c) ≡ true → Contains ids id
listed_there gap side sound c ids place id s at met =
    let all = map (λ (row : ℕ × Shape). row.0) side.shapes in
    subst (λ (l : List ℕ). Contains l id) (sym (leaf_fits (meets_block gap side.shapes) all root_block side.tree sound.fits c ids place))
    (in_filter (meets_block gap side.shapes c) all id (in_map (λ (row : ℕ × Shape). row.0) side.shapes (id, s) at)
    (ap (met_at) (is_shape side.shapes sound.apart id s at) ∙ met))
  where
    met_at : Option Shape → Bool
    met_at (Some t) = meets gap t (square_of c)
    met_at None = false

-- an id is that of one shape
pub own_shape : (gap : Measure) (side : Side) → IsSoundSide gap side → (id : ℕ) (s t : Shape) → Contains side.shapes (id, s) → Contains side.shapes (id, t) → s ≡ t
own_shape gap side sound id s t h k = some_is s t (sym (is_shape side.shapes sound.apart id s h) ∙ is_shape side.shapes sound.apart id t k)

-- a pair of rows is a row
pub row_among : (j : Joining) (row other : ℕ × Shape) → Contains j.left.shapes row → Contains j.right.shapes other → Contains (join_meaning j).rows (row_of_pair j row other)
row_among j row other at too =
    in_flat_map (λ (row : ℕ × Shape). map (row_of_pair j row) j.right.shapes) j.left.shapes row (row_of_pair j row other) at
    (in_map (row_of_pair j row) j.right.shapes other too)
