-- A search over a join visits as many pairs of places and fetches as many rough pairs as the model counts.
use Rattle.std.proofs.Common.{◌≡◌, ⊎_elim, ℕ, Bool, true, false, cond, not, ◌||◌, ◌&&◌, true≢false, List, [], ◌∷◌, ◌++◌, map, length, filter, filter_map, flat_map}
use Rattle.std.proofs.Common.{Contains, Option, Some, refl, sym, ap, ap₂, ◌∙◌, subst, arith, Ordering}
use Rattle.std.specs.Ordering.{is_lt}
use Rattle.std.specs.Cmp.{IsTotalOrder}
use Rattle.std.proofs.lemmas.List.Elements.{Contains-append_right, Contains-append_cases}
use Rattle.exact_frac.specs.Frac.{value_cmp}
use Rattle.exact_frac.specs.declared.frac.Frac.{Frac}
use Rattle.sand_base.specs.Plane.{IsShapeInClosedPlane}
use Rattle.sand_base.specs.declared.goal.Goal.TheVariants as figure
use Rattle.sand_base.specs.declared.shape.Shape.{Shape}
use Rattle.z_code.specs.Block.{IsBlock}
use Rattle.z_code.specs.declared.block.Block.{Block}
use Rattle.z_code.proofs.Blocks.{square_in_closed_plane}
use Rattle.sand_model.specs.Database.{shape_at}
use Rattle.sand_model.specs.Measure.{Measure, IsMeasure}
use Rattle.sand_model.specs.Nodes.{LeafItem, PairNode, pair_gap, pair_item, is_queued, is_rough, greater, rough_figure, square_figure, join_items}
use Rattle.sand_model.specs.Reach.{Reach, Nothing, reaches, distinct}
use Rattle.sand_model.specs.Tree.{Tree, places, root_block}
use Rattle.ring_geom.proofs.BlockLemmas.{root_is_block}
use Rattle.ring_geom.proofs.RoughLemmas.{rough_in_closed_plane}
use Rattle.best_first.specs.Hierarchy.{Meaning, nodes_within, listed_roughs_within}
use Rattle.best_first.specs.Item.{gap_of, roughs_of}
use Rattle.best_first.specs.Reach.{IsSameGap}
use Rattle.best_first.specs.Visits.{Reached}
use Rattle.best_first.specs.declared.item.Item.{Item}
use Rattle.best_first.specs.declared.item.Item.TheVariants.{Node, Rough, Row}
use Rattle.best_first.proofs.Bags.{here, there, All-by, filter_none, in_filter, from_filter, in_flat_map, from_flat_map}
use Rattle.best_first.proofs.ForLayers.{visited_count}
use Rattle.best_first.proofs.Trees.{rough_item, rough_among}
use Rattle.rank_cursor.specs.Answers.{IsTestOf}
use Rattle.rank_cursor.proofs.CountedItems.{same_greater}
use Rattle.rank_cursor.proofs.Elements.{in_map, from_map, in_filter_map, from_filter_map}
use Rattle.rank_cursor.proofs.Places.{inside, is_place, both_true, true_both}
use Rattle.rank_cursor.proofs.RankedRows.{same_measures}
use Rattle.rank_cursor.proofs.RankedItems.{shape_is, is_shape}
use Rattle.dist_join.specs.Joining.{Side, Joining, IsSoundJoin, pair_node_at, blocks_of, squares_gap, blocks_item, divided, leaf_pair_item, pairs_shown, pairs_found_at, join_meaning}
use Rattle.dist_join.specs.Answers.{all_pairs, CountsAsJoin}
use Rattle.dist_join.proofs.Counterparts.{IsCounterpart, is_counted, count_roughs}
use Rattle.dist_join.proofs.JoinPlaces.{one_item, pair_given, shown_is, both_is}
use Rattle.dist_join.proofs.JoinLaws.{plane_left, plane_right, under_root}
use Rattle.dist_join.proofs.PairPlaces.{pair_stands}

-- ---- nothing

none_reached : (k : Bool) → (k && false) ≡ false
none_reached true = refl
none_reached false = refl

pub nothing_counted : (gap : Measure) (left right : Side) → CountsAsJoin gap left right Nothing []
nothing_counted gap left right =
    let nodes = all_pairs left right in
    let items = join_items gap left.shapes right.shapes nodes in
    record {
      pairs = sym (ap length (filter_none (λ (node : PairNode). reaches Nothing (pair_gap gap node)) nodes
          (All-by (λ (node : PairNode). reaches Nothing (pair_gap gap node) ≡ false) nodes (λ node at. refl))));
      geometries =
          sym (ap (λ (l : List LeafItem). length (distinct l))
          (filter_none (is_counted Nothing) items (All-by (λ item. is_counted Nothing item ≡ false) items (λ item at. none_reached item.is_rough))));
    }

-- ---- counting

count_step : {A B : Type 0} (y : A) (ys : List A) (z : B) (zs : List B) → length ys ≡ length zs → (b c : Bool) → b ≡ c → length (cond b (y ∷ ys) ys) ≡ length (cond c (z ∷ zs) zs)
count_step y ys z zs e true true h = omega (arith, e)
count_step y ys z zs e true false h = absurd (true≢false h)
count_step y ys z zs e false true h = absurd (true≢false (sym h))
count_step y ys z zs e false false h = e

count_mapped : {X A : Type 0} (f : X → A) (p : A → Bool) (q : X → Bool) (xs : List X) → ((x : X) → Contains xs x → p (f x) ≡ q x) → length (filter p (map f xs)) ≡ length (filter q xs)
count_mapped f p q [] h = refl
count_mapped f p q (x ∷ xs) h =
    count_step (f x) (filter p (map f xs)) x (filter q xs) (count_mapped f p q xs (λ y at. h y (there x xs y at))) (p (f x)) (q x) (h x (here x xs))

-- ---- items as the frontier holds them

-- a rough item of the frontier is that of a rough item
pub leaf_is : (x : LeafItem) (g : Frac) (l s : ℕ) → leaf_pair_item x ≡ Rough g l s → (x.is_rough ≡ true) × (x.gap ≡ g) × (x.left ≡ l) × (x.right ≡ s)
leaf_is x g l s =
    let item : Item (Block × Block) = Rough g l s in
    let go : (k : Bool) → cond k (Rough x.gap x.left x.right) (Row x.gap x.left x.right) ≡ item → (k ≡ true) × (x.gap ≡ g) × (x.left ≡ l) × (x.right ≡ s) =
    elim [
      | true ↦ λ e. (refl, ap gap_of e, ap left_of e, ap right_of e)
      | false ↦ λ e. absurd (true≢false (sym (ap is_rough_item e)))
    ] in
    go x.is_rough
  where
    left_of : Item (Block × Block) → ℕ
    left_of (Node g b) = 0
    left_of (Rough g l s) = l
    left_of (Row g l s) = l

    right_of : Item (Block × Block) → ℕ
    right_of (Node g b) = 0
    right_of (Rough g l s) = s
    right_of (Row g l s) = s

    is_rough_item : Item (Block × Block) → Bool
    is_rough_item (Node g b) = false
    is_rough_item (Rough g l s) = true
    is_rough_item (Row g l s) = false

rough_leaf : (x : LeafItem) → x.is_rough ≡ true → leaf_pair_item x ≡ Rough x.gap x.left x.right
rough_leaf x e =
    let item : Item (Block × Block) = Rough x.gap x.left x.right in
    let go : (k : Bool) → k ≡ true → cond k (Rough x.gap x.left x.right) (Row x.gap x.left x.right) ≡ item =
    elim [ true ↦ λ e. refl | false ↦ λ e. absurd (true≢false (sym e)) ] in
    go x.is_rough e

rough_queued : (leaf : Frac) (x : LeafItem) → x.is_rough ≡ true → is_queued leaf x ≡ true
rough_queued leaf x e =
    let rest = not (is_lt (value_cmp x.gap leaf)) in
    let go : (k : Bool) → k ≡ true → (k || rest) ≡ true = elim [ true ↦ λ e. refl | false ↦ λ e. absurd (true≢false (sym e)) ] in
    go x.is_rough e

-- pairs of blocks are no rough items
pub no_rough : (j : Joining) (pairs : List (Block × Block)) (g : Frac) (l s : ℕ) → Contains (map (blocks_item j) pairs) (Rough g l s) → ⊥
no_rough j pairs g l s h = let (pair, among, same) = from_map (blocks_item j) pairs (Rough g l s) h in absurd (true≢false (ap is_node same))
  where
    is_node : Item (Block × Block) → Bool
    is_node (Node g b) = true
    is_node (Rough g l s) = false
    is_node (Row g l s) = false

module _ (j : Joining) (sound : IsSoundJoin j) (gap : Measure) (is : IsMeasure gap) (to : Reach) (test : Frac → Bool) (tells : IsTestOf to test) where
  abbrev m : Meaning (Block × Block)
  m = join_meaning j

  -- the same join by the other measure
  abbrev other_joining : Joining
  other_joining = record j { measure = gap }

  abbrev nodes : List PairNode
  nodes = all_pairs j.left j.right

  abbrev model_items : List LeafItem
  model_items = join_items gap j.left.shapes j.right.shapes nodes

  abbrev gives : PairNode → ℕ × ℕ → Option LeafItem
  gives node = pair_item gap j.left.shapes j.right.shapes node

  left_block : (c : Block) (place : Tree) → Contains (places root_block j.left.tree) (c, place) → IsBlock c
  left_block c place at = (inside root_block j.left.tree root_is_block sound.left.shallow c place at).block

  right_block : (c : Block) (place : Tree) → Contains (places root_block j.right.tree) (c, place) → IsBlock c
  right_block c place at = (inside root_block j.right.tree root_is_block sound.right.shallow c place at).block

  same_squares : (b c : Block) → IsBlock b → IsBlock c → IsSameGap (squares_gap j (b, c)) (squares_gap other_joining (b, c))
  same_squares b c h k = same_measures j.measure gap sound.measure is (square_figure b) (square_figure c) (square_in_closed_plane b h) (square_in_closed_plane c k)

  -- ---- pairs of places

  pub count_pairs : length (nodes_within m test) ≡ length (filter (λ (node : PairNode). reaches to (pair_gap gap node)) nodes)
  count_pairs =
      ap (λ (l : List (Block × Block)). length (filter (λ pair. test (squares_gap j pair)) l)) (under_root j sound)
      ∙ count_mapped blocks_of (λ pair. test (squares_gap j pair)) (λ (node : PairNode). reaches to (pair_gap gap node)) nodes
      (λ node at.
      let k = pair_stands root_block j.left.tree root_block j.right.tree node at in
      tells (squares_gap j (blocks_of node)) (pair_gap gap node)
      (same_squares node.left node.right (left_block node.left k.place k.at_left) (right_block node.right k.other k.at_right)))

  -- ---- rough pairs

  same_item_gap : (b c : Block) (one : ℕ × ℕ) (s t : Shape) → IsBlock b → IsBlock c → IsShapeInClosedPlane s → IsShapeInClosedPlane t
      → IsSameGap (one_item j (b, c) one s t).gap (one_item other_joining (b, c) one s t).gap
  same_item_gap b c one s t h k in_left in_right =
      let rough = j.measure (rough_figure s) (rough_figure t) in
      let exact = j.measure (figure.Shape s) (figure.Shape t) in
      let rough' = gap (rough_figure s) (rough_figure t) in
      let exact' = gap (figure.Shape s) (figure.Shape t) in
      let go : (k : Bool) → IsSameGap (cond k (greater rough (squares_gap j (b, c))) exact) (cond k (greater rough' (squares_gap other_joining (b, c))) exact') =
      elim [
        | true ↦
            same_greater rough (squares_gap j (b, c)) rough' (squares_gap other_joining (b, c))
            (same_measures j.measure gap sound.measure is (rough_figure s) (rough_figure t) (rough_in_closed_plane s in_left) (rough_in_closed_plane t in_right)) (same_squares b c h k)
        | false ↦ same_measures j.measure gap sound.measure is (figure.Shape s) (figure.Shape t) in_left in_right
      ] in
      go (is_rough s || is_rough t)

  -- a rough item that two leaves show has a counterpart
  shown_counterpart : (node : PairNode) → Contains nodes node → (g : Frac) (l s : ℕ) → Contains (map leaf_pair_item (pairs_shown j (blocks_of node) node.ids)) (Rough g l s)
      → test g ≡ true → (a : LeafItem) × Contains (filter (is_counted to) model_items) a × IsCounterpart {N = Block × Block} (Rough g l s) a
  shown_counterpart node at g l s found near =
      let pair = blocks_of node in
      let k = pair_stands root_block j.left.tree root_block j.right.tree node at in
      let (item, among, same) = from_map leaf_pair_item (pairs_shown j pair node.ids) (Rough g l s) found in
      let h = shown_is j pair node.ids item among in
      let (rough, gaps, left, right) = leaf_is (one_item j pair h.one h.shape h.other) g l s (ap leaf_pair_item h.is ∙ same) in
      let a = one_item other_joining pair h.one h.shape h.other in
      let alike : IsSameGap g a.gap =
      subst (λ (f : Frac). IsSameGap f a.gap) gaps
      (same_item_gap node.left node.right h.one h.shape h.other (left_block node.left k.place k.at_left) (right_block node.right k.other k.at_right)
      (plane_left j sound h.one.0 h.shape h.row) (plane_right j sound h.one.1 h.other h.other_row)) in
      let given : gives node h.one ≡ Some a =
      pair_given other_joining pair node.ids h.one h.shape h.other (is_shape j.left.shapes sound.left.apart h.one.0 h.shape h.row)
      (is_shape j.right.shapes sound.right.apart h.one.1 h.other h.other_row) in (
        a,
        in_filter (is_counted to) model_items a
            (in_flat_map (λ (node : PairNode). filter_map (gives node) node.ids) nodes node a at (in_filter_map (gives node) node.ids h.one a h.listed given))
            (true_both a.is_rough (reaches to a.gap) rough (sym (tells g a.gap alike) ∙ near)),
        (alike, sym left, sym right),
      )

  -- what a pair of places finds
  finds_there : (node : PairNode) → Contains nodes node → (t u : Tree)
      × (m.finds (blocks_of node) ≡ map (blocks_item j) (divided node.left t node.right u) ++ map leaf_pair_item (pairs_shown j (blocks_of node) node.ids))
  finds_there node at =
      let k = pair_stands root_block j.left.tree root_block j.right.tree node at in (
        k.place,
        k.other,
        ap₂ (λ o q. pairs_found_at j (blocks_of node) o q) (is_place j.left.tree sound.left.shallow node.left k.place k.at_left)
            (is_place j.right.tree sound.right.shallow node.right k.other k.at_right)
            ∙ ap (λ (ids : List (ℕ × ℕ)). map (blocks_item j) (divided node.left k.place node.right k.other) ++ map leaf_pair_item (pairs_shown j (blocks_of node) ids)) (sym k.lists),
      )

  model_at : (node : PairNode) → Contains nodes node → (g : Frac) (l s : ℕ) → Contains (m.finds (blocks_of node)) (Rough g l s) → test g ≡ true
      → (a : LeafItem) × Contains (filter (is_counted to) model_items) a × IsCounterpart {N = Block × Block} (Rough g l s) a
  model_at node at g l s found near =
      let (t, u, finds) = finds_there node at in
      let items = map leaf_pair_item (pairs_shown j (blocks_of node) node.ids) in
      let pairs = divided node.left t node.right u in
      let there_is : Contains (map (blocks_item j) pairs ++ items) (Rough g l s) = subst (λ (i : List (Item (Block × Block))). Contains i (Rough g l s)) finds found in
      let in_items : Contains items (Rough g l s) =
      ⊎_elim (λ n. absurd (no_rough j pairs g l s n)) (λ i. i) (Contains-append_cases (map (blocks_item j) pairs) items (Rough g l s) there_is) in
      shown_counterpart node at g l s in_items near

  model_of : (x : Item (Block × Block)) → Contains (listed_roughs_within m test) x → (a : LeafItem) × Contains (filter (is_counted to) model_items) a × IsCounterpart x a
  model_of x h =
      let (listed, near) = from_filter (λ item. test (gap_of item)) (flat_map (λ pair. roughs_of (m.finds pair)) (m.under m.root)) x h in
      let (pair, below, among) = from_flat_map (λ pair. roughs_of (m.finds pair)) (m.under m.root) x listed in
      let (node, at, blocks) = from_map blocks_of nodes pair (subst (λ (l : List (Block × Block)). Contains l pair) (under_root j sound) below) in
      let (found, parts) = rough_item (m.finds (blocks_of node)) x (subst (λ (p : Block × Block). Contains (roughs_of (m.finds p)) x) (sym blocks) among) in
      let (g, l, s, same) = parts in
      subst (λ (y : Item (Block × Block)). (a : LeafItem) × Contains (filter (is_counted to) model_items) a × IsCounterpart y a) (sym same)
      (model_at node at g l s (subst (Contains (m.finds (blocks_of node))) same found) (ap (λ (y : Item (Block × Block)). test (gap_of y)) (sym same) ∙ near))

  -- and an item of the model is the counterpart of one
  item_of : (a : LeafItem) → Contains (filter (is_counted to) model_items) a → (x : Item (Block × Block)) × Contains (listed_roughs_within m test) x × IsCounterpart x a
  item_of a h =
      let (listed, passes) = from_filter (is_counted to) model_items a h in
      let (rough, near) = both_true a.is_rough (reaches to a.gap) passes in
      let (node, at, among) = from_flat_map (λ (node : PairNode). filter_map (gives node) node.ids) nodes a listed in
      let (one, there_is, given) = from_filter_map (gives node) node.ids a among in
      let pair = blocks_of node in
      let (s, t, found, found_too, same) = both_is (one_item other_joining pair one) (shape_at j.left.shapes one.0) (shape_at j.right.shapes one.1) a given in
      let k = pair_stands root_block j.left.tree root_block j.right.tree node at in
      let (v, w, finds) = finds_there node at in
      let item = one_item j pair one s t in
      let is_polygon : item.is_rough ≡ true = ap (λ (b : LeafItem). b.is_rough) same ∙ rough in
      let alike : IsSameGap item.gap a.gap =
      subst (λ (b : LeafItem). IsSameGap item.gap b.gap) same
      (same_item_gap node.left node.right one s t (left_block node.left k.place k.at_left) (right_block node.right k.other k.at_right)
      (plane_left j sound one.0 s (shape_is j.left.shapes one.0 s found)) (plane_right j sound one.1 t (shape_is j.right.shapes one.1 t found_too))) in
      let ours = pair_item j.measure j.left.shapes j.right.shapes (pair_node_at pair node.ids) in
      let items = map leaf_pair_item (pairs_shown j pair node.ids) in
      let shown_there : Contains items (Rough item.gap one.0 one.1) =
      subst (Contains items) (rough_leaf item is_polygon)
      (in_map leaf_pair_item (pairs_shown j pair node.ids) item
      (in_filter (is_queued (squares_gap j pair)) (filter_map ours node.ids) item
      (in_filter_map ours node.ids one item there_is (pair_given j pair node.ids one s t found found_too)) (rough_queued (squares_gap j pair) item is_polygon))) in
      let is_found : Contains (m.finds pair) (Rough item.gap one.0 one.1) =
      subst (λ (i : List (Item (Block × Block))). Contains i (Rough item.gap one.0 one.1)) (sym finds)
      (Contains-append_right (map (blocks_item j) (divided node.left v node.right w)) items (Rough item.gap one.0 one.1) shown_there) in (
        Rough item.gap one.0 one.1,
        in_filter (λ item. test (gap_of item)) (flat_map (λ pair. roughs_of (m.finds pair)) (m.under m.root)) (Rough item.gap one.0 one.1)
            (in_flat_map (λ pair. roughs_of (m.finds pair)) (m.under m.root) pair (Rough item.gap one.0 one.1)
            (subst (λ (l : List (Block × Block)). Contains l pair) (sym (under_root j sound)) (in_map blocks_of nodes node at))
            (rough_among (m.finds pair) item.gap one.0 one.1 is_found))
            (tells item.gap a.gap alike ∙ near),
        (alike, ap (λ (b : LeafItem). b.left) same, ap (λ (b : LeafItem). b.right) same),
      )

pub counts_as : (j : Joining) → IsSoundJoin j → (gap : Measure) → IsMeasure gap → (cmp : Block × Block → Block × Block → Ordering) → IsTotalOrder cmp → (to : Reach)
    (test : Frac → Bool) → IsTestOf to test → (done : List (Item (Block × Block))) → Reached cmp (join_meaning j) test done → CountsAsJoin gap j.left j.right to done
counts_as j sound gap is cmp o to test tells done reached = record {
  pairs = visited_count cmp (join_meaning j) test done reached ∙ count_pairs j sound gap is to test tells;
  geometries =
      count_roughs o (join_meaning j) test done reached to (join_items gap j.left.shapes j.right.shapes (all_pairs j.left j.right))
      (model_of j sound gap is to test tells) (item_of j sound gap is to test tells);
}
