-- What a search over a join visits lies within a reach, as the model tells it: pairs of places, and rough pairs that two leaves list.
use Rattle.std.proofs.Common.{◌≡◌, ⊎_elim, ℕ, suc, Bool, true, false, cond, ◌||◌, List, [], ◌∷◌, ◌++◌, map, length, filter_map, All, Contains, refl, sym, ap, ap₂, ◌∙◌, subst, arith, Ordering}
use Rattle.std.proofs.lemmas.List.Elements.{All-contains, All-head, All-tail, Contains-append_left, Contains-append_right, Contains-append_cases}
use Rattle.exact_frac.specs.declared.frac.Frac.{Frac}
use Rattle.sand_base.specs.Plane.{IsShapeInClosedPlane}
use Rattle.sand_base.specs.declared.goal.Goal.TheVariants as figure
use Rattle.sand_base.specs.declared.shape.Shape.{Shape}
use Rattle.sand_base.specs.declared.visit.Visit.{Visit}
use Rattle.sand_base.specs.declared.visit.Visit.TheVariants as visit
use Rattle.z_code.specs.Block.{IsBlock}
use Rattle.z_code.specs.declared.block.Block.{Block}
use Rattle.z_code.proofs.Blocks.{square_in_closed_plane}
use Rattle.sand_model.specs.Measure.{Measure, IsMeasure}
use Rattle.sand_model.specs.Nodes.{PairNode, pair_gap, pair_item, is_rough, greater, rough_figure, square_figure, join_items}
use Rattle.sand_model.specs.Reach.{Reach, Counts}
use Rattle.sand_model.specs.Tree.{Tree, places, root_block}
use Rattle.ring_geom.proofs.BlockLemmas.{root_is_block}
use Rattle.ring_geom.proofs.RoughLemmas.{rough_in_closed_plane}
use Rattle.best_first.specs.Frontier.{Tracks, IsListed, pending}
use Rattle.best_first.specs.Hierarchy.{Meaning, MeetsLaws, IsNode, HasGap}
use Rattle.best_first.specs.Item.{gap_of, nodes_of, roughs_of, IsAlike}
use Rattle.best_first.specs.Reach.{IsSameGap, within}
use Rattle.best_first.specs.Visits.{IsVisit}
use Rattle.best_first.specs.declared.item.Item.{Item}
use Rattle.best_first.specs.declared.item.Item.TheVariants.{Node, Rough, Row}
use Rattle.best_first.proofs.Bags.{in_flat_map}
use Rattle.best_first.proofs.Gaps.{same_back, same_itself, same_trans}
use Rattle.best_first.proofs.Pending.{queued_pending, split_node}
use Rattle.best_first.proofs.Trees.{node_among, rough_among}
use Rattle.rank_cursor.specs.Answers.{IsTestOf}
use Rattle.rank_cursor.proofs.CountedItems.{same_greater}
use Rattle.rank_cursor.proofs.Elements.{from_map, in_filter_map}
use Rattle.rank_cursor.proofs.Places.{inside, is_place}
use Rattle.rank_cursor.proofs.RankedRows.{same_measures}
use Rattle.rank_cursor.proofs.RankedItems.{is_shape}
use Rattle.dist_join.specs.Answers.{all_pairs}
use Rattle.dist_join.specs.Joining.{Joining, IsSoundJoin, blocks_of, squares_gap, blocks_item, divided, leaf_pair_item, pairs_shown, pairs_found_at, join_meaning}
use Rattle.dist_join.specs.OverPages.{pair_visit_of}
use Rattle.dist_join.proofs.CountedPairs.{leaf_is, no_rough}
use Rattle.dist_join.proofs.JoinPlaces.{one_item, pair_given, shown_is}
use Rattle.dist_join.proofs.JoinLaws.{plane_left, plane_right, under_root, join_laws}
use Rattle.dist_join.proofs.PairPlaces.{pair_stands}
use Rattle.plan_iterator.proofs.CountedVisits.{counts_one}
use Rattle.plan_iterator.specs.Visited.{◌plus◌, count_of, visit_counts, IsPairWithin, IsRoughWithin}

-- a visit of a join of these sides lies within a reach
abbrev pub IsWithin : Measure → Joining → Reach → Visit → Type 0
IsWithin gap j to (visit.Pair b c) = IsPairWithin gap (all_pairs j.left j.right) to (b.1, b.2) (c.1, c.2)
IsWithin gap j to (visit.GeometryPair l r) = IsRoughWithin (join_items gap j.left.shapes j.right.shapes (all_pairs j.left j.right)) to l r
IsWithin gap j to _ = ⊥

-- visits of a join are pairs of blocks and of geometries
pub visits_counted : (left right : ℕ) (items : List (Item (Block × Block))) → All IsVisit items
    → visit_counts (map (pair_visit_of left right) items) ≡ record { blocks = 0; pairs = length (nodes_of items); geometries = length (roughs_of items) }
visits_counted left right [] h = refl
visits_counted left right (Node g b ∷ items) h =
    ap (λ (c : Counts). count_of (pair_visit_of left right (Node g b)) plus c) (visits_counted left right items (All-tail IsVisit (Node g b) items h))
    ∙ counts_one (count_of (pair_visit_of left right (Node g b)) plus record { blocks = 0; pairs = length (nodes_of items); geometries = length (roughs_of items) })
    (record { blocks = 0; pairs = suc (length (nodes_of items)); geometries = length (roughs_of items) }) (omega arith) (omega arith) (omega arith)
visits_counted left right (Rough g l s ∷ items) h =
    ap (λ (c : Counts). count_of (pair_visit_of left right (Rough g l s)) plus c) (visits_counted left right items (All-tail IsVisit (Rough g l s) items h))
    ∙ counts_one (count_of (pair_visit_of left right (Rough g l s)) plus record { blocks = 0; pairs = length (nodes_of items); geometries = length (roughs_of items) })
    (record { blocks = 0; pairs = length (nodes_of items); geometries = suc (length (roughs_of items)) }) (omega arith) (omega arith) (omega arith)
visits_counted left right (Row g l s ∷ items) h = absurd (All-head IsVisit (Row g l s) items h)

module _ (j : Joining) (sound : IsSoundJoin j) (gap : Measure) (is : IsMeasure gap) (to : Reach) (test : Frac → Bool) (tells : IsTestOf to test) where
  abbrev m : Meaning (Block × Block)
  m = join_meaning j

  -- the same join by the other measure
  abbrev other_joining : Joining
  other_joining = record j { measure = gap }

  abbrev nodes : List PairNode
  nodes = all_pairs j.left j.right

  left_block : (c : Block) (place : Tree) → Contains (places root_block j.left.tree) (c, place) → IsBlock c
  left_block c place at = (inside root_block j.left.tree root_is_block sound.left.shallow c place at).block

  right_block : (c : Block) (place : Tree) → Contains (places root_block j.right.tree) (c, place) → IsBlock c
  right_block c place at = (inside root_block j.right.tree root_is_block sound.right.shallow c place at).block

  same_squares : (b c : Block) → IsBlock b → IsBlock c → IsSameGap (squares_gap j (b, c)) (squares_gap other_joining (b, c))
  same_squares b c h k = same_measures j.measure gap sound.measure is (square_figure b) (square_figure c) (square_in_closed_plane b h) (square_in_closed_plane c k)

  -- ---- pairs of places

  -- a node is a pair of places
  node_pair : (b : Block × Block) → IsNode m b → (node : PairNode) × Contains nodes node × (blocks_of node ≡ b)
  node_pair b node = from_map blocks_of nodes b (subst (λ (l : List (Block × Block)). Contains l b) (under_root j sound) node)

  pair_within : (b : Block × Block) (g : Frac) → IsNode m b → IsSameGap g (squares_gap j b) → test g ≡ true
      → IsPairWithin gap nodes to (b.0.z, b.0.level) (b.1.z, b.1.level)
  pair_within b g is_node same near =
      let (node, at, blocks) = node_pair b is_node in
      let k = pair_stands root_block j.left.tree root_block j.right.tree node at in
      let there : IsSameGap (squares_gap j (blocks_of node)) (pair_gap gap node) =
      same_squares node.left node.right (left_block node.left k.place k.at_left) (right_block node.right k.other k.at_right) in
      let gaps : IsSameGap g (pair_gap gap node) =
      same_trans g (squares_gap j b) (pair_gap gap node) same (subst (λ (c : Block × Block). IsSameGap (squares_gap j c) (pair_gap gap node)) blocks there) in
      record {
        node = node;
        among = at;
        left_block = (ap (λ (c : Block × Block). c.0.z) blocks, ap (λ (c : Block × Block). c.0.level) blocks);
        right_block = (ap (λ (c : Block × Block). c.1.z) blocks, ap (λ (c : Block × Block). c.1.level) blocks);
        near = sym (tells g (pair_gap gap node) gaps) ∙ near;
      }

  -- ---- rough pairs

  same_item_gap : (b c : Block) (one : ℕ × ℕ) (s t : Shape) → IsBlock b → IsBlock c → IsShapeInClosedPlane s → IsShapeInClosedPlane t
      → IsSameGap (one_item j (b, c) one s t).gap (one_item other_joining (b, c) one s t).gap
  same_item_gap b c one s t h k in_left in_right =
      let rough = j.measure (rough_figure s) (rough_figure t) in
      let exact = j.measure (figure.Shape s) (figure.Shape t) in
      let rough' = gap (rough_figure s) (rough_figure t) in
      let exact' = gap (figure.Shape s) (figure.Shape t) in
      let go : (k : Bool) → IsSameGap (cond k (greater rough (squares_gap j (b, c))) exact) (cond k (greater rough' (squares_gap other_joining (b, c))) exact') =
      elim [
        | true ↦
            same_greater rough (squares_gap j (b, c)) rough' (squares_gap other_joining (b, c))
            (same_measures j.measure gap sound.measure is (rough_figure s) (rough_figure t) (rough_in_closed_plane s in_left) (rough_in_closed_plane t in_right)) (same_squares b c h k)
        | false ↦ same_measures j.measure gap sound.measure is (figure.Shape s) (figure.Shape t) in_left in_right
      ] in
      go (is_rough s || is_rough t)

  -- what a pair of places finds
  finds_there : (node : PairNode) → Contains nodes node → (t u : Tree)
      × (m.finds (blocks_of node) ≡ map (blocks_item j) (divided node.left t node.right u) ++ map leaf_pair_item (pairs_shown j (blocks_of node) node.ids))
  finds_there node at =
      let k = pair_stands root_block j.left.tree root_block j.right.tree node at in (
        k.place,
        k.other,
        ap₂ (λ o q. pairs_found_at j (blocks_of node) o q) (is_place j.left.tree sound.left.shallow node.left k.place k.at_left)
            (is_place j.right.tree sound.right.shallow node.right k.other k.at_right)
            ∙ ap (λ (ids : List (ℕ × ℕ)). map (blocks_item j) (divided node.left k.place node.right k.other) ++ map leaf_pair_item (pairs_shown j (blocks_of node) ids)) (sym k.lists),
      )

  -- a rough item that two leaves show
  shown_within : (node : PairNode) → Contains nodes node → (g : Frac) (l s : ℕ) → Contains (map leaf_pair_item (pairs_shown j (blocks_of node) node.ids)) (Rough g l s)
      → test g ≡ true → IsRoughWithin (join_items gap j.left.shapes j.right.shapes nodes) to l s
  shown_within node at g l s found near =
      let pair = blocks_of node in
      let k = pair_stands root_block j.left.tree root_block j.right.tree node at in
      let (item, among, same) = from_map leaf_pair_item (pairs_shown j pair node.ids) (Rough g l s) found in
      let h = shown_is j pair node.ids item among in
      let (rough, gaps, left, right) = leaf_is (one_item j pair h.one h.shape h.other) g l s (ap leaf_pair_item h.is ∙ same) in
      let a = one_item other_joining pair h.one h.shape h.other in
      let alike : IsSameGap g a.gap =
      subst (λ (f : Frac). IsSameGap f a.gap) gaps
      (same_item_gap node.left node.right h.one h.shape h.other (left_block node.left k.place k.at_left) (right_block node.right k.other k.at_right)
      (plane_left j sound h.one.0 h.shape h.row) (plane_right j sound h.one.1 h.other h.other_row)) in
      let given = pair_given other_joining pair node.ids h.one h.shape h.other (is_shape j.left.shapes sound.left.apart h.one.0 h.shape h.row)
      (is_shape j.right.shapes sound.right.apart h.one.1 h.other h.other_row) in
      let gives = λ (node : PairNode). pair_item gap j.left.shapes j.right.shapes node in
      record {
        item = a;
        among = in_flat_map (λ (node : PairNode). filter_map (gives node) node.ids) nodes node a at (in_filter_map (gives node) node.ids h.one a h.listed given);
        rough = rough;
        left_id = left;
        right_id = right;
        near = sym (tells g a.gap alike) ∙ near;
      }

  listed_in : (b : Block × Block) → IsNode m b → (g : Frac) (l s : ℕ) → Contains (m.finds b) (Rough g l s) → test g ≡ true
      → IsRoughWithin (join_items gap j.left.shapes j.right.shapes nodes) to l s
  listed_in b is_node g l s found near =
      let (node, at, blocks) = node_pair b is_node in
      let (t, u, finds) = finds_there node at in
      let items = map leaf_pair_item (pairs_shown j (blocks_of node) node.ids) in
      let pairs = divided node.left t node.right u in
      let there_is : Contains (map (blocks_item j) pairs ++ items) (Rough g l s) =
      subst (λ (i : List (Item (Block × Block))). Contains i (Rough g l s)) finds (subst (λ (c : Block × Block). Contains (m.finds c) (Rough g l s)) (sym blocks) found) in
      let in_items : Contains items (Rough g l s) =
      ⊎_elim (λ n. absurd (no_rough j pairs g l s n)) (λ i. i) (Contains-append_cases (map (blocks_item j) pairs) items (Rough g l s) there_is) in
      shown_within node at g l s in_items near

  rough_within : (b : Block × Block) → IsNode m b → (other : Item (Block × Block)) → Contains (m.finds b) other → (g : Frac) (l s : ℕ) → IsAlike (Rough g l s) other → test g ≡ true
      → IsRoughWithin (join_items gap j.left.shapes j.right.shapes nodes) to l s
  rough_within b node (Node h c) found g l s alike near = absurd alike
  rough_within b node (Rough h k v) found g l s alike near =
      subst (λ (id : ℕ). IsRoughWithin (join_items gap j.left.shapes j.right.shapes nodes) to id s) (sym alike.1)
      (subst (λ (id : ℕ). IsRoughWithin (join_items gap j.left.shapes j.right.shapes nodes) to k id) (sym alike.2)
      (listed_in b node h k v found (tells h g (same_back g h alike.0) ∙ sym (tells g g (same_itself g)) ∙ near)))
  rough_within b node (Row h k v) found g l s alike near = absurd alike

  -- ---- what was taken or is queued

  module _ {cmp : Block × Block → Block × Block → Ordering} (held done : List (Item (Block × Block))) (h : Tracks cmp m held done) where
    laws : MeetsLaws m
    laws = join_laws j sound

    -- a node that was opened or is queued is one of the tree
    is_of_tree : (g : Frac) (b : Block × Block) → Contains (done ++ held) (Node g b) → IsNode m b
    is_of_tree g b at =
        let there : Contains (nodes_of done ++ pending m held) b =
        ⊎_elim (λ i. Contains-append_left (nodes_of done) (pending m held) b (node_among done g b i))
        (λ i.
        Contains-append_right (nodes_of done) (pending m held) b
        (queued_pending m laws held g b i (All-contains (HasGap m) (done ++ held) (Node g b) h.gaps at)
        (All-contains (λ item. within m.ceiling (gap_of item) ≡ true) (done ++ held) (Node g b) h.inside at)))
        (Contains-append_cases done held (Node g b) at) in
        (split_node m laws (nodes_of done) (pending m held) h.split b there).0

    from_leaf : (g : Frac) (l s : ℕ) → Contains (done ++ held) (Rough g l s) → IsListed m done (Rough g l s)
    from_leaf g l s at =
        All-contains (IsListed m done) (roughs_of done ++ roughs_of held) (Rough g l s) h.listed
        (⊎_elim (λ i. Contains-append_left (roughs_of done) (roughs_of held) (Rough g l s) (rough_among done g l s i))
        (λ i. Contains-append_right (roughs_of done) (roughs_of held) (Rough g l s) (rough_among held g l s i)) (Contains-append_cases done held (Rough g l s) at))

    pub lies_within : (left right : ℕ) (item : Item (Block × Block)) → IsVisit item → Contains (done ++ held) item → test (gap_of item) ≡ true → IsWithin gap j to (pair_visit_of left right item)
    lies_within left right (Node g b) visited at near = pair_within b g (is_of_tree g b at) (All-contains (HasGap m) (done ++ held) (Node g b) h.gaps at) near
    lies_within left right (Rough g l s) visited at near =
        let from = from_leaf g l s at in
        let node = (split_node m laws (nodes_of done) (pending m held) h.split from.leaf (Contains-append_left (nodes_of done) (pending m held) from.leaf from.opened)).0 in
        rough_within from.leaf node from.other from.listed g l s from.alike near
    lies_within left right (Row g l s) visited at near = absurd visited
