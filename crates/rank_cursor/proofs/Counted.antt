-- A search over a ranking visits as many places and fetches as many rough objects as the model counts.
use Rattle.std.proofs.Common.{◌≡◌, ℕ, Bool, true, false, cond, not, ◌||◌, ◌&&◌, true≢false, List, map, length, filter, filter_map, flat_map}
use Rattle.std.proofs.Common.{Contains, Option, Some, option_map, refl, sym, ap, ◌∙◌, subst, le_antisymm, Ordering, Equal}
use Rattle.std.specs.Ordering.{is_lt}
use Rattle.std.specs.Cmp.{IsTotalOrder, tied_back}
use Rattle.std.proofs.lemmas.List.Elements.{All-contains}
use Rattle.exact_frac.specs.Frac.{value_cmp}
use Rattle.exact_frac.specs.declared.frac.Frac.{Frac}
use Rattle.sand_base.specs.Plane.{IsShapeInClosedPlane}
use Rattle.sand_base.specs.declared.goal.Goal.TheVariants as figure
use Rattle.sand_base.specs.declared.shape.Shape.{Shape}
use Rattle.z_code.specs.Block.{IsBlock, child, children_of}
use Rattle.z_code.specs.declared.block.Block.{Block}
use Rattle.z_code.proofs.Blocks.{square_in_closed_plane}
use Rattle.sand_model.specs.Database.{shape_at}
use Rattle.sand_model.specs.Measure.{Measure, IsMeasure}
use Rattle.sand_model.specs.Nodes.{LeafItem, single_item, is_queued, is_rough, greater, rough_figure, square_figure, rank_items, rank_gaps}
use Rattle.sand_model.specs.Reach.{Reach, reaches, roughs_within}
use Rattle.sand_model.specs.Tree.{Tree, Leaf, Inner, places, leaves, root_block}
use Rattle.ring_geom.proofs.BlockLemmas.{root_is_block}
use Rattle.ring_geom.proofs.RoughLemmas.{rough_in_closed_plane}
use Rattle.best_first.specs.Frontier.{HasAlike}
use Rattle.best_first.specs.Hierarchy.{Meaning}
use Rattle.best_first.specs.Hierarchy as tree_of
use Rattle.best_first.specs.Item.{gap_of, roughs_of}
use Rattle.best_first.specs.Order.{item_cmp, item_total}
use Rattle.best_first.specs.Reach.{IsSameGap}
use Rattle.best_first.specs.Visits.{Reached}
use Rattle.best_first.specs.declared.item.Item.{Item}
use Rattle.best_first.specs.declared.item.Item.TheVariants.{Node, Rough, Row}
use Rattle.best_first.proofs.Bags.{there, in_filter, from_filter, in_flat_map, from_flat_map}
use Rattle.best_first.proofs.ForLayers.{visited_count}
use Rattle.best_first.proofs.Gaps.{same_back, same_trans}
use Rattle.best_first.proofs.Ranks.{alike_gap, alike_rough}
use Rattle.best_first.proofs.Trees.{rough_item, rough_among}
use Rattle.rank_cursor.specs.Ranking.{Ranking, place_at, block_gap, block_item, leaf_item, shown, found_at, rank_meaning, IsSound}
use Rattle.rank_cursor.specs.Answers.{IsTestOf, CountsAs}
use Rattle.rank_cursor.proofs.Elements.{in_map, from_map, in_filter_map, from_filter_map}
use Rattle.rank_cursor.proofs.Pigeons.{no_more}
use Rattle.rank_cursor.proofs.Places.{inside, is_place, place_here, leaf_place, place_leaf, both_true, true_both, mapped_some}
use Rattle.rank_cursor.proofs.RankedRows.{same_measures}
use Rattle.rank_cursor.proofs.RankedItems.{shape_is, is_shape, one_item, shown_is}
use Rattle.rank_cursor.proofs.RankingLaws.{under_place}
use Rattle.rank_cursor.proofs.CountedItems.{same_greater, count_same, IsCounterpart, counterpart_too, from_distinct, in_distinct, distinct_own, once_own}

-- ---- the items of a ranking and those of the model

pub leaf_is : (x : LeafItem) (g : Frac) (l s : ℕ) → leaf_item x ≡ Rough g l s → (x.is_rough ≡ true) × (x.gap ≡ g) × (x.left ≡ l) × (x.right ≡ s)
leaf_is x g l s =
    let item : Item Block = Rough g l s in
    let go : (k : Bool) → cond k (Rough x.gap x.left x.right) (Row x.gap x.left x.right) ≡ item → (k ≡ true) × (x.gap ≡ g) × (x.left ≡ l) × (x.right ≡ s) =
    elim [
      | true ↦ λ e. (refl, ap gap_of e, ap left_of e, ap right_of e)
      | false ↦ λ e. absurd (true≢false (sym (ap is_rough_item e)))
    ] in
    go x.is_rough
  where
    left_of : Item Block → ℕ
    left_of (Node g b) = 0
    left_of (Rough g l s) = l
    left_of (Row g l s) = l

    right_of : Item Block → ℕ
    right_of (Node g b) = 0
    right_of (Rough g l s) = s
    right_of (Row g l s) = s

    is_rough_item : Item Block → Bool
    is_rough_item (Node g b) = false
    is_rough_item (Rough g l s) = true
    is_rough_item (Row g l s) = false

rough_leaf : (x : LeafItem) → x.is_rough ≡ true → leaf_item x ≡ Rough x.gap x.left x.right
rough_leaf x e =
    let item : Item Block = Rough x.gap x.left x.right in
    let go : (k : Bool) → k ≡ true → cond k (Rough x.gap x.left x.right) (Row x.gap x.left x.right) ≡ item =
    elim [ true ↦ λ e. refl | false ↦ λ e. absurd (true≢false (sym e)) ] in
    go x.is_rough e

rough_queued : (leaf : Frac) (x : LeafItem) → x.is_rough ≡ true → is_queued leaf x ≡ true
rough_queued leaf x e =
    let rest = not (is_lt (value_cmp x.gap leaf)) in
    let go : (k : Bool) → k ≡ true → (k || rest) ≡ true = elim [ true ↦ λ e. refl | false ↦ λ e. absurd (true≢false (sym e)) ] in
    go x.is_rough e

module _ (r : Ranking) (sound : IsSound r) (gap : Measure) (is : IsMeasure gap) (to : Reach) (test : Frac → Bool) (tells : IsTestOf to test) where
  -- the same ranking by the other measure
  abbrev other_ranking : Ranking
  other_ranking = record r { measure = gap }

  abbrev counted : LeafItem → Bool
  counted item = item.is_rough && reaches to item.gap

  abbrev model_items : List LeafItem
  model_items = rank_items gap r.goal r.shapes r.tree

  abbrev m : Meaning Block
  m = rank_meaning r

  place_block : (c : Block) (place : Tree) → Contains (places root_block r.tree) (c, place) → IsBlock c
  place_block c place at = (inside root_block r.tree root_is_block sound.shallow c place at).block

  same_block_gap : (c : Block) → IsBlock c → IsSameGap (block_gap r c) (gap r.goal (square_figure c))
  same_block_gap c h = same_measures r.measure gap sound.measure is r.goal (square_figure c) sound.goal (square_in_closed_plane c h)

  -- ---- places

  pub count_blocks : length (tree_of.nodes_within m test) ≡ length (filter (reaches to) (rank_gaps gap r.goal r.tree))
  count_blocks =
      ap (λ (l : List Block). length (filter (λ b. test (block_gap r b)) l)) (under_place r sound root_block r.tree (place_here root_block r.tree))
      ∙ count_same (λ (x : Block × Tree). x.0) (λ (x : Block × Tree). gap r.goal (square_figure x.0)) (λ b. test (block_gap r b)) (reaches to) (places root_block r.tree)
      (λ x at. tells (block_gap r x.0) (gap r.goal (square_figure x.0)) (same_block_gap x.0 (place_block x.0 x.1 at)))

  -- ---- rough objects

  same_item_gap : (c : Block) (id : ℕ) (s : Shape) → IsBlock c → IsShapeInClosedPlane s → IsSameGap (one_item r c id s).gap (one_item other_ranking c id s).gap
  same_item_gap c id s h plane =
      let go : (k : Bool) → IsSameGap (cond k (greater (r.measure r.goal (rough_figure s)) (block_gap r c)) (r.measure r.goal (figure.Shape s)))
      (cond k (greater (gap r.goal (rough_figure s)) (gap r.goal (square_figure c))) (gap r.goal (figure.Shape s))) =
      elim [
        | true ↦
            same_greater (r.measure r.goal (rough_figure s)) (block_gap r c) (gap r.goal (rough_figure s)) (gap r.goal (square_figure c))
            (same_measures r.measure gap sound.measure is r.goal (rough_figure s) sound.goal (rough_in_closed_plane s plane)) (same_block_gap c h)
        | false ↦ same_measures r.measure gap sound.measure is r.goal (figure.Shape s) sound.goal plane
      ] in
      go (is_rough s)

  plane_of : (id : ℕ) (s : Shape) → Contains r.shapes (id, s) → IsShapeInClosedPlane s
  plane_of id s at = All-contains (λ (row : ℕ × Shape). IsShapeInClosedPlane row.1) r.shapes (id, s) sound.plane at

  -- a rough item of a place has a counterpart
  model_at : (c : Block) (place : Tree) → Contains (places root_block r.tree) (c, place) → (g : Frac) (l s : ℕ) → Contains (found_at r c (Some place)) (Rough g l s)
      → test g ≡ true → (a : LeafItem) × Contains (filter counted model_items) a × IsCounterpart (Rough g l s) a
  model_at c (Leaf ids) at g l s found near =
      let (item, among, same) = from_map leaf_item (shown r c ids) (Rough g l s) found in
      let h = shown_is r c ids item among in
      let (rough, gaps, left, right) = leaf_is (one_item r c h.id h.shape) g l s (ap leaf_item h.is ∙ same) in
      let a = one_item other_ranking c h.id h.shape in
      let alike : IsSameGap g a.gap =
      subst (λ (f : Frac). IsSameGap f a.gap) gaps (same_item_gap c h.id h.shape (place_block c (Leaf ids) at) (plane_of h.id h.shape h.row)) in (
        a,
        in_filter counted model_items a
            (in_flat_map (λ (leaf : Block × List ℕ). filter_map (single_item gap r.goal r.shapes leaf.0) leaf.1) (leaves root_block r.tree) (c, ids) a
            (place_leaf root_block r.tree c ids at)
            (in_filter_map (single_item gap r.goal r.shapes c) ids h.id a h.listed (ap (option_map (one_item other_ranking c h.id)) (is_shape r.shapes sound.apart h.id h.shape h.row))))
            (true_both a.is_rough (reaches to a.gap) rough (sym (tells g a.gap alike) ∙ near)),
        (alike, sym left, sym right),
      )
  model_at c (Inner p q t u) at g l s found near =
      let (child, among, same) = from_map (block_item r) (children_of c) (Rough g l s) found in absurd (true≢false (ap is_node same))
    where
      is_node : Item Block → Bool
      is_node (Node g b) = true
      is_node (Rough g l s) = false
      is_node (Row g l s) = false

  model_of : (x : Item Block) → Contains (tree_of.listed_roughs_within m test) x → (a : LeafItem) × Contains (filter counted model_items) a × IsCounterpart x a
  model_of x h =
      let (listed, near) = from_filter (λ item. test (gap_of item)) (flat_map (λ node. roughs_of (m.finds node)) (m.under m.root)) x h in
      let (c, below, among) = from_flat_map (λ node. roughs_of (m.finds node)) (m.under m.root) x listed in
      let (found, parts) = rough_item (m.finds c) x among in
      let (g, l, s, same) = parts in
      let (place, at, block) = from_map (λ (y : Block × Tree). y.0) (places root_block r.tree) c
      (subst (λ (bs : List Block). Contains bs c) (under_place r sound root_block r.tree (place_here root_block r.tree)) below) in
      let there : Contains (found_at r place.0 (place_at r.tree place.0)) x = subst (λ (b : Block). Contains (m.finds b) x) (sym block) found in
      subst (λ (y : Item Block). (a : LeafItem) × Contains (filter counted model_items) a × IsCounterpart y a) (sym same)
      (model_at place.0 place.1 at g l s
      (subst (Contains (found_at r place.0 (Some place.1))) same (subst (λ (o : Option Tree). Contains (found_at r place.0 o) x) (is_place r.tree sound.shallow place.0 place.1 at) there))
      (ap (λ (y : Item Block). test (gap_of y)) (sym same) ∙ near))

  -- and an item of the model is the counterpart of one
  item_of : (a : LeafItem) → Contains (filter counted model_items) a → (x : Item Block) × Contains (tree_of.listed_roughs_within m test) x × IsCounterpart x a
  item_of a h =
      let (listed, passes) = from_filter counted model_items a h in
      let (rough, near) = both_true a.is_rough (reaches to a.gap) passes in
      let (leaf, at, among) = from_flat_map (λ (leaf : Block × List ℕ). filter_map (single_item gap r.goal r.shapes leaf.0) leaf.1) (leaves root_block r.tree) a listed in
      let c = leaf.0 in
      let ids = leaf.1 in
      let (id, there, gives) = from_filter_map (single_item gap r.goal r.shapes c) ids a among in
      let (s, found, same) = mapped_some (one_item other_ranking c id) (shape_at r.shapes id) a gives in
      let place = leaf_place root_block r.tree c ids at in
      let row = shape_is r.shapes id s found in
      let item = one_item r c id s in
      let is_polygon : item.is_rough ≡ true = ap (λ (b : LeafItem). b.is_rough) same ∙ rough in
      let alike : IsSameGap item.gap a.gap = subst (λ (b : LeafItem). IsSameGap item.gap b.gap) same (same_item_gap c id s (place_block c (Leaf ids) place) (plane_of id s row)) in
      let shown_there : Contains (found_at r c (Some (Leaf ids))) (Rough item.gap id 0) =
      subst (Contains (map leaf_item (shown r c ids))) (rough_leaf item is_polygon)
      (in_map leaf_item (shown r c ids) item
      (in_filter (is_queued (block_gap r c)) (filter_map (single_item r.measure r.goal r.shapes c) ids) item
      (in_filter_map (single_item r.measure r.goal r.shapes c) ids id item there (ap (option_map (one_item r c id)) found)) (rough_queued (block_gap r c) item is_polygon))) in
      let finds : Contains (m.finds c) (Rough item.gap id 0) =
      subst (λ (o : Option Tree). Contains (found_at r c o) (Rough item.gap id 0)) (sym (is_place r.tree sound.shallow c (Leaf ids) place)) shown_there in (
        Rough item.gap id 0,
        in_filter (λ item. test (gap_of item)) (flat_map (λ node. roughs_of (m.finds node)) (m.under m.root)) (Rough item.gap id 0)
            (in_flat_map (λ node. roughs_of (m.finds node)) (m.under m.root) c (Rough item.gap id 0)
            (subst (λ (bs : List Block). Contains bs c) (sym (under_place r sound root_block r.tree (place_here root_block r.tree)))
            (in_map (λ (y : Block × Tree). y.0) (places root_block r.tree) (c, Leaf ids) place))
            (rough_among (m.finds c) item.gap id 0 finds))
            (tells item.gap a.gap alike ∙ near),
        (alike, ap (λ (b : LeafItem). b.left) same, ap (λ (b : LeafItem). b.right) same),
      )

  module _ {cmp : Block → Block → Ordering} (o : IsTotalOrder cmp) (done : List (Item Block)) (reached : Reached cmp m test done) where
    -- what is one with a rough item has its counterpart
    alike_counterpart : (x y : Item Block) (a : LeafItem) → item_cmp cmp x y ≡ Equal → IsCounterpart x a → IsCounterpart y a
    alike_counterpart (Node g c) y a e h = absurd h
    alike_counterpart (Rough g l s) y a e h =
        let (i, same) = alike_rough cmp g l s y e in
        let near : IsSameGap g i = subst (λ (z : Item Block). IsSameGap g (gap_of z)) same (alike_gap cmp (Rough g l s) y e) in
        subst (λ (z : Item Block). IsCounterpart z a) (sym same) (same_trans i g a.gap (same_back g i near) h.0, h.1, h.2)
    alike_counterpart (Row g l s) y a e h = absurd h

    taken_counterpart : (x : Item Block) → Contains (roughs_of done) x → (a : LeafItem) × Contains (roughs_within to model_items) a × IsCounterpart x a
    taken_counterpart x at =
        let alike = All-contains (HasAlike cmp (tree_of.listed_roughs_within m test)) (roughs_of done) x reached.roughs at in
        let (a, among, counter) = model_of alike.other alike.listed in
        let (b, there, one) = in_distinct (filter counted model_items) a among in
        (b, there, counterpart_too x a b one (alike_counterpart alike.other x a (tied_back (item_total o) x alike.other alike.alike) counter))

    counterpart_taken : (a : LeafItem) → Contains (roughs_within to model_items) a → (x : Item Block) × Contains (roughs_of done) x × IsCounterpart x a
    counterpart_taken a at =
        let (x, among, counter) = item_of a (from_distinct (filter counted model_items) a at) in
        let alike = All-contains (HasAlike cmp (roughs_of done)) (tree_of.listed_roughs_within m test) x reached.all_roughs among in
        (alike.other, alike.listed, alike_counterpart x alike.other a alike.alike counter)

    count_roughs : length (roughs_of done) ≡ length (roughs_within to model_items)
    count_roughs =
        le_antisymm
        (no_more IsCounterpart (roughs_of done) (roughs_within to model_items) (once_own o (roughs_of done) reached.once) taken_counterpart)
        (no_more (λ (a : LeafItem) (x : Item Block). IsCounterpart x a) (roughs_within to model_items) (roughs_of done) (distinct_own (filter counted model_items)) counterpart_taken)

pub counts_as : (r : Ranking) → IsSound r → (gap : Measure) → IsMeasure gap → (cmp : Block → Block → Ordering) → IsTotalOrder cmp → (to : Reach) (test : Frac → Bool)
    → IsTestOf to test → (done : List (Item Block)) → Reached cmp (rank_meaning r) test done → CountsAs gap r.goal r.shapes r.tree to done
counts_as r sound gap is cmp o to test tells done reached = record {
  blocks = visited_count cmp (rank_meaning r) test done reached ∙ count_blocks r sound gap is to test tells;
  geometries = count_roughs r sound gap is to test tells o done reached;
}
