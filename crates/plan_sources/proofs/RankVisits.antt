-- What a ranking visits within a reach is a place of the tree or a rough item of a leaf there, as the model tells.
use Rattle.std.proofs.Common.{◌≡◌, ⊎_elim, ℕ, suc, Bool, true, false, cond, true≢false, List, [], ◌∷◌, ◌++◌, map, length, filter_map, All, Contains, Option, Some}
use Rattle.std.proofs.Common.{option_map, refl, sym, ap, ◌∙◌, subst, arith, Ordering}
use Rattle.std.proofs.lemmas.List.Elements.{All-contains, All-head, All-tail, Contains-append_left, Contains-append_right, Contains-append_cases}
use Rattle.exact_frac.specs.declared.frac.Frac.{Frac}
use Rattle.sand_base.specs.Plane.{IsShapeInClosedPlane}
use Rattle.sand_base.specs.declared.goal.Goal.{Goal}
use Rattle.sand_base.specs.declared.goal.Goal.TheVariants as figure
use Rattle.sand_base.specs.declared.shape.Shape.{Shape}
use Rattle.sand_base.specs.declared.visit.Visit.{Visit}
use Rattle.sand_base.specs.declared.visit.Visit.TheVariants as visit
use Rattle.z_code.specs.Block.{IsBlock, children_of}
use Rattle.z_code.specs.declared.block.Block.{Block}
use Rattle.z_code.proofs.Blocks.{square_in_closed_plane}
use Rattle.sand_model.specs.Measure.{Measure, IsMeasure}
use Rattle.sand_model.specs.Nodes.{single_item, is_rough, greater, rough_figure, square_figure, rank_items}
use Rattle.sand_model.specs.Reach.{Reach, Counts}
use Rattle.sand_model.specs.Tree.{Tree, Leaf, Inner, places, leaves, root_block}
use Rattle.ring_geom.proofs.BlockLemmas.{root_is_block}
use Rattle.ring_geom.proofs.RoughLemmas.{rough_in_closed_plane}
use Rattle.best_first.specs.Frontier.{Tracks, IsListed, pending}
use Rattle.best_first.specs.Hierarchy.{Meaning, MeetsLaws, HasGap, IsNode}
use Rattle.best_first.specs.Item.{gap_of, nodes_of, roughs_of, IsAlike}
use Rattle.best_first.specs.Reach.{IsSameGap, within}
use Rattle.best_first.specs.Visits.{IsVisit}
use Rattle.best_first.specs.declared.item.Item.{Item}
use Rattle.best_first.specs.declared.item.Item.TheVariants.{Node, Rough, Row}
use Rattle.best_first.proofs.Bags.{in_flat_map}
use Rattle.best_first.proofs.Gaps.{same_back, same_itself, same_trans}
use Rattle.best_first.proofs.Pending.{queued_pending, split_node}
use Rattle.best_first.proofs.Trees.{node_among, rough_among}
use Rattle.rank_cursor.specs.Cursor.{visit_of}
use Rattle.rank_cursor.specs.Ranking.{Ranking, place_at, block_gap, block_item, leaf_item, shown, found_at, rank_meaning, IsSound}
use Rattle.rank_cursor.specs.Answers.{IsTestOf}
use Rattle.rank_cursor.proofs.CountedItems.{same_greater}
use Rattle.rank_cursor.proofs.Counted.{leaf_is}
use Rattle.rank_cursor.proofs.Elements.{from_map, in_filter_map}
use Rattle.rank_cursor.proofs.Places.{inside, is_place, place_here, place_leaf}
use Rattle.rank_cursor.proofs.RankedRows.{same_measures}
use Rattle.rank_cursor.proofs.RankedItems.{is_shape, one_item, shown_is}
use Rattle.rank_cursor.proofs.RankingLaws.{under_place, rank_laws}
use Rattle.plan_iterator.proofs.CountedVisits.{counts_one}
use Rattle.plan_iterator.specs.Visited.{◌plus◌, count_of, visit_counts, IsBlockWithin, IsRoughWithin}

-- a visit of the ranking of these shapes and this tree lies within a reach
abbrev pub IsWithin : Measure → Goal → List (ℕ × Shape) → Tree → Reach → Visit → Type 0
IsWithin gap goal shapes tree to (visit.Block number z level) = IsBlockWithin gap goal tree to z level
IsWithin gap goal shapes tree to (visit.Geometry id) = IsRoughWithin (rank_items gap goal shapes tree) to id 0
IsWithin gap goal shapes tree to _ = ⊥

-- visits of a ranking are blocks and single geometries
pub visits_counted : (number : ℕ) (items : List (Item Block)) → All IsVisit items
    → visit_counts (map (visit_of number) items) ≡ record { blocks = length (nodes_of items); pairs = 0; geometries = length (roughs_of items) }
visits_counted number [] h = refl
visits_counted number (Node g b ∷ items) h =
    ap (λ (c : Counts). count_of (visit_of number (Node g b)) plus c) (visits_counted number items (All-tail IsVisit (Node g b) items h))
    ∙ counts_one (count_of (visit_of number (Node g b)) plus record { blocks = length (nodes_of items); pairs = 0; geometries = length (roughs_of items) })
    (record { blocks = suc (length (nodes_of items)); pairs = 0; geometries = length (roughs_of items) }) (omega arith) (omega arith) (omega arith)
visits_counted number (Rough g l s ∷ items) h =
    ap (λ (c : Counts). count_of (visit_of number (Rough g l s)) plus c) (visits_counted number items (All-tail IsVisit (Rough g l s) items h))
    ∙ counts_one (count_of (visit_of number (Rough g l s)) plus record { blocks = length (nodes_of items); pairs = 0; geometries = length (roughs_of items) })
    (record { blocks = length (nodes_of items); pairs = 0; geometries = suc (length (roughs_of items)) }) (omega arith) (omega arith) (omega arith)
visits_counted number (Row g l s ∷ items) h = absurd (All-head IsVisit (Row g l s) items h)

module _ (r : Ranking) (sound : IsSound r) (gap : Measure) (is : IsMeasure gap) (to : Reach) (test : Frac → Bool) (tells : IsTestOf to test) where
  abbrev m : Meaning Block
  m = rank_meaning r

  -- the same ranking by the other measure
  abbrev other_ranking : Ranking
  other_ranking = record r { measure = gap }

  -- a node is a place
  node_place : (b : Block) → IsNode m b → (place : Block × Tree) × Contains (places root_block r.tree) place × (place.0 ≡ b)
  node_place b node =
      from_map (λ (x : Block × Tree). x.0) (places root_block r.tree) b (subst (λ (bs : List Block). Contains bs b) (under_place r sound root_block r.tree (place_here root_block r.tree)) node)

  -- the block of a place is one of the tree
  place_block : (c : Block) (place : Tree) → Contains (places root_block r.tree) (c, place) → IsBlock c
  place_block c place at = (inside root_block r.tree root_is_block sound.shallow c place at).block

  -- both measures have one gap for it
  same_block_gap : (c : Block) → IsBlock c → IsSameGap (block_gap r c) (gap r.goal (square_figure c))
  same_block_gap c h = same_measures r.measure gap sound.measure is r.goal (square_figure c) sound.goal (square_in_closed_plane c h)

  -- a node within the reach is a place there
  block_within : (b : Block) (g : Frac) → IsNode m b → IsSameGap g (block_gap r b) → test g ≡ true → IsBlockWithin gap r.goal r.tree to b.z b.level
  block_within b g node same near =
      let (place, at, block) = node_place b node in
      let gaps : IsSameGap g (gap r.goal (square_figure place.0)) =
      same_trans g (block_gap r b) (gap r.goal (square_figure place.0)) same
      (subst (λ (c : Block). IsSameGap (block_gap r c) (gap r.goal (square_figure place.0))) block (same_block_gap place.0 (place_block place.0 place.1 at))) in
      record { place = place; among = at; code = ap (λ (c : Block). c.z) block; size = ap (λ (c : Block). c.level) block; near = sym (tells g (gap r.goal (square_figure place.0)) gaps) ∙ near }

  -- ---- rough items

  -- both measures have one gap for an item of a leaf
  same_item_gap : (c : Block) (id : ℕ) (s : Shape) → IsBlock c → IsShapeInClosedPlane s → IsSameGap (one_item r c id s).gap (one_item other_ranking c id s).gap
  same_item_gap c id s h plane =
      let go : (k : Bool) → IsSameGap (cond k (greater (r.measure r.goal (rough_figure s)) (block_gap r c)) (r.measure r.goal (figure.Shape s)))
      (cond k (greater (gap r.goal (rough_figure s)) (gap r.goal (square_figure c))) (gap r.goal (figure.Shape s))) =
      elim [
        | true ↦
            same_greater (r.measure r.goal (rough_figure s)) (block_gap r c) (gap r.goal (rough_figure s)) (gap r.goal (square_figure c))
            (same_measures r.measure gap sound.measure is r.goal (rough_figure s) sound.goal (rough_in_closed_plane s plane)) (same_block_gap c h)
        | false ↦ same_measures r.measure gap sound.measure is r.goal (figure.Shape s) sound.goal plane
      ] in
      go (is_rough s)

  -- a rough item that a place lists
  listed_at : (c : Block) (place : Tree) → Contains (places root_block r.tree) (c, place) → (g : Frac) (l s : ℕ) → Contains (found_at r c (Some place)) (Rough g l s)
      → test g ≡ true → IsRoughWithin (rank_items gap r.goal r.shapes r.tree) to l 0
  listed_at c (Leaf ids) at g l s found near =
      let (item, among, same) = from_map leaf_item (shown r c ids) (Rough g l s) found in
      let h = shown_is r c ids item among in
      let (rough, gaps, left, right) = leaf_is (one_item r c h.id h.shape) g l s (ap leaf_item h.is ∙ same) in
      let a = one_item other_ranking c h.id h.shape in
      let plane = All-contains (λ (row : ℕ × Shape). IsShapeInClosedPlane row.1) r.shapes (h.id, h.shape) sound.plane h.row in
      let alike : IsSameGap g a.gap = subst (λ (f : Frac). IsSameGap f a.gap) gaps (same_item_gap c h.id h.shape (place_block c (Leaf ids) at) plane) in record {
        item = a;
        among = in_flat_map (λ (leaf : Block × List ℕ). filter_map (single_item gap r.goal r.shapes leaf.0) leaf.1) (leaves root_block r.tree) (c, ids) a
            (place_leaf root_block r.tree c ids at)
            (in_filter_map (single_item gap r.goal r.shapes c) ids h.id a h.listed (ap (option_map (one_item other_ranking c h.id)) (is_shape r.shapes sound.apart h.id h.shape h.row)));
        rough = rough;
        left_id = left;
        right_id = refl;
        near = sym (tells g a.gap alike) ∙ near;
      }
  listed_at c (Inner p q t u) at g l s found near =
      let (child, among, same) = from_map (block_item r) (children_of c) (Rough g l s) found in absurd (true≢false (ap is_node same))
    where
      is_node : Item Block → Bool
      is_node (Node g b) = true
      is_node (Rough g l s) = false
      is_node (Row g l s) = false

  -- and that a node finds
  listed_in : (c : Block) → IsNode m c → (g : Frac) (l s : ℕ) → Contains (m.finds c) (Rough g l s) → test g ≡ true → IsRoughWithin (rank_items gap r.goal r.shapes r.tree) to l 0
  listed_in c node g l s found near =
      let (place, at, block) = node_place c node in
      let there : Contains (found_at r place.0 (place_at r.tree place.0)) (Rough g l s) = subst (λ (b : Block). Contains (m.finds b) (Rough g l s)) (sym block) found in
      listed_at place.0 place.1 at g l s (subst (λ (o : Option Tree). Contains (found_at r place.0 o) (Rough g l s)) (is_place r.tree sound.shallow place.0 place.1 at) there) near

  -- so does one that is alike
  rough_within : (c : Block) → IsNode m c → (other : Item Block) → Contains (m.finds c) other → (g : Frac) (l s : ℕ) → IsAlike (Rough g l s) other → test g ≡ true
      → IsRoughWithin (rank_items gap r.goal r.shapes r.tree) to l 0
  rough_within c node (Node h b) found g l s alike near = absurd alike
  rough_within c node (Rough h k v) found g l s alike near =
      subst (λ (id : ℕ). IsRoughWithin (rank_items gap r.goal r.shapes r.tree) to id 0) (sym alike.1)
      (listed_in c node h k v found (tells h g (same_back g h alike.0) ∙ sym (tells g g (same_itself g)) ∙ near))
  rough_within c node (Row h k v) found g l s alike near = absurd alike

  -- ---- what was taken or is queued

  module _ {cmp : Block → Block → Ordering} (held done : List (Item Block)) (h : Tracks cmp m held done) where
    -- the ranking meets the laws
    laws : MeetsLaws m
    laws = rank_laws r sound

    -- a node that was opened or is queued is one of the tree
    is_of_tree : (g : Frac) (b : Block) → Contains (done ++ held) (Node g b) → IsNode m b
    is_of_tree g b at =
        let there : Contains (nodes_of done ++ pending m held) b =
        ⊎_elim (λ i. Contains-append_left (nodes_of done) (pending m held) b (node_among done g b i))
        (λ i.
        Contains-append_right (nodes_of done) (pending m held) b
        (queued_pending m laws held g b i (All-contains (HasGap m) (done ++ held) (Node g b) h.gaps at)
        (All-contains (λ item. within m.ceiling (gap_of item) ≡ true) (done ++ held) (Node g b) h.inside at)))
        (Contains-append_cases done held (Node g b) at) in
        (split_node m laws (nodes_of done) (pending m held) h.split b there).0

    -- a rough object comes from a leaf that was opened
    from_leaf : (g : Frac) (l s : ℕ) → Contains (done ++ held) (Rough g l s) → IsListed m done (Rough g l s)
    from_leaf g l s at =
        All-contains (IsListed m done) (roughs_of done ++ roughs_of held) (Rough g l s) h.listed
        (⊎_elim (λ i. Contains-append_left (roughs_of done) (roughs_of held) (Rough g l s) (rough_among done g l s i))
        (λ i. Contains-append_right (roughs_of done) (roughs_of held) (Rough g l s) (rough_among held g l s i)) (Contains-append_cases done held (Rough g l s) at))

    -- what is visited within the reach lies there
    pub lies_within : (number : ℕ) (item : Item Block) → IsVisit item → Contains (done ++ held) item → test (gap_of item) ≡ true → IsWithin gap r.goal r.shapes r.tree to (visit_of number item)
    lies_within number (Node g b) visited at near = block_within b g (is_of_tree g b at) (All-contains (HasGap m) (done ++ held) (Node g b) h.gaps at) near
    lies_within number (Rough g l s) visited at near =
        let from = from_leaf g l s at in
        let node = (split_node m laws (nodes_of done) (pending m held) h.split from.leaf (Contains-append_left (nodes_of done) (pending m held) from.leaf from.opened)).0 in
        rough_within from.leaf node from.other from.listed g l s from.alike near
    lies_within number (Row g l s) visited at near = absurd visited
