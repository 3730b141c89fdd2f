-- A look at a pair of places finds what the join has there, for no more gets than its price; so does a fetch of two geometries.
use Rattle.std.proofs.Common.{◌≡◌, inl, inr, ⊎_elim, ℕ, zero, suc, ◌+◌, ◌-◌, ◌*◌, ◌^◌, ◌<◌, ◌≤◌, Bool, true, false, cond, ◌||◌, true≢false, List, [], ◌∷◌, ◌++◌, map}
use Rattle.std.proofs.Common.{flat_map, sum_by, All, Contains, Option, None, Some, IfSome, refl, sym, ap, ap₂, ◌∙◌, subst, arith, append-nil, pow-suc, lit<}
use Rattle.std.specs.Ordering.{is_lt}
use Rattle.std.specs.List.{AllZip}
use Rattle.std.proofs.lemmas.List.Concat.{flat_map-append}
use Rattle.std.proofs.lemmas.List.Elements.{All-contains, Contains-append_cases}
use Rattle.exact_frac.specs.Frac.{value_cmp}
use Rattle.exact_frac.specs.declared.frac.Frac.{Frac}
use Rattle.sand_base.specs.Plane.{IsShapeInPlane}
use Rattle.sand_base.specs.declared.TheConstants.{COORDINATE_BITS}
use Rattle.sand_base.specs.declared.goal.Goal.TheVariants as figure
use Rattle.sand_base.specs.declared.shape.Shape.{Shape}
use Rattle.sand_base.specs.declared.visit.Visit.{Visit}
use Rattle.sand_base.specs.declared.visit.Visit.TheVariants as visit
use Rattle.z_code.specs.Block.{IsBlock, children_of, square_of}
use Rattle.z_code.specs.declared.block.Block.{Block}
use Rattle.z_code.proofs.Blocks.{square_in_closed_plane}
use Rattle.sand_model.specs.Database.{shape_at, meets_block}
use Rattle.sand_model.specs.Measure.{meets}
use Rattle.sand_model.specs.Nodes.{pairs_of, pair_nodes, rough_figure, square_figure}
use Rattle.sand_model.specs.Price.{pair_price}
use Rattle.sand_model.specs.Tree.{Tree, Leaf, Inner, places, root_block}
use Rattle.ring_geom.proofs.BlockLemmas.{root_is_block}
use Rattle.ring_geom.proofs.Measured.{measured}
use Rattle.page_pool.specs.Desk.{DeskState}
use Rattle.page_pool.specs.Disk.{PageMap}
use Rattle.page_pool.specs.Pool.{PoolState, IsTold}
use Rattle.pmr_tree.specs.Calls.{HasRoughs}
use Rattle.pmr_tree.specs.Entries as entries
use Rattle.pmr_tree.specs.Entries.{IsNodeOf, figure_of}
use Rattle.pmr_tree.specs.Laws.{AreInPlane}
use Rattle.pmr_tree.specs.Lists.{Each}
use Rattle.pmr_tree.specs.Quadtree.{tree_at, KeepsShape}
use Rattle.pmr_tree.specs.declared.listed.Listed.{Listed}
use Rattle.pmr_tree.specs.declared.listed.Node.{Node as Place}
use Rattle.pmr_tree.specs.declared.listed.Node.TheVariants as place
use Rattle.best_first.specs.Hierarchy.{Meaning, MeetsLaws, IsNode, FindsAlike, HasRow, IsRoughListed}
use Rattle.best_first.specs.Item.{node_if_any, nodes_of, IsAlike}
use Rattle.best_first.specs.Reach.{IsSameGap}
use Rattle.best_first.specs.Steps.{AddsLess}
use Rattle.best_first.specs.Visits.{told_pages, Noted, Attempts}
use Rattle.best_first.specs.declared.item.Item.{Item}
use Rattle.best_first.specs.declared.item.Item.TheVariants as item
use Rattle.best_first.proofs.Alikes.{alike_nodes}
use Rattle.best_first.proofs.Bags.{cons_cases, none, All-by, from_filter}
use Rattle.best_first.proofs.Gaps.{same_back}
use Rattle.rank_cursor.specs.Cursor.{the_measure}
use Rattle.rank_cursor.specs.Ranking as ranking
use Rattle.rank_cursor.specs.Ranking.{place_at}
use Rattle.rank_cursor.proofs.AlikeLists.{all_alike_itself, found_elsewhere}
use Rattle.rank_cursor.proofs.Elements.{in_map, from_map}
use Rattle.rank_cursor.proofs.Fitted.{sound_over}
use Rattle.rank_cursor.proofs.LeafEntries.{IsEntryOf}
use Rattle.rank_cursor.proofs.Places.{inside, is_place, leaf_fits}
use Rattle.rank_cursor.proofs.RankedItems.{shape_is, is_shape}
use Rattle.rank_cursor.proofs.SearchPages.{by_told, at_told}
use Rattle.dist_join.specs.Joining.{Joining, IsSoundSide, IsSoundJoin, blocks_of, squares_gap, blocks_item, divided, ids_of_both, leaf_pair_item, pairs_shown}
use Rattle.dist_join.specs.Joining.{pairs_found_at, row_of_pair, pair_visit_price, join_meaning}
use Rattle.dist_join.specs.Looks.{CanLook, Sees, IsWithinPairPrice}
use Rattle.dist_join.specs.OverPages.{PageSide, side_at, IsFitted, joining_over, pair_visit_of, pair_weight, exact_pair_found, pair_found, row_found, places_found, is_bound, by_figures}
use Rattle.dist_join.proofs.CountedPairs.{leaf_is, no_rough}
use Rattle.dist_join.proofs.FoundPairs.{leaves_alike}
use Rattle.dist_join.proofs.JoinPlaces.{shown_is, one_item, row_among}
use Rattle.dist_join.proofs.JoinLaws.{under_root}
use Rattle.dist_join.proofs.PairPlaces.{pair_stands}

-- ---- the pages of a desk, lent

pub at_desk : (d : DeskState) (X : PageMap → Type 0) (pool : PoolState) → pool ≡ d.pool → IfSome (told_pages d) X → IsTold pool → X pool.pages
at_desk d X pool same h = subst (λ (q : PoolState). IsTold q → X q.pages) (sym same) (at_told d X h)

pub by_desk : (d : DeskState) (X : PageMap → Type 0) (pool : PoolState) → pool ≡ d.pool → (IsTold pool → X pool.pages) → IfSome (told_pages d) X
by_desk d X pool same h = by_told d X (subst (λ (q : PoolState). IsTold q → X q.pages) same h)

-- ---- weights

four_times : (k n : ℕ) → 0 < k → n ≡ k * 17 → 4 * k < n
four_times k n some e = omega arith

sixteen_times : (k n : ℕ) → 0 < k → n ≡ k * 17 * 17 → 16 * k < n
sixteen_times k n some e = omega arith

pow_pos : (n : ℕ) → 0 < 17 ^ n
pow_pos zero = lit< tt
pow_pos (suc n) = let some = pow_pos n in let e : 17 ^ suc n ≡ 17 ^ n * 17 = pow-suc 17 n in omega arith

exact_nodes : (leaf : Frac) (a b : ℕ) (g : Frac) → nodes_of (exact_pair_found leaf a b g) ≡ []
exact_nodes leaf a b g = go (is_lt (value_cmp g leaf))
  where
    go : (k : Bool) → nodes_of {N = Block × Block} (cond k [] (item.Row g a b ∷ [])) ≡ []
    go true = refl
    go false = refl

entry_nodes : (leaf : Frac) (l r : Listed) → nodes_of (pair_found leaf l r) ≡ []
entry_nodes leaf l r = go (is_bound l.rough || is_bound r.rough)
  where
    go : (k : Bool) → nodes_of (by_figures leaf l.id r.id (figure_of l.rough) (figure_of r.rough) k) ≡ []
    go true = refl
    go false = exact_nodes leaf l.id r.id (the_measure (figure_of l.rough) (figure_of r.rough))

no_nodes : {X N : Type 0} (f : X → List (Item N)) → ((x : X) → nodes_of (f x) ≡ []) → (xs : List X) → nodes_of (flat_map f xs) ≡ []
no_nodes f each [] = refl
no_nodes {X} {N} f each (x ∷ xs) =
    flat_map-append node_if_any (f x) (flat_map f xs) ∙ ap₂ (λ (a : List N) (b : List N). a ++ b) (each x) (no_nodes f each xs)

-- what a pair of places gives weighs less than their blocks
places_weight : (leaf : Frac) (b c : Block) (found other : Place) → (found ≡ place.Inner → b.level < COORDINATE_BITS) → (other ≡ place.Inner → c.level < COORDINATE_BITS)
    → sum_by pair_weight (nodes_of (places_found leaf (b, c) found other)) < pair_weight (b, c)
places_weight leaf b c (place.Leaf lefts) (place.Leaf rights) above above' =
    subst (λ ns. sum_by pair_weight ns < pair_weight (b, c)) (sym (no_nodes (row_found leaf rights) (λ l. no_nodes (pair_found leaf l) (entry_nodes leaf l) rights) lefts))
    (pow_pos ((COORDINATE_BITS - b.level) + (COORDINATE_BITS - c.level)))
places_weight leaf b c (place.Leaf lefts) place.Inner above above' =
    let level = above' refl in
    let n = (COORDINATE_BITS - b.level) + (COORDINATE_BITS - (c.level + 1)) in
    let height : (COORDINATE_BITS - b.level) + (COORDINATE_BITS - c.level) ≡ suc n = omega arith in
    let whole : pair_weight (b, c) ≡ 17 ^ n * 17 = ap (λ k. 17 ^ k) height ∙ pow-suc 17 n in
    let some = pow_pos n in
    let four = four_times (17 ^ n) (pair_weight (b, c)) some whole in
    omega arith
places_weight leaf b c place.Inner (place.Leaf rights) above above' =
    let level = above refl in
    let n = (COORDINATE_BITS - (b.level + 1)) + (COORDINATE_BITS - c.level) in
    let height : (COORDINATE_BITS - b.level) + (COORDINATE_BITS - c.level) ≡ suc n = omega arith in
    let whole : pair_weight (b, c) ≡ 17 ^ n * 17 = ap (λ k. 17 ^ k) height ∙ pow-suc 17 n in
    let some = pow_pos n in
    let four = four_times (17 ^ n) (pair_weight (b, c)) some whole in
    omega arith
places_weight leaf b c place.Inner place.Inner above above' =
    let level = above refl in
    let level' = above' refl in
    let n = (COORDINATE_BITS - (b.level + 1)) + (COORDINATE_BITS - (c.level + 1)) in
    let height : (COORDINATE_BITS - b.level) + (COORDINATE_BITS - c.level) ≡ suc (suc n) = omega arith in
    let whole : pair_weight (b, c) ≡ 17 ^ n * 17 * 17 = ap (λ k. 17 ^ k) height ∙ pow-suc 17 (suc n) ∙ ap (λ k. k * 17) (pow-suc 17 n) in
    let some = pow_pos n in
    let sixteen = sixteen_times (17 ^ n) (pair_weight (b, c)) some whole in
    omega arith

pub found_falls : (leaf : Frac) (pair : Block × Block) (found other : Place) → (found ≡ place.Inner → pair.0.level < COORDINATE_BITS) → (other ≡ place.Inner → pair.1.level < COORDINATE_BITS)
    → (old new : List (Item (Block × Block))) → FindsAlike (places_found leaf pair found other) old new → AddsLess pair_weight pair old new
found_falls leaf pair found other above above' old new h = record {
  added = h.found;
  adds = h.adds;
  less = subst (λ ns. sum_by pair_weight ns < pair_weight pair) (sym (alike_nodes h.found (places_found leaf pair found other) h.alike)) (places_weight leaf pair.0 pair.1 found other above above');
}

pub nothing_falls : (pair : Block × Block) (items : List (Item (Block × Block))) → AddsLess pair_weight pair items items
nothing_falls pair items = record {
  added = [];
  adds = sym (append-nil items);
  less = pow_pos ((COORDINATE_BITS - pair.0.level) + (COORDINATE_BITS - pair.1.level));
}

-- ---- a side over pages

-- whether a shape meets the square of a block
abbrev met_at : Block → Option Shape → Bool
met_at c None = false
met_at c (Some s) = meets the_measure s (square_of c)

met_shape : (c : Block) (o : Option Shape) → met_at c o ≡ true → (s : Shape) × (o ≡ Some s)
met_shape c None e = absurd (true≢false (sym e))
met_shape c (Some s) e = (s, refl)

each_row : (P : ℕ × Shape → Type 0) (shapes : List (ℕ × Shape)) (row : ℕ × Shape) → Each P shapes → Contains shapes row → P row
each_row P [] row h at = absurd (none row at)
each_row P (x ∷ xs) row h at = ⊎_elim (λ e. subst P e h.0) (λ m. each_row P xs row h.1 m) (cons_cases x xs row at)

module _ (side : PageSide) (in_plane : (p : PageMap) → side.Stands p → AreInPlane (side.rows p)) (p : PageMap) (fitted : IsFitted side p) where
  pub side_sound : IsSoundSide the_measure (side_at side p)
  side_sound =
      let s = sound_over p side.pmr (side.rows p) fitted.0 (in_plane p fitted.1) (square_figure root_block) (square_in_closed_plane root_block root_is_block) (side.Stands p) fitted.1 0 None in
      record { plane = s.plane; apart = s.apart; fits = s.fits; shallow = s.shallow }

  -- a listed id is that of a row that meets the leaf
  entry_of : (b : Block) (ids : List ℕ) → Contains (places root_block (tree_at p side.pmr)) (b, Leaf ids) → (l : Listed) → Contains ids l.id
      → ((s : Shape) → IsShapeInPlane s → KeepsShape p side.pmr l.id s → figure_of l.rough ≡ rough_figure s) → IsEntryOf (side.rows p) l
  entry_of b ids at l listed roughs =
      let all = map (λ (row : ℕ × Shape). row.0) (side.rows p) in
      let (among, met) = from_filter (meets_block the_measure (side.rows p) b) all l.id
      (subst (λ (xs : List ℕ). Contains xs l.id) (leaf_fits (meets_block the_measure (side.rows p)) all root_block (tree_at p side.pmr) side_sound.fits b ids at) listed) in
      let (s, found) = met_shape b (shape_at (side.rows p) l.id) met in
      let in_range = each_row (λ row. IsShapeInPlane row.1) (side.rows p) (l.id, s) (in_plane p fitted.1) (shape_is (side.rows p) l.id s found) in
      record { shape = s; row = found; plane = in_range; rough = roughs s in_range (fitted.0.roughs l.id s found) }

  pub side_entries : (b : Block) (ids : List ℕ) → Contains (places root_block (tree_at p side.pmr)) (b, Leaf ids) → (list : List Listed) → map (λ (l : Listed). l.id) list ≡ ids
      → HasRoughs p side.pmr (place.Leaf list) → All (IsEntryOf (side.rows p)) list
  side_entries b ids at list is roughs =
      All-by (IsEntryOf (side.rows p)) list (λ l among.
      entry_of b ids at l (subst (λ (xs : List ℕ). Contains xs l.id) is (in_map (λ (l : Listed). l.id) list l among))
      (All-contains (λ l. (s : Shape) → IsShapeInPlane s → KeepsShape p side.pmr l.id s → figure_of l.rough ≡ rough_figure s) list l roughs among))

-- ---- a join over pages

-- nothing was done
pub not_tried : (note : Item (Block × Block) → Visit) (price : Item (Block × Block) → ℕ) (i : Item (Block × Block)) (old new : DeskState) → new ≡ old → Attempts note price i old new
not_tried note price i old new same =
    let gets : new.pool.gets ≡ old.pool.gets = ap (λ (d : DeskState). d.pool.gets) same in
    record { tried = []; few = inl refl; noted = record { log = ap (λ (d : DeskState). d.visits) same ∙ sym (append-nil old.visits); up = omega arith; most = omega arith } }

module _ (left right : PageSide) (ceiling : Option ℕ) (left_plane : (p : PageMap) → left.Stands p → AreInPlane (left.rows p))
    (right_plane : (p : PageMap) → right.Stands p → AreInPlane (right.rows p)) where
  abbrev over : PageMap → Joining
  over p = joining_over left right ceiling p

  abbrev m : PageMap → Meaning (Block × Block)
  m p = join_meaning (over p)

  abbrev note : Item (Block × Block) → Visit
  note = pair_visit_of left.pmr.number right.pmr.number

  pub sound : (p : PageMap) → IsFitted left p → IsFitted right p → IsSoundJoin (over p)
  sound p fitted fitted' = record {
    readable = (fitted, fitted');
    measure = measured.1;
    left = side_sound left left_plane p fitted;
    right = side_sound right right_plane p fitted';
  }

  sound_of : (p : PageMap) → MeetsLaws (m p) → IsSoundJoin (over p)
  sound_of p laws = sound p laws.readable.0 laws.readable.1

  -- A node is a pair of places.
  record StandsThere (p : PageMap) (pair : Block × Block) : Type 0 where
    pub here : Tree
    pub there : Tree
    pub at_left : Contains (places root_block (tree_at p left.pmr)) (pair.0, here)
    pub at_right : Contains (places root_block (tree_at p right.pmr)) (pair.1, there)

  node_stands : (p : PageMap) (pair : Block × Block) → MeetsLaws (m p) → IsNode (m p) pair → StandsThere p pair
  node_stands p pair laws is_node =
      let (node, at, same) = from_map blocks_of (pair_nodes root_block (tree_at p left.pmr) root_block (tree_at p right.pmr)) pair
      (subst (λ (l : List (Block × Block)). Contains l pair) (under_root (over p) (sound_of p laws)) is_node) in
      let k = pair_stands root_block (tree_at p left.pmr) root_block (tree_at p right.pmr) node at in
      subst (StandsThere p) same (record { here = k.place; there = k.other; at_left = k.at_left; at_right = k.at_right })

  finds_is : (p : PageMap) (pair : Block × Block) (laws : MeetsLaws (m p)) (k : StandsThere p pair) → (m p).finds pair ≡ pairs_found_at (over p) pair (Some k.here) (Some k.there)
  finds_is p pair laws k =
      ap₂ (λ o q. pairs_found_at (over p) pair o q) (is_place (tree_at p left.pmr) (sound_of p laws).left.shallow pair.0 k.here k.at_left)
      (is_place (tree_at p right.pmr) (sound_of p laws).right.shallow pair.1 k.there k.at_right)

  -- what the code finds at a pair of places stands for what the join finds there
  at_places : (p : PageMap) → MeetsLaws (m p) → (b c : Block) (gap : Frac) → IsSameGap gap (squares_gap (over p) (b, c)) → (t u : Tree)
      → Contains (places root_block (tree_at p left.pmr)) (b, t) → Contains (places root_block (tree_at p right.pmr)) (c, u) → (found other : Place)
      → IsNodeOf t found → IsNodeOf u other → HasRoughs p left.pmr found → HasRoughs p right.pmr other
      → AllZip IsAlike (places_found gap (b, c) found other) (pairs_found_at (over p) (b, c) (Some t) (Some u))
  at_places p laws b c gap near (Leaf ids) (Leaf others) at too (place.Leaf list) (place.Leaf list') is is' roughs roughs' =
      let found = flat_map (row_found gap list') list in
      let h = side_entries left left_plane p laws.readable.0 b ids at list is roughs in
      let k = side_entries right right_plane p laws.readable.1 c others too list' is' roughs' in
      subst (λ (xs : List ℕ). AllZip IsAlike found (map leaf_pair_item (pairs_shown (over p) (b, c) (pairs_of xs others)))) is
      (subst (λ (ys : List ℕ). AllZip IsAlike found (map leaf_pair_item (pairs_shown (over p) (b, c) (pairs_of (map (λ (l : Listed). l.id) list) ys)))) is'
      (leaves_alike left right ceiling p (b, c) gap near list list' h k))
  at_places p laws b c gap near (Leaf ids) (Leaf others) at too (place.Leaf list) place.Inner is is' roughs roughs' = absurd is'
  at_places p laws b c gap near (Leaf ids) (Leaf others) at too place.Inner (place.Leaf list') is is' roughs roughs' = absurd is
  at_places p laws b c gap near (Leaf ids) (Leaf others) at too place.Inner place.Inner is is' roughs roughs' = absurd is
  at_places p laws b c gap near (Leaf ids) (Inner w x y z) at too (place.Leaf list) (place.Leaf list') is is' roughs roughs' = absurd is'
  at_places p laws b c gap near (Leaf ids) (Inner w x y z) at too (place.Leaf list) place.Inner is is' roughs roughs' =
      all_alike_itself (map (blocks_item (over p)) (map (λ (d : Block). (b, d)) (children_of c)))
  at_places p laws b c gap near (Leaf ids) (Inner w x y z) at too place.Inner (place.Leaf list') is is' roughs roughs' = absurd is
  at_places p laws b c gap near (Leaf ids) (Inner w x y z) at too place.Inner place.Inner is is' roughs roughs' = absurd is
  at_places p laws b c gap near (Inner q r s v) (Leaf others) at too (place.Leaf list) (place.Leaf list') is is' roughs roughs' = absurd is
  at_places p laws b c gap near (Inner q r s v) (Leaf others) at too (place.Leaf list) place.Inner is is' roughs roughs' = absurd is
  at_places p laws b c gap near (Inner q r s v) (Leaf others) at too place.Inner (place.Leaf list') is is' roughs roughs' =
      all_alike_itself (map (blocks_item (over p)) (map (λ (d : Block). (d, c)) (children_of b)))
  at_places p laws b c gap near (Inner q r s v) (Leaf others) at too place.Inner place.Inner is is' roughs roughs' = absurd is'
  at_places p laws b c gap near (Inner q r s v) (Inner w x y z) at too (place.Leaf list) (place.Leaf list') is is' roughs roughs' = absurd is
  at_places p laws b c gap near (Inner q r s v) (Inner w x y z) at too (place.Leaf list) place.Inner is is' roughs roughs' = absurd is
  at_places p laws b c gap near (Inner q r s v) (Inner w x y z) at too place.Inner (place.Leaf list') is is' roughs roughs' = absurd is'
  at_places p laws b c gap near (Inner q r s v) (Inner w x y z) at too place.Inner place.Inner is is' roughs roughs' =
      all_alike_itself (map (blocks_item (over p)) (flat_map (λ (d : Block). map (λ (e : Block). (d, e)) (children_of c)) (children_of b)))

  finds_alike : (p : PageMap) → MeetsLaws (m p) → (pair : Block × Block) (gap : Frac) → IsNode (m p) pair → IsSameGap gap (squares_gap (over p) pair) → (found other : Place)
      → Sees p left.pmr pair.0 found → Sees p right.pmr pair.1 other → (old new : List (Item (Block × Block))) → FindsAlike (places_found gap pair found other) old new
      → FindsAlike ((m p).finds pair) old new
  finds_alike p laws pair gap node near found other sees sees' old new h =
      let k = node_stands p pair laws node in
      found_elsewhere (places_found gap pair found other) ((m p).finds pair) old new
      (subst (AllZip IsAlike (places_found gap pair found other)) (sym (finds_is p pair laws k))
      (at_places p laws pair.0 pair.1 gap near k.here k.there k.at_left k.at_right found other (sees.0 k.here k.at_left) (sees'.0 k.there k.at_right) sees.1 sees'.1)) h

  -- ---- prices

  count_is : (tree : Tree) → ranking.listed_count (Some tree) ≡ entries.id_count tree
  count_is (Leaf ids) = refl
  count_is (Inner q s u v) = refl

  side_count : (tree : Tree) (b : Block) (t : Tree) → place_at tree b ≡ Some t → ranking.listed_count (place_at tree b) ≡ entries.id_count t
  side_count tree b t e = ap ranking.listed_count e ∙ count_is t

  noted_pair : (p : PageMap) → MeetsLaws (m p) → (pair : Block × Block) (gap : Frac) → IsNode (m p) pair → (old new : DeskState)
      → new.visits ≡ old.visits ++ note (item.Node gap pair) ∷ [] → old.pool.gets ≤ new.pool.gets → IsWithinPairPrice p left.pmr pair.0 right.pmr pair.1 old.pool new.pool
      → Noted note (m p).price (item.Node gap pair ∷ []) old new
  noted_pair p laws pair gap node old new log up within =
      let k = node_stands p pair laws node in
      let s = sound_of p laws in
      let same : pair_visit_price (over p) (item.Node gap pair) ≡ pair_price left.pmr.map.height (entries.id_count k.here) right.pmr.map.height (entries.id_count k.there) =
      ap₂ (λ a b. pair_price left.pmr.map.height a right.pmr.map.height b)
      (side_count (tree_at p left.pmr) pair.0 k.here (is_place (tree_at p left.pmr) s.left.shallow pair.0 k.here k.at_left))
      (side_count (tree_at p right.pmr) pair.1 k.there (is_place (tree_at p right.pmr) s.right.shallow pair.1 k.there k.at_right)) in
      record {
        log = log;
        up = up;
        most = summed (pair_visit_price (over p) (item.Node gap pair))
            (pair_price left.pmr.map.height (entries.id_count k.here) right.pmr.map.height (entries.id_count k.there)) old.pool.gets new.pool.gets same
            (within k.here k.there k.at_left k.at_right);
      }
    where
      summed : (a c m n : ℕ) → a ≡ c → n ≤ m + c → n ≤ m + (0 + a)
      summed a c m n e h = omega arith

  -- ---- the exits of an expansion

  -- what an expansion asks
  abbrev pub Asks : DeskState → Block × Block → Frac → Type 0
  Asks d pair gap = IfSome (told_pages d) (λ p. MeetsLaws (m p) × IsNode (m p) pair × IsSameGap gap ((m p).gap pair))

  asked : (d : DeskState) (pair : Block × Block) (gap : Frac) → Asks d pair gap → IsTold d.pool
      → MeetsLaws (m d.pool.pages) × IsNode (m d.pool.pages) pair × IsSameGap gap ((m d.pool.pages).gap pair)
  asked d pair gap asks told = at_told d (λ p. MeetsLaws (m p) × IsNode (m p) pair × IsSameGap gap ((m p).gap pair)) asks told

  pub can_look : (d : DeskState) (pair : Block × Block) (gap : Frac) → Asks d pair gap → (pool : PoolState) → pool ≡ d.pool → IsTold pool
      → CanLook pool.pages left.pmr pair.0 × CanLook pool.pages right.pmr pair.1
  can_look d pair gap asks pool same =
      subst (λ (q : PoolState). IsTold q → CanLook q.pages left.pmr pair.0 × CanLook q.pages right.pmr pair.1) (sym same) (λ told.
      let (laws, node, near) = asked d pair gap asks told in
      let k = node_stands d.pool.pages pair laws node in
      ((laws.readable.0.0.tree, (k.here, k.at_left)), (laws.readable.1.0.tree, (k.there, k.at_right))))

  -- blocks that aren't both blocks of the trees are asked for over no pages that are told
  pub never : (d : DeskState) (pair : Block × Block) (gap : Frac) → Asks d pair gap → (IsBlock pair.0 × IsBlock pair.1 → ⊥) → (X : PageMap → Type 0) → IfSome (told_pages d) X
  never d pair gap asks fails X =
      by_told d X (λ told.
      let (laws, node, near) = asked d pair gap asks told in
      let p = d.pool.pages in
      let k = node_stands p pair laws node in
      let s = sound_of p laws in
      absurd (fails (
        (inside root_block (tree_at p left.pmr) root_is_block s.left.shallow pair.0 k.here k.at_left).block,
        (inside root_block (tree_at p right.pmr) root_is_block s.right.shallow pair.1 k.there k.at_right).block,
      )))

  pub found_ok : (d : DeskState) (pair : Block × Block) (gap : Frac) → Asks d pair gap → (pool : PoolState) → pool ≡ d.pool → (found other : Place)
      → (IsTold pool → Sees pool.pages left.pmr pair.0 found × Sees pool.pages right.pmr pair.1 other)
      → (old new : List (Item (Block × Block))) → FindsAlike (places_found gap pair found other) old new → IfSome (told_pages d) (λ p. FindsAlike ((m p).finds pair) old new)
  found_ok d pair gap asks pool same found other sees old new h =
      by_told d (λ p. FindsAlike ((m p).finds pair) old new) (λ told.
      let (laws, node, near) = asked d pair gap asks told in
      let seen = subst (λ (q : PoolState). IsTold q → Sees q.pages left.pmr pair.0 found × Sees q.pages right.pmr pair.1 other) same sees told in
      finds_alike d.pool.pages laws pair gap node near found other seen.0 seen.1 old new h)

  pub visits_ok : (d noted new : DeskState) (pair : Block × Block) (gap : Frac) → Asks d pair gap → noted ≡ record d { visits = d.visits ++ note (item.Node gap pair) ∷ [] } → new.visits ≡ noted.visits
      → (pool : PoolState) → pool ≡ noted.pool → pool.gets ≤ new.pool.gets → (IsTold pool → IsWithinPairPrice pool.pages left.pmr pair.0 right.pmr pair.1 pool new.pool)
      → IfSome (told_pages d) (λ p. Noted note (m p).price (item.Node gap pair ∷ []) d new)
  visits_ok d noted new pair gap asks is log pool same up within =
      let lent : pool ≡ d.pool = same ∙ ap (λ (e : DeskState). e.pool) is in
      by_told d (λ p. Noted note (m p).price (item.Node gap pair ∷ []) d new) (λ told.
      let (laws, node, near) = asked d pair gap asks told in
      noted_pair d.pool.pages laws pair gap node d new (log ∙ ap (λ (e : DeskState). e.visits) is)
      (subst (λ (q : PoolState). q.gets ≤ new.pool.gets) lent up)
      (subst (λ (q : PoolState). IsTold q → IsWithinPairPrice q.pages left.pmr pair.0 right.pmr pair.1 q new.pool) lent within told))

  pub visits_tried : (d noted new : DeskState) (pair : Block × Block) (gap : Frac) → Asks d pair gap
      → noted ≡ record d { visits = d.visits ++ note (item.Node gap pair) ∷ [] } → new.visits ≡ noted.visits
      → (pool : PoolState) → pool ≡ noted.pool → pool.gets ≤ new.pool.gets → (IsTold pool → IsWithinPairPrice pool.pages left.pmr pair.0 right.pmr pair.1 pool new.pool)
      → IfSome (told_pages d) (λ p. Attempts note (m p).price (item.Node gap pair) d new)
  visits_tried d noted new pair gap asks is log pool same up within =
      by_told d (λ p. Attempts note (m p).price (item.Node gap pair) d new) (λ told. record {
        tried = item.Node gap pair ∷ [];
        few = inr refl;
        noted = at_told d (λ p. Noted note (m p).price (item.Node gap pair ∷ []) d new) (visits_ok d noted new pair gap asks is log pool same up within) told;
      })

  pub visits_refused : (d new : DeskState) (i : Item (Block × Block)) → new ≡ d → IfSome (told_pages d) (λ p. Attempts note (m p).price i d new)
  visits_refused d new i same = by_told d (λ p. Attempts note (m p).price i d new) (λ told. not_tried note (m d.pool.pages).price i d new same)

  -- ---- a fetch

  -- what a fetch asks
  abbrev pub AsksRough : DeskState → ℕ → ℕ → Type 0
  AsksRough d a b = IfSome (told_pages d) (λ p. MeetsLaws (m p) × IsRoughListed (m p) a b)

  pub can_fetch : (d : DeskState) (a b : ℕ) → AsksRough d a b → (pool : PoolState) → pool ≡ d.pool → IsTold pool → left.Stands pool.pages × right.Stands pool.pages
  can_fetch d a b asks pool same =
      subst (λ (q : PoolState). IsTold q → left.Stands q.pages × right.Stands q.pages) (sym same) (λ told.
      let (laws, listed) = at_told d (λ p. MeetsLaws (m p) × IsRoughListed (m p) a b) asks told in
      (laws.readable.0.1, laws.readable.1.1))

  -- A rough pair that is listed is a pair of rows.
  record AreRows (p : PageMap) (a b : ℕ) : Type 0 where
    pub shape : Shape
    pub other : Shape
    pub row : shape_at (left.rows p) a ≡ Some shape
    pub other_row : shape_at (right.rows p) b ≡ Some other

  rough_rows : (p : PageMap) → MeetsLaws (m p) → (a b : ℕ) → IsRoughListed (m p) a b → AreRows p a b
  rough_rows p laws a b h =
      let j = over p in
      let s = sound_of p laws in
      let k = node_stands p h.leaf laws h.node in
      let pairs = divided h.leaf.0 k.here h.leaf.1 k.there in
      let ids = ids_of_both k.here k.there in
      let items = map leaf_pair_item (pairs_shown j h.leaf ids) in
      let there_is : Contains (map (blocks_item j) pairs ++ items) (item.Rough h.gap a b) =
      subst (λ (l : List (Item (Block × Block))). Contains l (item.Rough h.gap a b)) (finds_is p h.leaf laws k) h.listed in
      let in_items : Contains items (item.Rough h.gap a b) =
      ⊎_elim (λ n. absurd (no_rough j pairs h.gap a b n)) (λ i. i) (Contains-append_cases (map (blocks_item j) pairs) items (item.Rough h.gap a b) there_is) in
      let (i, among, same) = from_map leaf_pair_item (pairs_shown j h.leaf ids) (item.Rough h.gap a b) in_items in
      let r = shown_is j h.leaf ids i among in
      let (is_polygon, gaps, lefts, rights) = leaf_is (one_item j h.leaf r.one r.shape r.other) h.gap a b (ap leaf_pair_item r.is ∙ same) in
      record {
        shape = r.shape;
        other = r.other;
        row = ap (shape_at (left.rows p)) (sym lefts) ∙ is_shape (left.rows p) s.left.apart r.one.0 r.shape r.row;
        other_row = ap (shape_at (right.rows p)) (sym rights) ∙ is_shape (right.rows p) s.right.apart r.one.1 r.other r.other_row;
      }

  row_with : (p : PageMap) (a b : ℕ) (s t : Shape) → shape_at (left.rows p) a ≡ Some s → shape_at (right.rows p) b ≡ Some t → (gap : Frac)
      → IsSameGap (the_measure (figure.Shape s) (figure.Shape t)) gap → HasRow (m p) (record { gap = gap; left = a; right = b })
  row_with p a b s t e f gap near = record {
    row = row_of_pair (over p) (a, s) (b, t);
    among = row_among (over p) (a, s) (b, t) (shape_is (left.rows p) a s e) (shape_is (right.rows p) b t f);
    same = (near, refl, refl);
  }

  -- what two reads of the shapes of rows must give
  abbrev pub Reads : PoolState → ℕ → ℕ → Shape → Shape → Type 0
  Reads pool a b found other = IsTold pool → (s t : Shape) → shape_at (left.rows pool.pages) a ≡ Some s → shape_at (right.rows pool.pages) b ≡ Some t → (found ≡ s) × (other ≡ t)

  fetched_there : (d : DeskState) (a b : ℕ) → IsTold d.pool → (found other : Shape) → Reads d.pool a b found other → AreRows d.pool.pages a b → (gap : Frac)
      → IsSameGap gap (the_measure (figure.Shape found) (figure.Shape other)) → HasRow (m d.pool.pages) (record { gap = gap; left = a; right = b })
  fetched_there d a b told found other value k gap is =
      let both = value told k.shape k.other k.row k.other_row in
      row_with d.pool.pages a b k.shape k.other k.row k.other_row gap
      (subst (λ (f : Shape). IsSameGap (the_measure (figure.Shape f) (figure.Shape k.other)) gap) both.0
      (subst (λ (f : Shape). IsSameGap (the_measure (figure.Shape found) (figure.Shape f)) gap) both.1 (same_back gap (the_measure (figure.Shape found) (figure.Shape other)) is)))

  -- The shapes that were fetched are those of the rows.
  pub fetched_row : (d : DeskState) (a b : ℕ) → AsksRough d a b → (pool : PoolState) → pool ≡ d.pool → (found other : Shape) → Reads pool a b found other
      → (gap : Frac) → IsSameGap gap (the_measure (figure.Shape found) (figure.Shape other)) → IfSome (told_pages d) (λ p. HasRow (m p) (record { gap = gap; left = a; right = b }))
  fetched_row d a b asks pool same found other value gap is =
      by_told d (λ p. HasRow (m p) (record { gap = gap; left = a; right = b })) (λ told.
      let (laws, listed) = at_told d (λ p. MeetsLaws (m p) × IsRoughListed (m p) a b) asks told in
      fetched_there d a b told found other (subst (λ (q : PoolState). Reads q a b found other) same value) (rough_rows d.pool.pages laws a b listed) gap is)

  pub fetch_noted : (d noted new : DeskState) (a b : ℕ) → noted ≡ record d { visits = d.visits ++ visit.GeometryPair a b ∷ [] } → new.visits ≡ noted.visits
      → (pool : PoolState) → pool ≡ noted.pool → pool.gets ≤ new.pool.gets → new.pool.gets ≤ pool.gets + (left.price + right.price)
      → IfSome (told_pages d) (λ p. (gap : Frac) → Noted note (m p).price (item.Rough gap a b ∷ []) d new)
  fetch_noted d noted new a b is log pool same up most =
      let gets : pool.gets ≡ d.pool.gets = ap (λ (s : PoolState). s.gets) same ∙ ap (λ (e : DeskState). e.pool.gets) is in
      by_told d (λ p. (gap : Frac) → Noted note (m p).price (item.Rough gap a b ∷ []) d new) (λ told gap. record {
        log = log ∙ ap (λ (e : DeskState). e.visits) is;
        up = omega arith;
        most = omega arith;
      })

  pub fetch_tried : (d noted new : DeskState) (a b : ℕ) → noted ≡ record d { visits = d.visits ++ visit.GeometryPair a b ∷ [] } → new.visits ≡ noted.visits
      → (pool : PoolState) → pool ≡ noted.pool → pool.gets ≤ new.pool.gets → new.pool.gets ≤ pool.gets + (left.price + right.price)
      → IfSome (told_pages d) (λ p. (gap : Frac) → Attempts note (m p).price (item.Rough gap a b) d new)
  fetch_tried d noted new a b is log pool same up most =
      by_told d (λ p. (gap : Frac) → Attempts note (m p).price (item.Rough gap a b) d new) (λ told gap. record {
        tried = item.Rough gap a b ∷ [];
        few = inr refl;
        noted = at_told d (λ p. (gap : Frac) → Noted note (m p).price (item.Rough gap a b ∷ []) d new) (fetch_noted d noted new a b is log pool same up most) told gap;
      })
