-- Pages that are told, weights, and a ranking over pages.
use Rattle.std.proofs.Common.{◌≡◌, ◌⊎◌, inl, inr, ⊎_elim, ℕ, zero, suc, ◌+◌, ◌-◌, ◌*◌, ◌^◌, ◌<◌, ◌≤◌, Bool, true, false, cond, if◌then◌else◌, true≢false, List, [], ◌∷◌}
use Rattle.std.proofs.Common.{◌++◌, map, flat_map, sum_by, Contains, Option, None, Some, Ok, Err, IfSome, IsTrue, refl, sym, ap, ap₂, ◌∙◌, subst, arith, append-nil}
use Rattle.std.proofs.Common.{pow-suc, lit<}
use Rattle.std.specs.Ordering.{is_lt}
use Rattle.std.proofs.lemmas.List.Concat.{flat_map-append}
use Rattle.std.specs.List.{AllZip}
use Rattle.std.proofs.lemmas.List.Elements.{All-contains}
use Rattle.exact_frac.specs.Frac.{value_cmp}
use Rattle.exact_frac.specs.declared.frac.Frac.{Frac}
use Rattle.sand_base.specs.Plane.{IsGoalInClosedPlane, IsShapeInPlane}
use Rattle.sand_base.specs.declared.TheConstants.{COORDINATE_BITS}
use Rattle.sand_base.specs.declared.goal.Goal.{Goal}
use Rattle.sand_base.specs.declared.rough.Rough.{Rough}
use Rattle.sand_base.specs.declared.rough.Rough.TheVariants as rough
use Rattle.sand_base.specs.declared.goal.Goal.TheVariants as figure
use Rattle.sand_base.specs.declared.shape.Shape.{Shape}
use Rattle.sand_base.specs.declared.shape.Shape.TheVariants as shape
use Rattle.sand_base.specs.declared.visit.Visit.{Visit}
use Rattle.sand_base.specs.declared.visit.Visit.TheVariants as visit
use Rattle.z_code.specs.Block.{children_of, square_of}
use Rattle.z_code.specs.declared.block.Block.{Block}
use Rattle.sand_model.specs.Database.{shape_at, meets_block}
use Rattle.sand_model.specs.Measure.{meets}
use Rattle.sand_model.specs.Nodes.{rough_figure}
use Rattle.sand_model.specs.Price.{block_price}
use Rattle.sand_model.specs.Tree.{Tree, Leaf, Inner, places, root_block}
use Rattle.page_pool.specs.Causes.{HasPageCause}
use Rattle.page_pool.specs.Desk.{DeskState}
use Rattle.page_pool.specs.Disk.{PageMap}
use Rattle.page_pool.specs.Pool.{PoolState, IsTold}
use Rattle.page_pool.specs.declared.fault.PageFault.{PageFault}
use Rattle.page_pool.specs.declared.fault.PageFault.TheVariants as page
use Rattle.pmr_tree.specs.Calls.{IsWithinPrice, HasRoughs}
use Rattle.pmr_tree.specs.Calls as pmr
use Rattle.pmr_tree.specs.Entries as entries
use Rattle.pmr_tree.specs.Entries.{IsNodeOf, figure_of}
use Rattle.pmr_tree.specs.Laws.{AreInPlane}
use Rattle.pmr_tree.specs.Lists.{Each}
use Rattle.pmr_tree.specs.Quadtree.{tree_at, FitsRows, HasPlace, KeepsShape}
use Rattle.pmr_tree.specs.declared.listed.Listed.{Listed}
use Rattle.pmr_tree.specs.declared.listed.Node.{Node as Place}
use Rattle.pmr_tree.specs.declared.listed.Node.TheVariants as place
use Rattle.pmr_tree.specs.declared.quadtree.Pmr.{Pmr}
use Rattle.best_first.specs.Hierarchy.{MeetsLaws, IsNode, FindsAlike}
use Rattle.best_first.specs.Item.{node_if_any, nodes_of, IsAlike}
use Rattle.best_first.specs.Reach.{IsSameGap}
use Rattle.best_first.specs.Steps.{AddsLess}
use Rattle.best_first.specs.Visits.{told_pages, Noted, Attempts, VisitsOne}
use Rattle.best_first.specs.declared.item.Item.{Item}
use Rattle.best_first.specs.declared.item.Item.TheVariants as item
use Rattle.best_first.proofs.Alikes.{alike_nodes}
use Rattle.best_first.proofs.Bags.{cons_cases, none, All-by, from_filter}
use Rattle.rank_cursor.specs.Cursor.{the_measure, ranking_over, visit_of, block_weight, entry_found, exact_found, block_found, place_found}
use Rattle.rank_cursor.specs.Ranking as ranking
use Rattle.rank_cursor.specs.Ranking.{Ranking, block_gap, found_at, leaf_item, shown, rank_meaning, IsSound, block_visit_price}
use Rattle.rank_cursor.proofs.AlikeLists.{all_alike_itself, found_elsewhere}
use Rattle.rank_cursor.proofs.Elements.{in_map, from_map}
use Rattle.rank_cursor.proofs.Fitted.{sound_over}
use Rattle.rank_cursor.proofs.LeafEntries.{IsEntryOf, leaf_alike}
use Rattle.rank_cursor.proofs.Places.{is_place, place_here, leaf_fits}
use Rattle.rank_cursor.proofs.RankedItems.{shape_is}
use Rattle.rank_cursor.proofs.RankingLaws.{under_place}

-- ---- pages that are told

pub by_told : (d : DeskState) (X : PageMap → Type 0) → (IsTold d.pool → X d.pool.pages) → IfSome (told_pages d) X
by_told d X h = go d.pool.disk.told refl
  where
    go : (k : Bool) → d.pool.disk.told ≡ k → IfSome (if k then Some d.pool.pages else None) X
    go true e = h e
    go false e = tt

pub at_told : (d : DeskState) (X : PageMap → Type 0) → IfSome (told_pages d) X → IsTold d.pool → X d.pool.pages
at_told d X h told = subst (λ (k : Bool). IfSome (if k then Some d.pool.pages else None) X) told h

-- ---- causes

pub cause_over : {T U : Type 0} (old new : PoolState) (x : T) (y : U) → HasPageCause {T = T} old new (Ok x) → HasPageCause {T = U} old new (Ok y)
cause_over old new x y h = record { counted = h.counted; damaged = tt }

pub cause_memory : {T U : Type 0} (old new : PoolState) (x : T) → HasPageCause {T = T} old new (Ok x) → HasPageCause {T = U} old new (Err page.Memory)
cause_memory old new x h = record { counted = h.counted; damaged = tt }

pub cause_refused : {T U : Type 0} (old new : PoolState) (fault : PageFault) → HasPageCause {T = T} old new (Err fault) → HasPageCause {T = U} old new (Err fault)
cause_refused old new fault h = record { counted = h.counted; damaged = h.damaged }

-- ---- weights

fives : (k n : ℕ) → 0 < k → n ≡ k * 5 → 4 * k < n
fives k n some e = omega arith

five_pow_pos : (n : ℕ) → 0 < 5 ^ n
five_pow_pos zero = lit< tt
five_pow_pos (suc n) = let some = five_pow_pos n in let e : 5 ^ suc n ≡ 5 ^ n * 5 = pow-suc 5 n in omega arith

exact_nodes : (leaf : Frac) (id : ℕ) (g : Frac) → nodes_of (exact_found leaf id g) ≡ []
exact_nodes leaf id g = go (is_lt (value_cmp g leaf))
  where
    go : (k : Bool) → nodes_of {N = Block} (cond k [] (item.Row g id 0 ∷ [])) ≡ []
    go true = refl
    go false = refl

entry_nodes : (goal : Goal) (leaf : Frac) (id : ℕ) (l : Rough) → nodes_of (entry_found goal leaf id l) ≡ []
entry_nodes goal leaf id (rough.Bound r) = refl
entry_nodes goal leaf id (rough.Point p) = exact_nodes leaf id (the_measure goal (figure.Shape (shape.Point p)))
entry_nodes goal leaf id (rough.Segment s) = exact_nodes leaf id (the_measure goal (figure.Shape (shape.Segment s)))

list_nodes : (goal : Goal) (leaf : Frac) (list : List Listed) → nodes_of (flat_map (λ l. entry_found goal leaf l.id l.rough) list) ≡ []
list_nodes goal leaf [] = refl
list_nodes goal leaf (l ∷ ls) =
    flat_map-append node_if_any (entry_found goal leaf l.id l.rough) (flat_map (λ l. entry_found goal leaf l.id l.rough) ls)
    ∙ ap₂ (λ (x : List Block) (y : List Block). x ++ y) (entry_nodes goal leaf l.id l.rough) (list_nodes goal leaf ls)

-- what a place gives weighs less than its block
place_weight : (goal : Goal) (leaf : Frac) (b : Block) (found : Place) → (found ≡ place.Inner → b.level < COORDINATE_BITS)
    → sum_by block_weight (nodes_of (place_found goal leaf b found)) < block_weight b
place_weight goal leaf b place.Inner above =
    let level = above refl in
    let height : COORDINATE_BITS - b.level ≡ suc (COORDINATE_BITS - (b.level + 1)) = omega arith in
    let whole : 5 ^ (COORDINATE_BITS - b.level) ≡ 5 ^ (COORDINATE_BITS - (b.level + 1)) * 5 = ap (λ n. 5 ^ n) height ∙ pow-suc 5 (COORDINATE_BITS - (b.level + 1)) in
    let some = five_pow_pos (COORDINATE_BITS - (b.level + 1)) in
    let four = fives (5 ^ (COORDINATE_BITS - (b.level + 1))) (5 ^ (COORDINATE_BITS - b.level)) some whole in
    omega arith
place_weight goal leaf b (place.Leaf list) above =
    subst (λ ns. sum_by block_weight ns < block_weight b) (sym (list_nodes goal leaf list)) (five_pow_pos (COORDINATE_BITS - b.level))

pub found_falls : (goal : Goal) (leaf : Frac) (b : Block) (found : Place) → (found ≡ place.Inner → b.level < COORDINATE_BITS) → (old new : List (Item Block))
    → FindsAlike (place_found goal leaf b found) old new → AddsLess block_weight b old new
found_falls goal leaf b found above old new h = record {
  added = h.found;
  adds = h.adds;
  less = subst (λ ns. sum_by block_weight ns < block_weight b) (sym (alike_nodes h.found (place_found goal leaf b found) h.alike)) (place_weight goal leaf b found above);
}

pub nothing_falls : (b : Block) (items : List (Item Block)) → AddsLess block_weight b items items
nothing_falls b items = record { added = []; adds = sym (append-nil items); less = five_pow_pos (COORDINATE_BITS - b.level) }

-- ---- a ranking over pages

module _ (rows : PageMap → List (ℕ × Shape)) (Stands : PageMap → Type 0) (price : ℕ) (t : Pmr) (goal : Goal) (ceiling : Option ℕ)
    (in_plane : (p : PageMap) → Stands p → AreInPlane (rows p)) (plane : IsGoalInClosedPlane goal) where
  abbrev over : PageMap → Ranking
  over p = ranking_over rows Stands price t goal ceiling p

  pub sound : (p : PageMap) → FitsRows p t (rows p) → Stands p → IsSound (over p)
  sound p fits stands = sound_over p t (rows p) fits (in_plane p stands) goal plane (Stands p) stands price ceiling

  sound_of : (p : PageMap) → MeetsLaws (rank_meaning (over p)) → IsSound (over p)
  sound_of p laws = sound p laws.readable.0 laws.readable.1

  -- a node is a place
  pub node_place : (p : PageMap) (b : Block) → MeetsLaws (rank_meaning (over p)) → IsNode (rank_meaning (over p)) b → HasPlace (tree_at p t) b
  node_place p b laws node =
      let (x, at, same) = from_map (λ (x : Block × Tree). x.0) (places root_block (tree_at p t)) b
      (subst (λ (bs : List Block). Contains bs b) (under_place (over p) (sound_of p laws) root_block (tree_at p t) (place_here root_block (tree_at p t))) node) in
      (x.1, subst (λ (c : Block). Contains (places root_block (tree_at p t)) (c, x.1)) same at)

  -- whether a shape meets the square of a block
  abbrev met_at : Block → Option Shape → Bool
  met_at c None = false
  met_at c (Some s) = meets the_measure s (square_of c)

  -- a listed id is that of a row that meets the leaf
  met_shape : (c : Block) (o : Option Shape) → met_at c o ≡ true → (s : Shape) × (o ≡ Some s)
  met_shape c None e = absurd (true≢false (sym e))
  met_shape c (Some s) e = (s, refl)

  each_row : (P : ℕ × Shape → Type 0) (shapes : List (ℕ × Shape)) (row : ℕ × Shape) → Each P shapes → Contains shapes row → P row
  each_row P [] row h at = absurd (none row at)
  each_row P (x ∷ xs) row h at = ⊎_elim (λ e. subst P e h.0) (λ m. each_row P xs row h.1 m) (cons_cases x xs row at)

  entry_of : (p : PageMap) → MeetsLaws (rank_meaning (over p)) → (b : Block) (ids : List ℕ) → Contains (places root_block (tree_at p t)) (b, Leaf ids) → (l : Listed) → Contains ids l.id
      → ((s : Shape) → IsShapeInPlane s → KeepsShape p t l.id s → figure_of l.rough ≡ rough_figure s) → IsEntryOf (rows p) l
  entry_of p laws b ids place l listed roughs =
      let all = map (λ (row : ℕ × Shape). row.0) (rows p) in
      let fits = (sound_of p laws).fits in
      let (among, met) = from_filter (meets_block the_measure (rows p) b) all l.id
      (subst (λ (xs : List ℕ). Contains xs l.id) (leaf_fits (meets_block the_measure (rows p)) all root_block (tree_at p t) fits b ids place) listed) in
      let (s, found) = met_shape b (shape_at (rows p) l.id) met in
      let in_range = each_row (λ row. IsShapeInPlane row.1) (rows p) (l.id, s) (in_plane p laws.readable.1) (shape_is (rows p) l.id s found) in
      record { shape = s; row = found; plane = in_range; rough = roughs s in_range (laws.readable.0.roughs l.id s found) }

  -- what the code finds at a place stands for what the ranking finds there
  at_place : (p : PageMap) → MeetsLaws (rank_meaning (over p)) → (b : Block) (gap : Frac) → IsSameGap gap (block_gap (over p) b) → (tree : Tree)
      → Contains (places root_block (tree_at p t)) (b, tree) → (found : Place) → IsNodeOf tree found → HasRoughs p t found
      → AllZip IsAlike (place_found goal gap b found) (found_at (over p) b (Some tree))
  at_place p laws b gap near (Leaf ids) spot (place.Leaf list) is roughs =
      let entries = All-by (IsEntryOf (rows p)) list (λ l at.
      entry_of p laws b ids spot l (subst (λ (xs : List ℕ). Contains xs l.id) is (in_map (λ (l : Listed). l.id) list l at))
      (All-contains (λ l. (s : Shape) → IsShapeInPlane s → KeepsShape p t l.id s → figure_of l.rough ≡ rough_figure s) list l roughs at)) in
      subst (λ (xs : List ℕ). AllZip IsAlike (place_found goal gap b (place.Leaf list)) (map leaf_item (shown (over p) b xs))) is
      (leaf_alike (over p) refl b gap near list entries)
  at_place p laws b gap near (Leaf ids) spot place.Inner is roughs = absurd is
  at_place p laws b gap near (Inner q s u v) spot (place.Leaf list) is roughs = absurd is
  at_place p laws b gap near (Inner q s u v) spot place.Inner is roughs = all_alike_itself (map (block_found goal) (children_of b))

  pub finds_alike : (p : PageMap) → MeetsLaws (rank_meaning (over p)) → (b : Block) (gap : Frac) → IsNode (rank_meaning (over p)) b → IsSameGap gap (block_gap (over p) b) → (found : Place)
      → pmr.FindsPlace (tree_at p t) b found → HasRoughs p t found → (old new : List (Item Block)) → FindsAlike (place_found goal gap b found) old new
      → FindsAlike ((rank_meaning (over p)).finds b) old new
  finds_alike p laws b gap node near found finds roughs old new h =
      let (tree, place) = node_place p b laws node in
      found_elsewhere (place_found goal gap b found) ((rank_meaning (over p)).finds b) old new
      (subst (λ (o : Option Tree). AllZip IsAlike (place_found goal gap b found) (found_at (over p) b o)) (sym (is_place (tree_at p t) (sound_of p laws).shallow b tree place))
      (at_place p laws b gap near tree place found (finds tree place) roughs)) h

  -- ---- visits

  count_is : (tree : Tree) → ranking.listed_count (Some tree) ≡ entries.id_count tree
  count_is (Leaf ids) = refl
  count_is (Inner q s u v) = refl

  -- the price of a visit is that of its block
  within_price : (p : PageMap) → MeetsLaws (rank_meaning (over p)) → (b : Block) (gap : Frac) → IsNode (rank_meaning (over p)) b → (old new : PoolState) → IsWithinPrice p t b old new
      → new.gets ≤ old.gets + sum_by (rank_meaning (over p)).price (item.Node gap b ∷ [])
  within_price p laws b gap node old new within =
      let (tree, place) = node_place p b laws node in
      let most = within tree place in
      let same : block_visit_price (over p) (item.Node gap b) ≡ block_price t.map.height (entries.id_count tree) =
      ap (λ (o : Option Tree). block_price t.map.height (ranking.listed_count o)) (is_place (tree_at p t) (sound_of p laws).shallow b tree place) ∙ ap (block_price t.map.height) (count_is tree) in
      summed (block_visit_price (over p) (item.Node gap b)) (block_price t.map.height (entries.id_count tree)) old.gets new.gets same most
    where
      summed : (a c m n : ℕ) → a ≡ c → n ≤ m + c → n ≤ m + (0 + a)
      summed a c m n e h = omega arith

  noted_one : (p : PageMap) → MeetsLaws (rank_meaning (over p)) → (b : Block) (gap : Frac) → IsNode (rank_meaning (over p)) b → (old new : DeskState)
      → new.visits ≡ old.visits ++ visit.Block t.number b.z b.level ∷ [] → old.pool.gets ≤ new.pool.gets → IsWithinPrice p t b old.pool new.pool
      → Noted (visit_of t.number) (rank_meaning (over p)).price (item.Node gap b ∷ []) old new
  noted_one p laws b gap node old new log up within = record { log = log; up = up; most = within_price p laws b gap node old.pool new.pool within }

  -- a visit that was noted, whatever came of the call
  pub tried_one : (p : PageMap) → MeetsLaws (rank_meaning (over p)) → (b : Block) (gap : Frac) → IsNode (rank_meaning (over p)) b → (old new : DeskState)
      → new.visits ≡ old.visits ++ visit.Block t.number b.z b.level ∷ [] → old.pool.gets ≤ new.pool.gets → IsWithinPrice p t b old.pool new.pool
      → Attempts (visit_of t.number) (rank_meaning (over p)).price (item.Node gap b) old new
  tried_one p laws b gap node old new log up within =
      record { tried = item.Node gap b ∷ []; few = inr refl; noted = noted_one p laws b gap node old new log up within }

  pub visited_one : (p : PageMap) → MeetsLaws (rank_meaning (over p)) → (b : Block) (gap : Frac) → IsNode (rank_meaning (over p)) b → (old new : DeskState)
      → new.visits ≡ old.visits ++ visit.Block t.number b.z b.level ∷ [] → old.pool.gets ≤ new.pool.gets → IsWithinPrice p t b old.pool new.pool
      → VisitsOne {T = Unit {0}} (visit_of t.number) (rank_meaning (over p)).price (item.Node gap b) old new (Ok tt)
  visited_one = noted_one

-- nothing was done
pub not_tried : (note : Item Block → Visit) (price : Item Block → ℕ) (i : Item Block) (old new : DeskState) → new.visits ≡ old.visits → new.pool ≡ old.pool → Attempts note price i old new
not_tried note price i old new log same =
    let gets : new.pool.gets ≡ old.pool.gets = ap (λ (s : PoolState). s.gets) same in
    record { tried = []; few = inl refl; noted = record { log = log ∙ sym (append-nil old.visits); up = omega arith; most = omega arith } }

-- where the value is no block, what it asks is never so
pub refused_block : (b : Bool) (P : Type 0) → (IsTrue b → P) × (P → IsTrue b) → b ≡ false → P → ⊥
refused_block b P h e p = absurd (true≢false (sym (h.1 p) ∙ e))
