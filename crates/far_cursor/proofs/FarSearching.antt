-- A visit of a place finds what the search farthest first has there, for no more gets than its price; so does a fetch of a geometry.
use Rattle.std.proofs.Common.{◌≡◌, ◌⊎◌, inr, ⊎_elim, ℕ, ◌+◌, ◌≤◌, Bool, true, false, true≢false, List, [], ◌∷◌, ◌++◌, map, sum_by, Contains, Option, None, Some, Ok}
use Rattle.std.proofs.Common.{IfSome, refl, sym, ap, ◌∙◌, subst, arith}
use Rattle.std.specs.List.{AllZip}
use Rattle.std.proofs.lemmas.List.Elements.{All-contains}
use Rattle.exact_frac.specs.declared.frac.Frac.{Frac}
use Rattle.sand_base.specs.Plane.{IsInClosedPlane, IsShapeInPlane}
use Rattle.sand_base.specs.declared.point.Point.{Point}
use Rattle.sand_base.specs.declared.goal.Goal.TheVariants as figure
use Rattle.sand_base.specs.declared.shape.Shape.{Shape}
use Rattle.sand_base.specs.declared.visit.Visit.TheVariants as visit
use Rattle.z_code.specs.Block.{IsBlock, children_of, square_of}
use Rattle.z_code.specs.declared.block.Block.{Block}
use Rattle.sand_model.specs.Database.{shape_at, meets_block}
use Rattle.sand_model.specs.Measure.{meets}
use Rattle.sand_model.specs.Nodes.{rough_figure}
use Rattle.sand_model.specs.Price.{block_price}
use Rattle.sand_model.specs.Tree.{Tree, Leaf, Inner, places, root_block}
use Rattle.ring_geom.proofs.BlockLemmas.{root_is_block}
use Rattle.page_pool.specs.Desk.{DeskState}
use Rattle.page_pool.specs.Disk.{PageMap}
use Rattle.page_pool.specs.Pool.{PoolState, IsTold}
use Rattle.pmr_tree.specs.Calls.{IsWithinPrice, GetsSome, NotesVisit, HasRoughs}
use Rattle.pmr_tree.specs.Calls as pmr
use Rattle.pmr_tree.specs.Entries as entries
use Rattle.pmr_tree.specs.Entries.{IsNodeOf, figure_of}
use Rattle.pmr_tree.specs.Laws.{AreInPlane}
use Rattle.pmr_tree.specs.Lists.{Each}
use Rattle.pmr_tree.specs.Quadtree.{tree_at, FitsRows, HasPlace, KeepsShape}
use Rattle.pmr_tree.specs.declared.listed.Listed.{Listed}
use Rattle.pmr_tree.specs.declared.listed.Node.{Node as Place}
use Rattle.pmr_tree.specs.declared.listed.Node.TheVariants as place
use Rattle.pmr_tree.specs.declared.quadtree.Pmr.{Pmr}
use Rattle.best_first.specs.Hierarchy.{Meaning, MeetsLaws, IsNode, FindsAlike, HasRow, IsRoughListed}
use Rattle.best_first.specs.Item.{IsAlike}
use Rattle.best_first.specs.Reach.{IsSameGap}
use Rattle.best_first.specs.Visits.{told_pages, Noted, Attempts, VisitsOne}
use Rattle.best_first.specs.declared.item.Item.{Item}
use Rattle.best_first.specs.declared.item.Item.TheVariants as item
use Rattle.best_first.proofs.Bags.{cons_cases, none, All-by, from_filter}
use Rattle.best_first.proofs.Gaps.{same_back}
use Rattle.rank_cursor.specs.Cursor.{the_measure, visit_of}
use Rattle.rank_cursor.specs.Ranking as ranking
use Rattle.rank_cursor.specs.Ranking.{Ranking, place_at, block_gap, found_at, leaf_item, shown, hit_at, rank_meaning, IsSound, block_visit_price}
use Rattle.rank_cursor.proofs.AlikeLists.{all_alike_itself, found_elsewhere}
use Rattle.rank_cursor.proofs.Elements.{in_map, from_map}
use Rattle.rank_cursor.proofs.Counted.{leaf_is}
use Rattle.rank_cursor.proofs.Fitted.{shaped_shallow}
use Rattle.rank_cursor.proofs.LeafEntries.{IsEntryOf}
use Rattle.rank_cursor.proofs.Places.{inside, is_place, place_here, leaf_fits}
use Rattle.rank_cursor.proofs.RankedItems.{shape_is, is_shape, shown_is, one_item}
use Rattle.rank_cursor.proofs.SearchPages.{by_told, at_told, not_tried}
use Rattle.far_cursor.specs.FarRanking.{key_from, far_ranking, far_block, far_place}
use Rattle.far_cursor.proofs.FarEntries.{leaf_alike}
use Rattle.far_cursor.proofs.FarLaws.{keyed_over}
use Rattle.far_cursor.proofs.KeyedLaws.{IsKeyed, under_place}

-- ---- the search over pages

module _ (rows : PageMap → List (ℕ × Shape)) (Stands : PageMap → Type 0) (price : ℕ) (t : Pmr) (goal : Point)
    (in_plane : (p : PageMap) → Stands p → AreInPlane (rows p)) (plane : IsInClosedPlane goal) where
  abbrev over : PageMap → Ranking
  over p = far_ranking rows Stands price t goal p

  pub sound : (p : PageMap) → FitsRows p t (rows p) → Stands p → IsKeyed (over p)
  sound p fits stands = keyed_over rows Stands price t goal in_plane plane p fits stands

  sound_of : (p : PageMap) → MeetsLaws (rank_meaning (over p)) → IsKeyed (over p)
  sound_of p laws = sound p laws.readable.0 laws.readable.1

  -- a node is a place
  pub node_place : (p : PageMap) (b : Block) → MeetsLaws (rank_meaning (over p)) → IsNode (rank_meaning (over p)) b → HasPlace (tree_at p t) b
  node_place p b laws node =
      let (x, at, same) = from_map (λ (x : Block × Tree). x.0) (places root_block (tree_at p t)) b
      (subst (λ (bs : List Block). Contains bs b) (under_place (over p) (sound_of p laws) root_block (tree_at p t) (place_here root_block (tree_at p t))) node) in
      (x.1, subst (λ (c : Block). Contains (places root_block (tree_at p t)) (c, x.1)) same at)

  -- whether a shape meets the square of a block
  abbrev met_at : Block → Option Shape → Bool
  met_at c None = false
  met_at c (Some s) = meets the_measure s (square_of c)

  -- a listed id is that of a row that meets the leaf
  met_shape : (c : Block) (o : Option Shape) → met_at c o ≡ true → (s : Shape) × (o ≡ Some s)
  met_shape c None e = absurd (true≢false (sym e))
  met_shape c (Some s) e = (s, refl)

  each_row : (P : ℕ × Shape → Type 0) (shapes : List (ℕ × Shape)) (row : ℕ × Shape) → Each P shapes → Contains shapes row → P row
  each_row P [] row h at = absurd (none row at)
  each_row P (x ∷ xs) row h at = ⊎_elim (λ e. subst P e h.0) (λ m. each_row P xs row h.1 m) (cons_cases x xs row at)

  entry_of : (p : PageMap) → MeetsLaws (rank_meaning (over p)) → (b : Block) (ids : List ℕ) → Contains (places root_block (tree_at p t)) (b, Leaf ids) → (l : Listed) → Contains ids l.id
      → ((s : Shape) → IsShapeInPlane s → KeepsShape p t l.id s → figure_of l.rough ≡ rough_figure s) → IsEntryOf (rows p) l
  entry_of p laws b ids place l listed roughs =
      let all = map (λ (row : ℕ × Shape). row.0) (rows p) in
      let fits = (sound_of p laws).fits in
      let (among, met) = from_filter (meets_block the_measure (rows p) b) all l.id
      (subst (λ (xs : List ℕ). Contains xs l.id) (leaf_fits (meets_block the_measure (rows p)) all root_block (tree_at p t) fits b ids place) listed) in
      let (s, found) = met_shape b (shape_at (rows p) l.id) met in
      let in_range = each_row (λ row. IsShapeInPlane row.1) (rows p) (l.id, s) (in_plane p laws.readable.1) (shape_is (rows p) l.id s found) in
      record { shape = s; row = found; plane = in_range; rough = roughs s in_range (laws.readable.0.roughs l.id s found) }

  -- what the code finds at a place stands for what the search finds there
  at_place : (p : PageMap) → MeetsLaws (rank_meaning (over p)) → (b : Block) (gap : Frac) → IsSameGap gap (block_gap (over p) b) → (tree : Tree)
      → Contains (places root_block (tree_at p t)) (b, tree) → (found : Place) → IsNodeOf tree found → HasRoughs p t found
      → AllZip IsAlike (far_place goal gap b found) (found_at (over p) b (Some tree))
  at_place p laws b gap near (Leaf ids) spot (place.Leaf list) is roughs =
      let entries = All-by (IsEntryOf (rows p)) list (λ l at.
      entry_of p laws b ids spot l (subst (λ (xs : List ℕ). Contains xs l.id) is (in_map (λ (l : Listed). l.id) list l at))
      (All-contains (λ l. (s : Shape) → IsShapeInPlane s → KeepsShape p t l.id s → figure_of l.rough ≡ rough_figure s) list l roughs at)) in
      subst (λ (xs : List ℕ). AllZip IsAlike (far_place goal gap b (place.Leaf list)) (map leaf_item (shown (over p) b xs))) is
      (leaf_alike rows Stands price t goal p b gap near list entries)
  at_place p laws b gap near (Leaf ids) spot place.Inner is roughs = absurd is
  at_place p laws b gap near (Inner q s u v) spot (place.Leaf list) is roughs = absurd is
  at_place p laws b gap near (Inner q s u v) spot place.Inner is roughs = all_alike_itself (map (far_block goal) (children_of b))

  pub finds_alike : (p : PageMap) → MeetsLaws (rank_meaning (over p)) → (b : Block) (gap : Frac) → IsNode (rank_meaning (over p)) b → IsSameGap gap (block_gap (over p) b) → (found : Place)
      → pmr.FindsPlace (tree_at p t) b found → HasRoughs p t found → (old new : List (Item Block)) → FindsAlike (far_place goal gap b found) old new
      → FindsAlike ((rank_meaning (over p)).finds b) old new
  finds_alike p laws b gap node near found finds roughs old new h =
      let (tree, place) = node_place p b laws node in
      found_elsewhere (far_place goal gap b found) ((rank_meaning (over p)).finds b) old new
      (subst (λ (o : Option Tree). AllZip IsAlike (far_place goal gap b found) (found_at (over p) b o)) (sym (is_place (tree_at p t) (sound_of p laws).shallow b tree place))
      (at_place p laws b gap near tree place found (finds tree place) roughs)) h

  -- ---- visits

  count_is : (tree : Tree) → ranking.listed_count (Some tree) ≡ entries.id_count tree
  count_is (Leaf ids) = refl
  count_is (Inner q s u v) = refl

  -- the price of a visit is that of its block
  within_price : (p : PageMap) → MeetsLaws (rank_meaning (over p)) → (b : Block) (gap : Frac) → IsNode (rank_meaning (over p)) b → (old new : PoolState) → IsWithinPrice p t b old new
      → new.gets ≤ old.gets + sum_by (rank_meaning (over p)).price (item.Node gap b ∷ [])
  within_price p laws b gap node old new within =
      let (tree, place) = node_place p b laws node in
      let most = within tree place in
      let same : block_visit_price (over p) (item.Node gap b) ≡ block_price t.map.height (entries.id_count tree) =
      ap (λ (o : Option Tree). block_price t.map.height (ranking.listed_count o)) (is_place (tree_at p t) (sound_of p laws).shallow b tree place) ∙ ap (block_price t.map.height) (count_is tree) in
      summed (block_visit_price (over p) (item.Node gap b)) (block_price t.map.height (entries.id_count tree)) old.gets new.gets same most
    where
      summed : (a c m n : ℕ) → a ≡ c → n ≤ m + c → n ≤ m + (0 + a)
      summed a c m n e h = omega arith

  noted_one : (p : PageMap) → MeetsLaws (rank_meaning (over p)) → (b : Block) (gap : Frac) → IsNode (rank_meaning (over p)) b → (old new : DeskState)
      → new.visits ≡ old.visits ++ visit.Block t.number b.z b.level ∷ [] → old.pool.gets ≤ new.pool.gets → IsWithinPrice p t b old.pool new.pool
      → Noted (visit_of t.number) (rank_meaning (over p)).price (item.Node gap b ∷ []) old new
  noted_one p laws b gap node old new log up within = record { log = log; up = up; most = within_price p laws b gap node old.pool new.pool within }

  -- a visit that was noted, whatever came of the call
  pub tried_one : (p : PageMap) → MeetsLaws (rank_meaning (over p)) → (b : Block) (gap : Frac) → IsNode (rank_meaning (over p)) b → (old new : DeskState)
      → new.visits ≡ old.visits ++ visit.Block t.number b.z b.level ∷ [] → old.pool.gets ≤ new.pool.gets → IsWithinPrice p t b old.pool new.pool
      → Attempts (visit_of t.number) (rank_meaning (over p)).price (item.Node gap b) old new
  tried_one p laws b gap node old new log up within =
      record { tried = item.Node gap b ∷ []; few = inr refl; noted = noted_one p laws b gap node old new log up within }

  pub visited_one : (p : PageMap) → MeetsLaws (rank_meaning (over p)) → (b : Block) (gap : Frac) → IsNode (rank_meaning (over p)) b → (old new : DeskState)
      → new.visits ≡ old.visits ++ visit.Block t.number b.z b.level ∷ [] → old.pool.gets ≤ new.pool.gets → IsWithinPrice p t b old.pool new.pool
      → VisitsOne {T = Unit {0}} (visit_of t.number) (rank_meaning (over p)).price (item.Node gap b) old new (Ok tt)
  visited_one = noted_one

-- ---- the exits of an expansion and of a fetch

module _ (rows : PageMap → List (ℕ × Shape)) (Stands : PageMap → Type 0) (price : ℕ) (t : Pmr) (goal : Point)
    (in_plane : (p : PageMap) → Stands p → AreInPlane (rows p)) (plane : IsInClosedPlane goal) where
  abbrev m : PageMap → Meaning Block
  m p = rank_meaning (far_ranking rows Stands price t goal p)

  -- what an expansion asks
  abbrev pub Asks : DeskState → Block → Frac → Type 0
  Asks d b gap = IfSome (told_pages d) (λ p. MeetsLaws (m p) × IsNode (m p) b × IsSameGap gap ((m p).gap b))

  asked : (d : DeskState) (b : Block) (gap : Frac) → Asks d b gap → IsTold d.pool → MeetsLaws (m d.pool.pages) × IsNode (m d.pool.pages) b × IsSameGap gap ((m d.pool.pages).gap b)
  asked d b gap asks told = at_told d (λ p. MeetsLaws (m p) × IsNode (m p) b × IsSameGap gap ((m p).gap b)) asks told

  pub asked_place : (d : DeskState) (b : Block) (gap : Frac) → Asks d b gap → IsTold d.pool → HasPlace (tree_at d.pool.pages t) b
  asked_place d b gap asks told = let (laws, node, near) = asked d b gap asks told in node_place rows Stands price t goal in_plane plane d.pool.pages b laws node

  pub never : (d : DeskState) (b : Block) (gap : Frac) → Asks d b gap → (IsBlock b → ⊥) → (X : PageMap → Type 0) → IfSome (told_pages d) X
  never d b gap asks fails X =
      by_told d X (λ told.
      let (laws, node, near) = asked d b gap asks told in
      let (tree, place) = node_place rows Stands price t goal in_plane plane d.pool.pages b laws node in
      absurd (fails (inside root_block (tree_at d.pool.pages t) root_is_block (shaped_shallow root_block (tree_at d.pool.pages t) laws.readable.0.tree.shaped) b tree place).block))

  pub found_ok : (d : DeskState) (b : Block) (gap : Frac) → Asks d b gap → (found : Place) → (IsTold d.pool → pmr.FindsPlace (tree_at d.pool.pages t) b found)
      → (IsTold d.pool → HasRoughs d.pool.pages t found)
      → (old new : List (Item Block)) → FindsAlike (far_place goal gap b found) old new → IfSome (told_pages d) (λ p. FindsAlike ((m p).finds b) old new)
  found_ok d b gap asks found finds roughs old new h =
      by_told d (λ p. FindsAlike ((m p).finds b) old new) (λ told.
      let (laws, node, near) = asked d b gap asks told in
      finds_alike rows Stands price t goal in_plane plane d.pool.pages laws b gap node near found (finds told) (roughs told) old new h)

  pub visits_ok : (d new : DeskState) (b : Block) (gap : Frac) → Asks d b gap → new.visits ≡ d.visits ++ visit.Block t.number b.z b.level ∷ [] → d.pool.gets ≤ new.pool.gets
      → (IsTold d.pool → IsWithinPrice d.pool.pages t b d.pool new.pool) → IfSome (told_pages d) (λ p. Noted (visit_of t.number) (m p).price (item.Node gap b ∷ []) d new)
  visits_ok d new b gap asks log up within =
      by_told d (λ p. Noted (visit_of t.number) (m p).price (item.Node gap b ∷ []) d new) (λ told.
      let (laws, node, near) = asked d b gap asks told in
      visited_one rows Stands price t goal in_plane plane d.pool.pages laws b gap node d new log up (within told))

  pub visits_tried : (d new : DeskState) (b : Block) (gap : Frac) → Asks d b gap → new.visits ≡ d.visits ++ visit.Block t.number b.z b.level ∷ [] → d.pool.gets ≤ new.pool.gets
      → (IsTold d.pool → IsWithinPrice d.pool.pages t b d.pool new.pool) → IfSome (told_pages d) (λ p. Attempts (visit_of t.number) (m p).price (item.Node gap b) d new)
  visits_tried d new b gap asks log up within =
      by_told d (λ p. Attempts (visit_of t.number) (m p).price (item.Node gap b) d new) (λ told.
      let (laws, node, near) = asked d b gap asks told in
      tried_one rows Stands price t goal in_plane plane d.pool.pages laws b gap node d new log up (within told))

  pub visits_refused : (d new : DeskState) (b : Block) (gap : Frac) → Asks d b gap
      → (new.visits ≡ d.visits ++ visit.Block t.number b.z b.level ∷ []) ⊎ ((new.visits ≡ d.visits) × (new.pool ≡ d.pool)) → d.pool.gets ≤ new.pool.gets
      → (IsTold d.pool → IsWithinPrice d.pool.pages t b d.pool new.pool) → IfSome (told_pages d) (λ p. Attempts (visit_of t.number) (m p).price (item.Node gap b) d new)
  visits_refused d new b gap asks noted up within =
      ⊎_elim (λ log. visits_tried d new b gap asks log up within)
      (λ h. by_told d (λ p. Attempts (visit_of t.number) (m p).price (item.Node gap b) d new) (λ told. not_tried (visit_of t.number) (m d.pool.pages).price (item.Node gap b) d new h.0 h.1)) noted

  -- ---- a fetch

  -- a rough object that is listed is a row
  rough_row : (p : PageMap) → MeetsLaws (m p) → (left right : ℕ) → IsRoughListed (m p) left right → (s : Shape) × (shape_at (rows p) left ≡ Some s) × (right ≡ 0)
  rough_row p laws left right h =
      let r = far_ranking rows Stands price t goal p in
      let is_sound = sound rows Stands price t goal in_plane plane p laws.readable.0 laws.readable.1 in
      let (tree, place) = node_place rows Stands price t goal in_plane plane p h.leaf laws h.node in
      row_at_place tree (subst (λ (o : Option Tree). Contains (found_at r h.leaf o) (item.Rough h.gap left right)) (is_place (tree_at p t) is_sound.shallow h.leaf tree place) h.listed)
    where
      is_node : Item Block → Bool
      is_node (item.Node g b) = true
      is_node (item.Rough g l s) = false
      is_node (item.Row g l s) = false

      row_at_place : (tree : Tree) → Contains (found_at (far_ranking rows Stands price t goal p) h.leaf (Some tree)) (item.Rough h.gap left right)
          → (s : Shape) × (shape_at (rows p) left ≡ Some s) × (right ≡ 0)
      row_at_place (Leaf ids) found =
          let r = far_ranking rows Stands price t goal p in
          let is_sound = sound rows Stands price t goal in_plane plane p laws.readable.0 laws.readable.1 in
          let (i, among, same) = from_map leaf_item (shown r h.leaf ids) (item.Rough h.gap left right) found in
          let k = shown_is r h.leaf ids i among in
          let (is_polygon, gaps, lefts, rights) = leaf_is (one_item r h.leaf k.id k.shape) h.gap left right (ap leaf_item k.is ∙ same) in
          (k.shape, ap (shape_at (rows p)) (sym lefts) ∙ is_shape (rows p) is_sound.apart k.id k.shape k.row, sym rights)
      row_at_place (Inner q s u v) found =
          let r = far_ranking rows Stands price t goal p in
          let (b, among, same) = from_map (ranking.block_item r) (children_of h.leaf) (item.Rough h.gap left right) found in
          absurd (true≢false (ap is_node same))

  abbrev pub AsksRough : DeskState → ℕ → ℕ → Type 0
  AsksRough d left right = IfSome (told_pages d) (λ p. MeetsLaws (m p) × IsRoughListed (m p) left right)

  pub exact_row : (d : DeskState) (left right : ℕ) → AsksRough d left right → (pool : PoolState) → pool ≡ d.pool → (found : Shape)
      → (IsTold pool → (s : Shape) → shape_at (rows pool.pages) left ≡ Some s → found ≡ s) → (gap : Frac) → IsSameGap gap (key_from goal (figure.Shape found))
      → IfSome (told_pages d) (λ p. HasRow (m p) (record { gap = gap; left = left; right = right }))
  exact_row d left right asks pool same found value gap is =
      by_told d (λ p. HasRow (m p) (record { gap = gap; left = left; right = right })) (λ told.
      let p = d.pool.pages in
      let (laws, listed) = at_told d (λ p. MeetsLaws (m p) × IsRoughListed (m p) left right) asks told in
      let r = far_ranking rows Stands price t goal p in
      let (s, row, none_right) = rough_row p laws left right listed in
      let is_it : found ≡ s = subst (λ (q : PoolState). IsTold q → (s : Shape) → shape_at (rows q.pages) left ≡ Some s → found ≡ s) same value told s row in
      record {
        row = hit_at r (left, s);
        among = in_map (hit_at r) (rows p) (left, s) (shape_is (rows p) left s row);
        same = (
          subst (λ (f : Shape). IsSameGap (key_from goal (figure.Shape f)) gap) is_it (same_back gap (key_from goal (figure.Shape found)) is),
          refl,
          sym none_right,
        );
      })

  fetched_one : (p : PageMap) (d new : DeskState) (left right : ℕ) (gap : Frac) → new.visits ≡ d.visits ++ visit.Geometry left ∷ [] → d.pool.gets ≤ new.pool.gets → new.pool.gets ≤ d.pool.gets + price
      → Noted (visit_of t.number) (m p).price (item.Rough gap left right ∷ []) d new
  fetched_one p d new left right gap log up most = record { log = log; up = up; most = omega arith }

  pub fetch_tried : (d noted new : DeskState) (left right : ℕ) → noted ≡ record d { visits = d.visits ++ visit.Geometry left ∷ [] } → new.visits ≡ noted.visits
      → (pool : PoolState) → pool ≡ noted.pool → pool.gets ≤ new.pool.gets → new.pool.gets ≤ pool.gets + price
      → IfSome (told_pages d) (λ p. (gap : Frac) → Attempts (visit_of t.number) (m p).price (item.Rough gap left right) d new)
  fetch_tried d noted new left right is log pool same up most =
      let gets : pool.gets ≡ d.pool.gets = ap (λ (s : PoolState). s.gets) same ∙ ap (λ (e : DeskState). e.pool.gets) is in
      by_told d (λ p. (gap : Frac) → Attempts (visit_of t.number) (m p).price (item.Rough gap left right) d new) (λ told gap. record {
        tried = item.Rough gap left right ∷ [];
        few = inr refl;
        noted = fetched_one d.pool.pages d new left right gap (log ∙ ap (λ (e : DeskState). e.visits) is) (omega arith) (omega arith);
      })
