-- A visit of a place finds what the ranking has there, for no more gets than its price; so does a fetch of a geometry.
use Rattle.std.proofs.Common.{◌≡◌, ◌⊎◌, inr, ⊎_elim, ℕ, ◌+◌, ◌-◌, ◌≤◌, Bool, true, false, true≢false, List, [], ◌∷◌}
use Rattle.std.proofs.Common.{◌++◌, Contains, Option, Some, IfSome, refl, sym, ap, ◌∙◌, subst, arith}
use Rattle.exact_frac.specs.declared.frac.Frac.{Frac}
use Rattle.sand_base.specs.Plane.{IsGoalInClosedPlane}
use Rattle.sand_base.specs.declared.goal.Goal.{Goal}
use Rattle.sand_base.specs.declared.goal.Goal.TheVariants as figure
use Rattle.sand_base.specs.declared.shape.Shape.{Shape}
use Rattle.sand_base.specs.declared.visit.Visit.TheVariants as visit
use Rattle.z_code.specs.Block.{IsBlock, children_of}
use Rattle.z_code.specs.declared.block.Block.{Block}
use Rattle.sand_model.specs.Database.{shape_at}
use Rattle.sand_model.specs.Tree.{Tree, Leaf, Inner, root_block}
use Rattle.ring_geom.proofs.BlockLemmas.{root_is_block}
use Rattle.page_pool.specs.Desk.{DeskState}
use Rattle.page_pool.specs.Disk.{PageMap}
use Rattle.page_pool.specs.Pool.{PoolState, IsTold}
use Rattle.pmr_tree.specs.Calls.{IsWithinPrice, HasRoughs}
use Rattle.pmr_tree.specs.Calls as pmr
use Rattle.pmr_tree.specs.Laws.{AreInPlane}
use Rattle.pmr_tree.specs.Quadtree.{tree_at, HasPlace}
use Rattle.pmr_tree.specs.declared.listed.Node.{Node as Place}
use Rattle.pmr_tree.specs.declared.quadtree.Pmr.{Pmr}
use Rattle.best_first.specs.Hierarchy.{Meaning, MeetsLaws, IsNode, FindsAlike, HasRow, IsRoughListed}
use Rattle.best_first.specs.Reach.{IsSameGap}
use Rattle.best_first.specs.Visits.{told_pages, Noted, Attempts}
use Rattle.best_first.specs.declared.item.Item.{Item}
use Rattle.best_first.specs.declared.item.Item.TheVariants as item
use Rattle.best_first.proofs.Gaps.{same_back}
use Rattle.rank_cursor.specs.Cursor.{the_measure, ranking_over, visit_of, place_found}
use Rattle.rank_cursor.specs.Ranking as ranking
use Rattle.rank_cursor.specs.Ranking.{found_at, leaf_item, shown, hit_at, rank_meaning}
use Rattle.rank_cursor.proofs.Elements.{in_map, from_map}
use Rattle.rank_cursor.proofs.Counted.{leaf_is}
use Rattle.rank_cursor.proofs.Fitted.{shaped_shallow}
use Rattle.rank_cursor.proofs.Places.{inside, is_place}
use Rattle.rank_cursor.proofs.RankedItems.{shape_is, is_shape, shown_is, one_item}
use Rattle.rank_cursor.proofs.SearchPages.{by_told, at_told, sound, node_place, finds_alike, tried_one, visited_one, not_tried}

-- ---- the exits of an expansion and of a fetch

module _ (rows : PageMap → List (ℕ × Shape)) (Stands : PageMap → Type 0) (price : ℕ) (t : Pmr) (goal : Goal) (ceiling : Option ℕ)
    (in_plane : (p : PageMap) → Stands p → AreInPlane (rows p)) (plane : IsGoalInClosedPlane goal) where
  abbrev m : PageMap → Meaning Block
  m p = rank_meaning (ranking_over rows Stands price t goal ceiling p)

  -- what an expansion asks
  abbrev pub Asks : DeskState → Block → Frac → Type 0
  Asks d b gap = IfSome (told_pages d) (λ p. MeetsLaws (m p) × IsNode (m p) b × IsSameGap gap ((m p).gap b))

  asked : (d : DeskState) (b : Block) (gap : Frac) → Asks d b gap → IsTold d.pool → MeetsLaws (m d.pool.pages) × IsNode (m d.pool.pages) b × IsSameGap gap ((m d.pool.pages).gap b)
  asked d b gap asks told = at_told d (λ p. MeetsLaws (m p) × IsNode (m p) b × IsSameGap gap ((m p).gap b)) asks told

  pub asked_place : (d : DeskState) (b : Block) (gap : Frac) → Asks d b gap → IsTold d.pool → HasPlace (tree_at d.pool.pages t) b
  asked_place d b gap asks told = let (laws, node, near) = asked d b gap asks told in node_place rows Stands price t goal ceiling in_plane plane d.pool.pages b laws node

  pub never : (d : DeskState) (b : Block) (gap : Frac) → Asks d b gap → (IsBlock b → ⊥) → (X : PageMap → Type 0) → IfSome (told_pages d) X
  never d b gap asks fails X =
      by_told d X (λ told.
      let (laws, node, near) = asked d b gap asks told in
      let (tree, place) = node_place rows Stands price t goal ceiling in_plane plane d.pool.pages b laws node in
      absurd (fails (inside root_block (tree_at d.pool.pages t) root_is_block (shaped_shallow root_block (tree_at d.pool.pages t) laws.readable.0.tree.shaped) b tree place).block))

  pub found_ok : (d : DeskState) (b : Block) (gap : Frac) → Asks d b gap → (found : Place) → (IsTold d.pool → pmr.FindsPlace (tree_at d.pool.pages t) b found)
      → (IsTold d.pool → HasRoughs d.pool.pages t found)
      → (old new : List (Item Block)) → FindsAlike (place_found goal gap b found) old new → IfSome (told_pages d) (λ p. FindsAlike ((m p).finds b) old new)
  found_ok d b gap asks found finds roughs old new h =
      by_told d (λ p. FindsAlike ((m p).finds b) old new) (λ told.
      let (laws, node, near) = asked d b gap asks told in
      finds_alike rows Stands price t goal ceiling in_plane plane d.pool.pages laws b gap node near found (finds told) (roughs told) old new h)

  pub visits_ok : (d new : DeskState) (b : Block) (gap : Frac) → Asks d b gap → new.visits ≡ d.visits ++ visit.Block t.number b.z b.level ∷ [] → d.pool.gets ≤ new.pool.gets
      → (IsTold d.pool → IsWithinPrice d.pool.pages t b d.pool new.pool) → IfSome (told_pages d) (λ p. Noted (visit_of t.number) (m p).price (item.Node gap b ∷ []) d new)
  visits_ok d new b gap asks log up within =
      by_told d (λ p. Noted (visit_of t.number) (m p).price (item.Node gap b ∷ []) d new) (λ told.
      let (laws, node, near) = asked d b gap asks told in
      visited_one rows Stands price t goal ceiling in_plane plane d.pool.pages laws b gap node d new log up (within told))

  pub visits_tried : (d new : DeskState) (b : Block) (gap : Frac) → Asks d b gap → new.visits ≡ d.visits ++ visit.Block t.number b.z b.level ∷ [] → d.pool.gets ≤ new.pool.gets
      → (IsTold d.pool → IsWithinPrice d.pool.pages t b d.pool new.pool) → IfSome (told_pages d) (λ p. Attempts (visit_of t.number) (m p).price (item.Node gap b) d new)
  visits_tried d new b gap asks log up within =
      by_told d (λ p. Attempts (visit_of t.number) (m p).price (item.Node gap b) d new) (λ told.
      let (laws, node, near) = asked d b gap asks told in
      tried_one rows Stands price t goal ceiling in_plane plane d.pool.pages laws b gap node d new log up (within told))

  pub visits_refused : (d new : DeskState) (b : Block) (gap : Frac) → Asks d b gap
      → (new.visits ≡ d.visits ++ visit.Block t.number b.z b.level ∷ []) ⊎ ((new.visits ≡ d.visits) × (new.pool ≡ d.pool)) → d.pool.gets ≤ new.pool.gets
      → (IsTold d.pool → IsWithinPrice d.pool.pages t b d.pool new.pool) → IfSome (told_pages d) (λ p. Attempts (visit_of t.number) (m p).price (item.Node gap b) d new)
  visits_refused d new b gap asks noted up within =
      ⊎_elim (λ log. visits_tried d new b gap asks log up within)
      (λ h. by_told d (λ p. Attempts (visit_of t.number) (m p).price (item.Node gap b) d new) (λ told. not_tried (visit_of t.number) (m d.pool.pages).price (item.Node gap b) d new h.0 h.1)) noted

  -- ---- a fetch

  -- a rough object that is listed is a row
  rough_row : (p : PageMap) → MeetsLaws (m p) → (left right : ℕ) → IsRoughListed (m p) left right → (s : Shape) × (shape_at (rows p) left ≡ Some s) × (right ≡ 0)
  rough_row p laws left right h =
      let r = ranking_over rows Stands price t goal ceiling p in
      let is_sound = sound rows Stands price t goal ceiling in_plane plane p laws.readable.0 laws.readable.1 in
      let (tree, place) = node_place rows Stands price t goal ceiling in_plane plane p h.leaf laws h.node in
      row_at_place tree (subst (λ (o : Option Tree). Contains (found_at r h.leaf o) (item.Rough h.gap left right)) (is_place (tree_at p t) is_sound.shallow h.leaf tree place) h.listed)
    where
      is_node : Item Block → Bool
      is_node (item.Node g b) = true
      is_node (item.Rough g l s) = false
      is_node (item.Row g l s) = false

      row_at_place : (tree : Tree) → Contains (found_at (ranking_over rows Stands price t goal ceiling p) h.leaf (Some tree)) (item.Rough h.gap left right)
          → (s : Shape) × (shape_at (rows p) left ≡ Some s) × (right ≡ 0)
      row_at_place (Leaf ids) found =
          let r = ranking_over rows Stands price t goal ceiling p in
          let is_sound = sound rows Stands price t goal ceiling in_plane plane p laws.readable.0 laws.readable.1 in
          let (i, among, same) = from_map leaf_item (shown r h.leaf ids) (item.Rough h.gap left right) found in
          let k = shown_is r h.leaf ids i among in
          let (is_polygon, gaps, lefts, rights) = leaf_is (one_item r h.leaf k.id k.shape) h.gap left right (ap leaf_item k.is ∙ same) in
          (k.shape, ap (shape_at (rows p)) (sym lefts) ∙ is_shape (rows p) is_sound.apart k.id k.shape k.row, sym rights)
      row_at_place (Inner q s u v) found =
          let r = ranking_over rows Stands price t goal ceiling p in
          let (b, among, same) = from_map (ranking.block_item r) (children_of h.leaf) (item.Rough h.gap left right) found in
          absurd (true≢false (ap is_node same))

  abbrev pub AsksRough : DeskState → ℕ → ℕ → Type 0
  AsksRough d left right = IfSome (told_pages d) (λ p. MeetsLaws (m p) × IsRoughListed (m p) left right)

  pub exact_row : (d : DeskState) (left right : ℕ) → AsksRough d left right → (pool : PoolState) → pool ≡ d.pool → (found : Shape)
      → (IsTold pool → (s : Shape) → shape_at (rows pool.pages) left ≡ Some s → found ≡ s) → (gap : Frac) → IsSameGap gap (the_measure goal (figure.Shape found))
      → IfSome (told_pages d) (λ p. HasRow (m p) (record { gap = gap; left = left; right = right }))
  exact_row d left right asks pool same found value gap is =
      by_told d (λ p. HasRow (m p) (record { gap = gap; left = left; right = right })) (λ told.
      let p = d.pool.pages in
      let (laws, listed) = at_told d (λ p. MeetsLaws (m p) × IsRoughListed (m p) left right) asks told in
      let r = ranking_over rows Stands price t goal ceiling p in
      let (s, row, none_right) = rough_row p laws left right listed in
      let is_it : found ≡ s = subst (λ (q : PoolState). IsTold q → (s : Shape) → shape_at (rows q.pages) left ≡ Some s → found ≡ s) same value told s row in
      record {
        row = hit_at r (left, s);
        among = in_map (hit_at r) (rows p) (left, s) (shape_is (rows p) left s row);
        same = (
          subst (λ (f : Shape). IsSameGap (the_measure goal (figure.Shape f)) gap) is_it (same_back gap (the_measure goal (figure.Shape found)) is),
          refl,
          sym none_right,
        );
      })

  fetched_one : (p : PageMap) (d new : DeskState) (left right : ℕ) (gap : Frac) → new.visits ≡ d.visits ++ visit.Geometry left ∷ [] → d.pool.gets ≤ new.pool.gets → new.pool.gets ≤ d.pool.gets + price
      → Noted (visit_of t.number) (m p).price (item.Rough gap left right ∷ []) d new
  fetched_one p d new left right gap log up most = record { log = log; up = up; most = omega arith }

  pub fetch_tried : (d noted new : DeskState) (left right : ℕ) → noted ≡ record d { visits = d.visits ++ visit.Geometry left ∷ [] } → new.visits ≡ noted.visits
      → (pool : PoolState) → pool ≡ noted.pool → pool.gets ≤ new.pool.gets → new.pool.gets ≤ pool.gets + price
      → IfSome (told_pages d) (λ p. (gap : Frac) → Attempts (visit_of t.number) (m p).price (item.Rough gap left right) d new)
  fetch_tried d noted new left right is log pool same up most =
      let gets : pool.gets ≡ d.pool.gets = ap (λ (s : PoolState). s.gets) same ∙ ap (λ (e : DeskState). e.pool.gets) is in
      by_told d (λ p. (gap : Frac) → Attempts (visit_of t.number) (m p).price (item.Rough gap left right) d new) (λ told gap. record {
        tried = item.Rough gap left right ∷ [];
        few = inr refl;
        noted = fetched_one d.pool.pages d new left right gap (log ∙ ap (λ (e : DeskState). e.visits) is) (omega arith) (omega arith);
      })
