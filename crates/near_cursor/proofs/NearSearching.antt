-- A visit of a node finds what the ranking has there, for one page get; a fetch of a geometry gives the row's gap at its price.
use Rattle.std.proofs.Common.{◌≡◌, ◌⊎◌, inl, inr, ⊎_elim, ℕ, zero, suc, ◌+◌, ◌-◌, ◌*◌, ◌^◌, ◌<◌, ◌≤◌, Bool, true, false, true≢false, List, [], ◌∷◌, ◌++◌, length, map}
use Rattle.std.proofs.Common.{sum_by, Contains, Some, IfSome, Ok, Err, refl, sym, ap, ◌∙◌, subst, arith, append-nil, pow-suc, lit<, mul-le-mul_right}
use Rattle.std.specs.Prelude.{Option, Result, OnOk}
use Rattle.std.proofs.lemmas.List.Sums.{sum_by-cons}
use Rattle.exact_frac.specs.declared.frac.Frac.{Frac}
use Rattle.sand_base.specs.Plane.{IsGoalInClosedPlane}
use Rattle.sand_base.specs.declared.goal.Goal.{Goal}
use Rattle.sand_base.specs.declared.goal.Goal.TheVariants as figure
use Rattle.sand_base.specs.declared.rect.Rect.{Rect}
use Rattle.sand_base.specs.declared.rough.Rough.{Rough}
use Rattle.sand_base.specs.declared.rough.Rough.TheVariants as rough
use Rattle.sand_base.specs.declared.shape.Shape.{Shape}
use Rattle.sand_base.specs.declared.visit.Visit.{Visit}
use Rattle.sand_base.specs.declared.visit.Visit.TheVariants as visit
use Rattle.sand_model.specs.Database.{shape_at}
use Rattle.page_pool.specs.Desk.{DeskState}
use Rattle.page_pool.specs.Disk.{PageMap}
use Rattle.page_pool.specs.Pool.{PoolState, IsTold}
use Rattle.code_btree.specs.Tree.{pages_in}
use Rattle.r_tree.specs.declared.node.TreeNode.{TreeNode}
use Rattle.r_tree.specs.declared.node.TreeNode.TheVariants as of_tree
use Rattle.r_tree.specs.declared.tree.RTree.{RTree}
use Rattle.r_tree.specs.Entry.{Member}
use Rattle.r_tree.specs.Nodes.{ShowsNode, IsTreeNode}
use Rattle.r_tree.specs.Page.{NodeView, node_entries}
use Rattle.r_tree.specs.Page as view
use Rattle.r_tree.specs.Tree.{node_at, entries_at, is_inner}
use Rattle.pmr_tree.specs.Laws.{AreInPlane}
use Rattle.pmr_tree.specs.Quadtree.{store_of}
use Rattle.best_first.specs.Hierarchy.{Meaning, MeetsLaws, IsNode, FindsAlike, HasRow, IsRoughListed}
use Rattle.best_first.specs.Item.{nodes_of}
use Rattle.best_first.specs.Reach.{IsSameGap}
use Rattle.best_first.specs.Steps.{AddsLess}
use Rattle.best_first.specs.Visits.{told_pages, Noted, Attempts}
use Rattle.best_first.specs.declared.item.Item.{Item}
use Rattle.best_first.specs.declared.item.Item.TheVariants as item
use Rattle.best_first.proofs.Alikes.{alike_nodes}
use Rattle.best_first.proofs.Gaps.{same_back}
use Rattle.rank_cursor.specs.Cursor.{the_measure}
use Rattle.rank_cursor.proofs.Elements.{in_map}
use Rattle.rank_cursor.proofs.RankedItems.{is_shape}
use Rattle.rank_cursor.proofs.SearchPages.{by_told, at_told}
use Rattle.near_cursor.specs.TreeNodes.{PageNode, root_node, is_tree_node}
use Rattle.near_cursor.specs.NearRanking.{near_row, member_found, branch_found, entries_found, node_found, near_finds, near_meaning, near_visit, near_weight}
use Rattle.near_cursor.proofs.NearHierarchy.{member_nodes, less_one, at_node, root_is, under_at, finds_at, rough_listed}
use Rattle.near_cursor.proofs.NodeLemmas.{NodeStands, is_node}
use Rattle.near_cursor.proofs.RowLemmas.{member_row, rows_apart, is_rough_item, left_of, right_of}

-- what follows from a fact of an accepted call
pub on_ok : {T E P Q : Type 0} (r : Result T E) → (P → Q) → OnOk r P → OnOk r Q
on_ok (Ok x) f h = f h
on_ok (Err e) f h = tt

-- ---- weights

-- each node weighs something
weight_some : (n : ℕ) → 0 < 127 ^ n
weight_some zero = lit< tt
weight_some (suc n) = let some = weight_some n in let e : 127 ^ suc n ≡ 127 ^ n * 127 = pow-suc 127 n in omega arith

-- children of one height weigh as much each
branch_weights : (goal : Goal) (height : ℕ) (bs : List (Rect × ℕ)) → sum_by near_weight (nodes_of (map (branch_found goal height) bs)) ≡ length bs * 127 ^ height
branch_weights goal height [] = nothing (127 ^ height)
  where
    nothing : (w : ℕ) → 0 ≡ 0 * w
    nothing w = omega arith
branch_weights goal height (b ∷ bs) =
    sum_by-cons near_weight (b.1, height) (nodes_of (map (branch_found goal height) bs))
    ∙ (ap (λ (n : ℕ). 127 ^ height + n) (branch_weights goal height bs) ∙ one_more (length bs) (127 ^ height))
  where
    one_more : (n w : ℕ) → w + n * w ≡ suc n * w
    one_more n w = omega arith

-- 126 of them weigh less than their node
few_weigh_less : (n w x : ℕ) → n ≤ 126 → 0 < w → x ≡ w * 127 → n * w < x
few_weigh_less n w x few some e = let most : n * w ≤ 126 * w = most_of n w few in omega arith
  where
    most_of : (n w : ℕ) → n ≤ 126 → n * w ≤ 126 * w
    most_of n w h = mul-le-mul_right w h

-- the children of an inner node weigh less than it
pub branches_fall : (goal : Goal) (height : ℕ) (parent : PageNode) (bs : List (Rect × ℕ)) → parent.1 ≡ suc height → length bs ≤ 126 → (old new : List (Item PageNode))
    → FindsAlike (map (branch_found goal height) bs) old new → AddsLess near_weight parent old new
branches_fall goal height parent bs high few old new h = record {
  added = h.found;
  adds = h.adds;
  less = subst (λ ns. sum_by near_weight ns < near_weight parent) (sym (alike_nodes h.found (map (branch_found goal height) bs) h.alike))
      (subst (λ (n : ℕ). n < near_weight parent) (sym (branch_weights goal height bs))
      (few_weigh_less (length bs) (127 ^ height) (127 ^ parent.1) few (weight_some height) (ap (λ (n : ℕ). 127 ^ n) high ∙ pow-suc 127 height)));
}

-- a leaf adds no nodes
pub members_fall : (goal : Goal) (parent : PageNode) (is : List Member) (old new : List (Item PageNode))
    → FindsAlike (map (λ (i : Member). member_found goal i.0 i.1) is) old new → AddsLess near_weight parent old new
members_fall goal parent is old new h = record {
  added = h.found;
  adds = h.adds;
  less = subst (λ ns. sum_by near_weight ns < near_weight parent) (sym (alike_nodes h.found (map (λ (i : Member). member_found goal i.0 i.1) is) h.alike ∙ member_nodes goal is))
      (weight_some parent.1);
}

-- ---- a node as it is read

-- the node is an inner one
abbrev inner_view : NodeView → Bool
inner_view (view.node inner es) = inner
inner_view view.no_node = false

-- what is read of a node that stands at a level gives what its entries give there
found_level : (goal : Goal) (v : NodeView) (k : ℕ) → v ≡ view.node (is_inner k) (node_entries v) → (found : TreeNode) → ShowsNode v found
    → node_found goal (suc k) found ≡ entries_found goal k (node_entries v)
found_level goal v zero is (of_tree.Leaf members) h = ap (map (λ (i : Member). member_found goal i.0 i.1)) h.1
found_level goal v zero is (of_tree.Inner branches) h = absurd (true≢false (ap inner_view (sym h.0 ∙ is)))
found_level goal v (suc k) is (of_tree.Leaf members) h = absurd (true≢false (ap inner_view (sym is ∙ h.0)))
found_level goal v (suc k) is (of_tree.Inner branches) h =
    ap (λ (height : ℕ). map (branch_found goal height) branches) (less_one (suc k)) ∙ ap (map (branch_found goal (suc k))) h.1

-- ---- rough items

-- a rough item has the id of its member, and no right id
rough_ids : (goal : Goal) (id : ℕ) (q : Rough) (gap : Frac) (left right : ℕ) → member_found goal id q ≡ item.Rough gap left right → (id ≡ left) × (right ≡ 0)
rough_ids goal id (rough.Point p) gap left right e = absurd (true≢false (sym (ap is_rough_item e)))
rough_ids goal id (rough.Segment s) gap left right e = absurd (true≢false (sym (ap is_rough_item e)))
rough_ids goal id (rough.Bound r) gap left right e = (ap left_of e, sym (ap right_of e))

-- ---- nothing was done

-- no visit was tried
pub not_tried : (note : Item PageNode → Visit) (price : Item PageNode → ℕ) (i : Item PageNode) (old new : DeskState) → new.visits ≡ old.visits → new.pool ≡ old.pool → Attempts note price i old new
not_tried note price i old new log same =
    let gets : new.pool.gets ≡ old.pool.gets = ap (λ (s : PoolState). s.gets) same in
    record { tried = []; few = inl refl; noted = record { log = log ∙ sym (append-nil old.visits); up = omega arith; most = omega arith } }

-- ---- the exits of an expansion and of a fetch

module _ (rows : PageMap → List (ℕ × Shape)) (Stands : PageMap → Type 0) (price : ℕ) (t : RTree) (goal : Goal) (ceiling : Option ℕ)
    (in_plane : (p : PageMap) → Stands p → AreInPlane (rows p)) (reach : IsGoalInClosedPlane goal) where
  -- the ranking over pages
  abbrev m : PageMap → Meaning PageNode
  m p = near_meaning rows Stands price t goal ceiling p

  -- a node of the hierarchy is one of the tree
  node_of_tree : (p : PageMap) → MeetsLaws (m p) → (node : PageNode) → IsNode (m p) node → is_tree_node (store_of p) t node ≡ true
  node_of_tree p laws node at =
      let plane = in_plane p laws.readable.1 in
      let root = is_node (store_of p) t (root_node t) (root_is rows Stands price t goal ceiling reach p laws.readable.0 laws.readable.1 plane) in
      is_node (store_of p) t node
      (subst (λ (xs : List PageNode). Contains xs node) (under_at rows Stands price t goal ceiling reach p laws.readable.0 laws.readable.1 plane (root_node t) root) at)

  -- a tree stands there
  stands_at : (p : PageMap) (laws : MeetsLaws (m p)) (node : PageNode) → IsNode (m p) node → NodeStands (store_of p) (t.height - 1) t.root node
  stands_at p laws node at =
      at_node rows Stands price t goal ceiling reach p laws.readable.0 laws.readable.1 (in_plane p laws.readable.1) node (node_of_tree p laws node at)

  -- what a node finds, by the level at which it stands
  finds_there : (p : PageMap) (laws : MeetsLaws (m p)) (node : PageNode) (at : IsNode (m p) node)
      → near_finds (store_of p) t goal node ≡ entries_found goal (stands_at p laws node at).above (entries_at (store_of p) node.0)
  finds_there p laws node at =
      finds_at rows Stands price t goal ceiling reach p laws.readable.0 laws.readable.1 (in_plane p laws.readable.1) node (node_of_tree p laws node at) (stands_at p laws node at)

  -- what an expansion asks
  abbrev pub Asks : DeskState → PageNode → Frac → Type 0
  Asks d node gap = IfSome (told_pages d) (λ p. MeetsLaws (m p) × IsNode (m p) node × IsSameGap gap ((m p).gap node))

  -- this is so where the pages are told
  asked : (d : DeskState) (node : PageNode) (gap : Frac) → Asks d node gap → IsTold d.pool
      → MeetsLaws (m d.pool.pages) × IsNode (m d.pool.pages) node × IsSameGap gap ((m d.pool.pages).gap node)
  asked d node gap asks told = at_told d (λ p. MeetsLaws (m p) × IsNode (m p) node × IsSameGap gap ((m p).gap node)) asks told

  -- the page is one of the tree's
  pub asked_node : (d : DeskState) (node : PageNode) (gap : Frac) → Asks d node gap → IsTold d.pool → IsTreeNode (pages_in d.pool) t node.0
  asked_node d node gap asks told =
      let (laws, at, near) = asked d node gap asks told in
      record { tree = laws.readable.0.tree; own = (stands_at d.pool.pages laws node at).page }

  -- what the node gives as it is read is what the ranking finds
  found_is : (p : PageMap) (laws : MeetsLaws (m p)) (node : PageNode) → IsNode (m p) node → (found : TreeNode) → ShowsNode (node_at (store_of p) node.0) found
      → node_found goal node.1 found ≡ near_finds (store_of p) t goal node
  found_is p laws node at found shows =
      let f = stands_at p laws node at in
      ap (λ (h : ℕ). node_found goal h found) f.height
      ∙ (found_level goal (node_at (store_of p) node.0) f.above f.stands.0.is found shows ∙ sym (finds_there p laws node at))

  -- so an accepted expansion finds it
  pub found_ok : (d : DeskState) (node : PageNode) (gap : Frac) → Asks d node gap → (found : TreeNode) → (IsTold d.pool → ShowsNode (node_at (pages_in d.pool) node.0) found)
      → (old new : List (Item PageNode)) → FindsAlike (node_found goal node.1 found) old new → IfSome (told_pages d) (λ p. FindsAlike ((m p).finds node) old new)
  found_ok d node gap asks found shows old new h =
      by_told d (λ p. FindsAlike ((m p).finds node) old new) (λ told.
      let (laws, at, near) = asked d node gap asks told in
      subst (λ (xs : List (Item PageNode)). FindsAlike xs old new) (found_is d.pool.pages laws node at found (shows told)) h)

  -- ---- visits

  -- a visit was noted, for one page get
  noted_one : (p : PageMap) (node : PageNode) (gap : Frac) (old new : DeskState) → new.visits ≡ old.visits ++ visit.Tree t.number node.0 ∷ [] → old.pool.gets ≤ new.pool.gets
      → new.pool.gets ≤ old.pool.gets + 1 → Noted (near_visit t.number) (m p).price (item.Node gap node ∷ []) old new
  noted_one p node gap old new log up most = record { log = log; up = up; most = omega arith }

  -- so an accepted expansion has noted its visit
  pub visits_ok : (d new : DeskState) (node : PageNode) (gap : Frac) → new.visits ≡ d.visits ++ visit.Tree t.number node.0 ∷ [] → d.pool.gets ≤ new.pool.gets
      → new.pool.gets ≤ d.pool.gets + 1 → IfSome (told_pages d) (λ p. Noted (near_visit t.number) (m p).price (item.Node gap node ∷ []) d new)
  visits_ok d new node gap log up most =
      by_told d (λ p. Noted (near_visit t.number) (m p).price (item.Node gap node ∷ []) d new) (λ told. noted_one d.pool.pages node gap d new log up most)

  -- and a refused one has tried it
  pub visits_tried : (d new : DeskState) (node : PageNode) (gap : Frac) → new.visits ≡ d.visits ++ visit.Tree t.number node.0 ∷ [] → d.pool.gets ≤ new.pool.gets
      → new.pool.gets ≤ d.pool.gets + 1 → IfSome (told_pages d) (λ p. Attempts (near_visit t.number) (m p).price (item.Node gap node) d new)
  visits_tried d new node gap log up most =
      by_told d (λ p. Attempts (near_visit t.number) (m p).price (item.Node gap node) d new) (λ told. record {
        tried = item.Node gap node ∷ [];
        few = inr refl;
        noted = noted_one d.pool.pages node gap d new log up most;
      })

  -- a visit that was refused was tried, or not even that
  pub visits_refused : (d new : DeskState) (node : PageNode) (gap : Frac)
      → (new.visits ≡ d.visits ++ visit.Tree t.number node.0 ∷ []) ⊎ ((new.visits ≡ d.visits) × (new.pool ≡ d.pool)) → d.pool.gets ≤ new.pool.gets
      → new.pool.gets ≤ d.pool.gets + 1 → IfSome (told_pages d) (λ p. Attempts (near_visit t.number) (m p).price (item.Node gap node) d new)
  visits_refused d new node gap noted up most =
      ⊎_elim (λ log. visits_tried d new node gap log up most)
      (λ h. by_told d (λ p. Attempts (near_visit t.number) (m p).price (item.Node gap node) d new)
      (λ told. not_tried (near_visit t.number) (m d.pool.pages).price (item.Node gap node) d new h.0 h.1)) noted

  -- ---- a fetch

  -- a rough object that is listed is a row
  rough_row : (p : PageMap) (laws : MeetsLaws (m p)) (left right : ℕ) → IsRoughListed (m p) left right → (row : ℕ × Shape) × Contains (rows p) row × (row.0 ≡ left) × (right ≡ 0)
  rough_row p laws left right h =
      let (i, among, gives) = rough_listed rows Stands price t goal ceiling reach p laws.readable.0 laws.readable.1 (in_plane p laws.readable.1) h.leaf
      (node_of_tree p laws h.leaf h.node) h.gap left right h.listed in
      let (ids, none_right) = rough_ids goal i.0 i.1 h.gap left right gives in
      let (row, there_is, is) = member_row p t (rows p) laws.readable.0 i among in
      (row, there_is, ap (λ (x : ℕ × Goal). x.0) is ∙ ids, none_right)

  -- what a fetch asks
  abbrev pub AsksRough : DeskState → ℕ → ℕ → Type 0
  AsksRough d left right = IfSome (told_pages d) (λ p. MeetsLaws (m p) × IsRoughListed (m p) left right)

  -- the gap of the shape that was read is that of the row
  pub exact_row : (d : DeskState) (left right : ℕ) → AsksRough d left right → (pool : PoolState) → pool ≡ d.pool → (found : Shape)
      → (IsTold pool → (s : Shape) → shape_at (rows pool.pages) left ≡ Some s → found ≡ s) → (gap : Frac) → IsSameGap gap (the_measure goal (figure.Shape found))
      → IfSome (told_pages d) (λ p. HasRow (m p) (record { gap = gap; left = left; right = right }))
  exact_row d left right asks pool same found value gap is =
      by_told d (λ p. HasRow (m p) (record { gap = gap; left = left; right = right })) (λ told.
      let p = d.pool.pages in
      let (laws, listed) = at_told d (λ p. MeetsLaws (m p) × IsRoughListed (m p) left right) asks told in
      let (row, among, ids, none_right) = rough_row p laws left right listed in
      let s = row.1 in
      let there_is : Contains (rows p) (left, s) = subst (λ (id : ℕ). Contains (rows p) (id, s)) ids among in
      let shape = is_shape (rows p) (rows_apart p t (rows p) laws.readable.0) left s there_is in
      let is_it : found ≡ s = subst (λ (q : PoolState). IsTold q → (s : Shape) → shape_at (rows q.pages) left ≡ Some s → found ≡ s) same value told s shape in
      record {
        row = near_row goal (left, s);
        among = in_map (near_row goal) (rows p) (left, s) there_is;
        same = (
          subst (λ (f : Shape). IsSameGap (the_measure goal (figure.Shape f)) gap) is_it (same_back gap (the_measure goal (figure.Shape found)) is),
          refl,
          sym none_right,
        );
      })

  -- a visit of a geometry was noted, at its price
  fetched_one : (p : PageMap) (d new : DeskState) (left right : ℕ) (gap : Frac) → new.visits ≡ d.visits ++ visit.Geometry left ∷ [] → d.pool.gets ≤ new.pool.gets → new.pool.gets ≤ d.pool.gets + price
      → Noted (near_visit t.number) (m p).price (item.Rough gap left right ∷ []) d new
  fetched_one p d new left right gap log up most = record { log = log; up = up; most = omega arith }

  -- so a refused fetch has tried its visit
  pub fetch_tried : (d noted new : DeskState) (left right : ℕ) → noted ≡ record d { visits = d.visits ++ visit.Geometry left ∷ [] } → new.visits ≡ noted.visits
      → (pool : PoolState) → pool ≡ noted.pool → pool.gets ≤ new.pool.gets → new.pool.gets ≤ pool.gets + price
      → IfSome (told_pages d) (λ p. (gap : Frac) → Attempts (near_visit t.number) (m p).price (item.Rough gap left right) d new)
  fetch_tried d noted new left right is log pool same up most =
      let gets : pool.gets ≡ d.pool.gets = ap (λ (s : PoolState). s.gets) same ∙ ap (λ (e : DeskState). e.pool.gets) is in
      by_told d (λ p. (gap : Frac) → Attempts (near_visit t.number) (m p).price (item.Rough gap left right) d new) (λ told gap. record {
        tried = item.Rough gap left right ∷ [];
        few = inr refl;
        noted = fetched_one d.pool.pages d new left right gap (log ∙ ap (λ (e : DeskState). e.visits) is) (omega arith) (omega arith);
      })
