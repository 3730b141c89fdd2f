-- What a ranking by an R-tree visits within a reach: nodes whose rectangles lie there, and polygons whose rectangles do.
use Rattle.std.proofs.Common.{◌≡◌, ⊎_elim, ℕ, suc, ◌*◌, Bool, true, List, [], ◌∷◌, ◌++◌, map, length, All, Contains, Option, None, Some, refl, sym, ap, ◌∙◌, subst, arith, Ordering, Equal}
use Rattle.std.specs.Cmp.{nat_cmp_is}
use Rattle.std.proofs.lemmas.List.Elements.{All-contains, All-head, All-tail, Contains-append_left, Contains-append_right, Contains-append_cases}
use Rattle.exact_frac.specs.declared.frac.Frac.{Frac}
use Rattle.sand_base.specs.declared.goal.Goal.TheVariants as figure
use Rattle.sand_base.specs.declared.rect.Rect.{Rect}
use Rattle.sand_base.specs.declared.visit.Visit.{Visit}
use Rattle.sand_base.specs.declared.visit.Visit.TheVariants as visit
use Rattle.page_pool.specs.Disk.{PageMap}
use Rattle.sand_model.specs.Nodes.{rough_figure}
use Rattle.sand_model.specs.Reach.{Reach, Counts}
use Rattle.sand_store.specs.declared.column.FileShapes.{FileShapes}
use Rattle.ring_geom.proofs.Measured.{measured}
use Rattle.best_first.specs.Frontier.{Tracks, IsListed, pending}
use Rattle.best_first.specs.Hierarchy.{Meaning, HasGap, IsNode}
use Rattle.best_first.specs.Item.{gap_of, nodes_of, roughs_of, IsAlike}
use Rattle.best_first.specs.Reach.{IsSameGap, within}
use Rattle.best_first.specs.Visits.{IsVisit}
use Rattle.best_first.specs.declared.item.Item.{Item}
use Rattle.best_first.specs.declared.item.Item.TheVariants.{Node, Rough, Row}
use Rattle.best_first.proofs.Gaps.{same_trans}
use Rattle.best_first.proofs.Pending.{queued_pending, split_node}
use Rattle.best_first.proofs.Trees.{node_among, rough_among}
use Rattle.best_first.specs.RowsAtZero.{zero_gap}
use Rattle.rank_cursor.specs.Answers.{IsTestOf}
use Rattle.rank_cursor.specs.Cursor.{the_measure}
use Rattle.rank_cursor.proofs.RankedRows.{same_measures}
use Rattle.near_cursor.specs.declared.near_tree.NearTree.{NearTree}
use Rattle.near_cursor.specs.NearLaws.{IsLawfulNear, IsBoundGap}
use Rattle.near_cursor.specs.NearRanking.{near_visit}
use Rattle.near_cursor.specs.TreeNodes.{PageNode}
use Rattle.plan_iterator.specs.Rows.{plan_measure}
use Rattle.plan_iterator.proofs.PlanMeasure.{plan_measure_is}
use Rattle.plan_iterator.proofs.CountedVisits.{counts_one}
use Rattle.plan_iterator.specs.Visited.{◌plus◌, count_of, visit_counts, page_bound, IsBoundWithin, IsPolygonWithin}
use Rattle.plan_sources.specs.NearPlans.{rows_under, TableOf, fetch_of, nearing}

-- a visit of the ranking lies within a reach
abbrev pub IsWithin : NearTree FileShapes → PageMap → Reach → Visit → Type 0
IsWithin tree pages to (visit.Tree number page) = IsBoundWithin plan_measure tree.goal to (page_bound pages page)
IsWithin tree pages to (visit.Geometry id) = IsPolygonWithin plan_measure tree.goal (rows_under tree pages) to id
IsWithin tree pages to _ = ⊥

-- of the visits of such a ranking only single geometries are counted
pub visits_counted : (number : ℕ) (items : List (Item PageNode)) → All IsVisit items
    → visit_counts (map (near_visit number) items) ≡ record { blocks = 0; pairs = 0; geometries = length (roughs_of items) }
visits_counted number [] h = refl
visits_counted number (Node g n ∷ items) h =
    ap (λ (c : Counts). count_of (near_visit number (Node g n)) plus c) (visits_counted number items (All-tail IsVisit (Node g n) items h))
    ∙ counts_one (count_of (near_visit number (Node g n)) plus record { blocks = 0; pairs = 0; geometries = length (roughs_of items) })
    (record { blocks = 0; pairs = 0; geometries = length (roughs_of items) }) (omega arith) (omega arith) (omega arith)
visits_counted number (Rough g l s ∷ items) h =
    ap (λ (c : Counts). count_of (near_visit number (Rough g l s)) plus c) (visits_counted number items (All-tail IsVisit (Rough g l s) items h))
    ∙ counts_one (count_of (near_visit number (Rough g l s)) plus record { blocks = 0; pairs = 0; geometries = length (roughs_of items) })
    (record { blocks = 0; pairs = 0; geometries = suc (length (roughs_of items)) }) (omega arith) (omega arith) (omega arith)
visits_counted number (Row g l s ∷ items) h = absurd (All-head IsVisit (Row g l s) items h)

-- a gap of 0 has the value of any other
zero_same : (least : Frac) → least.num ≡ 0 → IsSameGap zero_gap least
zero_same least e = sym (nat_cmp_is (0 * least.den) (least.num * 1) Equal (omega (arith, e)))

module _ (tree : NearTree FileShapes) (pages : PageMap) (lawful : IsLawfulNear (rows_under tree) (TableOf tree) (fetch_of tree) tree.tree tree.goal tree.ceiling pages)
    (to : Reach) (test : Frac → Bool) (tells : IsTestOf to test) where
  abbrev m : Meaning PageNode
  m = nearing tree pages

  -- a node within the reach has its rectangle there
  node_within : (n : PageNode) (g : Frac) → IsNode m n → IsSameGap g (m.gap n) → test g ≡ true → IsBoundWithin plan_measure tree.goal to (page_bound pages n.0)
  node_within n g node same near = go (page_bound pages n.0) (lawful.bounds n node)
    where
      go : (o : Option Rect) → IsBoundGap tree.goal o (m.gap n) → IsBoundWithin plan_measure tree.goal to o
      go None e = λ least zero.
          sym (tells g least (same_trans g zero_gap least (subst (IsSameGap g) e same) (zero_same least zero))) ∙ near
      go (Some r) (plane, e) =
          let alike = same_measures the_measure plan_measure measured.1 plan_measure_is tree.goal (figure.Rect r) tree.plane plane in
          sym (tells g (plan_measure tree.goal (figure.Rect r)) (same_trans g (m.gap n) (plan_measure tree.goal (figure.Rect r)) same
          (subst (λ (f : Frac). IsSameGap f (plan_measure tree.goal (figure.Rect r))) (sym e) alike))) ∙ near

  -- a rough object that a node finds within the reach has its rectangle there
  rough_within : (n : PageNode) → IsNode m n → (other : Item PageNode) → Contains (m.finds n) other → (g : Frac) (l s : ℕ) → IsAlike (Rough g l s) other → test g ≡ true
      → IsPolygonWithin plan_measure tree.goal (rows_under tree pages) to l
  rough_within n node (Node h b) found g l s alike near = absurd alike
  rough_within n node (Rough h k v) found g l s alike near =
      let (polygon, among, rough, gaps) = lawful.polygons plan_measure plan_measure_is n node h k v found in record {
        polygon = polygon;
        among = subst (λ (id : ℕ). Contains (rows_under tree pages) (id, polygon)) (sym alike.1) among;
        rough = rough;
        near = sym (tells g (plan_measure tree.goal (rough_figure polygon)) (same_trans g h (plan_measure tree.goal (rough_figure polygon)) alike.0 gaps)) ∙ near;
      }
  rough_within n node (Row h k v) found g l s alike near = absurd alike

  -- ---- what was taken or is queued

  module _ {cmp : PageNode → PageNode → Ordering} (held done : List (Item PageNode)) (h : Tracks cmp m held done) where
    -- a node that was opened or is queued is one of the tree
    is_of_tree : (g : Frac) (b : PageNode) → Contains (done ++ held) (Node g b) → IsNode m b
    is_of_tree g b at =
        let there : Contains (nodes_of done ++ pending m held) b =
        ⊎_elim (λ i. Contains-append_left (nodes_of done) (pending m held) b (node_among done g b i))
        (λ i.
        Contains-append_right (nodes_of done) (pending m held) b
        (queued_pending m lawful.hierarchy held g b i (All-contains (HasGap m) (done ++ held) (Node g b) h.gaps at)
        (All-contains (λ item. within m.ceiling (gap_of item) ≡ true) (done ++ held) (Node g b) h.inside at)))
        (Contains-append_cases done held (Node g b) at) in
        (split_node m lawful.hierarchy (nodes_of done) (pending m held) h.split b there).0

    -- a rough object comes from a leaf that was opened
    from_leaf : (g : Frac) (l s : ℕ) → Contains (done ++ held) (Rough g l s) → IsListed m done (Rough g l s)
    from_leaf g l s at =
        All-contains (IsListed m done) (roughs_of done ++ roughs_of held) (Rough g l s) h.listed
        (⊎_elim (λ i. Contains-append_left (roughs_of done) (roughs_of held) (Rough g l s) (rough_among done g l s i))
        (λ i. Contains-append_right (roughs_of done) (roughs_of held) (Rough g l s) (rough_among held g l s i)) (Contains-append_cases done held (Rough g l s) at))

    -- what is visited within the reach lies there
    pub lies_within : (number : ℕ) (item : Item PageNode) → IsVisit item → Contains (done ++ held) item → test (gap_of item) ≡ true → IsWithin tree pages to (near_visit number item)
    lies_within number (Node g b) visited at near = node_within b g (is_of_tree g b at) (All-contains (HasGap m) (done ++ held) (Node g b) h.gaps at) near
    lies_within number (Rough g l s) visited at near =
        let from = from_leaf g l s at in
        let node = (split_node m lawful.hierarchy (nodes_of done) (pending m held) h.split from.leaf (Contains-append_left (nodes_of done) (pending m held) from.leaf from.opened)).0 in
        rough_within from.leaf node from.other from.listed g l s from.alike near
    lies_within number (Row g l s) visited at near = absurd visited
