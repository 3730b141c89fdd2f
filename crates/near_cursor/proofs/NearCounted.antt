-- A search over a ranking by an R-tree fetches as many geometries as the model counts: one for each polygon whose rectangle lies within the reach.
use Rattle.std.proofs.Common.{◌≡◌, ◌≢◌, ℕ, suc, zero, ◌-◌, ◌≤◌, Bool, true, false, cond, ◌&&◌, true≢false, List, [], ◌∷◌, length, filter, flat_map, Contains, refl, sym}
use Rattle.std.proofs.Common.{ap, ◌∙◌, subst, arith, le_antisymm, Ordering, Equal}
use Rattle.std.specs.Prelude.{Option}
use Rattle.std.specs.Cmp.{IsTotalOrder, tied_back}
use Rattle.std.proofs.lemmas.List.Elements.{All-contains}
use Rattle.exact_frac.specs.declared.frac.Frac.{Frac}
use Rattle.sand_base.specs.Plane.{IsGoalInClosedPlane, IsShapeInClosedPlane}
use Rattle.sand_base.specs.declared.goal.Goal.{Goal}
use Rattle.sand_base.specs.declared.goal.Goal.TheVariants as figure
use Rattle.sand_base.specs.declared.rect.Rect.{Rect}
use Rattle.sand_base.specs.declared.rough.Rough.{Rough}
use Rattle.sand_base.specs.declared.rough.Rough.TheVariants as rough
use Rattle.sand_base.specs.declared.shape.Shape.{Shape}
use Rattle.sand_base.specs.declared.shape.Shape.TheVariants as shape
use Rattle.sand_model.specs.Measure.{Measure, IsMeasure}
use Rattle.sand_model.specs.Nodes.{is_rough, rough_figure}
use Rattle.sand_model.specs.Reach.{Reach, Nothing, reaches, polygons_within}
use Rattle.sand_model.specs.Roughs.{row_figure}
use Rattle.ring_geom.proofs.Measured.{measured}
use Rattle.ring_geom.proofs.RoughLemmas.{rough_in_closed_plane}
use Rattle.page_pool.specs.Disk.{PageMap}
use Rattle.code_btree.specs.Tree.{Store}
use Rattle.r_tree.specs.declared.tree.RTree.{RTree}
use Rattle.r_tree.specs.Entry.{Member, members_of}
use Rattle.r_tree.specs.Tree.{entries_at}
use Rattle.pmr_tree.specs.Entries.{figure_of}
use Rattle.pmr_tree.specs.Laws.{AreInPlane}
use Rattle.pmr_tree.specs.Quadtree.{store_of}
use Rattle.best_first.specs.Frontier.{IsOnce, HasAlike}
use Rattle.best_first.specs.Hierarchy as tree_of
use Rattle.best_first.specs.Hierarchy.{Meaning}
use Rattle.best_first.specs.Item.{gap_of, roughs_of, IsAlike}
use Rattle.best_first.specs.Order.{item_cmp, item_total}
use Rattle.best_first.specs.Reach.{IsSameGap}
use Rattle.best_first.specs.Visits.{Reached}
use Rattle.best_first.specs.declared.item.Item.{Item}
use Rattle.best_first.specs.declared.item.Item.TheVariants.{Node, Row}
use Rattle.best_first.specs.declared.item.Item.TheVariants as item
use Rattle.best_first.proofs.Alikes.{alike_cmp}
use Rattle.best_first.proofs.Bags.{All-by, filter_none, in_filter, from_filter, in_flat_map, from_flat_map}
use Rattle.best_first.proofs.Gaps.{same_back, same_trans}
use Rattle.best_first.proofs.Ranks.{alike_gap, alike_rough}
use Rattle.best_first.proofs.Trees.{rough_item, rough_among}
use Rattle.rank_cursor.specs.Answers.{IsTestOf}
use Rattle.rank_cursor.specs.Cursor.{the_measure, goal_gap}
use Rattle.rank_cursor.specs.Ranking.{HaveOwnIds}
use Rattle.rank_cursor.proofs.Elements.{in_map}
use Rattle.rank_cursor.proofs.Pigeons.{HaveOwn, no_more}
use Rattle.rank_cursor.proofs.Places.{both_true, true_both}
use Rattle.rank_cursor.proofs.RankedRows.{same_measures}
use Rattle.near_cursor.specs.TreeNodes.{PageNode, root_node, nodes_under}
use Rattle.near_cursor.specs.NearLaws.{FindsPolygons}
use Rattle.r_tree.specs.Listing.{ListsRows}
use Rattle.near_cursor.specs.NearRanking.{member_found, near_meaning}
use Rattle.near_cursor.proofs.NearHierarchy.{root_is, under_at, finds_level, rough_listed}
use Rattle.near_cursor.proofs.NodeLemmas.{leaf_of, is_node}
use Rattle.near_cursor.proofs.RowLemmas.{is_rect, member_row, row_member, rows_apart, row_closed, is_rough_item, left_of, right_of}

-- ---- polygons

-- a shape whose rough shape is a rectangle is a polygon, and a polygon has one
polygon_of : (s : Shape) (r : Rect) → rough_figure s ≡ figure.Rect r → is_rough s ≡ true
polygon_of (shape.Point p) r e = absurd (true≢false (sym (ap is_rect e)))
polygon_of (shape.Segment d) r e = absurd (true≢false (sym (ap is_rect e)))
polygon_of (shape.Polygon ring) r e = refl

-- the rough shape of a polygon in the closed square is a rectangle
polygon_rect : (s : Shape) → IsShapeInClosedPlane s → is_rough s ≡ true → is_rect (rough_figure s) ≡ true
polygon_rect (shape.Point p) h e = absurd (true≢false (sym e))
polygon_rect (shape.Segment d) h e = absurd (true≢false (sym e))
polygon_rect (shape.Polygon []) h e = absurd (no_corner h.fewest)
  where
    no_corner : 3 ≤ 0 → ⊥
    no_corner h = absurd (omega arith)
polygon_rect (shape.Polygon (p ∷ ps)) h e = refl

-- the member of a polygon is rough
member_is_rough : (goal : Goal) (id : ℕ) (q : Rough) (s : Shape) → IsShapeInClosedPlane s → is_rough s ≡ true → figure_of q ≡ rough_figure s
    → member_found goal id q ≡ item.Rough (goal_gap goal (rough_figure s)) id 0
member_is_rough goal id (rough.Point p) s h k e = absurd (true≢false (sym (ap is_rect e ∙ polygon_rect s h k)))
member_is_rough goal id (rough.Segment d) s h k e = absurd (true≢false (sym (ap is_rect e ∙ polygon_rect s h k)))
member_is_rough goal id (rough.Bound r) s h k e = ap (λ (f : Goal). item.Rough (goal_gap goal f) id 0) e

-- nothing lies within the reach nothing
none_reached : (k : Bool) → (k && false) ≡ false
none_reached true = refl
none_reached false = refl

-- so no polygon lies within it
pub nothing_within : (gap : Measure) (goal : Goal) (rows : List (ℕ × Shape)) → polygons_within gap goal rows Nothing ≡ []
nothing_within gap goal rows =
    filter_none (λ (row : ℕ × Shape). is_rough row.1 && reaches Nothing (gap goal (rough_figure row.1))) rows
    (All-by (λ (row : ℕ × Shape). (is_rough row.1 && reaches Nothing (gap goal (rough_figure row.1))) ≡ false) rows (λ row at. none_reached (is_rough row.1)))

-- what is left of a list has counterparts of its own where the list has
filter_own : {X Y : Type 0} (R : X → Y → Type 0) (p : X → Bool) (xs : List X) → HaveOwn R xs → HaveOwn R (filter p xs)
filter_own R p [] own = tt
filter_own {X} {Y} R p (x ∷ xs) own = step (filter_own R p xs own.1) (p x)
  where
    step : HaveOwn R (filter p xs) → (b : Bool) → HaveOwn R (cond b (x ∷ filter p xs) (filter p xs))
    step rest true = (λ other at y h k. own.0 other (from_filter p xs other at).0 y h k, rest)
    step rest false = rest

-- ---- objects and rows

module _ (rows : PageMap → List (ℕ × Shape)) (Stands : PageMap → Type 0) (price : ℕ) (t : RTree) (goal : Goal) (ceiling : Option ℕ)
    (reach : IsGoalInClosedPlane goal) (pages : PageMap) (fits : ListsRows pages t (rows pages)) (stands : Stands pages) (plane : AreInPlane (rows pages))
    (gap : Measure) (is : IsMeasure gap) (to : Reach) (test : Frac → Bool) (tells : IsTestOf to test) where
  -- the pages as trees see them
  abbrev m : Store
  m = store_of pages

  -- the ranking
  abbrev meaning : Meaning PageNode
  meaning = near_meaning rows Stands price t goal ceiling pages

  -- the row counts at this reach
  abbrev counted : ℕ × Shape → Bool
  counted row = is_rough row.1 && reaches to (gap goal (rough_figure row.1))

  -- the rows that count
  abbrev polygons : List (ℕ × Shape)
  polygons = polygons_within gap goal (rows pages) to

  -- a rough item and the row of its polygon
  abbrev IsOf : Item PageNode → ℕ × Shape → Type 0
  IsOf (Node g n) row = ⊥
  IsOf (item.Rough g l s) row = IsSameGap g (gap goal (rough_figure row.1)) × (l ≡ row.0) × (s ≡ 0)
  IsOf (Row g l s) row = ⊥

  -- the gap of a rough shape has one value by both measures
  rough_gap : (row : ℕ × Shape) → Contains (rows pages) row → IsSameGap (goal_gap goal (rough_figure row.1)) (gap goal (rough_figure row.1))
  rough_gap row at =
      same_measures the_measure gap measured.1 is goal (rough_figure row.1) reach (rough_in_closed_plane row.1 (row_closed (rows pages) row plane at))

  -- a member that is rough is of a polygon's row
  member_of_row : (id : ℕ) (q : Rough) (row : ℕ × Shape) → Contains (rows pages) row → row_figure row ≡ (id, figure_of q) → (g : Frac) (l s : ℕ) → member_found goal id q ≡ item.Rough g l s
      → (is_rough row.1 ≡ true) × IsOf (item.Rough g l s) row
  member_of_row id (rough.Point p) row at e g l s h = absurd (true≢false (sym (ap is_rough_item h)))
  member_of_row id (rough.Segment d) row at e g l s h = absurd (true≢false (sym (ap is_rough_item h)))
  member_of_row id (rough.Bound r) row at e g l s h =
      let fig : rough_figure row.1 ≡ figure.Rect r = ap (λ (x : ℕ × Goal). x.1) e in (
        polygon_of row.1 r fig,
        (
          subst (λ (f : Frac). IsSameGap f (gap goal (rough_figure row.1))) (ap gap_of h)
              (subst (λ (x : Goal). IsSameGap (goal_gap goal x) (gap goal (rough_figure row.1))) fig (rough_gap row at)),
          sym (ap left_of h) ∙ sym (ap (λ (x : ℕ × Goal). x.0) e),
          sym (ap right_of h),
        ),
      )

  -- the nodes of the hierarchy are those of the tree
  under_root : meaning.under meaning.root ≡ nodes_under m (t.height - 1) t.root
  under_root =
      under_at rows Stands price t goal ceiling reach pages fits stands plane (root_node t)
      (is_node m t (root_node t) (root_is rows Stands price t goal ceiling reach pages fits stands plane))

  -- a rough item within the reach is of a polygon within it
  row_of : (x : Item PageNode) → Contains (tree_of.listed_roughs_within meaning test) x → (row : ℕ × Shape) × Contains polygons row × IsOf x row
  row_of x h =
      let (listed, near) = from_filter (λ i. test (gap_of i)) (flat_map (λ n. roughs_of (meaning.finds n)) (meaning.under meaning.root)) x h in
      let (n, below, among) = from_flat_map (λ n. roughs_of (meaning.finds n)) (meaning.under meaning.root) x listed in
      let (found, parts) = rough_item (meaning.finds n) x among in
      let (g, l, s, same) = parts in
      let in_tree = is_node m t n (subst (λ (ns : List PageNode). Contains ns n) under_root below) in
      let (i, in_members, gives) = rough_listed rows Stands price t goal ceiling reach pages fits stands plane n in_tree g l s (subst (Contains (meaning.finds n)) same found) in
      let (row, at, e) = member_row pages t (rows pages) fits i in_members in
      let (polygon, of_row) = member_of_row i.0 i.1 row at e g l s gives in
      let inside : reaches to (gap goal (rough_figure row.1)) ≡ true = sym (tells g (gap goal (rough_figure row.1)) of_row.0) ∙ (ap (λ (y : Item PageNode). test (gap_of y)) (sym same) ∙ near) in (
        row,
        in_filter counted (rows pages) row at (true_both (is_rough row.1) (reaches to (gap goal (rough_figure row.1))) polygon inside),
        subst (λ (y : Item PageNode). IsOf y row) (sym same) of_row,
      )

  -- a rough item that a node finds is of a polygon
  pub polygon_found : FindsPolygons meaning gap goal (rows pages)
  polygon_found n node g l s found =
      let in_tree = is_node m t n (subst (λ (ns : List PageNode). Contains ns n) under_root node) in
      let (i, in_members, gives) = rough_listed rows Stands price t goal ceiling reach pages fits stands plane n in_tree g l s found in
      let (row, at, e) = member_row pages t (rows pages) fits i in_members in
      let (polygon, of_row) = member_of_row i.0 i.1 row at e g l s gives in
      (row.1, subst (λ (id : ℕ). Contains (rows pages) (id, row.1)) (sym of_row.1) at, polygon, of_row.0)

  -- and a polygon within the reach has a rough item
  item_of : (row : ℕ × Shape) → Contains polygons row → (x : Item PageNode) × Contains (tree_of.listed_roughs_within meaning test) x × IsOf x row
  item_of row h =
      let (at, passes) = from_filter counted (rows pages) row h in
      let (polygon, inside) = both_true (is_rough row.1) (reaches to (gap goal (rough_figure row.1))) passes in
      let (i, among, e) = row_member pages t (rows pages) fits row at in
      let (leaf, spot, listed) = leaf_of m (t.height - 1) t.root i among in
      let g = goal_gap goal (rough_figure row.1) in
      let gives : member_found goal i.0 i.1 ≡ item.Rough g row.0 0 =
      ap (λ (id : ℕ). member_found goal id i.1) (ap (λ (x : ℕ × Goal). x.0) e)
      ∙ member_is_rough goal row.0 i.1 row.1 (row_closed (rows pages) row plane at) polygon (ap (λ (x : ℕ × Goal). x.1) e) in
      let finds : Contains (meaning.finds (leaf, suc zero)) (item.Rough g row.0 0) =
      subst (Contains (meaning.finds (leaf, suc zero))) gives
      (subst (λ (xs : List (Item PageNode)). Contains xs (member_found goal i.0 i.1)) (sym (finds_level rows Stands price t goal ceiling reach pages fits stands plane leaf zero spot))
      (in_map (λ (y : Member). member_found goal y.0 y.1) (members_of (entries_at m leaf)) i listed)) in (
        item.Rough g row.0 0,
        in_filter (λ x. test (gap_of x)) (flat_map (λ n. roughs_of (meaning.finds n)) (meaning.under meaning.root)) (item.Rough g row.0 0)
            (in_flat_map (λ n. roughs_of (meaning.finds n)) (meaning.under meaning.root) (leaf, suc zero) (item.Rough g row.0 0)
            (subst (λ (ns : List PageNode). Contains ns (leaf, suc zero)) (sym under_root) spot) (rough_among (meaning.finds (leaf, suc zero)) g row.0 0 finds))
            (tells g (gap goal (rough_figure row.1)) (rough_gap row at) ∙ inside),
        (rough_gap row at, refl, refl),
      )

  -- ---- each once

  -- two items of one row are alike
  two_alike : (x y : Item PageNode) (row : ℕ × Shape) → IsOf x row → IsOf y row → IsAlike x y
  two_alike (Node g n) y row h k = absurd h
  two_alike (item.Rough g l s) (Node i n) row h k = absurd k
  two_alike (item.Rough g l s) (item.Rough i j u) row h k =
      (same_trans g (gap goal (rough_figure row.1)) i h.0 (same_back i (gap goal (rough_figure row.1)) k.0), h.1 ∙ sym k.1, h.2 ∙ sym k.2)
  two_alike (item.Rough g l s) (Row i j u) row h k = absurd k
  two_alike (Row g l s) y row h k = absurd h

  -- two rows of one item have one id
  one_id : (x : Item PageNode) (row other : ℕ × Shape) → IsOf x row → IsOf x other → row.0 ≡ other.0
  one_id (Node g n) row other h k = absurd h
  one_id (item.Rough g l s) row other h k = sym h.1 ∙ k.1
  one_id (Row g l s) row other h k = absurd h

  -- rows of their own ids have items of their own
  rows_own : (list : List (ℕ × Shape)) → HaveOwnIds list → HaveOwn (λ (row : ℕ × Shape) (x : Item PageNode). IsOf x row) list
  rows_own [] own = tt
  rows_own (row ∷ list) own = (
    λ other at x h k. absurd (All-contains (λ (other : ℕ × Shape). row.0 ≢ other.0) list other own.0 at (one_id x row other h k)),
    rows_own list own.1,
  )

  -- items each of which stands once have rows of their own
  once_own : {cmp : PageNode → PageNode → Ordering} → IsTotalOrder cmp → (xs : List (Item PageNode)) → IsOnce cmp xs → HaveOwn IsOf xs
  once_own o [] once = tt
  once_own {cmp} o (x ∷ xs) once = (
    λ other at row h k. absurd (All-contains (λ other. item_cmp cmp x other ≡ Equal → ⊥) xs other once.0 at (alike_cmp o x other (two_alike x other row h k))),
    once_own o xs once.1,
  )

  -- ---- counts

  module _ {cmp : PageNode → PageNode → Ordering} (o : IsTotalOrder cmp) (done : List (Item PageNode)) (reached : Reached cmp meaning test done) where
    -- what is one with an item of a row is of that row too
    alike_of : (x y : Item PageNode) (row : ℕ × Shape) → item_cmp cmp x y ≡ Equal → IsOf x row → IsOf y row
    alike_of (Node g n) y row e h = absurd h
    alike_of (item.Rough g l s) y row e h =
        let (i, same) = alike_rough cmp g l s y e in
        let near : IsSameGap g i = subst (λ (z : Item PageNode). IsSameGap g (gap_of z)) same (alike_gap cmp (item.Rough g l s) y e) in
        subst (λ (z : Item PageNode). IsOf z row) (sym same) (same_trans i g (gap goal (rough_figure row.1)) (same_back g i near) h.0, h.1, h.2)
    alike_of (Row g l s) y row e h = absurd h

    -- what was taken is of a polygon that counts
    taken_row : (x : Item PageNode) → Contains (roughs_of done) x → (row : ℕ × Shape) × Contains polygons row × IsOf x row
    taken_row x at =
        let alike = All-contains (HasAlike cmp (tree_of.listed_roughs_within meaning test)) (roughs_of done) x reached.roughs at in
        let (row, among, of_row) = row_of alike.other alike.listed in
        (row, among, alike_of alike.other x row (tied_back (item_total o) x alike.other alike.alike) of_row)

    -- and for each polygon that counts something was taken
    row_taken : (row : ℕ × Shape) → Contains polygons row → (x : Item PageNode) × Contains (roughs_of done) x × IsOf x row
    row_taken row at =
        let (x, among, of_row) = item_of row at in
        let alike = All-contains (HasAlike cmp (roughs_of done)) (tree_of.listed_roughs_within meaning test) x reached.all_roughs among in
        (alike.other, alike.listed, alike_of x alike.other row alike.alike of_row)

    -- so as many were taken as count
    pub polygons_counted : length (roughs_of done) ≡ length polygons
    polygons_counted =
        le_antisymm
        (no_more IsOf (roughs_of done) polygons (once_own o (roughs_of done) reached.once) taken_row)
        (no_more (λ (row : ℕ × Shape) (x : Item PageNode). IsOf x row) polygons (roughs_of done)
        (filter_own (λ (row : ℕ × Shape) (x : Item PageNode). IsOf x row) counted (rows pages) (rows_own (rows pages) (rows_apart pages t (rows pages) fits))) row_taken)
