-- A ranking by an R-tree that lists its rows meets the laws of a hierarchy.
use Rattle.std.proofs.Common.{◌≡◌, ℕ, zero, suc, ◌-◌, ◌≤◌, Bool, true, false, true≢false, cond, List, [], ◌∷◌, ◌++◌, map, flat_map, All, Contains, refl, sym, ap, ap₂, ◌∙◌, subst, arith}
use Rattle.std.specs.Prelude.{Option}
use Rattle.std.proofs.lemmas.List.Elements.{All-nil}
use Rattle.exact_frac.specs.declared.frac.Frac.{Frac}
use Rattle.sand_base.specs.Plane.{IsGoalInClosedPlane}
use Rattle.sand_base.specs.declared.goal.Goal.{Goal}
use Rattle.sand_base.specs.declared.goal.Goal.TheVariants as figure
use Rattle.sand_base.specs.declared.rect.Rect.{Rect}
use Rattle.sand_base.specs.declared.rough.Rough.{Rough}
use Rattle.sand_base.specs.declared.rough.Rough.TheVariants as rough
use Rattle.sand_base.specs.declared.shape.Shape.{Shape}
use Rattle.sand_base.specs.declared.shape.Shape.TheVariants as shape
use Rattle.sand_model.specs.Roughs.{row_figure}
use Rattle.page_pool.specs.Disk.{PageMap}
use Rattle.code_btree.specs.Tree.{Store, times}
use Rattle.r_tree.specs.declared.entry.NodeEntry.{NodeEntry}
use Rattle.r_tree.specs.declared.tree.RTree.{RTree}
use Rattle.r_tree.specs.Entry.{Member, box_of, member_of, members_of}
use Rattle.r_tree.specs.Nodes.{branches_of}
use Rattle.r_tree.specs.Tree.{entries_at, members_under, NodeStandsAt, IsRootAt, tree_members}
use Rattle.pmr_tree.specs.Entries.{figure_of}
use Rattle.pmr_tree.specs.Laws.{AreInPlane}
use Rattle.pmr_tree.specs.Quadtree.{store_of}
use Rattle.best_first.specs.Hierarchy.{Meaning, MeetsLaws, HasGap, IsHonest, IsListedUnder, Shows}
use Rattle.best_first.specs.Item.{gap_of, nodes_of}
use Rattle.best_first.specs.Reach.{IsSameGap, IsAtMost}
use Rattle.best_first.specs.declared.hit.Hit.{Hit}
use Rattle.best_first.specs.declared.item.Item.{Item}
use Rattle.best_first.specs.declared.item.Item.TheVariants as item
use Rattle.best_first.proofs.Bags.{here, there, All-by}
use Rattle.best_first.proofs.Gaps.{same_itself}
use Rattle.rank_cursor.specs.Cursor.{goal_gap}
use Rattle.rank_cursor.proofs.Elements.{in_map, from_map}
use Rattle.rank_cursor.proofs.RankingLaws.{rank_laws}
use Rattle.near_cursor.specs.TreeNodes.{PageNode, nodes_below, nodes_under, root_node, tree_nodes, is_tree_node, node_bound}
use Rattle.near_cursor.specs.NearLaws.{HasPagesOnce}
use Rattle.r_tree.specs.Listing.{ListsRows}
use Rattle.near_cursor.specs.NearRanking.{near_row, bound_gap, member_found, branch_found, entries_found, near_finds, near_under, near_meaning}
use Rattle.near_cursor.proofs.InPlane.{box_in_plane, entries_in_plane, bound_gap_is, node_no_farther}
use Rattle.near_cursor.proofs.NodeLemmas.{nodes_once, NodeStands, node_stands, child_node, leaf_of, is_node, node_is, node_bound_is, child_leads}
use Rattle.near_cursor.proofs.RowLemmas.{is_rough_item, member_row, row_member, rows_apart, member_closed, show_row, exact_gap, row_closed, flat_ranking, flat_sound}

-- ---- items by their kind

-- the item of a member has the gap of its rough shape
member_gap : (goal : Goal) (id : ℕ) (q : Rough) → gap_of (member_found goal id q) ≡ goal_gap goal (figure_of q)
member_gap goal id (rough.Point p) = refl
member_gap goal id (rough.Segment s) = refl
member_gap goal id (rough.Bound r) = refl

-- members give no nodes
pub member_nodes : (goal : Goal) (is : List Member) → nodes_of (map (λ (i : Member). member_found goal i.0 i.1) is) ≡ []
member_nodes goal [] = refl
member_nodes goal ((id, rough.Point p) ∷ is) = member_nodes goal is
member_nodes goal ((id, rough.Segment s) ∷ is) = member_nodes goal is
member_nodes goal ((id, rough.Bound r) ∷ is) = member_nodes goal is

-- one less than the next number is the number
pub less_one : (j : ℕ) → suc j - 1 ≡ j
less_one j = omega arith

-- ---- the laws

module _ (rows : PageMap → List (ℕ × Shape)) (Stands : PageMap → Type 0) (price : ℕ) (t : RTree) (goal : Goal) (ceiling : Option ℕ)
    (reach : IsGoalInClosedPlane goal) (pages : PageMap) (fits : ListsRows pages t (rows pages)) (stands : Stands pages) (plane : AreInPlane (rows pages)) where
  -- the pages as trees see them
  abbrev m : Store
  m = store_of pages

  -- the ranking
  abbrev meaning : Meaning PageNode
  meaning = near_meaning rows Stands price t goal ceiling pages

  -- what the tree lists
  abbrev members : List Member
  members = tree_members m t

  -- the tree at its root
  root : IsRootAt m (t.height - 1) t.root t.bound
  root = fits.tree.at

  -- at a node of the tree stands a tree
  pub at_node : (node : PageNode) → is_tree_node m t node ≡ true → NodeStands m (t.height - 1) t.root node
  at_node node h = node_stands m (t.height - 1) t.root node root.stands (node_is m t node h)

  -- the root is a node of the tree
  pub root_is : Contains (tree_nodes m t) (root_node t)
  root_is =
      let high : suc (t.height - 1) ≡ t.height = whole t.height fits.tree.tall in
      subst (λ (h : ℕ). Contains (tree_nodes m t) (t.root, h)) high (here (t.root, suc (t.height - 1)) (nodes_below m (t.height - 1) (entries_at m t.root)))
    where
      whole : (h : ℕ) → 1 ≤ h → suc (h - 1) ≡ h
      whole h k = omega arith

  -- what stands below a node of the tree
  pub under_at : (node : PageNode) → is_tree_node m t node ≡ true → near_under m t node ≡ nodes_under m (node.1 - 1) node.0
  under_at node h = ap (λ (b : Bool). cond b (nodes_under m (node.1 - 1) node.0) (node ∷ [])) h

  -- the same, by the level of the node
  under_level : (n k : ℕ) → Contains (tree_nodes m t) (n, suc k) → near_under m t (n, suc k) ≡ nodes_under m k n
  under_level n k at = under_at (n, suc k) (is_node m t (n, suc k) at) ∙ ap (λ (l : ℕ). nodes_under m l n) (less_one k)

  -- the same of what it finds
  pub finds_level : (n k : ℕ) → Contains (tree_nodes m t) (n, suc k) → near_finds m t goal (n, suc k) ≡ entries_found goal k (entries_at m n)
  finds_level n k at =
      ap (λ (b : Bool). cond b (entries_found goal (suc k - 1) (entries_at m n)) []) (is_node m t (n, suc k) at) ∙ ap (λ (l : ℕ). entries_found goal l (entries_at m n)) (less_one k)

  -- what a node finds, by the level at which it stands
  pub finds_at : (node : PageNode) → is_tree_node m t node ≡ true → (f : NodeStands m (t.height - 1) t.root node) → near_finds m t goal node ≡ entries_found goal f.above (entries_at m node.0)
  finds_at node h f =
      ap (λ (b : Bool). cond b (entries_found goal (node.1 - 1) (entries_at m node.0)) []) h
      ∙ ap (λ (l : ℕ). entries_found goal l (entries_at m node.0)) (ap (λ (g : ℕ). g - 1) f.height ∙ less_one f.above)

  -- ---- unfolding

  -- the nodes under the entries of a node are those under what it finds
  below_level : (k : ℕ) (es : List NodeEntry) → ((e : NodeEntry) → Contains es e → (j : ℕ) → k ≡ suc j → near_under m t (e.child, k) ≡ nodes_under m j e.child)
      → nodes_below m k es ≡ flat_map (near_under m t) (nodes_of (entries_found goal k es))
  below_level zero es each = sym (ap (flat_map (near_under m t)) (member_nodes goal (members_of es)))
  below_level (suc j) [] each = refl
  below_level (suc j) (e ∷ es) each =
      ap₂ (λ (xs : List PageNode) (ys : List PageNode). xs ++ ys) (sym (each e (here e es) j refl)) (below_level (suc j) es (λ x at i h. each x (there e es x at) i h))

  -- a node of the tree with those below it is the node and what stands below what it finds
  unfolds_true : (node : PageNode) → NodeStands m (t.height - 1) t.root node
      → nodes_under m (node.1 - 1) node.0 ≡ node ∷ flat_map (near_under m t) (nodes_of (entries_found goal (node.1 - 1) (entries_at m node.0)))
  unfolds_true node f =
      let level : node.1 - 1 ≡ f.above = ap (λ (h : ℕ). h - 1) f.height ∙ less_one f.above in
      let child : (e : NodeEntry) → Contains (entries_at m node.0) e → (j : ℕ) → f.above ≡ suc j → near_under m t (e.child, f.above) ≡ nodes_under m j e.child =
      λ e at j h. subst (λ (k : ℕ). near_under m t (e.child, k) ≡ nodes_under m j e.child) (sym h)
      (under_level e.child j (f.nodes (e.child, suc j) (subst (λ (k : ℕ). Contains (nodes_under m k node.0) (e.child, suc j)) (sym h) (child_node m j node.0 e at)))) in
      subst (λ (k : ℕ). nodes_under m k node.0 ≡ node ∷ flat_map (near_under m t) (nodes_of (entries_found goal k (entries_at m node.0)))) (sym level)
      (ap₂ (λ (x : PageNode) (xs : List PageNode). x ∷ xs) (ap (λ (h : ℕ). (node.0, h)) (sym f.height)) (below_level f.above (entries_at m node.0) child))

  -- and so is any value
  unfolds_at : (node : PageNode) (b : Bool) → is_tree_node m t node ≡ b
      → cond b (nodes_under m (node.1 - 1) node.0) (node ∷ []) ≡ node ∷ flat_map (near_under m t) (nodes_of (cond b (entries_found goal (node.1 - 1) (entries_at m node.0)) []))
  unfolds_at node true h = unfolds_true node (at_node node h)
  unfolds_at node false h = refl

  -- ---- the items of a node

  -- the members lie in the closed square
  closed : (i : Member) → Contains members i → IsGoalInClosedPlane (figure_of i.1)
  closed i at = member_closed pages t (rows pages) fits plane i at

  -- what holds of what each member and each branch gives holds of all items of a node
  by_items : (P : Item PageNode → Type 0) (n k : ℕ) → ((e : NodeEntry) → Contains (entries_at m n) e → k ≡ zero → P (member_found goal e.id e.rough))
      → ((e : NodeEntry) → Contains (entries_at m n) e → (j : ℕ) → k ≡ suc j → P (branch_found goal (suc j) (box_of e.rough, e.child))) → All P (entries_found goal k (entries_at m n))
  by_items P n zero leaf inner =
      All-by P (entries_found goal zero (entries_at m n)) (λ x at.
      let (i, among, is) = from_map (λ (i : Member). member_found goal i.0 i.1) (members_of (entries_at m n)) x at in
      let (e, there_is, same) = from_map member_of (entries_at m n) i among in
      subst P is (subst (λ (y : Member). P (member_found goal y.0 y.1)) same (leaf e there_is refl)))
  by_items P n (suc j) leaf inner =
      All-by P (entries_found goal (suc j) (entries_at m n)) (λ x at.
      let (b, among, is) = from_map (branch_found goal (suc j)) (branches_of (entries_at m n)) x at in
      let (e, there_is, same) = from_map (λ (e : NodeEntry). (box_of e.rough, e.child)) (entries_at m n) b among in
      subst P is (subst (λ (y : Rect × ℕ). P (branch_found goal (suc j) y)) same (inner e there_is j refl)))

  -- and of what a node finds
  by_found : (P : Item PageNode → Type 0) (node : PageNode)
      → ((f : NodeStands m (t.height - 1) t.root node) → All P (entries_found goal f.above (entries_at m node.0))) → All P (near_finds m t goal node)
  by_found P node each = go (is_tree_node m t node) refl
    where
      go : (b : Bool) → is_tree_node m t node ≡ b → All P (cond b (entries_found goal (node.1 - 1) (entries_at m node.0)) [])
      go true h =
          let f = at_node node h in
          subst (λ (k : ℕ). All P (entries_found goal k (entries_at m node.0))) (sym (ap (λ (g : ℕ). g - 1) f.height ∙ less_one f.above)) (each f)
      go false h = All-nil P

  -- ---- gaps

  -- so do the entries of each node
  pub entry_closed : (node : PageNode) (f : NodeStands m (t.height - 1) t.root node) (e : NodeEntry) → Contains (entries_at m node.0) e → IsGoalInClosedPlane (figure_of e.rough)
  entry_closed node f e at = entries_in_plane m f.above node.0 f.stands (λ i among. closed i (f.members i among)) e at

  -- a member is no node, so its gap is free
  member_has_gap : (id : ℕ) (q : Rough) → HasGap meaning (member_found goal id q)
  member_has_gap id (rough.Point p) = tt
  member_has_gap id (rough.Segment s) = tt
  member_has_gap id (rough.Bound r) = tt

  -- a branch leads to a child under its own gap
  branch_has_gap : (node : PageNode) (f : NodeStands m (t.height - 1) t.root node) (e : NodeEntry) → Contains (entries_at m node.0) e → (j : ℕ) → f.above ≡ suc j
      → HasGap meaning (branch_found goal (suc j) (box_of e.rough, e.child))
  branch_has_gap node f e at j h =
      let leads = child_leads m j node.0 e (subst (λ (k : ℕ). NodeStandsAt m k node.0) h f.stands) at in
      let box = box_in_plane e.rough (entry_closed node f e at) in
      let is : bound_gap goal (node_bound m t (e.child, suc j)) ≡ goal_gap goal (figure.Rect (box_of e.rough)) =
      ap (bound_gap goal) (node_bound_is m t root (e.child, suc j) ∙ leads.least) ∙ bound_gap_is goal (box_of e.rough) box in
      subst (λ (g : Frac). IsSameGap (goal_gap goal (figure.Rect (box_of e.rough))) g) (sym is) (same_itself (goal_gap goal (figure.Rect (box_of e.rough))))

  -- each child is found under its own gap
  gaps_at : (node : PageNode) → All (HasGap meaning) (near_finds m t goal node)
  gaps_at node = by_found (HasGap meaning) node (λ f. by_items (HasGap meaning) node.0 f.above (λ e at h. member_has_gap e.id e.rough) (λ e at j h. branch_has_gap node f e at j h))

  -- no item is nearer than its node
  far_entry : (node : PageNode) (f : NodeStands m (t.height - 1) t.root node) (e : NodeEntry) → Contains (entries_at m node.0) e → (q : Rough)
      → IsGoalInClosedPlane (figure_of q) → box_of q ≡ box_of e.rough
      → IsAtMost (meaning.gap node) (goal_gap goal (figure_of q))
  far_entry node f e at q k same =
      subst (λ (o : Option Rect). IsAtMost (bound_gap goal o) (goal_gap goal (figure_of q))) (sym (node_bound_is m t root node))
      (node_no_farther goal (entries_at m node.0) reach (λ x among. entry_closed node f x among) e at q k same)

  -- so nothing that a node finds is nearer than it
  bound_at : (node : PageNode) → All (λ i. IsAtMost (meaning.gap node) (gap_of i)) (near_finds m t goal node)
  bound_at node = by_found (λ i. IsAtMost (meaning.gap node) (gap_of i)) node (λ f. by_items (λ i. IsAtMost (meaning.gap node) (gap_of i)) node.0 f.above
      (λ e at h. subst (IsAtMost (meaning.gap node)) (sym (member_gap goal e.id e.rough)) (far_entry node f e at e.rough (entry_closed node f e at) refl))
      (λ e at j h. far_entry node f e at (rough.Bound (box_of e.rough)) (box_in_plane e.rough (entry_closed node f e at)) refl))

  -- ---- rows

  -- the item of a member that is a row itself is a row, with its gap
  member_honest : (id : ℕ) (q : Rough) (row : ℕ × Shape) → Contains (rows pages) row → row_figure row ≡ (id, figure_of q) → IsHonest meaning (member_found goal id q)
  member_honest id (rough.Point p) row at is = record {
    row = near_row goal row;
    among = in_map (near_row goal) (rows pages) row at;
    same = (exact_gap goal (figure.Shape (shape.Point p)) row.1 (sym (ap (λ (x : ℕ × Goal). x.1) is)) refl, ap (λ (x : ℕ × Goal). x.0) is, refl);
  }
  member_honest id (rough.Segment s) row at is = record {
    row = near_row goal row;
    among = in_map (near_row goal) (rows pages) row at;
    same = (exact_gap goal (figure.Shape (shape.Segment s)) row.1 (sym (ap (λ (x : ℕ × Goal). x.1) is)) refl, ap (λ (x : ℕ × Goal). x.0) is, refl);
  }
  member_honest id (rough.Bound r) row at is = tt

  -- so is that of each entry of a leaf
  leaf_honest : (node : PageNode) (f : NodeStands m (t.height - 1) t.root node) (e : NodeEntry) → Contains (entries_at m node.0) e → f.above ≡ zero → IsHonest meaning (member_found goal e.id e.rough)
  leaf_honest node f e at h =
      let among : Contains (members_under m f.above node.0) (member_of e) =
      subst (λ (k : ℕ). Contains (members_under m k node.0) (member_of e)) (sym h) (in_map member_of (entries_at m node.0) e at) in
      let (row, there_is, is) = member_row pages t (rows pages) fits (member_of e) (f.members (member_of e) among) in
      member_honest e.id e.rough row there_is is

  -- so is each row that a node finds
  honest_at : (node : PageNode) → All (IsHonest meaning) (near_finds m t goal node)
  honest_at node = by_found (IsHonest meaning) node (λ f. by_items (IsHonest meaning) node.0 f.above (λ e at h. leaf_honest node f e at h) (λ e at j h. tt))

  -- a rough item of a node is that of a member
  rough_at : (n k : ℕ) → ((i : Member) → Contains (members_under m k n) i → Contains members i) → (g : Frac) (l s : ℕ) → Contains (entries_found goal k (entries_at m n)) (item.Rough g l s)
      → (i : Member) × Contains members i × (member_found goal i.0 i.1 ≡ item.Rough g l s)
  rough_at n zero each g l s at =
      let (i, among, same) = from_map (λ (i : Member). member_found goal i.0 i.1) (members_of (entries_at m n)) (item.Rough g l s) at in
      (i, each i among, same)
  rough_at n (suc j) each g l s at =
      let (b, among, same) = from_map (branch_found goal (suc j)) (branches_of (entries_at m n)) (item.Rough g l s) at in
      absurd (true≢false (sym (ap is_rough_item same)))

  -- a rough item that a node finds is that of a member
  pub rough_listed : (node : PageNode) → is_tree_node m t node ≡ true → (g : Frac) (l s : ℕ) → Contains (near_finds m t goal node) (item.Rough g l s)
      → (i : Member) × Contains members i × (member_found goal i.0 i.1 ≡ item.Rough g l s)
  rough_listed node h g l s at =
      let f = at_node node h in
      rough_at node.0 f.above f.members g l s (subst (λ (xs : List (Item PageNode)). Contains xs (item.Rough g l s)) (finds_at node h f) at)

  -- each row is shown by its member in a leaf
  covers_row : (row : ℕ × Shape) → Contains (rows pages) row → IsListedUnder meaning (root_node t) (near_row goal row)
  covers_row row at =
      let (i, among, is) = row_member pages t (rows pages) fits row at in
      let (leaf, spot, listed) = leaf_of m (t.height - 1) t.root i among in
      record {
        leaf = (leaf, suc zero);
        below = subst (λ (xs : List PageNode). Contains xs (leaf, suc zero)) (sym (under_at (root_node t) (is_node m t (root_node t) root_is))) spot;
        item = member_found goal i.0 i.1;
        listed = subst (λ (xs : List (Item PageNode)). Contains xs (member_found goal i.0 i.1)) (sym (finds_level leaf zero spot))
            (in_map (λ (y : Member). member_found goal y.0 y.1) (members_of (entries_at m leaf)) i listed);
        shows = subst (λ (id : ℕ). Shows (near_row goal row) (member_found goal id i.1)) (sym (ap (λ (x : ℕ × Goal). x.0) is))
            (show_row goal row.0 i.1 row.1 reach (row_closed (rows pages) row plane at) (ap (λ (x : ℕ × Goal). x.1) is));
      }

  -- the same of a row with its gap
  covers_hit : (hit : Hit) → Contains meaning.rows hit → IsListedUnder meaning (root_node t) hit
  covers_hit hit at =
      let (row, among, is) = from_map (near_row goal) (rows pages) hit at in
      subst (IsListedUnder meaning (root_node t)) is (covers_row row among)

  -- so the ranking meets the laws
  pub near_laws : MeetsLaws meaning
  near_laws = record {
    readable = (fits, stands);
    unfolds = λ node. unfolds_at node (is_tree_node m t node) refl;
    gaps = gaps_at;
    bound = bound_at;
    honest = honest_at;
    covers = covers_hit;
    once = (rank_laws (flat_ranking goal ceiling (rows pages)) (flat_sound goal ceiling (rows pages) reach plane (rows_apart pages t (rows pages) fits))).once;
  }

  -- no page is that of two nodes
  pub pages_once : HasPagesOnce meaning
  pages_once = λ page.
      subst (λ (ns : List PageNode). times page (map (λ (x : PageNode). x.0) ns) ≤ 1) (sym (under_at (root_node t) (is_node m t (root_node t) root_is)))
      (nodes_once m (t.height - 1) t.root root.owns page)
