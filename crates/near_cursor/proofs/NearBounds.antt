-- Each node of the tree has the gap of the rectangle that its page tells.
use Rattle.std.proofs.Common.{◌≡◌, ℕ, ◌-◌, List, Contains, Option, None, Some, refl, ap, ◌∙◌, subst}
use Rattle.sand_base.specs.Plane.{IsGoalInClosedPlane}
use Rattle.sand_base.specs.declared.goal.Goal.{Goal}
use Rattle.sand_base.specs.declared.rect.Rect.{Rect}
use Rattle.sand_base.specs.declared.shape.Shape.{Shape}
use Rattle.page_pool.specs.Disk.{PageMap}
use Rattle.code_btree.specs.Tree.{Store}
use Rattle.r_tree.specs.declared.tree.RTree.{RTree}
use Rattle.r_tree.specs.Entry.{bound_of}
use Rattle.r_tree.specs.Tree.{entries_at}
use Rattle.pmr_tree.specs.Laws.{AreInPlane}
use Rattle.pmr_tree.specs.Quadtree.{store_of}
use Rattle.best_first.specs.Hierarchy.{Meaning}
use Rattle.near_cursor.specs.TreeNodes.{PageNode, root_node}
use Rattle.near_cursor.specs.NearLaws.{IsBoundGap, HasBoundGaps}
use Rattle.r_tree.specs.Listing.{ListsRows}
use Rattle.near_cursor.specs.NearRanking.{bound_gap, near_meaning}
use Rattle.near_cursor.proofs.InPlane.{bound_in_plane, bound_gap_is}
use Rattle.near_cursor.proofs.NearHierarchy.{root_is, at_node, under_at, entry_closed}
use Rattle.near_cursor.proofs.NodeLemmas.{NodeStands, is_node, node_bound_is}

module _ (rows : PageMap → List (ℕ × Shape)) (Stands : PageMap → Type 0) (price : ℕ) (t : RTree) (goal : Goal) (ceiling : Option ℕ)
    (reach : IsGoalInClosedPlane goal) (pages : PageMap) (fits : ListsRows pages t (rows pages)) (stands : Stands pages) (plane : AreInPlane (rows pages)) where
  -- the pages as trees see them
  abbrev m : Store
  m = store_of pages

  -- the ranking
  abbrev meaning : Meaning PageNode
  meaning = near_meaning rows Stands price t goal ceiling pages

  -- a node has the gap of the least rectangle round its entries
  gap_by : (node : PageNode) → NodeStands m (t.height - 1) t.root node → (o : Option Rect) → bound_of (entries_at m node.0) ≡ o → IsBoundGap goal o (meaning.gap node)
  gap_by node f None e = ap (bound_gap goal) (node_bound_is m t fits.tree.at node ∙ e)
  gap_by node f (Some r) e =
      let inside = bound_in_plane (entries_at m node.0) (λ x among. entry_closed rows Stands price t goal ceiling reach pages fits stands plane node f x among) r e in
      (inside, ap (bound_gap goal) (node_bound_is m t fits.tree.at node ∙ e) ∙ bound_gap_is goal r inside)

  pub bound_gaps : HasBoundGaps meaning m goal
  bound_gaps = λ node at.
      let root = is_node m t (root_node t) (root_is rows Stands price t goal ceiling reach pages fits stands plane) in
      let there_is = subst (λ (ns : List PageNode). Contains ns node) (under_at rows Stands price t goal ceiling reach pages fits stands plane (root_node t) root) at in
      gap_by node (at_node rows Stands price t goal ceiling reach pages fits stands plane node (is_node m t node there_is)) (bound_of (entries_at m node.0)) refl
