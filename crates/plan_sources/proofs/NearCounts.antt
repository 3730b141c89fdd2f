-- The counts of a ranking by an R-tree: exact after an answer, and within the counts of the next reach after a refusal.
use Rattle.std.proofs.Common.{◌≡◌, ℕ, ◌≤◌, ◌&&◌, true, Bool, List, length, All, ◌∙◌, subst, arith}
use Rattle.std.proofs.Math.Nat.{min-eq_left}
use Rattle.std.specs.Cmp.{IsTotalOrder, nat_cmp_total, on_total, then_total}
use Rattle.exact_frac.specs.declared.frac.Frac.{Frac}
use Rattle.page_pool.specs.Disk.{PageMap}
use Rattle.sand_base.specs.Faults.{last_count}
use Rattle.sand_base.specs.declared.shape.Shape.{Shape}
use Rattle.sand_model.specs.Nodes.{is_rough, rough_figure}
use Rattle.sand_model.specs.Reach.{Reach, Ceiling, reaches, polygons_within}
use Rattle.sand_store.specs.declared.column.FileShapes.{FileShapes}
use Rattle.best_first.specs.Frontier.{Tracks}
use Rattle.best_first.specs.Hierarchy.{Meaning}
use Rattle.best_first.specs.Item.{gap_of, roughs_of}
use Rattle.best_first.specs.Reach.{within}
use Rattle.best_first.specs.Visits.{IsCounted}
use Rattle.best_first.specs.declared.counts.Counts.{Counts}
use Rattle.best_first.specs.declared.item.Item.{Item}
use Rattle.best_first.proofs.Bags.{All-left}
use Rattle.near_cursor.specs.declared.near_tree.NearTree.{NearTree}
use Rattle.near_cursor.specs.NearLaws.{IsLawfulNear}
use Rattle.near_cursor.specs.TreeNodes.{PageNode}
use Rattle.plan_iterator.specs.Rows.{plan_measure}
use Rattle.plan_iterator.proofs.PlanMeasure.{plan_measure_is}
use Rattle.plan_sources.proofs.Filled.{filled}
use Rattle.plan_sources.proofs.HowFar.{GoesTo, ceiling_goes}
use Rattle.plan_sources.proofs.Shorter.{fewer_pass}
use Rattle.plan_sources.specs.NearPlans.{rows_under, TableOf, fetch_of, nearing, by_page}

-- the order of nodes is total
pub pages_total : IsTotalOrder by_page
pages_total = then_total (on_total (λ (n : PageNode). n.0) nat_cmp_total) (on_total (λ (n : PageNode). n.1) nat_cmp_total)

-- how many polygons a ranking has within a reach
abbrev pub polygon_count : NearTree FileShapes → PageMap → Reach → ℕ
polygon_count tree pages to = length (polygons_within plan_measure tree.goal (rows_under tree pages) to)

module _ (tree : NearTree FileShapes) (pages : PageMap) (lawful : IsLawfulNear (rows_under tree) (TableOf tree) (fetch_of tree) tree.tree tree.goal tree.ceiling pages) where
  abbrev m : Meaning PageNode
  m = nearing tree pages

  -- what was taken within a reach is no more than lies there
  pub no_more_taken : (to : Reach) (test : Frac → Bool) → GoesTo m to test → (held done : List (Item PageNode)) → Tracks by_page m held done → All (λ item. test (gap_of item) ≡ true) done
      → length (roughs_of done) ≤ polygon_count tree pages to
  no_more_taken to test goes held done h near =
      let more = filled pages_total m test lawful.hierarchy goes.is goes.narrow held done h near in
      subst (λ n. length (roughs_of done) ≤ n) (lawful.geometries plan_measure plan_measure_is by_page pages_total to test goes.tells more.full more.reached) more.roughs

  -- so the counter is the number of what was taken
  pub counted_is : length (rows_under tree pages) ≤ last_count → (held done : List (Item PageNode)) → Tracks by_page m held done → (counts : Counts) → IsCounted done counts
      → counts.fetched ≡ length (roughs_of done)
  counted_is few held done h counts counted =
      let all = no_more_taken (Ceiling tree.ceiling) (within tree.ceiling) (ceiling_goes m) held done h (All-left (λ item. within m.ceiling (gap_of item) ≡ true) done held h.inside) in
      let some = fewer_pass (λ (row : ℕ × Shape). is_rough row.1 && reaches (Ceiling tree.ceiling) (plan_measure tree.goal (rough_figure row.1))) (rows_under tree pages) in
      counted.1 ∙ min-eq_left (omega (arith, all, some, few))
