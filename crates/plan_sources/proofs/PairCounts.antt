-- The counts of a join: exact after an answer, and within the counts of the next reach after a refusal.
use Rattle.std.proofs.Common.{◌≡◌, ℕ, ◌*◌, ◌≤◌, Bool, true, ◌&&◌, List, length, All, filter, ◌∙◌, subst, arith, mul-le-mul_left, Ordering}
use Rattle.std.proofs.Math.Nat.{min-eq_left}
use Rattle.std.specs.Cmp.{IsTotalOrder}
use Rattle.exact_frac.specs.declared.frac.Frac.{Frac}
use Rattle.sand_base.specs.Faults.{last_count}
use Rattle.z_code.specs.declared.block.Block.{Block}
use Rattle.sand_model.specs.Measure.{Measure, IsMeasure}
use Rattle.sand_model.specs.Nodes.{LeafItem, PairNode, pair_gap, join_items}
use Rattle.sand_model.specs.Reach.{Reach, Ceiling, reaches, roughs_within}
use Rattle.sand_model.specs.Tree.{root_block, listings}
use Rattle.sand_store.specs.Catalog.{most_listings}
use Rattle.best_first.specs.Frontier.{Tracks}
use Rattle.best_first.specs.Hierarchy.{Meaning}
use Rattle.best_first.specs.Item.{gap_of, nodes_of, roughs_of}
use Rattle.best_first.specs.Reach.{within}
use Rattle.best_first.specs.Visits.{IsCounted}
use Rattle.best_first.specs.declared.counts.Counts.{Counts}
use Rattle.best_first.specs.declared.item.Item.{Item}
use Rattle.best_first.proofs.Bags.{All-left}
use Rattle.dist_join.specs.Answers.{all_pairs}
use Rattle.dist_join.specs.Joining.{Joining, IsSoundJoin, join_meaning}
use Rattle.dist_join.proofs.CountedPairs.{counts_as}
use Rattle.dist_join.proofs.JoinLaws.{join_laws}
use Rattle.plan_sources.proofs.Filled.{filled}
use Rattle.plan_sources.proofs.HowFar.{GoesTo, ceiling_goes}
use Rattle.plan_sources.proofs.PairLengths.{long_is, few_pairs, few_ids, few_items}
use Rattle.plan_sources.proofs.Shorter.{fewer_pass, fewer_distinct}

-- how many pairs of places and rough pairs a join has within a reach
abbrev pub pair_count : Measure → Joining → Reach → ℕ
pair_count gap j to = length (filter (λ (node : PairNode). reaches to (pair_gap gap node)) (all_pairs j.left j.right))

abbrev pub geometry_count : Measure → Joining → Reach → ℕ
geometry_count gap j to = length (roughs_within to (join_items gap j.left.shapes j.right.shapes (all_pairs j.left j.right)))

-- the product of two numbers up to a third is at most its square
product_small : (a b most : ℕ) → a ≤ most → b ≤ most → a * b ≤ most * most
product_small a b most h k =
    let one = mul-le-mul_left a k in
    let two = mul-le-mul_left most h in
    omega (arith, one, two)

module _ (j : Joining) (sound : IsSoundJoin j) (gap : Measure) (is : IsMeasure gap) {cmp : Block × Block → Block × Block → Ordering} (o : IsTotalOrder cmp) where
  abbrev m : Meaning (Block × Block)
  m = join_meaning j

  -- what was taken within a reach is no more than lies there
  pub no_more_taken : (to : Reach) (test : Frac → Bool) → GoesTo m to test → (held done : List (Item (Block × Block))) → Tracks cmp m held done → All (λ item. test (gap_of item) ≡ true) done
      → (length (nodes_of done) ≤ pair_count gap j to) × (length (roughs_of done) ≤ geometry_count gap j to)
  no_more_taken to test goes held done h near =
      let more = filled o m test (join_laws j sound) goes.is goes.narrow held done h near in
      let counted = counts_as j sound gap is cmp o to test goes.tells more.full more.reached in
      (subst (λ n. length (nodes_of done) ≤ n) counted.pairs more.nodes, subst (λ n. length (roughs_of done) ≤ n) counted.geometries more.roughs)

  -- so the counters stay below their greatest value
  pub small_counts : listings j.left.tree ≤ most_listings → listings j.right.tree ≤ most_listings → (held done : List (Item (Block × Block))) → Tracks cmp m held done
      → (length (nodes_of done) ≤ last_count) × (length (roughs_of done) ≤ last_count)
  small_counts few few_too held done h =
      let all = no_more_taken (Ceiling j.ceiling) (within j.ceiling) (ceiling_goes m) held done h (All-left (λ item. within m.ceiling (gap_of item) ≡ true) done held h.inside) in
      let nodes = all_pairs j.left j.right in
      let items = join_items gap j.left.shapes j.right.shapes nodes in
      let product = product_small (listings j.left.tree) (listings j.right.tree) most_listings few few_too in
      let near_nodes = fewer_pass (λ (node : PairNode). reaches (Ceiling j.ceiling) (pair_gap gap node)) nodes in
      let as_many = long_is nodes in
      let pairs = few_pairs root_block j.left.tree root_block j.right.tree in
      let once = fewer_distinct (filter (λ (item : LeafItem). item.is_rough && reaches (Ceiling j.ceiling) item.gap) items) in
      let roughs = fewer_pass (λ (item : LeafItem). item.is_rough && reaches (Ceiling j.ceiling) item.gap) items in
      let listed = few_items gap j.left.shapes j.right.shapes nodes in
      let ids = few_ids root_block j.left.tree root_block j.right.tree in
      (omega (arith, all.0, near_nodes, as_many, pairs, product), omega (arith, all.1, once, roughs, listed, ids, product))

  -- the counters are the numbers of what was taken
  pub counted_is : listings j.left.tree ≤ most_listings → listings j.right.tree ≤ most_listings → (held done : List (Item (Block × Block))) → Tracks cmp m held done
      → (counts : Counts) → IsCounted done counts
      → (counts.visited ≡ length (nodes_of done)) × (counts.fetched ≡ length (roughs_of done))
  counted_is few few_too held done h counts counted =
      let small = small_counts few few_too held done h in
      (counted.0 ∙ min-eq_left small.0, counted.1 ∙ min-eq_left small.1)
