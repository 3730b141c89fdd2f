-- The counts of a ranking: exact after an answer, and within the counts of the next reach after a refusal.
use Rattle.std.proofs.Common.{◌≡◌, ℕ, ◌≤◌, Bool, true, ◌&&◌, List, length, All, filter, ◌∙◌, subst, arith, Ordering}
use Rattle.std.proofs.Math.Nat.{min-eq_left}
use Rattle.std.specs.Cmp.{IsTotalOrder}
use Rattle.std.proofs.lemmas.List.{length-map}
use Rattle.exact_frac.specs.declared.frac.Frac.{Frac}
use Rattle.sand_base.specs.Faults.{last_count}
use Rattle.z_code.specs.declared.block.Block.{Block}
use Rattle.sand_model.specs.Measure.{Measure, IsMeasure}
use Rattle.sand_model.specs.Nodes.{LeafItem, square_figure, rank_items, rank_gaps}
use Rattle.sand_model.specs.Reach.{Reach, Ceiling, reaches, roughs_within}
use Rattle.sand_model.specs.Tree.{places, root_block, listings}
use Rattle.sand_store.specs.Catalog.{most_listings}
use Rattle.best_first.specs.Frontier.{Tracks}
use Rattle.best_first.specs.Hierarchy.{Meaning}
use Rattle.best_first.specs.Item.{gap_of, nodes_of, roughs_of}
use Rattle.best_first.specs.Reach.{within}
use Rattle.best_first.specs.Visits.{IsCounted}
use Rattle.best_first.specs.declared.counts.Counts.{Counts}
use Rattle.best_first.specs.declared.item.Item.{Item}
use Rattle.best_first.proofs.Bags.{All-left}
use Rattle.rank_cursor.specs.Ranking.{Ranking, rank_meaning, IsSound}
use Rattle.rank_cursor.proofs.Counted.{counts_as}
use Rattle.rank_cursor.proofs.RankingLaws.{rank_laws}
use Rattle.plan_sources.proofs.Filled.{filled}
use Rattle.plan_sources.proofs.HowFar.{GoesTo, ceiling_goes}
use Rattle.plan_sources.proofs.Shorter.{fewer_pass, fewer_distinct}
use Rattle.plan_sources.proofs.TreeCounts.{few_places, few_items}

-- how many places and rough objects a ranking has within a reach
abbrev pub block_count : Measure → Ranking → Reach → ℕ
block_count gap r to = length (filter (reaches to) (rank_gaps gap r.goal r.tree))

abbrev pub geometry_count : Measure → Ranking → Reach → ℕ
geometry_count gap r to = length (roughs_within to (rank_items gap r.goal r.shapes r.tree))

module _ (r : Ranking) (sound : IsSound r) (gap : Measure) (is : IsMeasure gap) {cmp : Block → Block → Ordering} (o : IsTotalOrder cmp) where
  abbrev m : Meaning Block
  m = rank_meaning r

  -- what was taken within a reach is no more than lies there
  pub no_more_taken : (to : Reach) (test : Frac → Bool) → GoesTo m to test → (held done : List (Item Block)) → Tracks cmp m held done → All (λ item. test (gap_of item) ≡ true) done
      → (length (nodes_of done) ≤ block_count gap r to) × (length (roughs_of done) ≤ geometry_count gap r to)
  no_more_taken to test goes held done h near =
      let more = filled o m test (rank_laws r sound) goes.is goes.narrow held done h near in
      let counted = counts_as r sound gap is cmp o to test goes.tells more.full more.reached in
      (subst (λ n. length (nodes_of done) ≤ n) counted.blocks more.nodes, subst (λ n. length (roughs_of done) ≤ n) counted.geometries more.roughs)

  -- so the counters stay below their greatest value
  pub small_counts : listings r.tree ≤ most_listings → (held done : List (Item Block)) → Tracks cmp m held done → (length (nodes_of done) ≤ last_count) × (length (roughs_of done) ≤ last_count)
  small_counts few held done h =
      let all = no_more_taken (Ceiling r.ceiling) (within r.ceiling) (ceiling_goes m) held done h (All-left (λ item. within m.ceiling (gap_of item) ≡ true) done held h.inside) in
      let gaps = fewer_pass (reaches (Ceiling r.ceiling)) (rank_gaps gap r.goal r.tree) in
      let as_many = length-map (places root_block r.tree) (λ place. gap r.goal (square_figure place.0)) in
      let blocks = few_places root_block r.tree in
      let once = fewer_distinct (filter (λ (item : LeafItem). item.is_rough && reaches (Ceiling r.ceiling) item.gap) (rank_items gap r.goal r.shapes r.tree)) in
      let roughs = fewer_pass (λ (item : LeafItem). item.is_rough && reaches (Ceiling r.ceiling) item.gap) (rank_items gap r.goal r.shapes r.tree) in
      let items = few_items gap r.goal r.shapes root_block r.tree in
      (omega (arith, all.0, gaps, as_many, blocks, few), omega (arith, all.1, once, roughs, items, few))

  -- the counters are the numbers of what was taken
  pub counted_is : listings r.tree ≤ most_listings → (held done : List (Item Block)) → Tracks cmp m held done → (counts : Counts) → IsCounted done counts
      → (counts.visited ≡ length (nodes_of done)) × (counts.fetched ≡ length (roughs_of done))
  counted_is few held done h counts counted =
      let small = small_counts few held done h in
      (counted.0 ∙ min-eq_left small.0, counted.1 ∙ min-eq_left small.1)
