-- A source of any kind: what holds of the source that it is.
use Rattle.std.specs.Prelude.{ℕ, ◌-◌}
use Rattle.std.specs.Ordering.{ordering_then}
use Rattle.std.specs.declared.cmp.Ordering.{Ordering}
use Rattle.z_code.specs.declared.block.Block.{Block}
use Rattle.best_first.specs.Steps.{steps}
use Rattle.dist_join.specs.OverPages.{pair_weight}
use Rattle.page_pool.specs.Disk.{PageMap}
use Rattle.sand_model.specs.Price.{scan_price}
use Rattle.plan_names.specs.LookUpCosts.{descent_price}
use Rattle.plan_iterator.specs.Prices.{Heights}
use Rattle.plan_iterator.specs.declared.stats.SourceCounts.{SourceCounts}
use Rattle.plan_iterator.specs.Following.{Taking}
use Rattle.plan_sources.specs.Plain.{IsScan, IsPickEqual, IsPickBetween, entries_left}
use Rattle.plan_sources.specs.Prices.{heights_of as plain_heights, entries_price}
use Rattle.plan_sources.specs.Rankings.{IsSearchAt, by_code, hierarchy_of, search_seen, search_steps, heights_of as rank_heights}
use Rattle.near_cursor.specs.NearRanking.{near_weight}
use Rattle.plan_sources.specs.declared.near_source.NearSource.{NearSource}
use Rattle.plan_sources.specs.NearPlans.{HasTakenNear, near_heights, geometries_seen}
use Rattle.plan_sources.specs.declared.join_source.JoinSource.{JoinSource}
use Rattle.plan_sources.specs.declared.knn_source.KnnSource.{KnnSource}
use Rattle.plan_sources.specs.declared.semi_source.SemiSource.{SemiSource}
use Rattle.plan_sources.specs.Joins.{join_of, joining_in, heights_of as join_heights, HasTakenPairs, HasTakenFirsts, HasTakenPartners}
use Rattle.plan_ops.specs.declared.source.Source.{Source}
use Rattle.plan_ops.specs.declared.source.Source.TheVariants as source

-- the order of pairs of blocks, by the left ones and then by the right ones
abbrev pub by_codes : Block × Block → Block × Block → Ordering
by_codes a b = ordering_then (by_code a.0 b.0) (by_code a.1 b.1)

-- so much was taken of a join, and of a semi-join

-- so much was taken of a join
abbrev pub join_at : JoinSource → Taking
join_at s pages d p t =
    let h = s.search.hierarchy in
    HasTakenPairs by_codes
    (joining_in (join_of h) pages)
    s.search.frontier.queue.items s.search.frontier.last s.search.frontier.counts d p t

-- so much was taken of a semi-join
abbrev pub semi_at : SemiSource → Taking
semi_at s pages d p t =
    let h = s.semi.engine.hierarchy in
    HasTakenFirsts by_codes
    (joining_in (join_of h) pages)
    s.semi.engine.frontier.queue.items s.semi.engine.frontier.counts s.semi.lefts d p t

-- so much was taken of a join of k partners
abbrev pub knn_at : KnnSource → Taking
knn_at s pages d p t =
    let h = s.knn.engine.hierarchy in
    HasTakenPartners by_codes
    (joining_in (join_of h) pages)
    s.knn.engine.frontier.queue.items s.knn.engine.frontier.last s.knn.engine.frontier.counts s.knn.partners d p t

-- so much was taken of a ranking by an R-tree
abbrev pub near_at : NearSource → Taking
near_at s pages d p t =
    HasTakenNear s.search.hierarchy pages s.search.frontier.queue.items s.search.frontier.last s.search.frontier.counts d p t

-- so much was taken of it
abbrev pub source_at : Source → Taking
source_at (source.Scan s) = IsScan s.relation.value s.last
source_at (source.PickEqual s) = IsPickEqual s.look_up s.value s.last
source_at (source.PickBetween s) = IsPickBetween s.look_up s.low s.high s.last
source_at (source.Rank s) = IsSearchAt s.search
source_at (source.Near s) = near_at s
source_at (source.Join s) = join_at s
source_at (source.Semi s) = semi_at s
source_at (source.Knn s) = knn_at s

-- what it has visited
abbrev pub source_seen : Source → SourceCounts
source_seen (source.Scan s) = record { blocks = 0; pairs = 0; geometries = 0 }
source_seen (source.PickEqual s) = record { blocks = 0; pairs = 0; geometries = 0 }
source_seen (source.PickBetween s) = record { blocks = 0; pairs = 0; geometries = 0 }
source_seen (source.Rank s) = search_seen s.search
source_seen (source.Near s) = geometries_seen s.search.frontier.counts
source_seen (source.Join s) =
    record { blocks = 0; pairs = s.search.frontier.counts.visited; geometries = s.search.frontier.counts.fetched }
source_seen (source.Semi s) =
    record { blocks = 0; pairs = s.semi.engine.frontier.counts.visited; geometries = s.semi.engine.frontier.counts.fetched }
source_seen (source.Knn s) =
    record { blocks = 0; pairs = s.knn.engine.frontier.counts.visited; geometries = s.knn.engine.frontier.counts.fetched }

-- how many steps may still be made
abbrev pub source_steps : Source → ℕ
source_steps (source.Scan s) = 4294967296 - s.last
source_steps (source.PickEqual s) = 4294967296 - s.last
source_steps (source.PickBetween s) = entries_left s.low s.high s.last
source_steps (source.Rank s) = search_steps s.search
source_steps (source.Near s) = steps near_weight s.search.frontier.queue.items
source_steps (source.Join s) = steps pair_weight s.search.frontier.queue.items
source_steps (source.Semi s) = steps pair_weight s.semi.engine.frontier.queue.items
source_steps (source.Knn s) = steps pair_weight s.knn.engine.frontier.queue.items

-- the heights of the B-trees that it reads
abbrev pub source_heights : Source → Heights
source_heights (source.Scan s) = plain_heights 0 s.relation.value.file.tree.height
source_heights (source.PickEqual s) = plain_heights s.look_up.index.tree.height s.look_up.spot.relation.value.file.tree.height
source_heights (source.PickBetween s) = plain_heights s.look_up.index.tree.height s.look_up.spot.relation.value.file.tree.height
source_heights (source.Rank s) = rank_heights (hierarchy_of s.search)
source_heights (source.Near s) = near_heights s.search.hierarchy
source_heights (source.Join s) =
    let h = s.search.hierarchy in
    join_heights
    (join_of h)
source_heights (source.Semi s) =
    let h = s.semi.engine.hierarchy in
    join_heights
    (join_of h)
source_heights (source.Knn s) =
    let h = s.knn.engine.hierarchy in
    join_heights
    (join_of h)

-- the price of a step: a descent of the file of the rows or of the index; a search pays for its visits alone
abbrev pub source_step_price : Source → ℕ
source_step_price (source.Scan s) = scan_price s.relation.value.file.tree.height
source_step_price (source.PickEqual s) = descent_price s.look_up
source_step_price (source.PickBetween s) = descent_price s.look_up
source_step_price _ = 0

-- the price of the entries that it has still to pass
abbrev pub source_owed : Source → PageMap → ℕ
source_owed (source.PickEqual s) pages = entries_price pages s.look_up s.value s.last
source_owed _ pages = 0
