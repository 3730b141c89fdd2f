-- Each answer of the join of k partners is one of the source: its row, the end, or a refusal. A want of memory for the row takes nothing.
use Rattle.best_first.specs.Visits.{told_pages, state}
use Rattle.plan_sources.specs.Joins.{join_of, heights_of}
use Rattle.plan_sources.proofs.PairPrices.{knn_costs, knn_still}
use Rattle.plan_sources.proofs.KnnOverPages.{asked, row_over, end_over, fault_over, still_over}
use Rattle.plan_sources.proofs.knn_source.KnnSourceRowSource.next.Goals as goal

-- memory is refused for the row, and the search is not asked
pub returns-in_default-clause-step : goal.returns-in_default-clause-step
returns-in_default-clause-step g c =
    let s = c.args.self.now.knn in
    still_over s.engine.hierarchy.left.number s.engine.hierarchy.right.number (told_pages c.args.desk.now)
    (join_of s.engine.hierarchy)
    (state s.engine.frontier.queue.items s.engine.frontier.last s.engine.frontier.counts c.args.desk.now) s.partners _

-- where something was taken the search stands, and the left rows are as far as it is
pub next-requires : goal.next-requires
next-requires g c =
    let s = c.args.self.now.knn in
    asked (told_pages c.args.desk.now)
    (join_of s.engine.hierarchy)
    (state s.engine.frontier.queue.items s.engine.frontier.last s.engine.frontier.counts c.args.desk.now) s.partners c.requires.stands

-- a row
pub returns-in-Ok-Some-clause-step : goal.returns-in-Ok-Some-clause-step
returns-in-Ok-Some-clause-step g c =
    let s = c.args.self.now.knn in
    let n = c.next.new.self in
    row_over s.engine.hierarchy.left.number s.engine.hierarchy.right.number (told_pages c.args.desk.now)
    (join_of s.engine.hierarchy)
    (join_of n.engine.hierarchy)
    (state s.engine.frontier.queue.items s.engine.frontier.last s.engine.frontier.counts c.args.desk.now)
    (state n.engine.frontier.queue.items n.engine.frontier.last n.engine.frontier.counts c.next.new.desk)
    s.partners n.partners c.in-Ok-Some.hit c.pair_answer.result
    (λ i. let h = c.next.ensures.hierarchy i in join_of h)
    (c.pair_answer.ensures.gap, c.pair_answer.ensures.ids, c.pair_answer.ensures.values)
    (rw c.in-Ok-Some.field-0-is at c.in-Ok-Some.ensures.partners)
    (rw c.in-Ok-Some.field-0-is at c.in-Ok-Some.ensures.rest) c.in-Ok-Some.ensures.stands
    (rw c.in-Ok-Some.field-0-is at c.in-Ok-Some.ensures.visits)
    (λ w. let over = (rw c.in-Ok-Some.field-0-is at c.in-Ok-Some.ensures.ended) w in
    (over.0, λ i. let n = over.1 i in state n.engine.frontier.queue.items n.engine.frontier.last n.engine.frontier.counts (over.2 i)))

-- the end
pub returns-in-Ok-None-clause-step : goal.returns-in-Ok-None-clause-step
returns-in-Ok-None-clause-step g c =
    let s = c.args.self.now.knn in
    let n = c.next.new.self in
    end_over s.engine.hierarchy.left.number s.engine.hierarchy.right.number (told_pages c.args.desk.now)
    (join_of s.engine.hierarchy)
    (join_of n.engine.hierarchy)
    (state s.engine.frontier.queue.items s.engine.frontier.last s.engine.frontier.counts c.args.desk.now)
    (state n.engine.frontier.queue.items n.engine.frontier.last n.engine.frontier.counts c.next.new.desk)
    s.partners n.partners
    (λ i. let h = c.next.ensures.hierarchy i in join_of h)
    (rw c.in-Ok-None.field-0-is at c.in-Ok-None.ensures.partners)
    (rw c.in-Ok-None.field-0-is at c.in-Ok-None.ensures.rest) c.in-Ok-None.ensures.stands
    (rw c.in-Ok-None.field-0-is at c.in-Ok-None.ensures.visits)
    (λ w. let over = (rw c.in-Ok-None.field-0-is at c.in-Ok-None.ensures.ended) w in
    (over.0, λ i. let n = over.1 i in state n.engine.frontier.queue.items n.engine.frontier.last n.engine.frontier.counts (over.2 i)))

-- a refusal
pub returns-in-Err-clause-step : goal.returns-in-Err-clause-step
returns-in-Err-clause-step g c =
    let s = c.args.self.now.knn in
    let n = c.next.new.self in
    fault_over s.engine.hierarchy.left.number s.engine.hierarchy.right.number (told_pages c.args.desk.now)
    (join_of s.engine.hierarchy)
    (join_of n.engine.hierarchy)
    (state s.engine.frontier.queue.items s.engine.frontier.last s.engine.frontier.counts c.args.desk.now)
    (state n.engine.frontier.queue.items n.engine.frontier.last n.engine.frontier.counts c.next.new.desk)
    s.partners n.partners c.in-Err.fault
    (λ i. let h = c.next.ensures.hierarchy i in join_of h)
    c.in-Err.ensures.partners c.in-Err.ensures.rest c.in-Err.ensures.stands c.in-Err.ensures.visits
    (λ w. let over = c.in-Err.ensures.ended w in (over.0, λ i. let n = over.1 i in state n.engine.frontier.queue.items n.engine.frontier.last n.engine.frontier.counts (over.2 i)))

-- ---- what a call costs

pub returns-in_default-clause-costs : goal.returns-in_default-clause-costs
returns-in_default-clause-costs g c =
    let s = c.args.self.now.knn in
    knn_still (told_pages c.args.desk.now)
    (join_of s.engine.hierarchy) s.partners
    (state s.engine.frontier.queue.items s.engine.frontier.last s.engine.frontier.counts c.args.desk.now) _

pub returns-in-Ok-Some-clause-costs : goal.returns-in-Ok-Some-clause-costs
returns-in-Ok-Some-clause-costs g c =
    let s = c.args.self.now.knn in
    let n = c.next.new.self in
    knn_costs s.engine.hierarchy.left.number s.engine.hierarchy.right.number (told_pages c.args.desk.now)
    (join_of s.engine.hierarchy) s.partners
    (state s.engine.frontier.queue.items s.engine.frontier.last s.engine.frontier.counts c.args.desk.now)
    (state n.engine.frontier.queue.items n.engine.frontier.last n.engine.frontier.counts c.next.new.desk) _ _ (rw c.in-Ok-Some.field-0-is at c.in-Ok-Some.ensures.visits)
    (λ w. let over = (rw c.in-Ok-Some.field-0-is at c.in-Ok-Some.ensures.ended) w in
    (λ i. let n = over.1 i in state n.engine.frontier.queue.items n.engine.frontier.last n.engine.frontier.counts (over.2 i)))

pub returns-in-Ok-Some-clause-heights : goal.returns-in-Ok-Some-clause-heights
returns-in-Ok-Some-clause-heights g c =
    λ i. let h = c.next.ensures.hierarchy i in heights_of (join_of h)

pub returns-in-Ok-None-clause-costs : goal.returns-in-Ok-None-clause-costs
returns-in-Ok-None-clause-costs g c =
    let s = c.args.self.now.knn in
    let n = c.next.new.self in
    knn_costs s.engine.hierarchy.left.number s.engine.hierarchy.right.number (told_pages c.args.desk.now)
    (join_of s.engine.hierarchy) s.partners
    (state s.engine.frontier.queue.items s.engine.frontier.last s.engine.frontier.counts c.args.desk.now)
    (state n.engine.frontier.queue.items n.engine.frontier.last n.engine.frontier.counts c.next.new.desk) _ _ (rw c.in-Ok-None.field-0-is at c.in-Ok-None.ensures.visits)
    (λ w. let over = (rw c.in-Ok-None.field-0-is at c.in-Ok-None.ensures.ended) w in
    (λ i. let n = over.1 i in state n.engine.frontier.queue.items n.engine.frontier.last n.engine.frontier.counts (over.2 i)))

pub returns-in-Ok-None-clause-heights : goal.returns-in-Ok-None-clause-heights
returns-in-Ok-None-clause-heights g c =
    λ i. let h = c.next.ensures.hierarchy i in heights_of (join_of h)

pub returns-in-Err-clause-costs : goal.returns-in-Err-clause-costs
returns-in-Err-clause-costs g c =
    let s = c.args.self.now.knn in
    let n = c.next.new.self in
    knn_costs s.engine.hierarchy.left.number s.engine.hierarchy.right.number (told_pages c.args.desk.now)
    (join_of s.engine.hierarchy) s.partners
    (state s.engine.frontier.queue.items s.engine.frontier.last s.engine.frontier.counts c.args.desk.now)
    (state n.engine.frontier.queue.items n.engine.frontier.last n.engine.frontier.counts c.next.new.desk) _ _ c.in-Err.ensures.visits
    (λ w. let over = c.in-Err.ensures.ended w in (λ i. let n = over.1 i in state n.engine.frontier.queue.items n.engine.frontier.last n.engine.frontier.counts (over.2 i)))

pub returns-in-Err-clause-heights : goal.returns-in-Err-clause-heights
returns-in-Err-clause-heights g c =
    λ i. let h = c.next.ensures.hierarchy i in heights_of (join_of h)
