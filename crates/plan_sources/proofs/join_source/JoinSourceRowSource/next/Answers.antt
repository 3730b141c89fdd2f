-- Each answer of the search is one of the source: its row, the end, or a refusal. A want of memory for the row takes nothing.
use Rattle.best_first.specs.Visits.{told_pages, state}
use Rattle.plan_sources.specs.Joins.{join_of, heights_of}
use Rattle.plan_sources.proofs.PairPrices.{join_costs, join_still}
use Rattle.plan_sources.proofs.JoinOverPages.{asked, row_over, end_over, fault_over, still_over}
use Rattle.plan_sources.proofs.join_source.JoinSourceRowSource.next.Goals as goal

-- memory is refused for the row, and the search is not asked
pub returns-in_default-clause-step : goal.returns-in_default-clause-step
returns-in_default-clause-step g c =
    let s = c.args.self.now.search in
    still_over s.hierarchy.left.number s.hierarchy.right.number (told_pages c.args.desk.now)
    (join_of s.hierarchy)
    (state s.frontier.queue.items s.frontier.last s.frontier.counts c.args.desk.now) _

-- where something was taken the search stands
pub next-requires : goal.next-requires
next-requires g c =
    let s = c.args.self.now.search in
    asked (told_pages c.args.desk.now)
    (join_of s.hierarchy)
    (state s.frontier.queue.items s.frontier.last s.frontier.counts c.args.desk.now) c.requires.stands

-- a row
pub returns-in-Ok-Some-clause-step : goal.returns-in-Ok-Some-clause-step
returns-in-Ok-Some-clause-step g c =
    let s = c.args.self.now.search in
    let n = c.next.new.self in
    row_over s.hierarchy.left.number s.hierarchy.right.number (told_pages c.args.desk.now)
    (join_of s.hierarchy)
    (join_of n.hierarchy)
    (state s.frontier.queue.items s.frontier.last s.frontier.counts c.args.desk.now)
    (state n.frontier.queue.items n.frontier.last n.frontier.counts c.next.new.desk)
    c.in-Ok-Some.hit c.pair_answer.result
    (λ i. let h = c.next.ensures.hierarchy i in join_of h)
    (c.pair_answer.ensures.gap, c.pair_answer.ensures.ids, c.pair_answer.ensures.values)
    (rw c.in-Ok-Some.field-0-is at c.in-Ok-Some.ensures.last) (rw c.in-Ok-Some.field-0-is at c.in-Ok-Some.ensures.row) (rw c.in-Ok-Some.field-0-is at c.in-Ok-Some.ensures.visits)

-- the end
pub returns-in-Ok-None-clause-step : goal.returns-in-Ok-None-clause-step
returns-in-Ok-None-clause-step g c =
    let s = c.args.self.now.search in
    let n = c.next.new.self in
    end_over s.hierarchy.left.number s.hierarchy.right.number (told_pages c.args.desk.now)
    (join_of s.hierarchy)
    (join_of n.hierarchy)
    (state s.frontier.queue.items s.frontier.last s.frontier.counts c.args.desk.now)
    (state n.frontier.queue.items n.frontier.last n.frontier.counts c.next.new.desk)
    (λ i. let h = c.next.ensures.hierarchy i in join_of h)
    (rw c.in-Ok-None.field-0-is at c.in-Ok-None.ensures.last) (rw c.in-Ok-None.field-0-is at c.in-Ok-None.ensures.row) (rw c.in-Ok-None.field-0-is at c.in-Ok-None.ensures.visits)

-- a refusal
pub returns-in-Err-clause-step : goal.returns-in-Err-clause-step
returns-in-Err-clause-step g c =
    let s = c.args.self.now.search in
    let n = c.next.new.self in
    fault_over s.hierarchy.left.number s.hierarchy.right.number (told_pages c.args.desk.now)
    (join_of s.hierarchy)
    (join_of n.hierarchy)
    (state s.frontier.queue.items s.frontier.last s.frontier.counts c.args.desk.now)
    (state n.frontier.queue.items n.frontier.last n.frontier.counts c.next.new.desk)
    c.in-Err.fault
    (λ i. let h = c.next.ensures.hierarchy i in join_of h)
    c.in-Err.ensures.last c.in-Err.ensures.visits

-- ---- what a call costs

pub returns-in_default-clause-costs : goal.returns-in_default-clause-costs
returns-in_default-clause-costs g c =
    let s = c.args.self.now.search in
    join_still (told_pages c.args.desk.now)
    (join_of s.hierarchy)
    (state s.frontier.queue.items s.frontier.last s.frontier.counts c.args.desk.now) _

pub returns-in-Ok-Some-clause-costs : goal.returns-in-Ok-Some-clause-costs
returns-in-Ok-Some-clause-costs g c =
    let s = c.args.self.now.search in
    let n = c.next.new.self in
    join_costs s.hierarchy.left.number s.hierarchy.right.number (told_pages c.args.desk.now)
    (join_of s.hierarchy)
    (state s.frontier.queue.items s.frontier.last s.frontier.counts c.args.desk.now)
    (state n.frontier.queue.items n.frontier.last n.frontier.counts c.next.new.desk) _ _ (rw c.in-Ok-Some.field-0-is at c.in-Ok-Some.ensures.visits)

pub returns-in-Ok-Some-clause-heights : goal.returns-in-Ok-Some-clause-heights
returns-in-Ok-Some-clause-heights g c =
    λ i. let h = c.next.ensures.hierarchy i in heights_of (join_of h)

pub returns-in-Ok-None-clause-costs : goal.returns-in-Ok-None-clause-costs
returns-in-Ok-None-clause-costs g c =
    let s = c.args.self.now.search in
    let n = c.next.new.self in
    join_costs s.hierarchy.left.number s.hierarchy.right.number (told_pages c.args.desk.now)
    (join_of s.hierarchy)
    (state s.frontier.queue.items s.frontier.last s.frontier.counts c.args.desk.now)
    (state n.frontier.queue.items n.frontier.last n.frontier.counts c.next.new.desk) _ _ (rw c.in-Ok-None.field-0-is at c.in-Ok-None.ensures.visits)

pub returns-in-Ok-None-clause-heights : goal.returns-in-Ok-None-clause-heights
returns-in-Ok-None-clause-heights g c =
    λ i. let h = c.next.ensures.hierarchy i in heights_of (join_of h)

pub returns-in-Err-clause-costs : goal.returns-in-Err-clause-costs
returns-in-Err-clause-costs g c =
    let s = c.args.self.now.search in
    let n = c.next.new.self in
    join_costs s.hierarchy.left.number s.hierarchy.right.number (told_pages c.args.desk.now)
    (join_of s.hierarchy)
    (state s.frontier.queue.items s.frontier.last s.frontier.counts c.args.desk.now)
    (state n.frontier.queue.items n.frontier.last n.frontier.counts c.next.new.desk) _ _ c.in-Err.ensures.visits

pub returns-in-Err-clause-heights : goal.returns-in-Err-clause-heights
returns-in-Err-clause-heights g c =
    λ i. let h = c.next.ensures.hierarchy i in heights_of (join_of h)
