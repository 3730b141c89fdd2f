-- Each answer of the search is one of the source: its row, the end, or a refusal.
use Rattle.std.proofs.Common.{refl, ap, Some, None, Ok, Err}
use Rattle.best_first.specs.Visits.{state, told_pages}
use Rattle.plan_sources.specs.NearPlans.{near_heights}
use Rattle.plan_sources.proofs.NearPrices.{costs_over}
use Rattle.plan_sources.proofs.NearOverPages.{asked, row_over, end_over, fault_over}
use Rattle.plan_sources.proofs.NodesOnce.{once_over}
use Rattle.plan_sources.proofs.near_source.NearSourceRowSource.next.Goals as goal

-- where something was taken the search stands
pub next-requires : goal.next-requires
next-requires g c =
    let s = c.args.self.now.search in
    asked (told_pages c.args.desk.now) s.hierarchy (state s.frontier.queue.items s.frontier.last s.frontier.counts c.args.desk.now) c.requires.stands

-- a row
pub returns-in-Ok-Some-clause-step : goal.returns-in-Ok-Some-clause-step
returns-in-Ok-Some-clause-step g c =
    let s = c.args.self.now.search in
    let n = c.next.new.self in
    row_over s.hierarchy.tree.number (told_pages c.args.desk.now) s.hierarchy n.hierarchy (state s.frontier.queue.items s.frontier.last s.frontier.counts c.args.desk.now)
    (state n.frontier.queue.items n.frontier.last n.frontier.counts c.next.new.desk)
    c.in-Ok-Some.hit c.answer_of.result c.next.ensures.hierarchy (c.answer_of.ensures.gap, c.answer_of.ensures.ids, c.answer_of.ensures.values)
    (rw c.in-Ok-Some.field-0-is at c.in-Ok-Some.ensures.last) (rw c.in-Ok-Some.field-0-is at c.in-Ok-Some.ensures.row) (rw c.in-Ok-Some.field-0-is at c.in-Ok-Some.ensures.visits)

-- the end
pub returns-in-Ok-None-clause-step : goal.returns-in-Ok-None-clause-step
returns-in-Ok-None-clause-step g c =
    let s = c.args.self.now.search in
    let n = c.next.new.self in
    end_over s.hierarchy.tree.number (told_pages c.args.desk.now) s.hierarchy n.hierarchy (state s.frontier.queue.items s.frontier.last s.frontier.counts c.args.desk.now)
    (state n.frontier.queue.items n.frontier.last n.frontier.counts c.next.new.desk)
    c.next.ensures.hierarchy
    (rw c.in-Ok-None.field-0-is at c.in-Ok-None.ensures.last) (rw c.in-Ok-None.field-0-is at c.in-Ok-None.ensures.row) (rw c.in-Ok-None.field-0-is at c.in-Ok-None.ensures.visits)

-- a refusal
pub returns-in-Err-clause-step : goal.returns-in-Err-clause-step
returns-in-Err-clause-step g c =
    let s = c.args.self.now.search in
    let n = c.next.new.self in
    fault_over s.hierarchy.tree.number (told_pages c.args.desk.now) s.hierarchy n.hierarchy (state s.frontier.queue.items s.frontier.last s.frontier.counts c.args.desk.now)
    (state n.frontier.queue.items n.frontier.last n.frontier.counts c.next.new.desk)
    c.in-Err.fault c.next.ensures.hierarchy c.in-Err.ensures.last c.in-Err.ensures.visits

-- ---- what a call costs

pub returns-in-Ok-Some-clause-costs : goal.returns-in-Ok-Some-clause-costs
returns-in-Ok-Some-clause-costs g c =
    let s = c.args.self.now.search in
    let n = c.next.new.self in
    costs_over s.hierarchy.tree.number (told_pages c.args.desk.now) s.hierarchy (state s.frontier.queue.items s.frontier.last s.frontier.counts c.args.desk.now)
    (state n.frontier.queue.items n.frontier.last n.frontier.counts c.next.new.desk) _ _
    (rw c.in-Ok-Some.field-0-is at c.in-Ok-Some.ensures.visits)

pub returns-in-Ok-Some-clause-heights : goal.returns-in-Ok-Some-clause-heights
returns-in-Ok-Some-clause-heights g c = ap near_heights c.next.ensures.hierarchy

pub returns-in-Ok-None-clause-costs : goal.returns-in-Ok-None-clause-costs
returns-in-Ok-None-clause-costs g c =
    let s = c.args.self.now.search in
    let n = c.next.new.self in
    costs_over s.hierarchy.tree.number (told_pages c.args.desk.now) s.hierarchy (state s.frontier.queue.items s.frontier.last s.frontier.counts c.args.desk.now)
    (state n.frontier.queue.items n.frontier.last n.frontier.counts c.next.new.desk) _ _
    (rw c.in-Ok-None.field-0-is at c.in-Ok-None.ensures.visits)

pub returns-in-Ok-None-clause-heights : goal.returns-in-Ok-None-clause-heights
returns-in-Ok-None-clause-heights g c = ap near_heights c.next.ensures.hierarchy

pub returns-in-Err-clause-costs : goal.returns-in-Err-clause-costs
returns-in-Err-clause-costs g c =
    let s = c.args.self.now.search in
    let n = c.next.new.self in
    costs_over s.hierarchy.tree.number (told_pages c.args.desk.now) s.hierarchy (state s.frontier.queue.items s.frontier.last s.frontier.counts c.args.desk.now)
    (state n.frontier.queue.items n.frontier.last n.frontier.counts c.next.new.desk) _ _ c.in-Err.ensures.visits

pub returns-in-Err-clause-heights : goal.returns-in-Err-clause-heights
returns-in-Err-clause-heights g c = ap near_heights c.next.ensures.hierarchy

-- ---- no node is read twice

pub returns-in-Ok-Some-clause-once : goal.returns-in-Ok-Some-clause-once
returns-in-Ok-Some-clause-once g c =
    let s = c.args.self.now.search in
    let n = c.next.new.self in
    once_over s.hierarchy.tree.number (told_pages c.args.desk.now) s.hierarchy n.hierarchy (state s.frontier.queue.items s.frontier.last s.frontier.counts c.args.desk.now)
    (state n.frontier.queue.items n.frontier.last n.frontier.counts c.next.new.desk) (Ok (Some c.in-Ok-Some.hit)) _
    c.next.ensures.hierarchy refl (rw c.in-Ok-Some.field-0-is at c.in-Ok-Some.ensures.visits)

pub returns-in-Ok-None-clause-once : goal.returns-in-Ok-None-clause-once
returns-in-Ok-None-clause-once g c =
    let s = c.args.self.now.search in
    let n = c.next.new.self in
    once_over s.hierarchy.tree.number (told_pages c.args.desk.now) s.hierarchy n.hierarchy (state s.frontier.queue.items s.frontier.last s.frontier.counts c.args.desk.now)
    (state n.frontier.queue.items n.frontier.last n.frontier.counts c.next.new.desk) (Ok None) _
    c.next.ensures.hierarchy refl (rw c.in-Ok-None.field-0-is at c.in-Ok-None.ensures.visits)

pub returns-in-Err-clause-once : goal.returns-in-Err-clause-once
returns-in-Err-clause-once g c =
    let s = c.args.self.now.search in
    let n = c.next.new.self in
    once_over s.hierarchy.tree.number (told_pages c.args.desk.now) s.hierarchy n.hierarchy (state s.frontier.queue.items s.frontier.last s.frontier.counts c.args.desk.now)
    (state n.frontier.queue.items n.frontier.last n.frontier.counts c.next.new.desk) (Err c.in-Err.fault) _
    c.next.ensures.hierarchy tt c.in-Err.ensures.visits
