-- Each answer of the search is one of the source: its row, the end, or a refusal.
use Rattle.std.proofs.Common.{ap}
use Rattle.best_first.specs.Visits.{told_pages}
use Rattle.plan_sources.specs.Rankings.{hierarchy_of, search_state, heights_of, HasItsCeiling}
use Rattle.plan_sources.proofs.RankPrices.{costs_over}
use Rattle.plan_sources.proofs.OverPages.{asked, row_over, end_over, fault_over}
use Rattle.plan_sources.proofs.rank_source.RankSourceRowSource.next.Goals as goal

-- where something was taken the search stands
pub next-requires : goal.next-requires
next-requires g c =
    let s = c.args.self.now.search in
    let t = hierarchy_of s in
    asked t.pmr.number (told_pages c.args.desk.now) (HasItsCeiling s) t (search_state s c.args.desk.now) c.requires.stands

-- a row
pub returns-in-Ok-Some-clause-step : goal.returns-in-Ok-Some-clause-step
returns-in-Ok-Some-clause-step g c =
    let s = c.args.self.now.search in
    let t = hierarchy_of s in
    let n = c.next.new.self in
    row_over t.pmr.number (HasItsCeiling s) (HasItsCeiling n) c.next.ensures.ceiling (told_pages c.args.desk.now) t (hierarchy_of n) (search_state s c.args.desk.now) (search_state n c.next.new.desk)
    c.in-Ok-Some.hit c.answer_of.result c.next.ensures.hierarchy (c.answer_of.ensures.gap, c.answer_of.ensures.ids, c.answer_of.ensures.values)
    (rw c.in-Ok-Some.field-0-is at c.in-Ok-Some.ensures.last) (rw c.in-Ok-Some.field-0-is at c.in-Ok-Some.ensures.row) (rw c.in-Ok-Some.field-0-is at c.in-Ok-Some.ensures.visits)

-- the end
pub returns-in-Ok-None-clause-step : goal.returns-in-Ok-None-clause-step
returns-in-Ok-None-clause-step g c =
    let s = c.args.self.now.search in
    let t = hierarchy_of s in
    let n = c.next.new.self in
    end_over t.pmr.number (HasItsCeiling s) (HasItsCeiling n) c.next.ensures.ceiling (told_pages c.args.desk.now) t (hierarchy_of n) (search_state s c.args.desk.now) (search_state n c.next.new.desk)
    c.next.ensures.hierarchy
    (rw c.in-Ok-None.field-0-is at c.in-Ok-None.ensures.last) (rw c.in-Ok-None.field-0-is at c.in-Ok-None.ensures.row) (rw c.in-Ok-None.field-0-is at c.in-Ok-None.ensures.visits)

-- a refusal
pub returns-in-Err-clause-step : goal.returns-in-Err-clause-step
returns-in-Err-clause-step g c =
    let s = c.args.self.now.search in
    let t = hierarchy_of s in
    let n = c.next.new.self in
    fault_over t.pmr.number (HasItsCeiling s) (HasItsCeiling n) c.next.ensures.ceiling (told_pages c.args.desk.now) t (hierarchy_of n) (search_state s c.args.desk.now) (search_state n c.next.new.desk)
    c.in-Err.fault c.next.ensures.hierarchy c.in-Err.ensures.last c.in-Err.ensures.visits

-- ---- what a call costs

pub returns-in-Ok-Some-clause-costs : goal.returns-in-Ok-Some-clause-costs
returns-in-Ok-Some-clause-costs g c =
    let s = c.args.self.now.search in
    let t = hierarchy_of s in
    costs_over t.pmr.number (told_pages c.args.desk.now) (HasItsCeiling s) t (search_state s c.args.desk.now) (search_state c.next.new.self c.next.new.desk) _ _
    (rw c.in-Ok-Some.field-0-is at c.in-Ok-Some.ensures.visits)

pub returns-in-Ok-Some-clause-heights : goal.returns-in-Ok-Some-clause-heights
returns-in-Ok-Some-clause-heights g c = ap heights_of c.next.ensures.hierarchy

pub returns-in-Ok-None-clause-costs : goal.returns-in-Ok-None-clause-costs
returns-in-Ok-None-clause-costs g c =
    let s = c.args.self.now.search in
    let t = hierarchy_of s in
    costs_over t.pmr.number (told_pages c.args.desk.now) (HasItsCeiling s) t (search_state s c.args.desk.now) (search_state c.next.new.self c.next.new.desk) _ _
    (rw c.in-Ok-None.field-0-is at c.in-Ok-None.ensures.visits)

pub returns-in-Ok-None-clause-heights : goal.returns-in-Ok-None-clause-heights
returns-in-Ok-None-clause-heights g c = ap heights_of c.next.ensures.hierarchy

pub returns-in-Err-clause-costs : goal.returns-in-Err-clause-costs
returns-in-Err-clause-costs g c =
    let s = c.args.self.now.search in
    let t = hierarchy_of s in
    costs_over t.pmr.number (told_pages c.args.desk.now) (HasItsCeiling s) t (search_state s c.args.desk.now) (search_state c.next.new.self c.next.new.desk) _ _ c.in-Err.ensures.visits

pub returns-in-Err-clause-heights : goal.returns-in-Err-clause-heights
returns-in-Err-clause-heights g c = ap heights_of c.next.ensures.hierarchy
