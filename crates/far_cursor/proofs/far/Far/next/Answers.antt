-- A row of the search with its key turned; the end of the search; or a refusal.
use Rattle.std.proofs.Common.{IfSome, Ok, ◌∙◌, ap, subst, Ordering}
use Rattle.std.specs.Ordering.{nat_cmp, ordering_then}
use Rattle.z_code.specs.declared.block.Block.{Block}
use Rattle.best_first.specs.Visits.{told_pages, state, last_after, GivesNext, MakesVisits}
use Rattle.rank_cursor.specs.Cursor.{visit_of}
use Rattle.rank_cursor.specs.Ranking.{rank_meaning}
use Rattle.far_cursor.specs.FarCursor.{far_in}
use Rattle.far_cursor.proofs.FarPages.{LawsOf, row_rows, row_noted, end_rows, end_noted, fault_rows, fault_noted}
use Rattle.far_cursor.proofs.far.Far.next.Goals as goal

-- the order of blocks
abbrev by_code : Block → Block → Ordering
by_code a b = ordering_then (nat_cmp a.z b.z) (nat_cmp a.level b.level)

-- a row
pub returns-in-Ok-Some-clause-rows : goal.returns-in-Ok-Some-clause-rows
returns-in-Ok-Some-clause-rows g c =
    let before = c.args.self.now.search in
    let after = c.next.new.self in
    let tree = before.hierarchy in
    let e = c.in-Ok-Some.ensures in
    let pages = told_pages c.args.desk.now in
    let old = state before.frontier.queue.items before.frontier.last before.frontier.counts c.args.desk.now in
    let new = state after.frontier.queue.items after.frontier.last after.frontier.counts c.next.new.desk in
    let next = subst (λ r. IfSome pages (λ p. GivesNext (rank_meaning (far_in tree p)) before.frontier.last (Ok r))) c.in-Ok-Some.field-0-is e.row in
    let last = e.last ∙ ap (λ r. last_after before.frontier.last (Ok r)) c.in-Ok-Some.field-0-is in
    row_rows tree by_code (visit_of tree.pmr.number) old new pages c.in-Ok-Some.key c.turned.result (subst LawsOf c.hierarchy.ensures c.laws.ensures) c.turned.ensures last c.requires next

pub returns-in-Ok-Some-clause-visits : goal.returns-in-Ok-Some-clause-visits
returns-in-Ok-Some-clause-visits g c =
    let before = c.args.self.now.search in
    let after = c.next.new.self in
    let tree = before.hierarchy in
    let e = c.in-Ok-Some.ensures in
    let pages = told_pages c.args.desk.now in
    let old = state before.frontier.queue.items before.frontier.last before.frontier.counts c.args.desk.now in
    let new = state after.frontier.queue.items after.frontier.last after.frontier.counts c.next.new.desk in
    let next = subst (λ r. IfSome pages (λ p. GivesNext (rank_meaning (far_in tree p)) before.frontier.last (Ok r))) c.in-Ok-Some.field-0-is e.row in
    let visits = subst (λ r. IfSome pages (λ p. MakesVisits by_code (rank_meaning (far_in tree p)) (visit_of tree.pmr.number) old new (Ok r))) c.in-Ok-Some.field-0-is e.visits in
    row_noted tree by_code (visit_of tree.pmr.number) old new pages c.in-Ok-Some.key c.turned.result c.turned.ensures next visits

-- the end
pub returns-in-Ok-None-clause-rows : goal.returns-in-Ok-None-clause-rows
returns-in-Ok-None-clause-rows g c =
    let before = c.args.self.now.search in
    let after = c.next.new.self in
    let tree = before.hierarchy in
    let e = c.in-Ok-None.ensures in
    let pages = told_pages c.args.desk.now in
    let old = state before.frontier.queue.items before.frontier.last before.frontier.counts c.args.desk.now in
    let new = state after.frontier.queue.items after.frontier.last after.frontier.counts c.next.new.desk in
    let next = subst (λ r. IfSome pages (λ p. GivesNext (rank_meaning (far_in tree p)) before.frontier.last (Ok r))) c.in-Ok-None.field-0-is e.row in
    let last = e.last ∙ ap (λ r. last_after before.frontier.last (Ok r)) c.in-Ok-None.field-0-is in
    end_rows tree by_code (visit_of tree.pmr.number) old new pages (subst LawsOf c.hierarchy.ensures c.laws.ensures) last c.requires next

pub returns-in-Ok-None-clause-visits : goal.returns-in-Ok-None-clause-visits
returns-in-Ok-None-clause-visits g c =
    let before = c.args.self.now.search in
    let after = c.next.new.self in
    let tree = before.hierarchy in
    let e = c.in-Ok-None.ensures in
    let pages = told_pages c.args.desk.now in
    let old = state before.frontier.queue.items before.frontier.last before.frontier.counts c.args.desk.now in
    let new = state after.frontier.queue.items after.frontier.last after.frontier.counts c.next.new.desk in
    let visits = subst (λ r. IfSome pages (λ p. MakesVisits by_code (rank_meaning (far_in tree p)) (visit_of tree.pmr.number) old new (Ok r))) c.in-Ok-None.field-0-is e.visits in
    end_noted tree by_code (visit_of tree.pmr.number) old new pages visits

-- a refusal
pub returns-in-Err-clause-rows : goal.returns-in-Err-clause-rows
returns-in-Err-clause-rows g c =
    let before = c.args.self.now.search in
    let after = c.next.new.self in
    let tree = before.hierarchy in
    let e = c.in-Err.ensures in
    let pages = told_pages c.args.desk.now in
    let old = state before.frontier.queue.items before.frontier.last before.frontier.counts c.args.desk.now in
    let new = state after.frontier.queue.items after.frontier.last after.frontier.counts c.next.new.desk in
    fault_rows tree by_code (visit_of tree.pmr.number) old new pages c.in-Err.fault e.last

pub returns-in-Err-clause-visits : goal.returns-in-Err-clause-visits
returns-in-Err-clause-visits g c =
    let before = c.args.self.now.search in
    let after = c.next.new.self in
    let tree = before.hierarchy in
    let e = c.in-Err.ensures in
    let pages = told_pages c.args.desk.now in
    let old = state before.frontier.queue.items before.frontier.last before.frontier.counts c.args.desk.now in
    let new = state after.frontier.queue.items after.frontier.last after.frontier.counts c.next.new.desk in
    fault_noted tree by_code (visit_of tree.pmr.number) old new pages c.in-Err.fault e.visits
