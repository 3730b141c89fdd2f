-- A row lowers the number of steps, and the search stands after it.
use Rattle.std.proofs.Common.{◌≡◌, ◌<◌, Bool, false, inl, Option, Result, Ok, IfSome, refl, sym, subst}
use Rattle.page_pool.specs.Causes.{HasPageCause}
use Rattle.page_pool.specs.declared.fault.PageFault.{PageFault}
use Rattle.best_first.specs.declared.hit.Hit.{Hit}
use Rattle.best_first.specs.Rows.{StepsSearch}
use Rattle.best_first.specs.Steps.{steps, Falls}
use Rattle.best_first.specs.Visits.{GivesNext, told_pages, state, last_after}
use Rattle.best_first.proofs.Passing.{row_goes}
use Rattle.best_first.proofs.RowSteps.{stepped}
use Rattle.best_first.proofs.rows.RowsIterator.next.Goals as goal

pub returns-in-Ok-Some-clause-goes : goal.returns-in-Ok-Some-clause-goes
returns-in-Ok-Some-clause-goes g c =
    let old = c.args.self.now.cursor.now in
    let new = c.next.new.self in
    let e = c.in-Ok-Some.ensures in
    let weight = g.H.Hierarchy.weight in
    let stands = row_goes g.H.Node.Ord.cmp g.H.Hierarchy.meaning c.args.self.now.desk.now c.next.new.desk old.hierarchy new.hierarchy
    (g.Q.Queue.held new.frontier.queue) new.frontier.last e.read e.hierarchy e.stands in
    let fell = subst (λ r. Falls (steps (weight old.hierarchy) (g.Q.Queue.held old.frontier.queue)) (steps (weight old.hierarchy) (g.Q.Queue.held new.frontier.queue))
    (Ok r)) c.in-Ok-Some.field-0-is e.falls in
    let less = subst (λ h. steps (weight h) (g.Q.Queue.held new.frontier.queue) < steps (weight old.hierarchy) (g.Q.Queue.held old.frontier.queue)) (sym e.hierarchy) fell in
    record { on = λ _. (stands, tt, less); keeps = stands; rests = λ _. tt }

-- each clause of the step of the search, with the row that it gave
pub returns-in-Ok-Some-clause-steps : goal.returns-in-Ok-Some-clause-steps
returns-in-Ok-Some-clause-steps g c =
    let old = c.args.self.now.cursor.now in
    let new = c.next.new.self in
    let e = c.in-Ok-Some.ensures in
    let given : c.args.self.now.outcome ≡ Ok false = search in
    let before = state (g.Q.Queue.held old.frontier.queue) old.frontier.last old.frontier.counts c.args.self.now.desk.now in
    let after = state (g.Q.Queue.held new.frontier.queue) new.frontier.last new.frontier.counts c.next.new.desk in
    let m = g.H.Hierarchy.meaning old.hierarchy in
    let note = g.H.Hierarchy.note old.hierarchy in
    let pages = told_pages c.args.self.now.desk.now in
    let found = stepped g.H.Node.Ord.cmp m note pages before after (Ok c.in-Ok-Some.field-0) e.stands e.visits in
    let calm : HasPageCause {T = Bool} c.args.self.now.desk.now.pool c.next.new.desk.pool (Ok false) = record { counted = e.cause.counted; damaged = tt } in (
      (given, given),
      (λ _. (e.read, subst (λ (r : Result Bool PageFault). HasPageCause {T = Bool} c.args.self.now.desk.now.pool c.next.new.desk.pool r) (sym given) calm)),
      (λ _. subst (λ (r : Option Hit). IfSome pages (λ p. GivesNext (m p) old.frontier.last (Ok r))) c.in-Ok-Some.field-0-is e.row),
      (λ _. (e.hierarchy, subst (λ (r : Option Hit). new.frontier.last ≡ last_after old.frontier.last (Ok r)) c.in-Ok-Some.field-0-is e.last)),
      (λ _. subst (λ (r : Option Hit). IfSome pages (λ p. StepsSearch g.H.Node.Ord.cmp (m p) note before after (Ok r))) c.in-Ok-Some.field-0-is found),
      λ other. absurd (other given),
    )

-- each clause of the step of the search, which found the end
pub returns-in-Ok-None-clause-steps : goal.returns-in-Ok-None-clause-steps
returns-in-Ok-None-clause-steps g c =
    let old = c.args.self.now.cursor.now in
    let new = c.next.new.self in
    let e = c.in-Ok-None.ensures in
    let given : c.args.self.now.outcome ≡ Ok false = search in
    let before = state (g.Q.Queue.held old.frontier.queue) old.frontier.last old.frontier.counts c.args.self.now.desk.now in
    let after = state (g.Q.Queue.held new.frontier.queue) new.frontier.last new.frontier.counts c.next.new.desk in
    let m = g.H.Hierarchy.meaning old.hierarchy in
    let note = g.H.Hierarchy.note old.hierarchy in
    let pages = told_pages c.args.self.now.desk.now in
    let found = stepped g.H.Node.Ord.cmp m note pages before after (Ok c.in-Ok-None.field-0) e.stands e.visits in (
      (refl, inl given),
      (λ _. (e.read, record { counted = e.cause.counted; damaged = tt })),
      (λ _. subst (λ (r : Option Hit). IfSome pages (λ p. GivesNext (m p) old.frontier.last (Ok r))) c.in-Ok-None.field-0-is e.row),
      (λ _. (e.hierarchy, subst (λ (r : Option Hit). new.frontier.last ≡ last_after old.frontier.last (Ok r)) c.in-Ok-None.field-0-is e.last)),
      (λ _. subst (λ (r : Option Hit). IfSome pages (λ p. StepsSearch g.H.Node.Ord.cmp (m p) note before after (Ok r))) c.in-Ok-None.field-0-is found),
      λ other. absurd (other given),
    )
