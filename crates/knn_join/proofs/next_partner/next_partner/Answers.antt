-- A row is passed over or given; the search ends; or it is refused.
use Rattle.std.proofs.Common.{◌≡◌, ◌<◌, ◌≤◌, ◌⊎◌, length, IfSome, None, Some, Ok, Err, refl, sym, ap, ◌∙◌, subst, arith}
use Rattle.best_first.specs.Visits.{told_pages, state, last_after}
use Rattle.best_first.specs.Steps.{steps, Falls}
use Rattle.best_first.proofs.Passing.{read_itself, read_both}
use Rattle.semi_join.proofs.Turns.{Calls, calls}
use Rattle.knn_join.specs.PartnerCounts.{given_to, gives_to}
use Rattle.knn_join.specs.Listed.{LeavesRest}
use Rattle.knn_join.specs.Standing.{KnnStands}
use Rattle.knn_join.proofs.Turns.{begins, passes, partner_left, partner_stands, partner_visits, end_left, end_noted, fault_left, fault_noted, still_stands}
use Rattle.knn_join.proofs.next_partner.next_partner.Goals as goal

-- nothing was passed over yet
pub rows-init : goal.rows-init
rows-init g c =
    let first = c.args.engine.now in
    record {
      hierarchy = refl;
      read = read_itself c.args.desk.now.pool;
      failures = refl;
      partners = refl;
      falls = omega arith;
      passes = begins g.H.Node.Ord.cmp (g.H.Hierarchy.meaning first.hierarchy) (g.H.Hierarchy.note first.hierarchy) c.args.partners.now
          (state (g.Q.Queue.held first.frontier.queue) first.frontier.last first.frontier.counts c.args.desk.now) (told_pages c.args.desk.now) c.requires.stands;
    }

-- a row whose left row was given the most partners is passed over
pub rows-preserved : goal.rows-preserved
rows-preserved g c =
    let inv = c.rows.invariant in
    let e = c.in-Ok-Some.ensures in
    let hit = c.in-Ok-Some.hit in
    let meaning = g.H.Hierarchy.meaning in
    let note = g.H.Hierarchy.note in
    let cmp = g.H.Node.Ord.cmp in
    let first = c.args.engine.now in
    let before = c.rows.engine in
    let after = c.next.new.self in
    let pages = told_pages c.args.desk.now in
    let old = state (g.Q.Queue.held first.frontier.queue) first.frontier.last first.frontier.counts c.args.desk.now in
    let mid = state (g.Q.Queue.held before.frontier.queue) before.frontier.last before.frontier.counts c.rows.desk in
    let new = state (g.Q.Queue.held after.frontier.queue) after.frontier.last after.frontier.counts c.next.new.desk in
    let call = subst (λ r. IfSome pages (λ p. Calls cmp (meaning first.hierarchy p) (note first.hierarchy) mid new (Ok r))) c.in-Ok-Some.field-0-is
    (calls cmp meaning note c.args.desk.now c.rows.desk first.hierarchy before.hierarchy mid new (Ok c.in-Ok-Some.field-0) inv.read inv.hierarchy e.row e.stands e.visits) in
    let last : after.frontier.last ≡ Some hit = e.last ∙ ap (λ r. last_after before.frontier.last (Ok r)) c.in-Ok-Some.field-0-is in
    let why = subst (λ s. (c.give.new.self ≡ s) × ((length s.given ≤ hit.left) ⊎ (s.most ≤ given_to s hit.left))) inv.partners c.if-give.ensures in
    let weight = g.H.Hierarchy.weight in
    let fell = subst (λ r. Falls (steps (weight before.hierarchy) (g.Q.Queue.held before.frontier.queue))
    (steps (weight before.hierarchy) (g.Q.Queue.held after.frontier.queue)) (Ok r)) c.in-Ok-Some.field-0-is e.falls in
    let less = subst (λ h. steps (weight h) (g.Q.Queue.held after.frontier.queue) < steps (weight h) (g.Q.Queue.held before.frontier.queue)) inv.hierarchy fell in
    let upto = inv.falls in
    record {
      hierarchy = e.hierarchy ∙ inv.hierarchy;
      read = read_both c.args.desk.now.pool c.rows.desk.pool c.next.new.desk.pool inv.read e.read;
      failures = e.cause.counted ∙ inv.failures;
      partners = why.0;
      falls = omega arith;
      passes = passes cmp (meaning first.hierarchy) (note first.hierarchy) c.args.partners.now old pages mid new hit last why.1 inv.passes call;
    }

-- a row whose left row had fewer is the next partner
pub returns-then-give-clause-partners : goal.returns-then-give-clause-partners
returns-then-give-clause-partners g c =
    let inv = c.rows.invariant in
    let hit = c.in-Ok-Some.hit in
    let given = subst (λ s. (given_to s hit.left < s.most) × (hit.left < length s.given) × (c.give.new.self ≡ gives_to hit.left s)) inv.partners c.if-give.ensures in
    (given.0, given.2)

pub returns-then-give-clause-rest : goal.returns-then-give-clause-rest
returns-then-give-clause-rest g c =
    let inv = c.rows.invariant in
    let e = c.in-Ok-Some.ensures in
    let hit = c.in-Ok-Some.hit in
    let meaning = g.H.Hierarchy.meaning in
    let note = g.H.Hierarchy.note in
    let cmp = g.H.Node.Ord.cmp in
    let first = c.args.engine.now in
    let before = c.rows.engine in
    let after = c.next.new.self in
    let pages = told_pages c.args.desk.now in
    let old = state (g.Q.Queue.held first.frontier.queue) first.frontier.last first.frontier.counts c.args.desk.now in
    let mid = state (g.Q.Queue.held before.frontier.queue) before.frontier.last before.frontier.counts c.rows.desk in
    let new = state (g.Q.Queue.held after.frontier.queue) after.frontier.last after.frontier.counts c.next.new.desk in
    let call = subst (λ r. IfSome pages (λ p. Calls cmp (meaning first.hierarchy p) (note first.hierarchy) mid new (Ok r))) c.in-Ok-Some.field-0-is
    (calls cmp meaning note c.args.desk.now c.rows.desk first.hierarchy before.hierarchy mid new (Ok c.in-Ok-Some.field-0) inv.read inv.hierarchy e.row e.stands e.visits) in
    let given = subst (λ s. (given_to s hit.left < s.most) × (hit.left < length s.given) × (c.give.new.self ≡ gives_to hit.left s)) inv.partners c.if-give.ensures in
    let last : after.frontier.last ≡ Some hit = e.last ∙ ap (λ r. last_after before.frontier.last (Ok r)) c.in-Ok-Some.field-0-is in
    subst (λ s. LeavesRest (meaning first.hierarchy) pages old.last c.args.partners.now new.last s (Ok (Some hit))) (sym given.2)
    (partner_left cmp (meaning first.hierarchy) (note first.hierarchy) c.args.partners.now old pages mid new hit last given.0 given.1 inv.passes call)

pub returns-then-give-clause-stands : goal.returns-then-give-clause-stands
returns-then-give-clause-stands g c =
    let inv = c.rows.invariant in
    let e = c.in-Ok-Some.ensures in
    let hit = c.in-Ok-Some.hit in
    let meaning = g.H.Hierarchy.meaning in
    let note = g.H.Hierarchy.note in
    let cmp = g.H.Node.Ord.cmp in
    let first = c.args.engine.now in
    let before = c.rows.engine in
    let after = c.next.new.self in
    let pages = told_pages c.args.desk.now in
    let old = state (g.Q.Queue.held first.frontier.queue) first.frontier.last first.frontier.counts c.args.desk.now in
    let mid = state (g.Q.Queue.held before.frontier.queue) before.frontier.last before.frontier.counts c.rows.desk in
    let new = state (g.Q.Queue.held after.frontier.queue) after.frontier.last after.frontier.counts c.next.new.desk in
    let call = subst (λ r. IfSome pages (λ p. Calls cmp (meaning first.hierarchy p) (note first.hierarchy) mid new (Ok r))) c.in-Ok-Some.field-0-is
    (calls cmp meaning note c.args.desk.now c.rows.desk first.hierarchy before.hierarchy mid new (Ok c.in-Ok-Some.field-0) inv.read inv.hierarchy e.row e.stands e.visits) in
    let given = subst (λ s. (given_to s hit.left < s.most) × (hit.left < length s.given) × (c.give.new.self ≡ gives_to hit.left s)) inv.partners c.if-give.ensures in
    let last : after.frontier.last ≡ Some hit = e.last ∙ ap (λ r. last_after before.frontier.last (Ok r)) c.in-Ok-Some.field-0-is in
    subst (λ s. IfSome pages (λ p. KnnStands cmp (meaning first.hierarchy p) new.held new.last s)) (sym given.2)
    (partner_stands cmp (meaning first.hierarchy) (note first.hierarchy) c.args.partners.now old pages mid new hit last given.0 given.1 inv.passes call)

pub returns-then-give-clause-visits : goal.returns-then-give-clause-visits
returns-then-give-clause-visits g c =
    let inv = c.rows.invariant in
    let e = c.in-Ok-Some.ensures in
    let hit = c.in-Ok-Some.hit in
    let meaning = g.H.Hierarchy.meaning in
    let note = g.H.Hierarchy.note in
    let cmp = g.H.Node.Ord.cmp in
    let first = c.args.engine.now in
    let before = c.rows.engine in
    let after = c.next.new.self in
    let pages = told_pages c.args.desk.now in
    let old = state (g.Q.Queue.held first.frontier.queue) first.frontier.last first.frontier.counts c.args.desk.now in
    let mid = state (g.Q.Queue.held before.frontier.queue) before.frontier.last before.frontier.counts c.rows.desk in
    let new = state (g.Q.Queue.held after.frontier.queue) after.frontier.last after.frontier.counts c.next.new.desk in
    let call = subst (λ r. IfSome pages (λ p. Calls cmp (meaning first.hierarchy p) (note first.hierarchy) mid new (Ok r))) c.in-Ok-Some.field-0-is
    (calls cmp meaning note c.args.desk.now c.rows.desk first.hierarchy before.hierarchy mid new (Ok c.in-Ok-Some.field-0) inv.read inv.hierarchy e.row e.stands e.visits) in
    partner_visits cmp (meaning first.hierarchy) (note first.hierarchy) c.args.partners.now old pages mid new hit inv.passes call

pub returns-then-give-clause-falls : goal.returns-then-give-clause-falls
returns-then-give-clause-falls g c =
    let inv = c.rows.invariant in
    let e = c.in-Ok-Some.ensures in
    let first = c.args.engine.now in
    let before = c.rows.engine in
    let after = c.next.new.self in
    let weight = g.H.Hierarchy.weight in
    let fell = subst (λ r. Falls (steps (weight before.hierarchy) (g.Q.Queue.held before.frontier.queue))
    (steps (weight before.hierarchy) (g.Q.Queue.held after.frontier.queue)) (Ok r)) c.in-Ok-Some.field-0-is e.falls in
    let less = subst (λ h. steps (weight h) (g.Q.Queue.held after.frontier.queue) < steps (weight h) (g.Q.Queue.held before.frontier.queue)) inv.hierarchy fell in
    let upto = inv.falls in
    omega arith

-- the end of the search
pub returns-in-Ok-None-clause-rest : goal.returns-in-Ok-None-clause-rest
returns-in-Ok-None-clause-rest g c =
    let inv = c.rows.invariant in
    let e = c.in-Ok-None.ensures in
    let meaning = g.H.Hierarchy.meaning in
    let note = g.H.Hierarchy.note in
    let cmp = g.H.Node.Ord.cmp in
    let first = c.args.engine.now in
    let before = c.rows.engine in
    let after = c.next.new.self in
    let pages = told_pages c.args.desk.now in
    let old = state (g.Q.Queue.held first.frontier.queue) first.frontier.last first.frontier.counts c.args.desk.now in
    let mid = state (g.Q.Queue.held before.frontier.queue) before.frontier.last before.frontier.counts c.rows.desk in
    let new = state (g.Q.Queue.held after.frontier.queue) after.frontier.last after.frontier.counts c.next.new.desk in
    let call = subst (λ r. IfSome pages (λ p. Calls cmp (meaning first.hierarchy p) (note first.hierarchy) mid new (Ok r))) c.in-Ok-None.field-0-is
    (calls cmp meaning note c.args.desk.now c.rows.desk first.hierarchy before.hierarchy mid new (Ok c.in-Ok-None.field-0) inv.read inv.hierarchy e.row e.stands e.visits) in
    let last : after.frontier.last ≡ before.frontier.last = e.last ∙ ap (λ r. last_after before.frontier.last (Ok r)) c.in-Ok-None.field-0-is in
    subst (λ s. LeavesRest (meaning first.hierarchy) pages old.last c.args.partners.now new.last s (Ok None)) (sym inv.partners)
    (end_left cmp (meaning first.hierarchy) (note first.hierarchy) c.args.partners.now old pages mid new last inv.passes call)

pub returns-in-Ok-None-clause-stands : goal.returns-in-Ok-None-clause-stands
returns-in-Ok-None-clause-stands g c =
    let inv = c.rows.invariant in
    let e = c.in-Ok-None.ensures in
    let meaning = g.H.Hierarchy.meaning in
    let note = g.H.Hierarchy.note in
    let cmp = g.H.Node.Ord.cmp in
    let first = c.args.engine.now in
    let before = c.rows.engine in
    let after = c.next.new.self in
    let pages = told_pages c.args.desk.now in
    let old = state (g.Q.Queue.held first.frontier.queue) first.frontier.last first.frontier.counts c.args.desk.now in
    let mid = state (g.Q.Queue.held before.frontier.queue) before.frontier.last before.frontier.counts c.rows.desk in
    let new = state (g.Q.Queue.held after.frontier.queue) after.frontier.last after.frontier.counts c.next.new.desk in
    let call = subst (λ r. IfSome pages (λ p. Calls cmp (meaning first.hierarchy p) (note first.hierarchy) mid new (Ok r))) c.in-Ok-None.field-0-is
    (calls cmp meaning note c.args.desk.now c.rows.desk first.hierarchy before.hierarchy mid new (Ok c.in-Ok-None.field-0) inv.read inv.hierarchy e.row e.stands e.visits) in
    let last : after.frontier.last ≡ before.frontier.last = e.last ∙ ap (λ r. last_after before.frontier.last (Ok r)) c.in-Ok-None.field-0-is in
    subst (λ s. IfSome pages (λ p. KnnStands cmp (meaning first.hierarchy p) new.held new.last s)) (sym inv.partners)
    (still_stands cmp (meaning first.hierarchy) (note first.hierarchy) c.args.partners.now old pages mid new (Ok None) last inv.passes call)

pub returns-in-Ok-None-clause-visits : goal.returns-in-Ok-None-clause-visits
returns-in-Ok-None-clause-visits g c =
    let inv = c.rows.invariant in
    let e = c.in-Ok-None.ensures in
    let meaning = g.H.Hierarchy.meaning in
    let note = g.H.Hierarchy.note in
    let cmp = g.H.Node.Ord.cmp in
    let first = c.args.engine.now in
    let before = c.rows.engine in
    let after = c.next.new.self in
    let pages = told_pages c.args.desk.now in
    let old = state (g.Q.Queue.held first.frontier.queue) first.frontier.last first.frontier.counts c.args.desk.now in
    let mid = state (g.Q.Queue.held before.frontier.queue) before.frontier.last before.frontier.counts c.rows.desk in
    let new = state (g.Q.Queue.held after.frontier.queue) after.frontier.last after.frontier.counts c.next.new.desk in
    let call = subst (λ r. IfSome pages (λ p. Calls cmp (meaning first.hierarchy p) (note first.hierarchy) mid new (Ok r))) c.in-Ok-None.field-0-is
    (calls cmp meaning note c.args.desk.now c.rows.desk first.hierarchy before.hierarchy mid new (Ok c.in-Ok-None.field-0) inv.read inv.hierarchy e.row e.stands e.visits) in
    end_noted cmp (meaning first.hierarchy) (note first.hierarchy) c.args.partners.now old pages mid new inv.passes call

-- a refusal
pub returns-in-Err-clause-rest : goal.returns-in-Err-clause-rest
returns-in-Err-clause-rest g c =
    let inv = c.rows.invariant in
    let e = c.in-Err.ensures in
    let fault = c.in-Err.fault in
    let meaning = g.H.Hierarchy.meaning in
    let note = g.H.Hierarchy.note in
    let cmp = g.H.Node.Ord.cmp in
    let first = c.args.engine.now in
    let before = c.rows.engine in
    let after = c.next.new.self in
    let pages = told_pages c.args.desk.now in
    let old = state (g.Q.Queue.held first.frontier.queue) first.frontier.last first.frontier.counts c.args.desk.now in
    let mid = state (g.Q.Queue.held before.frontier.queue) before.frontier.last before.frontier.counts c.rows.desk in
    let new = state (g.Q.Queue.held after.frontier.queue) after.frontier.last after.frontier.counts c.next.new.desk in
    let call = calls cmp meaning note c.args.desk.now c.rows.desk first.hierarchy before.hierarchy mid new (Err fault) inv.read inv.hierarchy e.row e.stands e.visits in
    subst (λ s. LeavesRest (meaning first.hierarchy) pages old.last c.args.partners.now new.last s (Err fault)) (sym inv.partners)
    (fault_left cmp (meaning first.hierarchy) (note first.hierarchy) c.args.partners.now old pages mid new fault e.last inv.passes)

pub returns-in-Err-clause-stands : goal.returns-in-Err-clause-stands
returns-in-Err-clause-stands g c =
    let inv = c.rows.invariant in
    let e = c.in-Err.ensures in
    let fault = c.in-Err.fault in
    let meaning = g.H.Hierarchy.meaning in
    let note = g.H.Hierarchy.note in
    let cmp = g.H.Node.Ord.cmp in
    let first = c.args.engine.now in
    let before = c.rows.engine in
    let after = c.next.new.self in
    let pages = told_pages c.args.desk.now in
    let old = state (g.Q.Queue.held first.frontier.queue) first.frontier.last first.frontier.counts c.args.desk.now in
    let mid = state (g.Q.Queue.held before.frontier.queue) before.frontier.last before.frontier.counts c.rows.desk in
    let new = state (g.Q.Queue.held after.frontier.queue) after.frontier.last after.frontier.counts c.next.new.desk in
    let call = calls cmp meaning note c.args.desk.now c.rows.desk first.hierarchy before.hierarchy mid new (Err fault) inv.read inv.hierarchy e.row e.stands e.visits in
    subst (λ s. IfSome pages (λ p. KnnStands cmp (meaning first.hierarchy p) new.held new.last s)) (sym inv.partners)
    (still_stands cmp (meaning first.hierarchy) (note first.hierarchy) c.args.partners.now old pages mid new (Err fault) e.last inv.passes call)

pub returns-in-Err-clause-visits : goal.returns-in-Err-clause-visits
returns-in-Err-clause-visits g c =
    let inv = c.rows.invariant in
    let e = c.in-Err.ensures in
    let fault = c.in-Err.fault in
    let meaning = g.H.Hierarchy.meaning in
    let note = g.H.Hierarchy.note in
    let cmp = g.H.Node.Ord.cmp in
    let first = c.args.engine.now in
    let before = c.rows.engine in
    let after = c.next.new.self in
    let pages = told_pages c.args.desk.now in
    let old = state (g.Q.Queue.held first.frontier.queue) first.frontier.last first.frontier.counts c.args.desk.now in
    let mid = state (g.Q.Queue.held before.frontier.queue) before.frontier.last before.frontier.counts c.rows.desk in
    let new = state (g.Q.Queue.held after.frontier.queue) after.frontier.last after.frontier.counts c.next.new.desk in
    let call = calls cmp meaning note c.args.desk.now c.rows.desk first.hierarchy before.hierarchy mid new (Err fault) inv.read inv.hierarchy e.row e.stands e.visits in
    fault_noted cmp (meaning first.hierarchy) (note first.hierarchy) c.args.partners.now old pages mid new fault inv.passes call
