-- A first pair, the end, or a refusal.
use Rattle.std.proofs.Common.{IfSome, None, Some, Ok, Err, sym, subst}
use Rattle.best_first.specs.Visits.{told_pages, state}
use Rattle.semi_join.specs.FirstPairs.{SemiStands}
use Rattle.semi_join.proofs.Turns.{pair_given, pair_stands, still_stands, pair_visits}
use Rattle.semi_join.proofs.next_pair.next_pair.Goals as goal

pub returns-in-Ok-Some-clause-pair : goal.returns-in-Ok-Some-clause-pair
returns-in-Ok-Some-clause-pair g c =
    let first = c.args.engine.now in
    let after = c.next_wanted.new.self in
    let pages = told_pages c.args.desk.now in
    let old = state (g.Q.Queue.held first.frontier.queue) first.frontier.last first.frontier.counts c.args.desk.now in
    let new = state (g.Q.Queue.held after.frontier.queue) after.frontier.last after.frontier.counts c.next_wanted.new.desk in
    pair_given g.H.Node.Ord.cmp (g.H.Hierarchy.meaning first.hierarchy) (g.H.Hierarchy.note first.hierarchy) c.args.lefts.now old pages
    (Ok (Some c.in-Ok-Some.hit)) c.requires.stands (rw c.in-Ok-Some.field-0-is at c.in-Ok-Some.ensures.row)

pub returns-in-Ok-Some-clause-stands : goal.returns-in-Ok-Some-clause-stands
returns-in-Ok-Some-clause-stands g c =
    let first = c.args.engine.now in
    let after = c.next_wanted.new.self in
    let pages = told_pages c.args.desk.now in
    let old = state (g.Q.Queue.held first.frontier.queue) first.frontier.last first.frontier.counts c.args.desk.now in
    let new = state (g.Q.Queue.held after.frontier.queue) after.frontier.last after.frontier.counts c.next_wanted.new.desk in
    subst (λ s. IfSome pages (λ p. SemiStands g.H.Node.Ord.cmp (g.H.Hierarchy.meaning first.hierarchy p) new.held s)) (sym c.give.ensures)
    (pair_stands g.H.Node.Ord.cmp (g.H.Hierarchy.meaning first.hierarchy) (g.H.Hierarchy.note first.hierarchy) c.args.lefts.now old pages new c.in-Ok-Some.hit c.requires.stands
    (rw c.in-Ok-Some.field-0-is at c.in-Ok-Some.ensures.row) (rw c.in-Ok-Some.field-0-is at c.in-Ok-Some.ensures.stands))

pub returns-in-Ok-Some-clause-visits : goal.returns-in-Ok-Some-clause-visits
returns-in-Ok-Some-clause-visits g c =
    let first = c.args.engine.now in
    let after = c.next_wanted.new.self in
    let pages = told_pages c.args.desk.now in
    let old = state (g.Q.Queue.held first.frontier.queue) first.frontier.last first.frontier.counts c.args.desk.now in
    let new = state (g.Q.Queue.held after.frontier.queue) after.frontier.last after.frontier.counts c.next_wanted.new.desk in
    pair_visits g.H.Node.Ord.cmp (g.H.Hierarchy.meaning first.hierarchy) (g.H.Hierarchy.note first.hierarchy) c.args.lefts.now old pages new
    (Ok (Some c.in-Ok-Some.hit)) c.requires.stands (rw c.in-Ok-Some.field-0-is at c.in-Ok-Some.ensures.visits)

-- the end
pub returns-in-Ok-None-clause-pair : goal.returns-in-Ok-None-clause-pair
returns-in-Ok-None-clause-pair g c =
    let first = c.args.engine.now in
    let after = c.next_wanted.new.self in
    let pages = told_pages c.args.desk.now in
    let old = state (g.Q.Queue.held first.frontier.queue) first.frontier.last first.frontier.counts c.args.desk.now in
    let new = state (g.Q.Queue.held after.frontier.queue) after.frontier.last after.frontier.counts c.next_wanted.new.desk in
    pair_given g.H.Node.Ord.cmp (g.H.Hierarchy.meaning first.hierarchy) (g.H.Hierarchy.note first.hierarchy) c.args.lefts.now old pages (Ok None) c.requires.stands
    (rw c.in-Ok-None.field-0-is at c.in-Ok-None.ensures.row)

pub returns-in-Ok-None-clause-stands : goal.returns-in-Ok-None-clause-stands
returns-in-Ok-None-clause-stands g c =
    let first = c.args.engine.now in
    let after = c.next_wanted.new.self in
    let pages = told_pages c.args.desk.now in
    let old = state (g.Q.Queue.held first.frontier.queue) first.frontier.last first.frontier.counts c.args.desk.now in
    let new = state (g.Q.Queue.held after.frontier.queue) after.frontier.last after.frontier.counts c.next_wanted.new.desk in
    still_stands g.H.Node.Ord.cmp (g.H.Hierarchy.meaning first.hierarchy) (g.H.Hierarchy.note first.hierarchy) c.args.lefts.now old pages new c.requires.stands
    (rw c.in-Ok-None.field-0-is at c.in-Ok-None.ensures.stands)

pub returns-in-Ok-None-clause-visits : goal.returns-in-Ok-None-clause-visits
returns-in-Ok-None-clause-visits g c =
    let first = c.args.engine.now in
    let after = c.next_wanted.new.self in
    let pages = told_pages c.args.desk.now in
    let old = state (g.Q.Queue.held first.frontier.queue) first.frontier.last first.frontier.counts c.args.desk.now in
    let new = state (g.Q.Queue.held after.frontier.queue) after.frontier.last after.frontier.counts c.next_wanted.new.desk in
    pair_visits g.H.Node.Ord.cmp (g.H.Hierarchy.meaning first.hierarchy) (g.H.Hierarchy.note first.hierarchy) c.args.lefts.now old pages new (Ok None) c.requires.stands
    (rw c.in-Ok-None.field-0-is at c.in-Ok-None.ensures.visits)

-- a refusal
pub returns-in-Err-clause-stands : goal.returns-in-Err-clause-stands
returns-in-Err-clause-stands g c =
    let first = c.args.engine.now in
    let after = c.next_wanted.new.self in
    let pages = told_pages c.args.desk.now in
    let old = state (g.Q.Queue.held first.frontier.queue) first.frontier.last first.frontier.counts c.args.desk.now in
    let new = state (g.Q.Queue.held after.frontier.queue) after.frontier.last after.frontier.counts c.next_wanted.new.desk in
    still_stands g.H.Node.Ord.cmp (g.H.Hierarchy.meaning first.hierarchy) (g.H.Hierarchy.note first.hierarchy) c.args.lefts.now old pages new c.requires.stands c.in-Err.ensures.stands

pub returns-in-Err-clause-visits : goal.returns-in-Err-clause-visits
returns-in-Err-clause-visits g c =
    let first = c.args.engine.now in
    let after = c.next_wanted.new.self in
    let pages = told_pages c.args.desk.now in
    let old = state (g.Q.Queue.held first.frontier.queue) first.frontier.last first.frontier.counts c.args.desk.now in
    let new = state (g.Q.Queue.held after.frontier.queue) after.frontier.last after.frontier.counts c.next_wanted.new.desk in
    pair_visits g.H.Node.Ord.cmp (g.H.Hierarchy.meaning first.hierarchy) (g.H.Hierarchy.note first.hierarchy) c.args.lefts.now old pages new
    (Err c.in-Err.fault) c.requires.stands c.in-Err.ensures.visits
