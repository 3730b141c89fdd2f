-- A step opens or fetches what is at the front, or takes a row from there whose left id isn't wanted; a wanted row stays.
use Rattle.std.proofs.Common.{inr, sym, ◌∙◌, refl, subst}
use Rattle.rank_queue.specs.Least.{IsFirst}
use Rattle.best_first.specs.Order.{item_cmp}
use Rattle.best_first.specs.Visits.{told_pages, state}
use Rattle.best_first.proofs.WantedCalls.{stays_over_for, leaves_for, leave_falls, popped_row}
use Rattle.best_first.proofs.step_wanted.step_wanted.Goals as goal

pub returns-in-None-clause-moves : goal.returns-in-None-clause-moves
returns-in-None-clause-moves g c =
    let f = c.args.frontier.now in
    stays_over_for g.met.H.Node.Ord.total (g.H.Hierarchy.meaning c.args.hierarchy.now) (g.H.Hierarchy.note c.args.hierarchy.now) (g.W.Wanted.lefts c.args.wanted.now)
    (told_pages c.args.desk.now) (state (g.Q.Queue.held f.queue) f.last f.counts c.args.desk.now)

pub returns-then-wants-clause-moves : goal.returns-then-wants-clause-moves
returns-then-wants-clause-moves g c =
    let f = c.args.frontier.now in
    stays_over_for g.met.H.Node.Ord.total (g.H.Hierarchy.meaning c.args.hierarchy.now) (g.H.Hierarchy.note c.args.hierarchy.now) (g.W.Wanted.lefts c.args.wanted.now)
    (told_pages c.args.desk.now) (state (g.Q.Queue.held f.queue) f.last f.counts c.args.desk.now)

pub returns-then-wants-clause-settles : goal.returns-then-wants-clause-settles
returns-then-wants-clause-settles g c = inr (
  record { gap = c.in-Some-Row.field-0-0; left = c.in-Some-Row.left; right = c.in-Some-Row.field-0-2 },
  (subst (λ x. IsFirst (item_cmp g.H.Node.Ord.cmp) x (g.Q.Queue.held c.args.frontier.now.queue)) c.in-Some-Row.field-0-is c.in-Some-Row.ensures, sym c.wants.ensures ∙ c.if-wants.true),
)

pub returns-in-Some-clause-falls : goal.returns-in-Some-clause-falls
returns-in-Some-clause-falls g c =
    let held = g.Q.Queue.held c.args.frontier.now.queue in
    let new = g.Q.Queue.held c.pop.new.self in
    let x = c.in-Some._unwanted in
    let first = subst (λ y. IsFirst (item_cmp g.H.Node.Ord.cmp) y held) c.in-Some-Row.field-0-is c.in-Some-Row.ensures in
    let row = popped_row g.met.H.Node.Ord.total c.in-Some-Row.field-0-0 c.in-Some-Row.left c.in-Some-Row.field-0-2 x held new first c.in-Some.ensures.items c.in-Some.ensures.least in
    leave_falls (g.H.Hierarchy.weight c.args.hierarchy.now) held new x row.0 c.in-Some-Row.left c.in-Some-Row.field-0-2 row.1 c.in-Some.ensures.items

pub returns-in-Some-clause-moves : goal.returns-in-Some-clause-moves
returns-in-Some-clause-moves g c =
    let f = c.args.frontier.now in
    let held = g.Q.Queue.held f.queue in
    let new = g.Q.Queue.held c.pop.new.self in
    let x = c.in-Some._unwanted in
    let first = subst (λ y. IsFirst (item_cmp g.H.Node.Ord.cmp) y held) c.in-Some-Row.field-0-is c.in-Some-Row.ensures in
    let row = popped_row g.met.H.Node.Ord.total c.in-Some-Row.field-0-0 c.in-Some-Row.left c.in-Some-Row.field-0-2 x held new first c.in-Some.ensures.items c.in-Some.ensures.least in
    leaves_for g.met.H.Node.Ord.total (g.H.Hierarchy.meaning c.args.hierarchy.now) (g.H.Hierarchy.note c.args.hierarchy.now) (g.W.Wanted.lefts c.args.wanted.now) (told_pages c.args.desk.now)
    (state held f.last f.counts c.args.desk.now) (state new f.last f.counts c.args.desk.now) x row.0 c.in-Some-Row.left c.in-Some-Row.field-0-2
    (sym c.wants.ensures ∙ c.if-wants.false) row.1 c.in-Some.ensures.items refl refl c.requires.stands
