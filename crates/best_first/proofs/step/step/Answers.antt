-- A step opens or fetches what is at the front, and leaves all as it is where a row is there.
use Rattle.std.proofs.Common.{refl, inr, subst}
use Rattle.rank_queue.specs.Least.{IsFirst}
use Rattle.best_first.specs.Order.{item_cmp}
use Rattle.best_first.specs.Visits.{told_pages, state}
use Rattle.best_first.proofs.Passing.{stays_over}
use Rattle.best_first.proofs.step.step.Goals as goal

pub returns-in-None-clause-moves : goal.returns-in-None-clause-moves
returns-in-None-clause-moves g c =
    let f = c.args.frontier.now in
    stays_over g.H.Node.Ord.cmp (g.H.Hierarchy.meaning c.args.hierarchy.now) (g.H.Hierarchy.note c.args.hierarchy.now) (told_pages c.args.desk.now)
    (state (g.Q.Queue.held f.queue) f.last f.counts c.args.desk.now)

pub returns-in-Some-Row-clause-moves : goal.returns-in-Some-Row-clause-moves
returns-in-Some-Row-clause-moves g c =
    let f = c.args.frontier.now in
    stays_over g.H.Node.Ord.cmp (g.H.Hierarchy.meaning c.args.hierarchy.now) (g.H.Hierarchy.note c.args.hierarchy.now) (told_pages c.args.desk.now)
    (state (g.Q.Queue.held f.queue) f.last f.counts c.args.desk.now)

pub returns-in-Some-Row-clause-settles : goal.returns-in-Some-Row-clause-settles
returns-in-Some-Row-clause-settles g c = (
  refl,
  inr (
    record { gap = c.in-Some-Row.field-0-0; left = c.in-Some-Row.field-0-1; right = c.in-Some-Row.field-0-2 },
    subst (λ x. IsFirst (item_cmp g.H.Node.Ord.cmp) x (g.Q.Queue.held c.args.frontier.now.queue)) c.in-Some-Row.field-0-is c.in-Some-Row.ensures,
  ),
)
