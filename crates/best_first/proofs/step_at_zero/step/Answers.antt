-- Where there is nothing to do, all stays.
use Rattle.best_first.specs.Visits.{told_pages, state}
use Rattle.best_first.proofs.Passing.{stays_over}
use Rattle.best_first.specs.ZeroItems.{items_of}
use Rattle.best_first.proofs.step_at_zero.step.Goals as goal

pub returns-clause-moves : goal.returns-clause-moves
returns-clause-moves g c =
    let f = c.args.frontier.now in
    stays_over g.H.Node.Ord.cmp (g.H.Hierarchy.meaning c.args.hierarchy.now) (g.H.Hierarchy.note c.args.hierarchy.now) (told_pages c.args.desk.now)
    (state (items_of f.queue) f.last f.counts c.args.desk.now)
