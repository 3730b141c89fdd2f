-- A search that has given nothing stands for all left rows.
use Rattle.semi_join.proofs.Turns.{starts}
use Rattle.semi_join.proofs.semi.Semi.start.Goals as goal

pub returns-clause-stands : goal.returns-clause-stands
returns-clause-stands g c =
    λ p stands has.
    starts (g.H.Hierarchy.meaning c.args.engine.hierarchy p) c.in_ok-lefts.lefts (g.Q.Queue.held c.args.engine.frontier.queue) c.args.engine.frontier.last c.args.lefts c.args.greatest
    c.requires stands has c.in_ok-lefts.ensures.below c.in_ok-lefts.ensures.waiting
