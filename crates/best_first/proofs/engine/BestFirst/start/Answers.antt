-- The root is queued, and nothing was taken.
use Rattle.std.proofs.Common.{◌∙◌}
use Rattle.best_first.proofs.Beginning.{begun_stands}
use Rattle.best_first.proofs.engine.BestFirst.start.Goals as goal

pub returns-clause-stands : goal.returns-clause-stands
returns-clause-stands g c p laws =
    begun_stands g.met.H.Node.Ord.total (g.H.Hierarchy.meaning c.args.hierarchy p) laws c.ceiling.result c.root-gap.result.0 c.root-gap.result.1
    (g.Q.Queue.held c.reserve.new.self) (g.Q.Queue.held c.push_root.new.queue) (c.ceiling.ensures.value p) (c.root-gap.ensures p) (c.reserve.ensures.items ∙ c.requires) c.push_root.ensures
