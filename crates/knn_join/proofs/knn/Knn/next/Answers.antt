-- The end where no row is to come.
use Rattle.std.proofs.Common.{sym, ◌∙◌}
use Rattle.best_first.specs.Visits.{told_pages, state}
use Rattle.knn_join.proofs.Turns.{ended}
use Rattle.knn_join.proofs.knn.Knn.next.Goals as goal

-- no row is to come, so none is left
pub returns-then-waiting-eq0-clause-rest : goal.returns-then-waiting-eq0-clause-rest
returns-then-waiting-eq0-clause-rest g c =
    let knn = c.args.self.now in
    let f = knn.engine.frontier in
    ended g.H.Node.Ord.cmp (g.H.Hierarchy.meaning knn.engine.hierarchy) (g.H.Hierarchy.note knn.engine.hierarchy) knn.partners
    (state (g.Q.Queue.held f.queue) f.last f.counts c.args.desk.now) (told_pages c.args.desk.now)
    (sym c.waiting.ensures ∙ c.if-waiting-eq0.true) c.requires
