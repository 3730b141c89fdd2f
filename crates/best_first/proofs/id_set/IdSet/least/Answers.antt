use Rattle.best_first.proofs.Ids.{least_id}
use Rattle.best_first.proofs.id_set.IdSet.least.Goals as goal

-- the least bit is that of the least id
pub returns : goal.returns
returns c = rw (← c.self.view_is) (least_id c.self.inside.words.items c.self.inside.least c.self.invariant.least)
