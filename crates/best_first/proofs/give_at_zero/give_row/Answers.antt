-- The row of the least id is the first of all that is queued.
use Rattle.best_first.proofs.ZeroRows.{given_row}
use Rattle.best_first.proofs.give_at_zero.give_row.Goals as goal

pub returns-clause-queue : goal.returns-clause-queue
returns-clause-queue g c = given_row g.N.Ord.cmp c.in_ok-id.id c.new.result c.args.frontier.now.queue c.take_row.new.self c.new.ensures.num c.new.ensures.den c.requires c.in_ok-id.ensures
