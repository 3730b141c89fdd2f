-- the other stamps are held as before
use Rattle.fault_tables.proofs.Held.{others}
use Rattle.fault_tables.proofs.pool_rounds.let_go.Goals as goal

pub returns-clause-others : goal.returns-clause-others
returns-clause-others c = others c.args.run.now.pool c.release.new.self c.args.kept.stamp c.release.ensures
