-- the map that is kept is held, under a stamp of its own
use Rattle.fault_tables.proofs.Held.{taken}
use Rattle.fault_tables.proofs.pool_kept.keep.Goals as goal

pub returns-clause-taken : goal.returns-clause-taken
returns-clause-taken c = taken c.args.run.now.pool c.keep.new.self c.in_ok-stamp.stamp c.in_ok-stamp.ensures.kept
