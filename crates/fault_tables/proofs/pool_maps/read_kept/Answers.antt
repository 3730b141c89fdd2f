-- the desk read alone, and gave the pool back
use Rattle.std.proofs.Common.{sym, subst}
use Rattle.page_pool.specs.Pool.{IsClosed}
use Rattle.page_pool.specs.Reads.{IsRead}
use Rattle.fault_tables.specs.Holding.{HoldsStill}
use Rattle.fault_tables.proofs.Lent.{closed_again, held_again}
use Rattle.fault_tables.proofs.pool_maps.read_kept.Goals as goal

pub returns-clause-closed : goal.returns-clause-closed
returns-clause-closed c = subst IsClosed (sym c.close.ensures)
    (closed_again c.args.pool c.read_all.new.desk.pool c.args.kept.now.stamp c.requires.closed
    (subst (λ d. IsRead d.pool c.read_all.new.desk.pool) c.at-desk.ensures c.read_all.ensures))

pub returns-clause-still : goal.returns-clause-still
returns-clause-still c = subst (HoldsStill c.args.pool) (sym c.close.ensures)
    (held_again c.args.pool c.read_all.new.desk.pool c.args.kept.now.stamp
    (subst (λ d. IsRead d.pool c.read_all.new.desk.pool) c.at-desk.ensures c.read_all.ensures))
