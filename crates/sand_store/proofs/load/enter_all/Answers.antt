-- a row more entered
use Rattle.sand_store.proofs.Loads.{loading_next, loading_stops, loading_refuses}
use Rattle.sand_store.proofs.load.enter_all.Goals as goal

pub rows-preserved : goal.rows-preserved
rows-preserved g c =
    loading_next c.args.pool.now c.rows.pool c.enter.new.pool c.args.limits c.args.relation.now c.rows.relation c.enter.new.relation c.args.rows.now c.rows.row-index c.row-item.result
    c.rows.invariant c.rows-test.true c.row-item.is c.in-Ok.ensures.within c.in-Ok.ensures.cause.counted c.in-Ok.ensures.counts c.in-Ok.ensures.passes c.in-Ok.ensures.became

pub returns-in-Err-clause-stops : goal.returns-in-Err-clause-stops
returns-in-Err-clause-stops g c =
    loading_stops c.args.pool.now c.rows.pool c.args.limits c.args.relation.now c.rows.relation c.args.rows.now c.rows.row-index c.row-item.result c.in-Err.why
    c.rows.invariant c.rows-test.true c.row-item.is c.in-Err.ensures.stops

pub returns-in-Err-clause-plain : goal.returns-in-Err-clause-plain
returns-in-Err-clause-plain g c =
    loading_refuses c.args.pool.now c.rows.pool c.args.limits c.args.relation.now c.rows.relation c.args.rows.now c.rows.row-index c.row-item.result c.in-Err.why
    c.rows.invariant c.rows-test.true c.row-item.is c.in-Err.ensures.plain
