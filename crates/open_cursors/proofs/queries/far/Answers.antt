-- the parts of the store, which are joined again
use Rattle.std.proofs.Common.{List, sym, subst}
use Rattle.page_pool.specs.Pool.{PoolState}
use Rattle.page_pool.specs.Reads.{IsRead}
use Rattle.statements.specs.Statement.{Far}
use Rattle.sand_store.specs.Catalog.{CatalogView}
use Rattle.sand_store.specs.Standing.{IsStore}
use Rattle.statement_exec.specs.Ending.{PagesHaveLineCause}
use Rattle.statement_exec.specs.Printing.{WritesOf}
use Rattle.open_cursors.specs.Outcomes.{PerformsBeside}
use Rattle.open_cursors.proofs.Lent.{lent, shows_live}
use Rattle.open_cursors.proofs.queries.far.Goals as goal

pub rejoin-requires : goal.rejoin-requires
rejoin-requires g c = subst (λ (p : PoolState). IsStore c.part-catalog.result.0 p)
    (sym (shows_live c.args.store c.part-catalog.result.1 c.far_line-printed.new.desk c.part-catalog.ensures.whole.closed.1 c.part-catalog.ensures.desk c.far_line-printed.ensures.read)) c.far_line-printed.ensures.stands

pub returns-clause-written : goal.returns-clause-written
returns-clause-written g c = λ cs.
    lent (λ (k : CatalogView) (p q : PoolState). WritesOf (PerformsBeside (Far c.args.count c.args.column.now c.args.goal) k p q cs cs) (g.K.Sink.took c.args.out.now)
    (g.K.Sink.took c.far_line-printed.new.out) c.far_line-printed.result) c.args.store c.rejoin.result c.part-catalog.result.0 c.part-catalog.result.1 c.far_line-printed.new.desk c.part-catalog.ensures.whole.closed.1
    c.part-catalog.ensures.catalog c.part-catalog.ensures.desk c.far_line-printed.ensures.read c.rejoin.ensures (c.far_line-printed.ensures.written cs)

pub returns-clause-read : goal.returns-clause-read
returns-clause-read g c =
    lent (λ (k : CatalogView) (p q : PoolState).
    IsRead p q) c.args.store c.rejoin.result c.part-catalog.result.0 c.part-catalog.result.1 c.far_line-printed.new.desk c.part-catalog.ensures.whole.closed.1
    c.part-catalog.ensures.catalog c.part-catalog.ensures.desk c.far_line-printed.ensures.read c.rejoin.ensures c.far_line-printed.ensures.read

pub returns-clause-cause : goal.returns-clause-cause
returns-clause-cause g c =
    lent (λ (k : CatalogView) (p q : PoolState).
    PagesHaveLineCause p q c.far_line-printed.result) c.args.store c.rejoin.result c.part-catalog.result.0 c.part-catalog.result.1 c.far_line-printed.new.desk c.part-catalog.ensures.whole.closed.1
    c.part-catalog.ensures.catalog c.part-catalog.ensures.desk c.far_line-printed.ensures.read c.rejoin.ensures c.far_line-printed.ensures.cause
