-- the parts of the store, which are joined again
use Rattle.std.proofs.Common.{List, sym, subst}
use Rattle.page_pool.specs.Pool.{PoolState}
use Rattle.page_pool.specs.Reads.{IsRead}
use Rattle.statements.specs.Plan.{plan_value}
use Rattle.statements.specs.Statement.{Show}
use Rattle.sand_store.specs.Catalog.{CatalogView}
use Rattle.sand_store.specs.Standing.{IsStore}
use Rattle.statement_exec.specs.Ending.{PagesHaveLineCause}
use Rattle.statement_exec.specs.Printing.{WritesOf}
use Rattle.open_cursors.specs.Outcomes.{PerformsBeside}
use Rattle.open_cursors.proofs.Lent.{lent, shows_live}
use Rattle.open_cursors.proofs.queries.show.Goals as goal

pub rejoin-requires : goal.rejoin-requires
rejoin-requires g c = subst (λ (p : PoolState). IsStore c.part-catalog.result.0 p)
    (sym (shows_live c.args.store c.part-catalog.result.1 c.show_line-shown.new.desk c.part-catalog.ensures.whole.closed.1 c.part-catalog.ensures.desk c.show_line-shown.ensures.read)) c.show_line-shown.ensures.stands

pub returns-clause-written : goal.returns-clause-written
returns-clause-written g c = λ cs.
    lent (λ (k : CatalogView) (p q : PoolState). WritesOf (PerformsBeside (Show c.args.count (plan_value c.args.plan.now)) k p q cs cs) (g.K.Sink.took c.args.out.now)
    (g.K.Sink.took c.show_line-shown.new.out) c.show_line-shown.result) c.args.store c.rejoin.result c.part-catalog.result.0 c.part-catalog.result.1 c.show_line-shown.new.desk c.part-catalog.ensures.whole.closed.1
    c.part-catalog.ensures.catalog c.part-catalog.ensures.desk c.show_line-shown.ensures.read c.rejoin.ensures (c.show_line-shown.ensures.written cs)

pub returns-clause-read : goal.returns-clause-read
returns-clause-read g c =
    lent (λ (k : CatalogView) (p q : PoolState).
    IsRead p q) c.args.store c.rejoin.result c.part-catalog.result.0 c.part-catalog.result.1 c.show_line-shown.new.desk c.part-catalog.ensures.whole.closed.1
    c.part-catalog.ensures.catalog c.part-catalog.ensures.desk c.show_line-shown.ensures.read c.rejoin.ensures c.show_line-shown.ensures.read

pub returns-clause-cause : goal.returns-clause-cause
returns-clause-cause g c =
    lent (λ (k : CatalogView) (p q : PoolState).
    PagesHaveLineCause p q c.show_line-shown.result) c.args.store c.rejoin.result c.part-catalog.result.0 c.part-catalog.result.1 c.show_line-shown.new.desk c.part-catalog.ensures.whole.closed.1
    c.part-catalog.ensures.catalog c.part-catalog.ensures.desk c.show_line-shown.ensures.read c.rejoin.ensures c.show_line-shown.ensures.cause
