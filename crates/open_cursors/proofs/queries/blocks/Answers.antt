-- the parts of the store, which are joined again
use Rattle.std.proofs.Common.{List, sym, subst}
use Rattle.page_pool.specs.Pool.{PoolState}
use Rattle.page_pool.specs.Reads.{IsRead}
use Rattle.statements.specs.Statement.{Blocks}
use Rattle.sand_store.specs.Catalog.{CatalogView}
use Rattle.sand_store.specs.Standing.{IsStore}
use Rattle.statement_exec.specs.Ending.{PagesHaveLineCause}
use Rattle.statement_exec.specs.Printing.{WritesOf}
use Rattle.open_cursors.specs.Outcomes.{PerformsBeside}
use Rattle.open_cursors.proofs.Lent.{lent, shows_live}
use Rattle.open_cursors.proofs.Written.{leaves_written}
use Rattle.open_cursors.proofs.queries.blocks.Goals as goal

pub rejoin-requires : goal.rejoin-requires
rejoin-requires g c = subst (λ (p : PoolState). IsStore c.part-catalog.result.0 p)
    (sym (shows_live c.args.store c.part-catalog.result.1 c.print_blocks-printed.new.desk c.part-catalog.ensures.whole.closed.1 c.part-catalog.ensures.desk c.print_blocks-printed.ensures.read)) c.print_blocks-printed.ensures.stands

pub returns-clause-written : goal.returns-clause-written
returns-clause-written g c = λ cs.
    lent (λ (k : CatalogView) (p q : PoolState). WritesOf (PerformsBeside (Blocks (record { relation = c.args.relation.now; column = c.args.column.now })) k p q cs cs)
    (g.K.Sink.took c.args.out.now) (g.K.Sink.took c.print_blocks-printed.new.out) c.print_blocks-printed.result)
    c.args.store c.rejoin.result c.part-catalog.result.0 c.part-catalog.result.1 c.print_blocks-printed.new.desk c.part-catalog.ensures.whole.closed.1
    c.part-catalog.ensures.catalog c.part-catalog.ensures.desk c.print_blocks-printed.ensures.read c.rejoin.ensures
    (leaves_written (record { relation = c.args.relation.now; column = c.args.column.now }) c.part-catalog.result.0 c.part-catalog.result.1.pool c.print_blocks-printed.new.desk.pool cs
    (g.K.Sink.took c.args.out.now) (g.K.Sink.took c.print_blocks-printed.new.out) c.print_blocks-printed.result c.print_blocks-printed.ensures.written)

pub returns-clause-read : goal.returns-clause-read
returns-clause-read g c =
    lent (λ (k : CatalogView) (p q : PoolState).
    IsRead p q) c.args.store c.rejoin.result c.part-catalog.result.0 c.part-catalog.result.1 c.print_blocks-printed.new.desk c.part-catalog.ensures.whole.closed.1
    c.part-catalog.ensures.catalog c.part-catalog.ensures.desk c.print_blocks-printed.ensures.read c.rejoin.ensures c.print_blocks-printed.ensures.read

pub returns-clause-cause : goal.returns-clause-cause
returns-clause-cause g c =
    lent (λ (k : CatalogView) (p q : PoolState).
    PagesHaveLineCause p q c.print_blocks-printed.result)
    c.args.store c.rejoin.result c.part-catalog.result.0 c.part-catalog.result.1 c.print_blocks-printed.new.desk c.part-catalog.ensures.whole.closed.1
    c.part-catalog.ensures.catalog c.part-catalog.ensures.desk c.print_blocks-printed.ensures.read c.rejoin.ensures c.print_blocks-printed.ensures.cause
