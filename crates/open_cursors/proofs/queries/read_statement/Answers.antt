-- what each statement does, over the store or over its parts
use Rattle.std.proofs.Common.{refl, sym, subst, ap}
use Rattle.page_pool.specs.Causes.{failures_of}
use Rattle.page_pool.specs.Pool.{PoolState, StampMap}
use Rattle.statements.specs.Plan.{plan_value}
use Rattle.statements.specs.Statement as said
use Rattle.statements.specs.Statement.{statement_value}
use Rattle.statements.specs.declared.statement.Statement.{Statement}
use Rattle.statement_exec.proofs.Endings.{once_at_most, pages_unread}
use Rattle.open_cursors.specs.Carried.{CarriesBeside}
use Rattle.open_cursors.specs.OpenCursors.{AreHeld}
use Rattle.open_cursors.specs.OverPages.{StandOver}
use Rattle.open_cursors.proofs.OverPool.{beside_all, held_beside, next_beside, stats_beside}
use Rattle.open_cursors.proofs.Released.{leaves_all, leaves_held, leaves_read}
use Rattle.open_cursors.proofs.queries.read_statement.Goals as goal

-- which maps are held changed alone
pub returns-in-OpenCursor-clause-carried : goal.returns-in-OpenCursor-clause-carried
returns-in-OpenCursor-clause-carried g c = λ cs own counted stand.
    subst (λ (s : Statement). CarriesBeside (statement_value s) c.args.store.catalog c.args.store.pool c.open_line-opened.new.store.pool cs
    (g.K.Sink.took c.args.out.now) (g.K.Sink.took c.open_line-opened.new.out) c.open_line-opened.result
    (StandOver c.open_line-opened.new.store.pool c.open_line-opened.new.cursors.items)) (sym c.in-OpenCursor.is)
    (held_beside c.args.store.catalog c.args.store.pool c.open_line-opened.new.store.pool (said.OpenCursor c.in-OpenCursor.cursor (plan_value c.in-OpenCursor.plan))
    (g.K.Sink.took c.args.out.now) (g.K.Sink.took c.open_line-opened.new.out) c.open_line-opened.result c.args.cursors.now.items c.open_line-opened.new.cursors.items cs
    c.open_line-opened.ensures.others.pool (λ names. c.open_line-opened.ensures.named cs own names c.args.store.pool) (λ told all. c.open_line-opened.ensures.carried told cs own all) stand)

pub returns-in-OpenCursor-clause-pages : goal.returns-in-OpenCursor-clause-pages
returns-in-OpenCursor-clause-pages g c = leaves_held c.args.store c.open_line-opened.new.store c.open_line-opened.ensures.others

pub returns-in-OpenCursor-clause-cause : goal.returns-in-OpenCursor-clause-cause
returns-in-OpenCursor-clause-cause g c = pages_unread c.args.store.pool c.open_line-opened.new.store.pool c.open_line-opened.result
    (ap (λ (q : PoolState). failures_of q) c.open_line-opened.ensures.others.pool)

pub returns-in-CloseCursor-clause-carried : goal.returns-in-CloseCursor-clause-carried
returns-in-CloseCursor-clause-carried g c = λ cs own counted stand.
    subst (λ (s : Statement). CarriesBeside (statement_value s) c.args.store.catalog c.args.store.pool c.close_line-closed.new.store.pool cs
    (g.K.Sink.took c.args.out.now) (g.K.Sink.took c.close_line-closed.new.out) c.close_line-closed.result
    (StandOver c.close_line-closed.new.store.pool c.close_line-closed.new.cursors.items)) (sym c.in-CloseCursor.is)
    (held_beside c.args.store.catalog c.args.store.pool c.close_line-closed.new.store.pool (said.CloseCursor c.in-CloseCursor.cursor) (g.K.Sink.took c.args.out.now)
    (g.K.Sink.took c.close_line-closed.new.out) c.close_line-closed.result c.args.cursors.now.items c.close_line-closed.new.cursors.items cs
    c.close_line-closed.ensures.others.pool (λ names. c.close_line-closed.ensures.named cs own names c.args.store.catalog c.args.store.pool)
    (λ told all. c.close_line-closed.ensures.carried cs own all c.args.store.catalog c.args.store.pool) stand)

pub returns-in-CloseCursor-clause-pages : goal.returns-in-CloseCursor-clause-pages
returns-in-CloseCursor-clause-pages g c = leaves_held c.args.store c.close_line-closed.new.store c.close_line-closed.ensures.others

pub returns-in-CloseCursor-clause-cause : goal.returns-in-CloseCursor-clause-cause
returns-in-CloseCursor-clause-cause g c = pages_unread c.args.store.pool c.close_line-closed.new.store.pool c.close_line-closed.result
    (ap (λ (q : PoolState). failures_of q) c.close_line-closed.ensures.others.pool)

-- the cursor of the name makes steps over the map that its stamp holds, or none has the name
pub returns-in-Next-clause-carried : goal.returns-in-Next-clause-carried
returns-in-Next-clause-carried g c = λ cs own counted stand.
    subst (λ (s : Statement). CarriesBeside (statement_value s) c.args.store.catalog c.args.store.pool c.next_line.result.0.pool cs (g.K.Sink.took c.args.out.now)
    (g.K.Sink.took c.next_line.new.out) c.next_line.result.1 (StandOver c.next_line.result.0.pool c.next_line.new.cursors.items)) (sym c.in-Next.is)
    (next_beside c.args.store.catalog c.args.store.pool c.next_line.result.0.pool c.next_line.ensures.read c.in-Next.cursor c.in-Next.count
    (g.K.Sink.took c.args.out.now) (g.K.Sink.took c.next_line.new.out) c.next_line.result.1
    c.args.cursors.now.items c.next_line.new.cursors.items cs own c.next_line.ensures.named c.next_line.ensures.carried stand)

pub returns-in-Next-clause-held : goal.returns-in-Next-clause-held
returns-in-Next-clause-held g c = subst (λ (m : StampMap). AreHeld m c.next_line.new.cursors.items) (sym c.next_line.ensures.read.stamps) c.next_line.ensures.held

pub returns-in-Next-clause-pages : goal.returns-in-Next-clause-pages
returns-in-Next-clause-pages g c =
    leaves_read c.args.store.pool c.next_line.result.0.pool c.next_line.ensures.read (once_at_most c.args.store.pool c.next_line.result.0.pool c.next_line.result.1 c.next_line.ensures.cause)

-- the open cursors are as they were, whatever was shown
pub returns-in-Show-clause-carried : goal.returns-in-Show-clause-carried
returns-in-Show-clause-carried g c = λ cs own counted stand.
    subst (λ (s : Statement). CarriesBeside (statement_value s) c.args.store.catalog c.args.store.pool c.show.result.0.pool cs (g.K.Sink.took c.args.out.now)
    (g.K.Sink.took c.show.new.out) c.show.result.1 (StandOver c.show.result.0.pool c.args.cursors.now.items)) (sym c.in-Show.is)
    (beside_all c.args.store.catalog c.args.store.pool c.show.result.0.pool (said.Show c.in-Show.count (plan_value c.in-Show.plan)) (g.K.Sink.took c.args.out.now)
    (g.K.Sink.took c.show.new.out) c.show.result.1 c.show.ensures.read c.args.cursors.now.items cs own stand (c.show.ensures.written cs))

pub returns-in-Show-clause-held : goal.returns-in-Show-clause-held
returns-in-Show-clause-held g c = subst (λ (m : StampMap). AreHeld m c.args.cursors.now.items) (sym c.show.ensures.read.stamps) c.requires.stands.0

pub returns-in-Show-clause-pages : goal.returns-in-Show-clause-pages
returns-in-Show-clause-pages g c =
    leaves_read c.args.store.pool c.show.result.0.pool c.show.ensures.read (once_at_most c.args.store.pool c.show.result.0.pool c.show.result.1 c.show.ensures.cause)

-- and whatever rows were printed
pub returns-in-Far-clause-carried : goal.returns-in-Far-clause-carried
returns-in-Far-clause-carried g c = λ cs own counted stand.
    subst (λ (s : Statement). CarriesBeside (statement_value s) c.args.store.catalog c.args.store.pool c.far.result.0.pool cs (g.K.Sink.took c.args.out.now)
    (g.K.Sink.took c.far.new.out) c.far.result.1 (StandOver c.far.result.0.pool c.args.cursors.now.items)) (sym c.in-Far.is)
    (beside_all c.args.store.catalog c.args.store.pool c.far.result.0.pool (said.Far c.in-Far.count c.in-Far.column c.in-Far.goal) (g.K.Sink.took c.args.out.now)
    (g.K.Sink.took c.far.new.out) c.far.result.1 c.far.ensures.read c.args.cursors.now.items cs own stand (c.far.ensures.written cs))

pub returns-in-Far-clause-held : goal.returns-in-Far-clause-held
returns-in-Far-clause-held g c = subst (λ (m : StampMap). AreHeld m c.args.cursors.now.items) (sym c.far.ensures.read.stamps) c.requires.stands.0

pub returns-in-Far-clause-pages : goal.returns-in-Far-clause-pages
returns-in-Far-clause-pages g c =
    leaves_read c.args.store.pool c.far.result.0.pool c.far.ensures.read (once_at_most c.args.store.pool c.far.result.0.pool c.far.result.1 c.far.ensures.cause)

-- and whatever leaves were printed
pub returns-in-Blocks-clause-carried : goal.returns-in-Blocks-clause-carried
returns-in-Blocks-clause-carried g c = λ cs own counted stand.
    subst (λ (s : Statement). CarriesBeside (statement_value s) c.args.store.catalog c.args.store.pool c.blocks-in-Blocks.result.0.pool cs (g.K.Sink.took c.args.out.now)
    (g.K.Sink.took c.blocks-in-Blocks.new.out) c.blocks-in-Blocks.result.1 (StandOver c.blocks-in-Blocks.result.0.pool c.args.cursors.now.items)) (sym c.in-Blocks.is)
    (beside_all c.args.store.catalog c.args.store.pool c.blocks-in-Blocks.result.0.pool
    (said.Blocks (record { relation = c.in-Blocks.column.relation; column = c.in-Blocks.column.column })) (g.K.Sink.took c.args.out.now)
    (g.K.Sink.took c.blocks-in-Blocks.new.out) c.blocks-in-Blocks.result.1 c.blocks-in-Blocks.ensures.read c.args.cursors.now.items cs own stand (c.blocks-in-Blocks.ensures.written cs))

pub returns-in-Blocks-clause-held : goal.returns-in-Blocks-clause-held
returns-in-Blocks-clause-held g c = subst (λ (m : StampMap). AreHeld m c.args.cursors.now.items) (sym c.blocks-in-Blocks.ensures.read.stamps) c.requires.stands.0

pub returns-in-Blocks-clause-pages : goal.returns-in-Blocks-clause-pages
returns-in-Blocks-clause-pages g c =
    leaves_read c.args.store.pool c.blocks-in-Blocks.result.0.pool c.blocks-in-Blocks.ensures.read
    (once_at_most c.args.store.pool c.blocks-in-Blocks.result.0.pool c.blocks-in-Blocks.result.1 c.blocks-in-Blocks.ensures.cause)

-- the numbers are those of the cursor that stands, whose rows are counted
pub returns-in-Stats-clause-carried : goal.returns-in-Stats-clause-carried
returns-in-Stats-clause-carried g c = λ cs own counted stand.
    subst (λ (s : Statement). CarriesBeside (statement_value s) c.args.store.catalog c.args.store.pool c.args.store.pool cs (g.K.Sink.took c.args.out.now)
    (g.K.Sink.took c.stats_line-printed.new.out) c.stats_line-printed.result (StandOver c.args.store.pool c.args.cursors.now.items)) (sym c.in-Stats.is)
    (stats_beside c.args.store.catalog c.args.store.pool (g.K.Sink.took c.args.out.now) (g.K.Sink.took c.stats_line-printed.new.out) c.stats_line-printed.result c.args.cursors.now.items cs own
    c.in-Stats.cursor counted (rw c.deref.ensures.value at c.stats_line-printed.ensures.named) (rw c.deref.ensures.value at c.stats_line-printed.ensures.written) stand)

pub returns-in-Stats-clause-pages : goal.returns-in-Stats-clause-pages
returns-in-Stats-clause-pages g c = leaves_all c.args.store.pool

pub returns-in-Stats-clause-cause : goal.returns-in-Stats-clause-cause
returns-in-Stats-clause-cause g c = pages_unread c.args.store.pool c.args.store.pool c.stats_line-printed.result refl
