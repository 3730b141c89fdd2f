-- rows that enter, or are refused for want of memory
use Rattle.std.proofs.Common.{refl}
use Rattle.statements.specs.Statement.{Load}
use Rattle.statement_exec.proofs.OutOfMemory.{refused_memory}
use Rattle.statement_exec.specs.Moment.{while_open}
use Rattle.line_exec.proofs.ShelfChanges.{counted_alike}
use Rattle.line_exec.proofs.Led.{unchanged_itself}
use Rattle.line_exec.proofs.ToKeep.{keep_rows}
use Rattle.line_exec.proofs.loads.enter.Goals as goal

pub returns-in-Err-clause-performs : goal.returns-in-Err-clause-performs
returns-in-Err-clause-performs g c = λ load named files shelf cs given.
    rw c.refused.ensures (refused_memory (Load load.relation load.file load.header) (while_open c.args.store.now files shelf cs))

pub returns-in-Ok-clause-counts : goal.returns-in-Ok-clause-counts
returns-in-Ok-clause-counts g c = λ shelf. counted_alike c.args.store.now.pool c.enter_rows.new.store.pool shelf shelf c.enter_rows.result c.enter_rows.ensures.cause refl

-- what is kept of the rows
pub returns-in-Ok-clause-kept : goal.returns-in-Ok-clause-kept
returns-in-Ok-clause-kept g c = λ file header.
    keep_rows c.args.keeps c.in-Ok.kept c.args.store.now c.enter_rows.new.store c.args.name.now file header c.enter_rows.result c.args.rows.items
    (λ k. rw (c.catalog.ensures.catalog, c.deref.ensures.value) at (c.in-Ok.ensures k)) c.enter_rows.ensures.loaded c.enter_rows.ensures.unchanged c.enter_rows.ensures.carries

pub returns-in-Err-clause-kept : goal.returns-in-Err-clause-kept
returns-in-Err-clause-kept g c = λ file header. rw c.refused.ensures (unchanged_itself c.args.store.now)
