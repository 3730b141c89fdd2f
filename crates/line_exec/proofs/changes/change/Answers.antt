-- there was no memory for the record
use Rattle.statements.specs.Statement.{statement_value}
use Rattle.statement_exec.proofs.OutOfMemory.{refused_memory}
use Rattle.statement_exec.specs.Moment.{while_open}
use Rattle.line_exec.proofs.Led.{unchanged_itself}
use Rattle.line_exec.proofs.changes.change.Goals as goal

pub returns-in-Err-clause-answers : goal.returns-in-Err-clause-answers
returns-in-Err-clause-answers g c = λ cs.
    rw c.refused.ensures (refused_memory (statement_value c.args.statement) (while_open c.args.store.now (g.H.Shelf.files c.args.shelf.now) (g.H.Shelf.faults c.args.shelf.now) cs))

-- the record was made over the catalog that the store has
pub change_behind-requires-clause-kept : goal.change_behind-requires-clause-kept
change_behind-requires-clause-kept g c = λ k. rw c.catalog.ensures.catalog at (c.in-Ok.ensures k)

-- the store wasn't asked
pub returns-in-Err-clause-kept : goal.returns-in-Err-clause-kept
returns-in-Err-clause-kept g c = rw c.refused.ensures (unchanged_itself c.args.store.now)
