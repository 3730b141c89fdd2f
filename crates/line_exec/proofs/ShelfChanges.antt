-- Changes over a shelf whose count may have risen, and the counts of those that were accepted.
use Rattle.std.proofs.Common.{◌≡◌, ℕ, List, Option, sym, subst}
use Rattle.std.specs.Prelude.{Result, Ok, Err, OnOk}
use Rattle.page_pool.specs.Pool.{PoolState}
use Rattle.sand_base.specs.Shelf.{Files}
use Rattle.sand_base.specs.declared.refusal.Refusal.{Refusal}
use Rattle.sand_model.specs.Cursor.{Cursor, OutputLine}
use Rattle.sand_store.specs.Calls.{HasStoreCause}
use Rattle.sand_store.specs.Catalog.{StoreState}
use Rattle.statements.specs.Statement.{Statement}
use Rattle.line_meaning.specs.Carrying.{FollowsMoment}
use Rattle.statement_exec.specs.Moment.{moment_of, while_open}
use Rattle.statement_exec.specs.Performing.{Performs}
use Rattle.statement_exec.specs.declared.reply.Reply.{Reply}
use Rattle.line_exec.specs.Keeping.{IsCountedAlike}

-- what was done over a shelf was done over one that tells the same and counted the same
pub over_shelf : (statement : Statement) (old new : StoreState) (files files' : Option Files) (shelf shelf' : ℕ) (cs : List Cursor) (lines : List OutputLine) → files' ≡ files → shelf' ≡ shelf
    → Performs statement (while_open old files shelf cs) (while_open new files shelf cs) lines → Performs statement (while_open old files shelf cs) (while_open new files' shelf' cs) lines
over_shelf statement old new files files' shelf shelf' cs lines told count h =
    subst (λ (f : Option Files). Performs statement (while_open old files shelf cs) (while_open new f shelf' cs) lines) (sym told)
    (subst (λ (n : ℕ). Performs statement (while_open old files shelf cs) (while_open new files n cs) lines) (sym count) h)

-- a call of the store that was accepted leaves the counts
pub counted_alike : (old new : PoolState) (shelf shelf' : ℕ) (answer : Result Reply Refusal) → HasStoreCause old new answer → shelf' ≡ shelf → OnOk answer (IsCountedAlike old new shelf shelf')
counted_alike old new shelf shelf' (Ok reply) cause count = record { failures = cause.counted; shelf = count }
counted_alike old new shelf shelf' (Err why) cause count = tt

-- what follows over a shelf follows over one that tells the same and counted the same
pub follows_over : (old new : StoreState) (files files' : Option Files) (shelf shelf' : ℕ) → files' ≡ files → shelf' ≡ shelf
    → FollowsMoment (moment_of old files shelf) (moment_of new files shelf) → FollowsMoment (moment_of old files shelf) (moment_of new files' shelf')
follows_over old new files files' shelf shelf' told count h =
    subst (λ (f : Option Files). FollowsMoment (moment_of old files shelf) (moment_of new f shelf')) (sym told)
    (subst (λ (n : ℕ). FollowsMoment (moment_of old files shelf) (moment_of new files n)) (sym count) h)
