-- the store's call is the outcome
use Rattle.std.proofs.Common.{ℕ, List, refl, subst}
use Rattle.statements.specs.Statement.{Delete}
use Rattle.sand_store.specs.Calls.{IsStatementRefused, is_missing}
use Rattle.statement_exec.proofs.DecidedCalls.{late_delete}
use Rattle.statement_exec.proofs.StoreCalls.{deleted, refused_call, never_delete}
use Rattle.statement_exec.proofs.deleting.delete.Goals as goal

pub returns-in-Ok-clause-performs : goal.returns-in-Ok-clause-performs
returns-in-Ok-clause-performs g c = deleted c.args.store.now c.delete.new.self c.args.name.now c.args.id (rw c.as_str.ensures at c.in-Ok.ensures.deleted)

pub returns-in-Err-clause-performs : goal.returns-in-Err-clause-performs
returns-in-Err-clause-performs g c =
    refused_call c.args.store.now c.delete.new.self (Delete c.args.name.now c.args.id) is_missing c.in-Err.why refl refl (λ cs setting. (refl, refl))
    (never_delete c.args.store.now c.args.name.now c.args.id) (late_delete c.args.name.now c.args.id)
    c.in-Err.ensures.unchanged (subst (λ (n : List ℕ).
    IsStatementRefused is_missing c.args.store.now (Delete n c.args.id) c.in-Err.why) c.as_str.ensures c.in-Err.ensures.refused) c.in-Err.ensures.cause

pub returns-in-Ok-clause-deleted : goal.returns-in-Ok-clause-deleted
returns-in-Ok-clause-deleted g c = rw c.as_str.ensures at c.in-Ok.ensures.deleted
