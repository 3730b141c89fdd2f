-- the store's call is the outcome
use Rattle.sand_store.specs.Calls.{IsStatementRefused, is_none}
use Rattle.statements.specs.Statement.{Create}
use Rattle.std.proofs.Common.{ℕ, List, refl, subst}
use Rattle.statement_exec.proofs.DecidedCalls.{late_create}
use Rattle.statement_exec.proofs.StoreCalls.{created, refused_call, never_create}
use Rattle.statement_exec.proofs.creating.create.Goals as goal

pub returns-in-Ok-clause-performs : goal.returns-in-Ok-clause-performs
returns-in-Ok-clause-performs g c = created c.args.store.now c.create.new.self c.args.name.now c.args.columns (rw c.as_str.ensures at c.in-Ok.ensures.created)

pub returns-in-Err-clause-performs : goal.returns-in-Err-clause-performs
returns-in-Err-clause-performs g c =
    refused_call c.args.store.now c.create.new.self (Create c.args.name.now c.args.columns) is_none c.in-Err.why refl refl (λ cs setting. (refl, refl))
    (never_create c.args.store.now c.args.name.now c.args.columns) (late_create c.args.name.now c.args.columns)
    c.in-Err.ensures.unchanged (subst (λ (n : List ℕ).
    IsStatementRefused is_none c.args.store.now (Create n c.args.columns) c.in-Err.why) c.as_str.ensures c.in-Err.ensures.refused) c.in-Err.ensures.cause

pub returns-in-Ok-clause-created : goal.returns-in-Ok-clause-created
returns-in-Ok-clause-created g c = rw c.as_str.ensures at c.in-Ok.ensures.created
