-- the store's call is the outcome
use Rattle.std.proofs.Common.{ℕ, List, refl, subst}
use Rattle.statements.specs.Statement.{Insert}
use Rattle.sand_store.specs.Calls.{IsStatementRefused, is_index_full}
use Rattle.statement_exec.proofs.DecidedCalls.{late_insert}
use Rattle.statement_exec.proofs.StoreCalls.{inserted, refused_call, never_insert}
use Rattle.statement_exec.proofs.inserting.insert.Goals as goal

pub returns-in-Ok-clause-performs : goal.returns-in-Ok-clause-performs
returns-in-Ok-clause-performs g c =
    inserted c.args.store.now c.insert.new.self c.args.name.now c.args.values c.in-Ok.id (rw c.as_str.ensures at c.in-Ok.ensures.inserted)

pub returns-in-Err-clause-performs : goal.returns-in-Err-clause-performs
returns-in-Err-clause-performs g c =
    refused_call c.args.store.now c.insert.new.self (Insert c.args.name.now c.args.values) is_index_full c.in-Err.why refl refl (λ cs setting. (refl, refl))
    (never_insert c.args.store.now c.args.name.now c.args.values) (late_insert c.args.name.now c.args.values)
    c.in-Err.ensures.unchanged (subst (λ (n : List ℕ). IsStatementRefused is_index_full c.args.store.now
    (Insert n c.args.values) c.in-Err.why) c.as_str.ensures c.in-Err.ensures.refused) c.in-Err.ensures.cause

pub returns-in-Ok-clause-inserted : goal.returns-in-Ok-clause-inserted
returns-in-Ok-clause-inserted g c = (c.in-Ok.id, rw c.as_str.ensures at c.in-Ok.ensures.inserted)
