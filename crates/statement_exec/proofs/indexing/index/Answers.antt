-- the store's call is the outcome
use Rattle.std.proofs.Common.{ℕ, List, refl, subst}
use Rattle.statements.specs.declared.column.Column.{Column}
use Rattle.statements.specs.Statement.{Index}
use Rattle.sand_store.specs.Calls.{IsStatementRefused, is_index_full}
use Rattle.statement_exec.proofs.DecidedCalls.{late_index}
use Rattle.statement_exec.proofs.StoreCalls.{indexed, refused_call, never_index}
use Rattle.statement_exec.proofs.indexing.index.Goals as goal

pub returns-in-Ok-clause-performs : goal.returns-in-Ok-clause-performs
returns-in-Ok-clause-performs g c =
    let column : Column = record { relation = c.args.relation.now; column = c.args.column.now } in
    indexed c.args.store.now c.index.new.self column c.args.threshold (rw (c.as_str.ensures, c.as_str-2.ensures) at c.in-Ok.ensures.indexed)

pub returns-in-Err-clause-performs : goal.returns-in-Err-clause-performs
returns-in-Err-clause-performs g c =
    let column : Column = record { relation = c.args.relation.now; column = c.args.column.now } in
    refused_call c.args.store.now c.index.new.self (Index column c.args.threshold) is_index_full c.in-Err.why refl refl (λ cs setting. (refl, refl))
    (never_index c.args.store.now column c.args.threshold) (late_index column c.args.threshold)
    c.in-Err.ensures.unchanged (subst (λ (n : List ℕ).
    IsStatementRefused is_index_full c.args.store.now (Index (record { relation = c.args.relation.now; column = n }) c.args.threshold) c.in-Err.why) c.as_str-2.ensures
    (subst (λ (n : List ℕ). IsStatementRefused is_index_full c.args.store.now
    (Index (record { relation = n; column = c.as_str-2.result.now }) c.args.threshold) c.in-Err.why) c.as_str.ensures c.in-Err.ensures.refused)) c.in-Err.ensures.cause

pub returns-in-Ok-clause-indexed : goal.returns-in-Ok-clause-indexed
returns-in-Ok-clause-indexed g c = rw (c.as_str.ensures, c.as_str-2.ensures) at c.in-Ok.ensures.indexed
