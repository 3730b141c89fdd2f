-- the store's call is the outcome
use Rattle.std.proofs.Common.{ℕ, List, refl, subst}
use Rattle.statements.specs.declared.column.Column.{Column}
use Rattle.statements.specs.Statement.{Rtree}
use Rattle.sand_store.specs.Calls.{IsStatementRefused, is_none}
use Rattle.statement_exec.proofs.DecidedCalls.{late_rtree}
use Rattle.statement_exec.proofs.StoreCalls.{treed, refused_call, never_rtree}
use Rattle.statement_exec.proofs.indexing.rtree.Goals as goal

pub returns-in-Ok-clause-performs : goal.returns-in-Ok-clause-performs
returns-in-Ok-clause-performs g c =
    let column : Column = record { relation = c.args.relation.now; column = c.args.column.now } in
    treed c.args.store.now c.rtree.new.self column (rw (c.as_str.ensures, c.as_str-2.ensures) at c.in-Ok.ensures.treed)

pub returns-in-Err-clause-performs : goal.returns-in-Err-clause-performs
returns-in-Err-clause-performs g c =
    let column : Column = record { relation = c.args.relation.now; column = c.args.column.now } in
    refused_call c.args.store.now c.rtree.new.self (Rtree column) is_none c.in-Err.why refl refl (λ cs setting. (refl, refl)) (never_rtree c.args.store.now column) (late_rtree column)
    c.in-Err.ensures.unchanged (subst (λ (n : List ℕ). IsStatementRefused is_none c.args.store.now (Rtree (record { relation = c.args.relation.now; column = n })) c.in-Err.why) c.as_str-2.ensures
    (subst (λ (n : List ℕ). IsStatementRefused is_none c.args.store.now
    (Rtree (record { relation = n; column = c.as_str-2.result.now })) c.in-Err.why) c.as_str.ensures c.in-Err.ensures.refused)) c.in-Err.ensures.cause

pub returns-in-Ok-clause-treed : goal.returns-in-Ok-clause-treed
returns-in-Ok-clause-treed g c = rw (c.as_str.ensures, c.as_str-2.ensures) at c.in-Ok.ensures.treed
