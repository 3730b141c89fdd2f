-- the id that follows, or the end
use Rattle.std.proofs.Common.{Err, refl, subst, arith}
use Rattle.std.specs.Prelude.{None, Some}
use Rattle.page_pool.specs.Pool.{PoolState, IsTold}
use Rattle.sand_store.specs.Contents.{rows_in}
use Rattle.plan_sources.specs.Plain.{GivesNextId, row_ids, IsScan}
use Rattle.plan_sources.proofs.PlainSteps.{reads_of, costs_read}
use Rattle.plan_sources.proofs.Scans.{scan_row, scan_end, scan_refused}
use Rattle.plan_sources.proofs.scan.ScanRowSource.next.Goals as goal

pub returns-in-Ok-Some-clause-step : goal.returns-in-Ok-Some-clause-step
returns-in-Ok-Some-clause-step g c =
    let s = c.args.self.now in
    let P : PoolState → Type 0 = λ pool. IsTold pool → GivesNextId s.last (row_ids (rows_in pool.pages s.relation.value)) (Some c.in-Ok-Some.id) in
    scan_row s.relation.value s.last c.in-Ok-Some.id c.plain_answer.result c.args.desk.now _ (subst P c.pages.ensures.pool (rw c.in-Ok-Some.field-0-is at c.in-Ok-Some.ensures.value))
    c.plain_answer.ensures.row (reads_of c.args.desk.now c.pages.result.now c.following.new.pages c.pages.ensures.pool c.in-Ok-Some.ensures.up)

pub returns-in-Ok-None-clause-step : goal.returns-in-Ok-None-clause-step
returns-in-Ok-None-clause-step g c =
    let s = c.args.self.now in
    let P : PoolState → Type 0 = λ pool. IsTold pool → GivesNextId s.last (row_ids (rows_in pool.pages s.relation.value)) None in
    scan_end s.relation.value s.last c.args.desk.now _ (subst P c.pages.ensures.pool (rw c.in-Ok-None.field-0-is at c.in-Ok-None.ensures.value))
    (reads_of c.args.desk.now c.pages.result.now c.following.new.pages c.pages.ensures.pool c.in-Ok-None.ensures.up)

pub returns-in-Err-clause-step : goal.returns-in-Err-clause-step
returns-in-Err-clause-step g c =
    let s = c.args.self.now in
    scan_refused s.relation.value s.last (Err c.in-Err.fault) c.args.desk.now _ refl
    (reads_of c.args.desk.now c.pages.result.now c.following.new.pages c.pages.ensures.pool c.in-Err.ensures.up)

-- a descent of the file of rows, whatever the answer

pub returns-in-Ok-Some-clause-costs : goal.returns-in-Ok-Some-clause-costs
returns-in-Ok-Some-clause-costs g c =
    let s = c.args.self.now in
    let most = c.in-Ok-Some.ensures.most in
    costs_read _ _ (λ pages. 0) (λ pages. 0) (IsScan s.relation.value s.last) c.args.desk.now c.pages.result.now c.following.new.pages _ c.pages.ensures.pool (λ told. omega (arith, most))

pub returns-in-Ok-None-clause-costs : goal.returns-in-Ok-None-clause-costs
returns-in-Ok-None-clause-costs g c =
    let s = c.args.self.now in
    let most = c.in-Ok-None.ensures.most in
    costs_read _ _ (λ pages. 0) (λ pages. 0) (IsScan s.relation.value s.last) c.args.desk.now c.pages.result.now c.following.new.pages _ c.pages.ensures.pool (λ told. omega (arith, most))

pub returns-in-Err-clause-costs : goal.returns-in-Err-clause-costs
returns-in-Err-clause-costs g c =
    let s = c.args.self.now in
    let most = c.in-Err.ensures.most in
    costs_read _ _ (λ pages. 0) (λ pages. 0) (IsScan s.relation.value s.last) c.args.desk.now c.pages.result.now c.following.new.pages _ c.pages.ensures.pool (λ told. omega (arith, most))
